use Rattle.std.proofs.Common.{◌≤◌}
use Rattle.std.proofs.lemmas.List.Elements.{All-push}
use Rattle.std.proofs.lemmas.Result.{err_from_is_err_and}
use Rattle.toml.specs.View.{view}
use Rattle.sw_text.specs.Table.{number_value}
use Rattle.sw_text.proofs.Members.{items_fail, items_done}
use Rattle.sw_text.proofs.Walks.{each_done, each_more, each_fails}
use Rattle.sw_text.proofs.table.TableEntry.numbers_value.Goals as goal

pub returns-in_err-number-clause-gives : goal.returns-in_err-number-clause-gives
returns-in_err-number-clause-gives c =
    let p = err_from_is_err_and c.from_residual.result c.from_residual.ensures.1 in
    let one = number_value c.args.self.now.section c.args.key 0 c.args.high in
    rw (p.1, p.2) (items_fail one c.args.self.now.section c.args.key (view c.args.value.now) c.in-Some.values.now.items c.deref-value-items.result.now c.in-Some.ensures c.deref-value-items.ensures.value c.in_err-number.field-0.0
    (each_fails one view c.deref-value-items.result.now c.loop-value.value-index c.loop-value.numbers.items c.value-item.result c.in_err-number.field-0.0 c.loop-value.invariant.so_far c.loop-value-test.true c.value-item.is c.in_err-number.ensures.gives))

pub loop-value-preserved : goal.loop-value-preserved
loop-value-preserved c = record {
  so_far = rw c.in_ok-push.ensures.items (each_more (number_value c.args.self.now.section c.args.key 0 c.args.high) view c.deref-value-items.result.now c.loop-value.value-index c.loop-value.numbers.items c.in_ok-number.number c.value-item.result c.loop-value.invariant.so_far c.loop-value-test.true c.value-item.is c.in_ok-number.ensures.gives);
  within = rw c.in_ok-push.ensures.items (All-push (λ n. n ≤ c.args.high) c.loop-value.numbers.items c.in_ok-number.number c.loop-value.invariant.within c.in_ok-number.ensures.within.1);
}

pub returns : goal.returns
returns c =
    let one = number_value c.args.self.now.section c.args.key 0 c.args.high in
    record {
      gives = items_done one c.args.self.now.section c.args.key (view c.args.value.now) c.in-Some.values.now.items c.deref-value-items.result.now c.in-Some.ensures c.deref-value-items.ensures.value _
          (each_done one view c.deref-value-items.result.now c.loop-value.value-index c.loop-value.numbers.items c.loop-value.invariant.so_far c.loop-value-test.false);
      within = c.loop-value.invariant.within;
    }
