use Rattle.std.proofs.Common.{◌≡◌, ◌+◌, ◌<◌, ℕ, suc, refl, length, length-set, sym, subst, ap, ◌∙◌, arith, rules}
use Rattle.std.proofs.lemmas.List.{length-replicate}
use Rattle.sw_graph.specs.Rows.{Leads}
use Rattle.sw_graph.proofs.Adding.{start_added}
use Rattle.sw_graph.proofs.Searching.{ended, round_on, searching_first, searching_on}
use Rattle.sw_graph.proofs.Sought.{level_inside}
use Rattle.sw_graph.proofs.search.search.Goals as goal

pub loop-count-init : goal.loop-count-init
loop-count-init c =
    let n = length c.args.rows.now in
    let size : length c.args.steps.now ≡ n = ap length c.requires.steps ∙ length-replicate n _ in
    let inside : c.from.result < length c.args.steps.now = subst (λ (k : ℕ). c.from.result < k) (sym size) (subst (λ (k : ℕ). k < n) (sym c.from.ensures) c.requires.inside) in
    record {
      size = length-set _ _ _ ∙ size;
      few = omega arith;
      searching = searching_first (Leads c.args.rows.now) c.args.start n _ _ (start_added n c.args.start c.from.result c.args.steps.now _ c.new-level.result.items c.push.new.self.items c.requires.steps c.requires.inside c.from.ensures inside c.new-level.ensures.items refl c.in_ok-push.ensures.items);
    }

pub one_leads-requires : goal.one_leads-requires
one_leads-requires c =
    let s = c.loop-count.invariant in
    rw c.deref.ensures.value (level_inside (Leads c.args.rows.now) c.args.start c.loop-count.count (length c.args.rows.now) c.loop-count.steps c.loop-count.level.items s.searching s.size)

pub returns-then-one_leads : goal.returns-then-one_leads
returns-then-one_leads c =
    let rows = c.args.rows.now in
    let n = c.loop-count.count in
    let e : n + 1 ≡ suc n = omega arith in
    let one = rw c.deref.ensures.value at (sym c.one_leads.ensures ∙ c.if-one_leads.true) in
    round_on rows c.args.start n (n + 1) c.args.most c.loop-count.steps c.loop-count.level.items c.loop-count.invariant.searching e (omega arith) one

pub returns-then-is_empty : goal.returns-then-is_empty
returns-then-is_empty c =
    ended (Leads c.args.rows.now) c.args.start c.loop-count.count c.args.most c.loop-count.steps c.loop-count.level.items c.loop-count.invariant.searching (search rules)

pub add_next-requires-clause-inside : goal.add_next-requires-clause-inside
add_next-requires-clause-inside c =
    let s = c.loop-count.invariant in
    rw c.deref-in-loop-count.ensures.value (level_inside (Leads c.args.rows.now) c.args.start c.loop-count.count (length c.args.rows.now) c.loop-count.steps c.loop-count.level.items s.searching s.size)

pub loop-count-preserved : goal.loop-count-preserved
loop-count-preserved c =
    let rows = c.args.rows.now in
    let n = c.loop-count.count in
    let s = c.loop-count.invariant in
    let added = rw (c.deref-in-loop-count.ensures.value, c.new-next.ensures.items) at c.in_ok-add_next.ensures in
    let none = rw c.deref.ensures.value at (sym c.one_leads.ensures ∙ c.if-one_leads.false) in
    let e : n + 1 ≡ suc n = omega arith in
    record {
      size = c.add_next.auto.steps ∙ s.size;
      few = omega arith;
      searching = searching_on rows c.args.start n (n + 1) c.loop-count.steps c.add_next.new.steps c.loop-count.level.items c.add_next.new.level.items s.searching e none added;
    }

pub returns : goal.returns
returns c = λ i lt h. c.loop-count.invariant.searching.none i (let past = c.loop-count-test.false in omega arith) h

pub bounds-steps-from : goal.bounds-steps-from
bounds-steps-from c =
    let n = length c.args.rows.now in
    let size : length c.args.steps.now ≡ n = ap length c.requires.steps ∙ length-replicate n _ in
    subst (λ (k : ℕ). c.from.result < k) (sym size) (subst (λ (k : ℕ). k < n) (sym c.from.ensures) c.requires.inside)

pub add_next-requires-clause-size : goal.add_next-requires-clause-size
add_next-requires-clause-size c = c.loop-count.invariant.size
