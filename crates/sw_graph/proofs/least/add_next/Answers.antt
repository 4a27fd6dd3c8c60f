use Rattle.std.proofs.Common.{◌≡◌, ◌<◌, ℕ, List, All, get_or, sym, ap, ◌∙◌, subst, arith}
use Rattle.std.proofs.lemmas.List.{take_all}
use Rattle.std.proofs.lemmas.List.Elements.{All-get_or}
use Rattle.std.proofs.lemmas.List.Sums.{fold_more}
use Rattle.sw_graph.specs.Walks.{with_all, with_number}
use Rattle.sw_graph.proofs.Walking.{led_by}
use Rattle.sw_graph.proofs.least.add_next.Goals as goal

pub push_next-requires : goal.push_next-requires
push_next-requires g c = omega (arith, c.at.ensures.below, c.requires.bound)

pub add-requires : goal.add-requires
add-requires g c =
    let next = g.S.Steps.next c.args.steps.now in
    let xs = c.deref-number-items.result.now in
    let i = c.loop-number.number-index in
    let led : xs ≡ next c.at.result = led_by xs c.push_next.new.to.items c.clear.new.self.items (next c.at.result) c.deref-number-items.ensures.value c.in_ok-push_next.ensures c.clear.ensures.items in
    let all = subst (All (λ m. m < c.args.walk.now.bound)) (sym led) (c.requires.inside c.at.result c.at.ensures.below) in
    subst (λ (n : ℕ). get_or xs i 0 < n) (sym c.loop-number.invariant.bound) (All-get_or (λ m. m < c.args.walk.now.bound) xs i 0 c.loop-number-test.true all)

pub loop-number-preserved : goal.loop-number-preserved
loop-number-preserved g c =
    let xs = c.deref-number-items.result.now in
    let i = c.loop-number.number-index in
    let old = c.loop-number.invariant in
    record {
      bound = c.in_ok-add.ensures.bound ∙ old.bound;
      numbers = c.in_ok-add.ensures.ok ∙ ap (λ (l : List ℕ). with_number l (get_or xs i 0)) old.numbers ∙ sym (fold_more with_number c.args.walk.now.numbers xs i 0 c.loop-number-test.true);
    }

pub returns-clause-numbers : goal.returns-clause-numbers
returns-clause-numbers g c =
    let next = g.S.Steps.next c.args.steps.now in
    let xs = c.deref-number-items.result.now in
    let led : xs ≡ next c.at.result = led_by xs c.push_next.new.to.items c.clear.new.self.items (next c.at.result) c.deref-number-items.ensures.value c.in_ok-push_next.ensures c.clear.ensures.items in
    c.loop-number.invariant.numbers ∙ ap (with_all c.args.walk.now.numbers) (take_all c.loop-number.number-index xs c.loop-number-test.false ∙ led ∙ ap next c.at.ensures.number)
