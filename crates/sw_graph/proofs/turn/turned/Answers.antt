use Rattle.std.proofs.Common.{◌+◌, ◌-◌, [], ◌++◌, List, ℕ, length, take, drop, ap, ◌∙◌, arith}
use Rattle.std.proofs.lemmas.List.{append-nil}
use Rattle.std.proofs.lemmas.List.Elements.{same_from_all_zip}
use Rattle.sw_graph.proofs.Turns.{turned_made}
use Rattle.sw_graph.proofs.turn.turned.Goals as goal

pub returns : goal.returns
returns c =
    let xs = c.args.walked.now in
    let low = c.loop-i.lowest in
    let late : List ℕ = take (length xs - (low + 1)) (drop (low + 1) xs) in
    let early : List ℕ = take (low + 1) xs in
    let made : List ℕ = c.in_ok-cycle.cycle.items in
    let is = same_from_all_zip _ (late ++ (early ++ [])) made c.in_ok-cycle.ensures.ok (λ x y same. same) ∙ ap (λ (l : List ℕ). late ++ l) (append-nil early) in
    turned_made xs low made c.reverse.new.self.items (c.loop-i.invariant.inside, λ k lt. c.loop-i.invariant.least k (let past = c.loop-i-test.false in omega arith)) is c.reverse.ensures.items
