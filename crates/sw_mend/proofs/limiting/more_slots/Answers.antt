use Rattle.std.proofs.Common.{◌≡◌, ◌∙◌, ◌∷◌, ◌<◌, ◌≤◌, ℕ, Option, Some, None, [], ap, arith, length, refl, sym, append-nil, zero-add}
use Rattle.std.proofs.lemmas.List.Elements.{All-push}
use Rattle.std.specs.Option.{option_map_or}
use Rattle.sw_mend.specs.Limitings.{IsSlots, slots_at}
use Rattle.sw_mend.proofs.MoreSlots.{named_slots, too_many, wanted}
use Rattle.sw_mend.proofs.Numbered.{grown_by_number}
use Rattle.sw_mend.proofs.limiting.more_slots.Goals as goal
use Rattle.sw_mend.proofs.limiting.more_slots.Goals.{then-wanted-eq0-via-then-wanted-eq0, then-wanted-eq0-via-else-wanted-eq0+then-wanted-gt-MOST_SLOTS}

pub loop-node-preserved-in_default : goal.loop-node-preserved-in_default
loop-node-preserved-in_default c =
    let d = c.args.network.now in
    let k = c.loop-node.node in
    let lt : k < length d.nodes = omega (arith, c.loop-node-test.true, c.nodes-node-end.ensures.count) in
    let items = c.loop-node.slots.items in (
      grown_by_number (slots_at d) [] items [] items k d.nodes lt c.loop-node.invariant.0
          (λ e. ap (λ (o : Option ℕ). option_map_or (named_slots k) o []) (sym c.in_default.is) ∙ wanted d k e c.slots_at.result c.slots_at.ensures) (sym (append-nil items)),
      c.loop-node.invariant.1,
    )

pub returns-then-wanted-eq0 : goal.returns-then-wanted-eq0
returns-then-wanted-eq0 c = λ all.
    let d = c.args.network.now in
    let k = c.loop-node.node in
    let lt : k < length d.nodes = omega (arith, c.loop-node-test.true, c.nodes-node-end.ensures.count) in
    let others : 1 ≤ c.in-Some.wanted → c.in-Some.wanted ≤ 64 → ⊥ = λ low high.
    elim c.then-wanted-eq0.branch [
      | then-wanted-eq0-via-then-wanted-eq0 w ↦ absurd (omega (arith, w.if-wanted-eq0, low))
      | then-wanted-eq0-via-else-wanted-eq0+then-wanted-gt-MOST_SLOTS w ↦ absurd (omega (arith, w.if-wanted-gt-MOST_SLOTS, high))
    ] in
    too_many (slots_at d) 0 k k c.in-Some.wanted d.nodes lt (zero-add k)
    (λ e. ap (λ (o : Option ℕ). option_map_or (named_slots k) o []) (sym c.in-Some.is) ∙ wanted d k e c.slots_at.result c.slots_at.ensures) others all

pub loop-node-preserved : goal.loop-node-preserved
loop-node-preserved c =
    let d = c.args.network.now in
    let k = c.loop-node.node in
    let lt : k < length d.nodes = omega (arith, c.loop-node-test.true, c.nodes-node-end.ensures.count) in (
      grown_by_number (slots_at d) [] c.loop-node.slots.items (named_slots k c.in-Some.wanted) c.push.new.self.items k d.nodes lt c.loop-node.invariant.0
          (λ e. ap (λ (o : Option ℕ). option_map_or (named_slots k) o []) (sym c.in-Some.is) ∙ wanted d k e c.slots_at.result c.slots_at.ensures) c.in_ok-push.ensures.items,
      rw c.in_ok-push.ensures.items (All-push IsSlots c.loop-node.slots.items _ c.loop-node.invariant.1 (omega (arith, c.if-wanted-eq0.false), c.if-wanted-gt-MOST_SLOTS.false)),
    )
