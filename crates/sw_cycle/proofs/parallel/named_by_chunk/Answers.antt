use Rattle.std.proofs.Common.{◌≡◌, ◌↔◌, ℕ, ◌≤◌, ◌+◌, ◌∙◌, length, replicate, refl, ap, sym, subst, arith}
use Rattle.std.specs.Prelude.{IsTrue}
use Rattle.sw_config.specs.Entries.{all_flows}
use Rattle.sw_cycle.specs.Chunks.{chunk_start}
use Rattle.sw_cycle.specs.Named.{AreNamed, AreRouted}
use Rattle.sw_cycle.proofs.Chunking.{starts_rise}
use Rattle.sw_cycle.proofs.Naming.{all_inside, named_more, named_none}
use Rattle.sw_cycle.proofs.Sound.{both_exact, list_by_routed, routed_by_list, routed_one, routed_split}
use Rattle.sw_cycle.proofs.parallel.named_by_chunk.Goals as goal
use Rattle.sw_topo.proofs.Lists.{whole}

pub loop-number-init : goal.loop-number-init
loop-number-init c =
    let d = c.args.network.now in
    let low = c.chunk_start-low.result in
    let empty : c.in_ok-sets.sets.items ≡ replicate c.from.result 0 = c.in_ok-sets.ensures.items_if_clones_equal (λ y e. e) in
    record {
      from = omega arith;
      named = subst (AreNamed d low low) (sym empty) (named_none d low c.from.result (c.from.ensures ∙ c.channels.ensures.ends));
      routed = (λ _ i f from below at. absurd (omega (arith, from, below)), λ _. refl);
    }

pub loop-number-preserved : goal.loop-number-preserved
loop-number-preserved c =
    let d = c.args.network.now in
    let low = c.chunk_start-low.result in
    let n = c.loop-number.number in
    let sets = c.loop-number.sets in
    let known = c.loop-number.invariant in
    let flow = c.flow_and_places.result in
    let is = c.flow_and_places.ensures in
    let call = c.add_places-is_sound in
    let added = rw c.deref_mut.ensures.value at call.ensures.added in
    let size : length call.new.sets ≡ length sets.items = added.size in
    let next : n ≤ n + 1 = omega arith in
    let one = routed_one d n flow.0.now is.flow in
    let sound : IsTrue call.result ↔ AreRouted d n (n + 1) = (
      λ t. one.0 (routed_by_list d flow.0.now flow.1.now is.places (call.ensures.sound.0 t)),
      λ all. call.ensures.sound.1 (list_by_routed d flow.0.now flow.1.now is.places (one.1 all)),
    ) in
    rw (whole sets.len call.new.sets sets.items sets.ok.0 size)
    (record {
      from = omega (arith, known.from);
      named = named_more d low n flow.0.now flow.1.now sets.items call.new.sets known.from is.flow is.places known.named added;
      routed = both_exact c.loop-number.is_routed call.result known.routed sound (routed_split d low n (n + 1) known.from next);
    })

pub add_places-is_sound-requires-clause-inside : goal.add_places-is_sound-requires-clause-inside
add_places-is_sound-requires-clause-inside c =
    let flow = c.flow_and_places.result in
    all_inside c.args.network.now flow.0.now flow.1.now _ c.flow_and_places.ensures.places (ap length c.deref_mut.ensures.value ∙ c.loop-number.invariant.named.size)

pub add_places-is_sound-requires-clause-size : goal.add_places-is_sound-requires-clause-size
add_places-is_sound-requires-clause-size c = ap length c.deref_mut.ensures.value ∙ c.loop-number.invariant.named.size

pub returns : goal.returns
returns c =
    let d = c.args.network.now in
    let n = length (all_flows d) in
    let k = c.args.chunk in
    let low : c.chunk_start-low.result ≡ chunk_start n k = c.chunk_start-low.ensures ∙ ap (λ (m : ℕ). chunk_start m k) c.flows-flows.ensures.count in
    let high : c.chunk_start-high.result ≡ chunk_start n (k + 1) = c.chunk_start-high.ensures ∙ ap (λ (m : ℕ). chunk_start m (k + 1)) c.flows-flows.ensures.count in
    let rise : c.chunk_start-low.result ≤ c.chunk_start-high.result = omega (arith, low, high, starts_rise n k) in
    let all : c.loop-number.number ≡ chunk_start n (k + 1) = omega (arith, c.loop-number-test.false, c.loop-number.auto.number-end rise, high) in
    let P : ℕ → ℕ → Type 0 = λ a b. AreNamed d a b c.loop-number.sets.items × (IsTrue c.loop-number.is_routed ↔ AreRouted d a b) in
    subst (λ (a : ℕ). P a (chunk_start n (k + 1))) low (subst (λ (b : ℕ). P c.chunk_start-low.result b) all (c.loop-number.invariant.named, c.loop-number.invariant.routed))
