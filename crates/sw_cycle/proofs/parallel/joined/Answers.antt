use Rattle.std.proofs.Common.{◌↔◌, refl, ◌≡◌, ◌≤◌, ◌+◌, ℕ, List, length, replicate, sym, ap, ◌∙◌, subst, arith}
use Rattle.std.specs.Prelude.{IsTrue}
use Rattle.std.specs.List.{AllZip, range_with_len}
use Rattle.std.proofs.lemmas.Slice.Zip.{AllZip-long}
use Rattle.sw_config.specs.Entries.{Declaration, all_flows}
use Rattle.sw_flow.specs.Places.{ends_of}
use Rattle.sw_cycle.specs.Chunks.{IsNamedChunk, chunk_start}
use Rattle.sw_cycle.specs.Named.{AreNamed, AreRouted}
use Rattle.sw_cycle.proofs.Chunking.{joined_named, part_at, starts_first, starts_last, starts_rise}
use Rattle.sw_cycle.proofs.Naming.{named_none}
use Rattle.sw_cycle.proofs.Sound.{both_exact, routed_split}
use Rattle.sw_cycle.proofs.parallel.joined.Goals as goal
use Rattle.sw_cycle.specs.declared.named.Named.{Named}
use Rattle.sw_topo.proofs.Lists.{whole}

-- all parts are joined
all_parts : (d : Declaration) (parts : List Named) (i : ℕ) → AllZip (λ chunk w. IsNamedChunk d chunk w) (range_with_len 0 64) parts → length parts ≤ i → i ≤ length parts → chunk_start (length (all_flows d)) i ≡ length (all_flows d)
all_parts d parts i all past within =
    let count : length parts ≡ 64 = AllZip-long (λ chunk w. IsNamedChunk d chunk w) (range_with_len 0 64) parts all in
    let last : i ≡ 64 = omega arith in
    ap (chunk_start (length (all_flows d))) last ∙ starts_last (length (all_flows d))

pub loop-part-init : goal.loop-part-init
loop-part-init c =
    let d = c.args.network.now in
    let n : ℕ = length (all_flows d) in
    let items : c.in_ok-sets.sets.items ≡ replicate c.from.result 0 = c.in_ok-sets.ensures.items_if_clones_equal (λ y e. e) in
    let long : c.from.result ≡ length (ends_of d) = c.from.ensures ∙ c.channels.ensures.ends in
    let none : AreNamed d 0 0 (replicate c.from.result 0) = named_none d 0 c.from.result long in
    (subst (λ (m : ℕ). AreNamed d 0 m c.in_ok-sets.sets.items) (sym (starts_first n)) (subst (λ (l : List ℕ). AreNamed d 0 0 l) (sym items) none), (λ _ i f from below at. absurd (omega (arith, below, starts_first n)), λ _. refl))

pub join-requires : goal.join-requires
join-requires c =
    let d = c.args.network.now in
    let k = c.loop-part.part-index in
    let at : IsNamedChunk d k c.part-item.result = part_at d c.args.parts.now k c.part-item.result c.requires c.loop-part-test.true c.part-item.is in
    ap length c.deref.ensures.value ∙ at.0.size ∙ sym c.loop-part.invariant.0.size ∙ sym (ap length c.deref_mut.ensures.value)

pub loop-part-preserved : goal.loop-part-preserved
loop-part-preserved c =
    let d = c.args.network.now in
    let n = length (all_flows d) in
    let k = c.loop-part.part-index in
    let before = c.loop-part.sets.items in
    let new = c.join.new.sets in
    let at = part_at d c.args.parts.now k c.part-item.result c.requires c.loop-part-test.true c.part-item.is in
    let added = rw (c.deref_mut.ensures.value, c.deref.ensures.value) at c.join.ensures in
    let size : length new ≡ length before = added.size in
    rw (whole c.loop-part.sets.len new before c.loop-part.sets.ok.0 size)
    (joined_named d 0 (chunk_start n k) (chunk_start n (k + 1)) before c.part-item.result.sets.items new (omega arith) (starts_rise n k) c.loop-part.invariant.0 at.0 added, both_exact c.loop-part.is_routed c.part-item.result.is_routed c.loop-part.invariant.1 at.1 (routed_split d 0 (chunk_start n k) (chunk_start n (k + 1)) (omega arith) (starts_rise n k)))

pub returns-clause-named : goal.returns-clause-named
returns-clause-named c = subst (λ (m : ℕ). AreNamed c.args.network.now 0 m c.loop-part.sets.items) (all_parts c.args.network.now c.args.parts.now c.loop-part.part-index c.requires c.loop-part-test.false c.loop-part.auto.part-index-end) c.loop-part.invariant.0

pub returns-clause-routed : goal.returns-clause-routed
returns-clause-routed c = subst (λ (m : ℕ). IsTrue c.loop-part.is_routed ↔ AreRouted c.args.network.now 0 m) (all_parts c.args.network.now c.args.parts.now c.loop-part.part-index c.requires c.loop-part-test.false c.loop-part.auto.part-index-end) c.loop-part.invariant.1
