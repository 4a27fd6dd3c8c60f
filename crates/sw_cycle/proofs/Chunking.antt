-- Chunks of flows, and their sets of ports joined.
use Rattle.std.proofs.Common.{◌≡◌, ℕ, zero, suc, ◌+◌, ◌*◌, ◌/◌, ◌<◌, ◌≤◌, ◌↔◌, ◌⊎◌, inl, inr, List, [], ◌∷◌, length, get_or, set, refl, sym, ap, ◌∙◌, subst, arith, get_or-set_same, get_or-set_other, length-set}
use Rattle.std.specs.Prelude.{IsBitSet, bit_or, slice_index}
use Rattle.std.specs.List.{AllZip, range_with_len}
use Rattle.std.proofs.lemmas.Bool.{cases_eq, cases_lt}
use Rattle.std.proofs.lemmas.List.{get_or_past}
use Rattle.sw_topo.proofs.PortBits.{or_members}
use Rattle.sw_config.specs.Entries.{Declaration}
use Rattle.sw_cycle.specs.Named.{AreNamed}
use Rattle.sw_cycle.specs.Chunks.{AreJoined, IsNamedChunk, chunk_start}
use Rattle.sw_cycle.specs.declared.named.Named.{Named}
use Rattle.sw_cycle.proofs.Naming.{none_set}

-- ---- where chunks start

scaled : (k w : ℕ) → k * w ≤ (k + 1) * w
scaled k w = let e : (k + 1) * w ≡ k * w + w = omega arith in omega arith

pub starts_rise : (n k : ℕ) → chunk_start n k ≤ chunk_start n (k + 1)
starts_rise n k = let up = scaled k (n / 64 + 1) in grind arith

pub starts_within : (n k : ℕ) → chunk_start n k ≤ n
starts_within n k = grind arith

pub starts_first : (n : ℕ) → chunk_start n 0 ≡ 0
starts_first n = grind arith

pub starts_last : (n : ℕ) → chunk_start n 64 ≡ n
starts_last n = let past : n ≤ 64 * (n / 64 + 1) = omega arith in grind arith

-- ---- one part more

module _ (part sets : List ℕ) where
  pub joined_none : AreJoined part 0 sets sets
  joined_none = record { size = refl; ports = λ c p. (λ h. inl h, λ h. elim h [ inl old ↦ old | inr new ↦ absurd (let lt = new.0 in omega arith) ]) }

  pub joined_more : (n : ℕ) (sets1 : List ℕ) (union : ℕ) → n < length sets → AreJoined part n sets sets1 → union ≡ bit_or (get_or sets1 n 0) (get_or part n 0) → AreJoined part (n + 1) sets (set sets1 n union)
  joined_more n sets1 union inside a both = record {
    size = length-set sets1 n union ∙ a.size;
    ports = λ c p. elim (cases_eq c n) [ inl same ↦ on c p same | inr other ↦ off c p other ];
  }
    where
      on : (c p : ℕ) → c ≡ n → IsBitSet (slice_index (set sets1 n union) c) p ↔ (IsBitSet (slice_index sets c) p ⊎ ((c < n + 1) × IsBitSet (slice_index part c) p))
      on c p same =
          let size = a.size in
          let e : get_or (set sets1 n union) c 0 ≡ bit_or (get_or sets1 c 0) (get_or part c 0) =
          ap (λ k. get_or (set sets1 k union) c 0) (sym same) ∙ get_or-set_same sets1 c union 0 (omega arith) ∙ both ∙ ap (λ k. bit_or (get_or sets1 k 0) (get_or part k 0)) (sym same) in
          let parts = or_members (get_or sets1 c 0) (get_or part c 0) p in (
            λ h. elim (parts.0 (subst (λ (s : ℕ). IsBitSet s p) e h)) [
              | inl before ↦ elim ((a.ports c p).0 before) [ inl old ↦ inl old | inr past ↦ absurd (let lt = past.0 in omega arith) ]
              | inr new ↦ inr (omega arith, new)
            ],
            λ h. subst (λ (s : ℕ). IsBitSet s p) (sym e) (parts.1 (elim h [ inl old ↦ inl ((a.ports c p).1 (inl old)) | inr new ↦ inr new.1 ])),
          )

      off : (c p : ℕ) → (c ≡ n → ⊥) → IsBitSet (slice_index (set sets1 n union) c) p ↔ (IsBitSet (slice_index sets c) p ⊎ ((c < n + 1) × IsBitSet (slice_index part c) p))
      off c p other =
          let e : get_or (set sets1 n union) c 0 ≡ get_or sets1 c 0 = get_or-set_other sets1 n c union 0 other in (
            λ h. elim ((a.ports c p).0 (subst (λ (s : ℕ). IsBitSet s p) e h)) [ inl old ↦ inl old | inr new ↦ inr (let lt = new.0 in omega arith, new.1) ],
            λ h. subst (λ (s : ℕ). IsBitSet s p) (sym e) ((a.ports c p).1 (elim h [ inl old ↦ inl old | inr new ↦ inr (let lt = new.0 in omega arith, new.1) ])),
          )

-- the sets of two runs of flows, joined
pub joined_named : (d : Declaration) (low mid high : ℕ) (sets part sets2 : List ℕ) → low ≤ mid → mid ≤ high → AreNamed d low mid sets → AreNamed d mid high part → AreJoined part (length part) sets sets2 → AreNamed d low high sets2
joined_named d low mid high sets part sets2 rise rise2 a b j = record {
  size = j.size ∙ a.size;
  ports = λ c p. (
    λ here. elim ((j.ports c p).0 here) [
      | inl old ↦
          let h = (a.ports c p).0 old in
          let lt = h.below in
          record { number = h.number; flow = h.flow; from = h.from; below = omega arith; numbered = h.numbered; deleted = h.deleted; place = h.place; named = h.named }
      | inr new ↦
          let h = (b.ports c p).0 new.1 in
          let le = h.from in
          record { number = h.number; flow = h.flow; from = omega arith; below = h.below; numbered = h.numbered; deleted = h.deleted; place = h.place; named = h.named }
    ],
    λ h. (j.ports c p).1 (elim (cases_lt h.number mid) [
      | inl lt ↦ inl ((a.ports c p).1 (record { number = h.number; flow = h.flow; from = h.from; below = lt; numbered = h.numbered; deleted = h.deleted; place = h.place; named = h.named }))
      | inr le ↦
          let bit = (b.ports c p).1 (record { number = h.number; flow = h.flow; from = le; below = h.below; numbered = h.numbered; deleted = h.deleted; place = h.place; named = h.named }) in
          inr (elim (cases_lt c (length part)) [ inl lt ↦ lt | inr past ↦ absurd (none_set p (subst (λ (s : ℕ). IsBitSet s p) (get_or_past part c 0 past) bit)) ], bit)
    ]),
  );
}

-- the part of a number
part_in : (Q : ℕ → Named → Type 0) (a n : ℕ) (parts : List Named) (i : ℕ) (v : Named) → AllZip Q (range_with_len a n) parts → i < length parts → Q (a + i) (get_or parts i v)
part_in Q a n [] i v h lt = absurd (omega arith)
part_in Q a zero (w ∷ parts) i v h lt = absurd h
part_in Q a (suc n) (w ∷ parts) zero v h lt = subst (λ (k : ℕ). Q k w) (omega arith) h.0
part_in Q a (suc n) (w ∷ parts) (suc i) v h lt = subst (λ (k : ℕ). Q k (get_or parts i v)) (omega arith) (part_in Q (a + 1) n parts i v h.1 (omega arith))

pub part_at : (d : Declaration) (parts : List Named) (i : ℕ) (v : Named) → AllZip (λ chunk w. IsNamedChunk d chunk w) (range_with_len 0 64) parts → i < length parts → v ≡ get_or parts i v → IsNamedChunk d i v
part_at d parts i v h lt is =
    let at = part_in (λ chunk w. IsNamedChunk d chunk w) 0 64 parts i v h lt in
    subst (λ (w : Named). IsNamedChunk d i w) (sym is) (subst (λ (k : ℕ). IsNamedChunk d k (get_or parts i v)) (omega arith) at)
