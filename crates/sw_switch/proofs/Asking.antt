-- A walk over the ports of a set, in rising order, that gathers those of some kind; and which inputs ask.
use Rattle.std.specs.Prelude.{IsBitSet}
use Rattle.std.proofs.Common.{◌≡◌, ◌≢◌, ◌↔◌, ℕ, ◌+◌, ◌<◌, ◌≤◌, false, inl, inr, refl, arith}
use Rattle.std.proofs.lemmas.Bool.{cases_eq, cases_lt}
use Rattle.sw_route.specs.declared.look.Look.{Look}
use Rattle.sw_switch.specs.Cell.{Cell}
use Rattle.sw_switch.specs.Conditions.{AreAsking, Asks, CanGrant, is_held}

-- the ports of the kind below n are gathered, and no other
pub record IsGathered (Kind : ℕ → Type 0) (gathered n : ℕ) : Type 0 where
  pub below : (p : ℕ) → p < n → IsBitSet gathered p ↔ Kind p
  pub above : (p : ℕ) → n ≤ p → ¬ IsBitSet gathered p

-- further up, where none is of the kind
pub gathered_to : (Kind : ℕ → Type 0) (gathered n m : ℕ) → IsGathered Kind gathered n → n ≤ m → ((p : ℕ) → n ≤ p → p < m → ¬ Kind p) → IsGathered Kind gathered m
gathered_to Kind gathered n m so_far le none = record {
  below = λ p lt. elim (cases_lt p n) [
    | inl below ↦ so_far.below p below
    | inr past ↦ (λ set. absurd (so_far.above p past set), λ kind. absurd (none p past lt kind))
  ];
  above = λ p past. so_far.above p (omega arith);
}

-- past one more port of the kind
pub gathered_with : (Kind : ℕ → Type 0) (before after port : ℕ) → IsGathered Kind before port → Kind port →
    IsBitSet after port → ((p : ℕ) → p ≢ port → IsBitSet after p ↔ IsBitSet before p) → IsGathered Kind after (port + 1)
gathered_with Kind before after port so_far kind has others = record {
  below = λ p lt. elim (cases_eq p port) [
    | inl same ↦ rw same (λ _. kind, λ _. has)
    | inr other ↦
        let same = others p other in
        let so = so_far.below p (omega arith) in
        (λ set. so.0 (same.0 set), λ k. same.1 (so.1 k))
  ];
  above = λ p past set. so_far.above p (omega arith) ((others p (λ e. omega arith)).0 set);
}

-- past a port that is not of the kind
pub gathered_without : (Kind : ℕ → Type 0) (gathered port : ℕ) → IsGathered Kind gathered port → ¬ Kind port → IsGathered Kind gathered (port + 1)
gathered_without Kind gathered port so_far other = record {
  below = λ p lt. elim (cases_eq p port) [
    | inl same ↦ rw same (λ set. absurd (so_far.above port (omega arith) set), λ kind. absurd (other kind))
    | inr apart ↦ so_far.below p (omega arith)
  ];
  above = λ p past. so_far.above p (omega arith);
}

-- the walk is over
pub gathered_all : (Kind : ℕ → Type 0) (gathered n : ℕ) → IsGathered Kind gathered n → ((p : ℕ) → n ≤ p → ¬ Kind p) → (p : ℕ) → IsBitSet gathered p ↔ Kind p
gathered_all Kind gathered n so_far none p = elim (cases_lt p n) [
  | inl below ↦ so_far.below p below
  | inr above ↦ (λ set. absurd (so_far.above p above set), λ kind. absurd (none p above kind))
]

-- the output has a link and is free: all that ask can be granted
pub all_can : {R A : Type 0} (answer : R → ℕ → Look) (cell : Cell R A) (out asking : ℕ) → IsBitSet cell.linked out → is_held cell out ≡ false →
    ((input : ℕ) → IsBitSet asking input ↔ Asks answer cell out input) → AreAsking answer cell out asking
all_can answer cell out asking linked free asks input = (λ set. record { linked = linked; free = free; asks = (asks input).0 set }, λ can. (asks input).1 can.asks)

pub none_can : {R A : Type 0} (answer : R → ℕ → Look) (cell : Cell R A) (out : ℕ) → ((input : ℕ) → ¬ CanGrant answer cell out input) → AreAsking answer cell out 0
none_can answer cell out none input = (λ set. absurd (set refl), λ can. absurd (none input can))

pub none_in_empty : (set port : ℕ) → set ≡ 0 → ¬ IsBitSet set port
none_in_empty set port empty has = (rw empty at has) refl
