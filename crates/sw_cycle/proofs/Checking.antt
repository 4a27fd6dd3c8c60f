-- What the check of a cycle looks at.
use Rattle.std.proofs.Common.{not, eqb, false, ◌≡◌, ℕ, ◌+◌, ◌%◌, ◌<◌, ◌≤◌, ◌↔◌, List, length, map, get_or, Some, refl, sym, ap, ◌∙◌, subst, inl, inr, arith}
use Rattle.std.specs.Prelude.{Bool, IsTrue, slice_get}
use Rattle.std.specs.Option.{option_map}
use Rattle.std.proofs.Math.Nat.{mod-eq_of_lt, mod-lt}
use Rattle.std.proofs.lemmas.Bool.{cases_eq}
use Rattle.std.proofs.lemmas.Bool.Decides.{nat_tests}
use Rattle.std.proofs.lemmas.List.{get_or_default, length-map}
use Rattle.std.proofs.lemmas.Option.{same_Some, slice_get-map, slice_get_read, slice_get_within}
use Rattle.sw_config.specs.Entries.{Declaration}
use Rattle.sw_cycle.specs.declared.cycle.Cause.{Cause}
use Rattle.sw_cycle.specs.Cycles.{cause_of, CauseEntry, IsCause, IsCausedAt, IsShown, round}

-- what is read at i: a cause, and the channel there and the next
pub record IsReadAt (channels : List ℕ) (causes : List Cause) (i : ℕ) (cause : Cause) (c e : ℕ) : Type 0 where
  pub some : 0 < length channels
  pub within : i < length causes
  pub one_each : length causes ≡ length channels
  pub cause_is : cause ≡ get_or causes i cause
  pub here_is : c ≡ get_or channels i c
  pub next_is : e ≡ get_or channels ((i + 1) % length channels) e

module _ (d : Declaration) (channels : List ℕ) (causes : List Cause) (i : ℕ) (x : Cause) (c e : ℕ) (read : IsReadAt channels causes i x c e) where
  listed : slice_get (map cause_of causes) i ≡ Some (cause_of x)
  listed = slice_get-map cause_of causes i ∙ ap (option_map cause_of) (slice_get_read causes (length causes) i x refl read.within read.cause_is)

  here : round channels i ≡ c
  here =
      let within : i < length channels = omega (arith, read.within, read.one_each) in
      ap (λ k. get_or channels k 0) (mod-eq_of_lt within) ∙ get_or_default channels i 0 c within ∙ sym read.here_is

  next : round channels (i + 1) ≡ e
  next = get_or_default channels ((i + 1) % length channels) 0 e (mod-lt (i + 1) read.some) ∙ sym read.next_is

  pub caused_at : (told : Bool) → IsTrue told ↔ IsCause d (cause_of x) c e → IsTrue told ↔ IsCausedAt d channels (map cause_of causes) i
  caused_at told exact = (
    λ is cause at.
        let same : cause_of x ≡ cause = same_Some (cause_of x) cause (sym listed ∙ at) in
        let round_is : IsCause d (cause_of x) (round channels i) (round channels (i + 1)) =
        subst (λ (n : ℕ). IsCause d (cause_of x) n (round channels (i + 1))) (sym here) (subst (λ (n : ℕ). IsCause d (cause_of x) c n) (sym next) (exact.0 is))
        in
        subst (λ (q : CauseEntry). IsCause d q (round channels i) (round channels (i + 1))) same round_is,
    λ all.
        let is = all (cause_of x) listed in
        exact.1 (subst (λ (n : ℕ). IsCause d (cause_of x) c n) next (subst (λ (n : ℕ). IsCause d (cause_of x) n (round channels (i + 1))) here is)),
  )

-- one cause more
pub caused_more : (d : Declaration) (channels : List ℕ) (causes : List CauseEntry) (n : ℕ) → ((k : ℕ) → k < n → IsCausedAt d channels causes k) → IsCausedAt d channels causes n → (k : ℕ) → k < n + 1 → IsCausedAt d channels causes k
caused_more d channels causes n before new k lt = elim (cases_eq k n) [
  | inl same ↦ subst (IsCausedAt d channels causes) (sym same) new
  | inr other ↦ before k (omega arith)
]

pub all_caused : (d : Declaration) (channels : List ℕ) (causes : List Cause) (n : ℕ) → 0 < length channels → length causes ≡ length channels → length channels ≤ n → ((k : ℕ) → k < n → IsCausedAt d channels (map cause_of causes) k)
    → IsShown d (record { channels = channels; causes = map cause_of causes })
all_caused d channels causes n some one_each all caused = record {
  some = some;
  one_each = length-map causes cause_of ∙ one_each;
  caused = λ k cause at. caused k (let within = slice_get_within (map cause_of causes) k cause at in omega (arith, within, length-map causes cause_of)) cause at;
}

-- what is not told to differ is equal
pub equal_where : (a b : ℕ) (r : Bool) → r ≡ not (eqb a b) → r ≡ false → a ≡ b
equal_where a b r is told = grind (arith, nat_tests)
