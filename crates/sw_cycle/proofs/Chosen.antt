-- The list of chosen causes, one more at a time.
use Rattle.std.proofs.Common.{◌≡◌, ℕ, ◌+◌, ◌%◌, ◌<◌, ◌≤◌, List, [], ◌∷◌, ◌++◌, length, get_or, map, Some, refl, sym, ap, ◌∙◌, subst, ◌⊎◌, inl, inr, arith}
use Rattle.std.specs.Prelude.{slice_get}
use Rattle.std.proofs.Math.Nat.{mod-eq_of_lt, mod-lt}
use Rattle.std.proofs.lemmas.Bool.{cases_lt}
use Rattle.std.proofs.lemmas.List.{get_or_append_left, get_or_default, get_or_push, length-append, map_push}
use Rattle.std.proofs.lemmas.Option.{get_or_from_slice_get, slice_get-get_or, slice_get_within}
use Rattle.sw_config.specs.Entries.{Declaration}
use Rattle.sw_cycle.specs.declared.cycle.Cause.{Cause}
use Rattle.sw_cycle.specs.Cycles.{cause_of, CauseEntry, round}
use Rattle.sw_cycle.specs.Causes.{AreChosen, AreFor, IsChosenCause}
use Rattle.sw_cycle.specs.Laws.{ChosenCausesShowCycles, ShownCyclesAreRounds}
use Rattle.sw_machine.proofs.Flows.{some_at}
use Rattle.sw_cycle.proofs.Shown.{causes_show}

pub chosen_show : ChosenCausesShowCycles
chosen_show d channels causes some chosen = record {
  some = some;
  one_each = chosen.one_each;
  caused = λ i cause at. (chosen.chosen i cause at).shows;
}

pub shown_round : ShownCyclesAreRounds
shown_round d valid cycle shown = λ i lt.
    let cause = some_at cycle.causes i (omega (arith, lt, shown.one_each)) in
    causes_show d valid cause.0 (round cycle.channels i) (round cycle.channels (i + 1)) (shown.caused i cause.0 cause.1)

pub none_yet : (d : Declaration) (channels : List ℕ) → AreFor d channels 0 []
none_yet d channels = record {
  one_each = refl;
  chosen = λ i cause at. let bad = slice_get_within [] i cause at in absurd (omega (arith, bad));
}

module _ (d : Declaration) (channels : List ℕ) (n : ℕ) (causes : List CauseEntry) (x : CauseEntry) (known : AreFor d channels n causes) (new : IsChosenCause d x (round channels n) (round channels (n + 1))) where
  abbrev after : List CauseEntry
  after = causes ++ x ∷ []

  counted : length after ≡ n + 1
  counted = length-append causes (x ∷ []) ∙ ap (λ (k : ℕ). k + 1) known.one_each

  chosen : (i : ℕ) (cause : CauseEntry) → slice_get after i ≡ Some cause → IsChosenCause d cause (round channels i) (round channels (i + 1))
  chosen i cause at = by (cases_lt i n)
    where
      is : get_or after i cause ≡ cause
      is = get_or_from_slice_get after i cause cause at

      by : (i < n) ⊎ (n ≤ i) → IsChosenCause d cause (round channels i) (round channels (i + 1))
      by (inl old) =
          let within : i < length causes = omega (arith, old, known.one_each) in
          let here : get_or causes i cause ≡ cause = sym (get_or_append_left causes (x ∷ []) cause i within) ∙ is in
          known.chosen i cause (slice_get-get_or causes i cause within ∙ ap Some here)
      by (inr le) =
          let within : i < length after = slice_get_within after i cause at in
          let last : i ≡ n = omega (arith, le, within, counted) in
          let end : length causes ≡ i = omega (arith, last, known.one_each) in
          let same : x ≡ cause = sym (get_or_push causes x cause i end) ∙ is in
          subst (λ (q : CauseEntry). IsChosenCause d q (round channels i) (round channels (i + 1))) same
          (subst (λ (k : ℕ). IsChosenCause d x (round channels k) (round channels (k + 1))) (sym last) new)

  pub one_more : AreFor d channels (n + 1) after
  one_more = record { one_each = counted; chosen = chosen }

-- the channels as they are read
pub here : (channels : List ℕ) (i c : ℕ) → i < length channels → c ≡ get_or channels i c → round channels i ≡ c
here channels i c lt is = ap (λ k. get_or channels k 0) (mod-eq_of_lt lt) ∙ get_or_default channels i 0 c lt ∙ sym is

pub behind : (channels : List ℕ) (i e : ℕ) → i < length channels → e ≡ get_or channels ((i + 1) % length channels) e → round channels (i + 1) ≡ e
behind channels i e lt is = let some : 0 < length channels = omega (arith, lt) in get_or_default channels ((i + 1) % length channels) 0 e (mod-lt (i + 1) some) ∙ sym is

module _ (d : Declaration) (channels : List ℕ) (i c e : ℕ) (lt : i < length channels) (c_is : c ≡ get_or channels i c) (e_is : e ≡ get_or channels ((i + 1) % length channels) e) where
  -- what is read for the cause of channel i
  pub read_for : (P : ℕ → ℕ → Type 0) → P (round channels i) (round channels (i + 1)) → P c e
  read_for P h = subst (λ (y : ℕ). P c y) (behind channels i e lt e_is) (subst (λ (x : ℕ). P x (round channels (i + 1))) (here channels i c lt c_is) h)

  -- and back
  pub as_round : (P : ℕ → ℕ → Type 0) → P c e → P (round channels i) (round channels (i + 1))
  as_round P h = subst (λ (y : ℕ). P (round channels i) y) (sym (behind channels i e lt e_is)) (subst (λ (x : ℕ). P x e) (sym (here channels i c lt c_is)) h)

  pub pushed : (old new : List Cause) (x : Cause) → AreFor d channels i (map cause_of old) → IsChosenCause d (cause_of x) c e → new ≡ old ++ x ∷ [] → AreFor d channels (i + 1) (map cause_of new)
  pushed old new x known is push =
      let round_is : IsChosenCause d (cause_of x) (round channels i) (round channels (i + 1)) =
      subst (λ (y : ℕ). IsChosenCause d (cause_of x) (round channels i) y) (sym (behind channels i e lt e_is)) (subst (λ (z : ℕ). IsChosenCause d (cause_of x) z e) (sym (here channels i c lt c_is)) is)
      in
      subst (λ (l : List CauseEntry). AreFor d channels (i + 1) l) (sym (ap (map cause_of) push ∙ map_push cause_of old x)) (one_more d channels i (map cause_of old) (cause_of x) known round_is)

pub all_chosen : (d : Declaration) (channels : List ℕ) (n : ℕ) (causes : List CauseEntry) → n ≡ length channels → AreFor d channels n causes → AreChosen d channels causes
all_chosen d channels n causes all known = record { one_each = known.one_each ∙ all; chosen = known.chosen }
