-- The entries of steps have these steps, each entry at most 100,000 times.
use Rattle.std.proofs.Common.{◌≡◌, ℕ, zero, suc, ◌+◌, ◌≤◌, true, ◌&&◌, List, [], ◌∷◌, ◌++◌, replicate, refl, sym, ap, ◌∙◌, inl, inr, arith, eqb-true, ltb-true}
use Rattle.std.specs.Prelude.{◌==◌, nat_lt, if◌then◌else◌}
use Rattle.std.specs.Str.{bytes_eq}
use Rattle.std.proofs.lemmas.Bool.{and_parts, cases_Bool, false≢true}
use Rattle.std.proofs.lemmas.Slice.Eq.{bytes_eq-Decides}
use Rattle.sw_char.specs.declared.nchar.End.{End}
use Rattle.sw_char.specs.declared.nchar.End.TheVariants.{Eop, Eep}
use Rattle.sw_machine.specs.Steps.{Step, Fct, FctIn, Arrive, Grant, Drop, Forward, Spill, Begin, Emit, Accept, Reply}
use Rattle.sw_output.specs.Tallies.{end_rank}
use Rattle.sw_schedule.specs.Lines.{Repeated}
use Rattle.sw_schedule.specs.Schedule.{steps_of}
use Rattle.sw_schedule.specs.Runs.{entries_from, entries_of, is_same}

-- ---- steps that are told as the same are the same

end_same : (e f : End) → (end_rank e == end_rank f) ≡ true → e ≡ f
end_same Eop Eop h = refl
end_same Eep Eep h = refl
end_same e f h = absurd (false≢true h)

steps_same : (s t : Step) → is_same s t ≡ true → s ≡ t
steps_same (Fct c) (Fct e) h = ap Fct (eqb-true c e h)
steps_same (FctIn c) (FctIn e) h = ap FctIn (eqb-true c e h)
steps_same (Arrive c) (Arrive e) h = ap Arrive (eqb-true c e h)
steps_same (Grant o c) (Grant p e) h = let both = and_parts (o == p) (c == e) h in ap (λ k. Grant k c) (eqb-true o p both.0) ∙ ap (Grant p) (eqb-true c e both.1)
steps_same (Drop c) (Drop e) h = ap Drop (eqb-true c e h)
steps_same (Forward c) (Forward e) h = ap Forward (eqb-true c e h)
steps_same (Spill c) (Spill e) h = ap Spill (eqb-true c e h)
steps_same (Begin f c e) (Begin g d l) h =
    let all = and_parts ((f == g) && (end_rank e == end_rank l)) (bytes_eq c d) h in
    let first = and_parts (f == g) (end_rank e == end_rank l) all.0 in
    ap (λ k. Begin k c e) (eqb-true f g first.0) ∙ ap (λ k. Begin g k e) ((bytes_eq-Decides c d).0 all.1) ∙ ap (Begin g d) (end_same e l first.1)
steps_same (Emit n) (Emit m) h = ap Emit (eqb-true n m h)
steps_same (Accept n) (Accept m) h = ap Accept (eqb-true n m h)
steps_same (Reply n) (Reply m) h = ap Reply (eqb-true n m h)
steps_same s t h = absurd (false≢true h)

-- ---- what the entries are

replicate_more : (n : ℕ) (s : Step) (steps : List Step) → replicate (n + 1) s ++ steps ≡ replicate n s ++ (s ∷ steps)
replicate_more zero s steps = refl
replicate_more (suc n) s steps = let e : suc n + 1 ≡ suc (n + 1) = omega arith in rw e (ap (λ more. s ∷ more) (replicate_more n s steps))

from_steps : (last : Step) (count : ℕ) (steps : List Step) → steps_of (entries_from last count steps) ≡ replicate count last ++ steps
from_steps last count [] = refl
from_steps last count (step ∷ steps) = elim (cases_Bool (nat_lt count 100000 && is_same step last)) [
  | inl t ↦
      let same = steps_same step last (and_parts (nat_lt count 100000) (is_same step last) t).1 in
      rw t (from_steps last (count + 1) steps ∙ replicate_more count last steps ∙ ap (λ s. replicate count last ++ (s ∷ steps)) (sym same))
  | inr f ↦ rw f (ap (λ more. replicate count last ++ more) (from_steps step 1 steps))
]

pub entries_steps : (steps : List Step) → steps_of (entries_of steps) ≡ steps
entries_steps [] = refl
entries_steps (step ∷ steps) = from_steps step 1 steps

abbrev pub Each : {X : Type 0} → (X → Type 0) → List X → Type 0
Each {X} P [] = Unit {0}
Each {X} P (x ∷ xs) = P x × Each P xs

-- made 1 to 100,000 times, and its step is as P says
pub record IsRight (P : Step → Type 0) (r : Repeated) : Type 0 where
  pub some : 1 ≤ r.count
  pub few : r.count ≤ 100000
  pub step : P r.step

from_right : (P : Step → Type 0) (last : Step) (count : ℕ) (steps : List Step) → 1 ≤ count → count ≤ 100000 → P last → Each P steps → Each (IsRight P) (entries_from last count steps)
from_right P last count [] some few p ps = (record { some = some; few = few; step = p }, tt)
from_right P last count (step ∷ steps) some few p ps = elim (cases_Bool (nat_lt count 100000 && is_same step last)) [
  | inl t ↦
      let lt = ltb-true count 100000 (and_parts (nat_lt count 100000) (is_same step last) t).0 in
      rw t (from_right P last (count + 1) steps (omega arith) (omega (arith, lt)) p ps.1)
  | inr f ↦ rw f (record { some = some; few = few; step = p }, from_right P step 1 steps (omega arith) (omega arith) ps.0 ps.1)
]

pub entries_right : (P : Step → Type 0) (steps : List Step) → Each P steps → Each (IsRight P) (entries_of steps)
entries_right P [] ps = tt
entries_right P (step ∷ steps) ps = from_right P step 1 steps (omega arith) (omega arith) ps.0 ps.1
