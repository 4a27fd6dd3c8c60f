-- What holds of each channel's numbers.
use Rattle.std.proofs.Common.{◌<◌, List, [], arith, refl, subst, sym, ℕ, ◌∷◌, ◌≡◌}
use Rattle.std.proofs.lemmas.Bool.Decides.{nat_tests}
use Rattle.std.proofs.lemmas.List.{length_push}
use Rattle.sw_char.specs.declared.nchar.NChar.{NChar}
use Rattle.sw_char.specs.declared.nchar.NChar.TheVariants.{Data, Eep, Eop}
use Rattle.sw_machine.specs.Credit.{CreditEquation, HasCredit}
use Rattle.sw_machine.specs.Network.{IsNetwork, Network}
use Rattle.sw_machine.specs.Runs.{IsReached, Run}
use Rattle.sw_machine.specs.State.{State, empty}
use Rattle.sw_machine.specs.Steps.{Accept, Arrive, Begin, Drop, Drops, Emit, Fct, FctIn, Forward, Grant, Leads, Reply, Spill, Step}

ruleset numbers = (nat_tests, length_push)

-- the numbers agree after a step where they do at each channel by itself
by_channel : (net : Network) (s t after : State) → t ≡ after → ((k : ℕ) → k < net.channels → CreditEquation net s k → CreditEquation net after k) → HasCredit net s → HasCredit net t
by_channel net s t after e more inv = subst (HasCredit net) (sym e) (record { at = λ k lt. more k lt (inv.at k lt) })

drop_numbers : (net : Network) (s : State) (c switch : ℕ) (x : NChar) (rest : List NChar) (t : State) → s.buffer c ≡ x ∷ rest → Drops net s c switch x rest t → HasCredit net s → HasCredit net t
drop_numbers net s c switch (Data h) rest t front d = by_channel net s t _ d.1 (λ k lt old. grind (arith, numbers))
drop_numbers net s c switch Eop rest t front d = by_channel net s t _ d (λ k lt old. grind (arith, numbers))
drop_numbers net s c switch Eep rest t front d = by_channel net s t _ d (λ k lt old. grind (arith, numbers))

pub step_numbers : (net : Network) (s : State) (step : Step) (t : State) → Leads net s step t → HasCredit net s → HasCredit net t
step_numbers net s (Fct c) t h = by_channel net s t _ h.after (λ k lt old. grind (arith, numbers))
step_numbers net s (FctIn c) t h = by_channel net s t _ h.after (λ k lt old. grind (arith, numbers))
step_numbers net s (Arrive c) t h = by_channel net s t _ h.after (λ k lt old. grind (arith, numbers))
step_numbers net s (Grant d c) t h = by_channel net s t _ h.after (λ k lt old. grind (arith, numbers))
step_numbers net s (Drop c) t h = drop_numbers net s c h.switch h.first h.rest t h.front h.after
step_numbers net s (Forward c) t h = by_channel net s t _ h.after (λ k lt old. grind (arith, numbers))
step_numbers net s (Spill c) t h = by_channel net s t _ h.after (λ k lt old. grind (arith, numbers))
step_numbers net s (Begin f cargo end) t h = by_channel net s t _ h.after (λ k lt old. grind (arith, numbers))
step_numbers net s (Emit n) t h = by_channel net s t _ h.after (λ k lt old. grind (arith, numbers))
step_numbers net s (Accept n) t h = by_channel net s t _ h.after (λ k lt old. grind (arith, numbers))
step_numbers net s (Reply n) t h = by_channel net s t _ h.after (λ k lt old. grind (arith, numbers))

run_numbers : (net : Network) (steps : List Step) (s t : State) → Run net s steps t → HasCredit net s → HasCredit net t
run_numbers net [] s t r inv = subst (HasCredit net) (sym r) inv
run_numbers net (step ∷ steps) s t r inv = run_numbers net steps r.0 t r.2 (step_numbers net s step r.0 r.1 inv)

pub empty_credit : (net : Network) → IsNetwork net → HasCredit net (empty net)
empty_credit net ok = record { at = λ c lt. record { equation = refl; few = omega arith; fits = let room = ok.room c lt in omega arith } }

-- fact 1: in each reached state the numbers of each channel agree
pub reached_numbers : (net : Network) → IsNetwork net → (s : State) → IsReached net s → HasCredit net s
reached_numbers net ok s r = run_numbers net r.0 (empty net) s r.1 (empty_credit net ok)
