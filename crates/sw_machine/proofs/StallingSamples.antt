-- Two targets at the ends of one link lock up where both stall.
use Rattle.std.proofs.Common.{Bool, List, Some, [], ap, arith, eqb-true, length, nat_eq, refl, true, ◌<◌, ◌∷◌, ◌≡◌}
use Rattle.std.proofs.lemmas.Bool.{and_from, and_parts, false≢true}
use Rattle.std.proofs.lemmas.List.{nil_from_length}
use Rattle.std.specs.Prelude.{◌&&◌}
use Rattle.sw_machine.proofs.Cuts.{cut_of}
use Rattle.sw_machine.proofs.Kept.{locks_up_under}
use Rattle.sw_machine.proofs.LimitSamples.{duel_is_network}
use Rattle.sw_machine.proofs.Sample.{both_of}
use Rattle.sw_machine.specs.Certificate.{number}
use Rattle.sw_machine.specs.LimitSamples.{duel}
use Rattle.sw_machine.specs.Network.{Network}
use Rattle.sw_machine.specs.Sample.{certificate, sample}
use Rattle.sw_machine.specs.Stalling.{RisesWhereStalling, RunUnder, StallingGuard}
use Rattle.sw_machine.specs.StallingSamples.{LocksUpUnder, standoff_steps}
use Rattle.sw_machine.specs.State.{State, empty}
use Rattle.sw_machine.specs.Steps.{Accept, Arrive, Begin, Drop, Emit, Fct, FctIn, Forward, Grant, Reply, Spill, Step}

-- whether the step meets the guard where all nodes stall
abbrev is_met : State → Step → Bool
is_met s (Accept n) = nat_eq (length (s.to_send n)) 0 && nat_eq (length (s.pending n)) 0
is_met s step = true

meets : (s : State) (step : Step) → is_met s step ≡ true → StallingGuard (λ n. true) s step
meets s (Fct c) e = tt
meets s (FctIn c) e = tt
meets s (Arrive c) e = tt
meets s (Grant d c) e = tt
meets s (Drop c) e = tt
meets s (Forward c) e = tt
meets s (Spill c) e = tt
meets s (Begin f cargo end) e = tt
meets s (Emit n) e = tt
meets s (Accept n) e =
    let both = and_parts (nat_eq (length (s.to_send n)) 0) (nat_eq (length (s.pending n)) 0) e in
    λ stalling. record { sends_nothing = nil_from_length (s.to_send n) (eqb-true (length (s.to_send n)) 0 both.0); none_pending = nil_from_length (s.pending n) (eqb-true (length (s.pending n)) 0 both.1) }
meets s (Reply n) e = tt

met : (s : State) (step : Step) → StallingGuard (λ n. true) s step → is_met s step ≡ true
met s (Fct c) m = refl
met s (FctIn c) m = refl
met s (Arrive c) m = refl
met s (Grant d c) m = refl
met s (Drop c) m = refl
met s (Forward c) m = refl
met s (Spill c) m = refl
met s (Begin f cargo end) m = refl
met s (Emit n) m = refl
met s (Accept n) m =
    let nothing = m refl in
    and_from (nat_eq (length (s.to_send n)) 0) (nat_eq (length (s.pending n)) 0) (ap (λ l. nat_eq (length l) 0) nothing.sends_nothing) (ap (λ l. nat_eq (length l) 0) nothing.none_pending)
met s (Reply n) m = refl

run_meets : (net : Network) (s : State) (steps : List Step) (t : State) → RunUnder (λ s step. is_met s step ≡ true) net s steps t → RunUnder (StallingGuard (λ n. true)) net s steps t
run_meets net s [] t r = r
run_meets net s (step ∷ steps) t r = (r.0, meets s step r.1, r.2, run_meets net r.0 steps t r.3)

-- the target of the sample network alone stalls
pub target_rises : RisesWhereStalling sample (nat_eq 1) (number certificate)
target_rises = both_of (λ n. nat_eq 1 n ≡ true → number certificate (sample.into n) < number certificate (sample.out n)) (λ stalling. absurd (false≢true stalling)) (λ stalling. omega arith)

pub standoff_locks_up : LocksUpUnder (StallingGuard (λ n. true)) (duel 2 (Some 1)) standoff_steps
unfolding cut_of
standoff_locks_up =
    let l = locks_up_under (duel 2 (Some 1)) is_met (duel_is_network 2 (Some 1) (omega arith)) standoff_steps refl in
    record {
      s = l.s;
      run = run_meets (duel 2 (Some 1)) (empty (duel 2 (Some 1))) standoff_steps l.s l.run;
      keeps = l.keeps;
      locked = record { quiet = λ step none m p. l.locked.quiet step none (met l.s step m) p; holds = l.locked.holds };
    }
