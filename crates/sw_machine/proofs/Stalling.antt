-- Runs under a guard are runs, and where the numbers rise at the nodes that stall too, no state that is reached under their guard is locked up.
use Rattle.std.proofs.Common.{Bool, List, [], arith, false, ℕ, ⊎_elim, ◌<◌, ◌∷◌}
use Rattle.std.proofs.lemmas.Bool.{cases_lt, false≢true}
use Rattle.sw_machine.proofs.Credit.{reached_numbers}
use Rattle.sw_machine.proofs.Limits.{have_slots}
use Rattle.sw_machine.proofs.Progress.{goes_on_stalling}
use Rattle.sw_machine.proofs.Runs.{reached_inv}
use Rattle.sw_machine.specs.Certificate.{Certificate, IsAccepted, number}
use Rattle.sw_machine.specs.Network.{IsNetwork, Network}
use Rattle.sw_machine.specs.Runs.{Run, undelivered}
use Rattle.sw_machine.specs.Stalling.{AlwaysGoesOnUnder, Guard, IsNeverLockedUpUnder, NoneStallingIsTheMachine, QuietIsEmptyUnder, RisesWhereStalling, RunUnder, RunsUnderAreRuns, StallingGuard}
use Rattle.sw_machine.specs.State.{State, empty}
use Rattle.sw_machine.specs.Steps.{Accept, Arrive, Begin, Drop, Emit, Fct, FctIn, Forward, Grant, Reply, Spill, Step}

pub runs_under_are_runs : (guard : Guard) → RunsUnderAreRuns guard
runs_under_are_runs guard net s [] t r = r
runs_under_are_runs guard net s (step ∷ steps) t r = (r.0, r.2, runs_under_are_runs guard net r.0 steps t r.3)

-- where no node stalls, each step meets the guard
meets : (s : State) (step : Step) → StallingGuard (λ n. false) s step
meets s (Fct c) = tt
meets s (FctIn c) = tt
meets s (Arrive c) = tt
meets s (Grant d c) = tt
meets s (Drop c) = tt
meets s (Forward c) = tt
meets s (Spill c) = tt
meets s (Begin f cargo end) = tt
meets s (Emit n) = tt
meets s (Accept n) = λ stalling. absurd (false≢true stalling)
meets s (Reply n) = tt

under : (net : Network) (s : State) (steps : List Step) (t : State) → Run net s steps t → RunUnder (StallingGuard (λ n. false)) net s steps t
under net s [] t r = r
under net s (step ∷ steps) t r = (r.0, meets s step, r.1, under net r.0 steps t r.2)

pub none_stalling_is_the_machine : NoneStallingIsTheMachine
none_stalling_is_the_machine net s steps t = (runs_under_are_runs (StallingGuard (λ n. false)) net s steps t, under net s steps t)

module _ (net : Network) (cert : Certificate) (stalls : ℕ → Bool) (ok : IsNetwork net) (acc : IsAccepted net cert) (rises : RisesWhereStalling net stalls (number cert)) where
  pub always_goes_on : AlwaysGoesOnUnder (StallingGuard stalls) net
  always_goes_on s r some =
      let run = runs_under_are_runs (StallingGuard stalls) net (empty net) r.0 s r.1 in
      let k = reached_inv net cert ok acc s (r.0, run) in
      goes_on_stalling net cert s k.0 ok acc (reached_numbers net ok s (r.0, run)) k.1 (have_slots net cert ok acc r.0 s run r.2) stalls rises some

  pub never_locked_up : IsNeverLockedUpUnder (StallingGuard stalls) net
  never_locked_up s r locked = let go = always_goes_on s r locked.holds in locked.quiet go.step go.no_begin go.meets go.possible

  pub quiet_is_empty : QuietIsEmptyUnder (StallingGuard stalls) net
  quiet_is_empty s r quiet = ⊎_elim
      (λ some. let go = always_goes_on s r some in absurd (quiet go.step go.no_begin go.meets go.possible))
      (λ none. omega arith)
      (cases_lt 0 (undelivered net s))
