-- Where steps end in a lock-up of a network's cells.
use Rattle.std.proofs.Common.{◌≡◌, Bool, List, [], None, Option, Some, false, subst, sym, true}
use Rattle.sw_config.specs.Entries.{Declaration}
use Rattle.sw_machine.specs.Runs.{IsLockedUp}
use Rattle.sw_machine.specs.State.{empty}
use Rattle.sw_machine.specs.Steps.{Step}
use Rattle.sw_machine.specs.Model.{network_of}
use Rattle.sw_net.specs.Net.{NetView}
use Rattle.sw_net.specs.declared.part.Part.{Part}
use Rattle.sw_schedule.specs.Locked.{ArePartsOf, TellsLocked, TellsLockedAt, TellsLockedParts}
use Rattle.sw_schedule.specs.Nets.{EndsFromEmpty, TellsLockedUp}
use Rattle.sw_schedule.specs.Replays.{Ends}
use Rattle.sw_schedule.specs.declared.replayed.ReplayEnd.{ReplayEnd}
use Rattle.sw_schedule.specs.declared.replayed.ReplayEnd.TheVariants.{Made, Refused}

-- what is told at the end of steps that begin in the empty state
module _ {R A : Type 0} (d : Declaration) (w : NetView R A) (steps : List Step) (same : w.declared ≡ d) where
  pub told_at : (o : ReplayEnd) (parts : Option (List Part)) → EndsFromEmpty d steps o w → TellsLockedAt w o parts → TellsLocked d steps parts
  told_at (Made count) (Some parts) end told =
      let all = subst (λ n. Ends (network_of d) [] (empty (network_of d)) steps (Made n) end.0) (end.1).0 end.1 in
      let here = told end.0 end.2 in (
        end.0,
        all,
        subst (λ (e : Declaration). IsLockedUp (network_of e) end.0) same here.0,
        subst (λ (e : Declaration). ArePartsOf e end.0 parts) same here.1,
      )
  told_at (Made count) None end told =
      (end.0, Made count, end.1, λ made locked. told end.0 end.2 (subst (λ (e : Declaration). IsLockedUp (network_of e) end.0) (sym same) locked))
  told_at (Refused number refusal) (Some parts) end told = absurd cc
  told_at (Refused number refusal) None end told = (end.0, Refused number refusal, end.1, λ made locked. absurd cc)

-- what is told of a network that is not locked up
pub not_locked : {R A : Type 0} (w : NetView R A) (told : Bool) → told ≡ false → TellsLockedUp w told → TellsLockedParts w None
not_locked w true is tells = absurd cc
not_locked w false is tells = λ s at locked. (let told = (tells s at).1 locked in absurd cc)
