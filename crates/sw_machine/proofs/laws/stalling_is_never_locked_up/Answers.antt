use Rattle.sw_machine.proofs.laws.stalling_is_never_locked_up.Goals as goal
use Rattle.sw_machine.proofs.Stalling.{always_goes_on, never_locked_up, quiet_is_empty}

pub returns : goal.returns
returns c = record {
  goes_on = λ net cert stalls ok acc rises. always_goes_on net cert stalls ok acc rises;
  never = λ net cert stalls ok acc rises. never_locked_up net cert stalls ok acc rises;
  quiet = λ net cert stalls ok acc rises. quiet_is_empty net cert stalls ok acc rises;
}
