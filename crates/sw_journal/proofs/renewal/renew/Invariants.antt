use Rattle.std.proofs.Common.{None, Some, map, ℕ, ◌≡◌}
use Rattle.sw_journal.proofs.Renewed.{first_renewed, with_ends}
use Rattle.sw_journal.proofs.renewal.renew.Given as goal
use Rattle.sw_machine.specs.State.{State}
use Rattle.sw_machine.specs.Model.{network_of}
use Rattle.sw_net.specs.Net.{IsNetState}
use Rattle.sw_net.specs.declared.numbers.Numbers.{Numbers}

abbrev pub invariant-loop-place : goal.invariant-loop-place
invariant-loop-place l = record {
  numbers : (s : State) → IsNetState l.net s → l.ends.items ≡ first_renewed (Some l.own, None) (network_of l.net.declared) s l.place l.fn.ends.items;
  names : map (λ (p : ℕ × Numbers). p.0) l.ends.items ≡ map (λ (p : ℕ × Numbers). p.0) l.fn.ends.items;
  table : l.seat.table_id ≡ l.fn.seat.table_id;
  seat : l.seat.me ≡ with_ends l.fn.seat.me l.ends.items;
}
