use Rattle.std.proofs.Common.{[], length, ℕ, ◌≡◌}
use Rattle.sw_load.specs.Senders.{places_at}
use Rattle.sw_load.proofs.Sends.{IsFoundTo}
use Rattle.sw_load.proofs.senders.Senders.new.Given as goal

abbrev pub invariant-loop-place : goal.invariant-loop-place
invariant-loop-place l = IsFoundTo l.network l.load l.place l.places.items

abbrev pub invariant-loop : goal.invariant-loop
invariant-loop l = ((n : ℕ) → places_at l.places.items n ≡ []) × (length l.places.items ≡ l.counter)
