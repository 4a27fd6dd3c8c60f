use Rattle.std.proofs.Common.{◌≡◌, ◌↔◌, All, None, take}
use Rattle.std.specs.Prelude.{IsTrue}
use Rattle.sw_flow.specs.Faults.{fault_of}
use Rattle.sw_cycle.specs.Named.{AreAdded}
use Rattle.sw_cycle.proofs.named.add_places.Given as goal

abbrev pub invariant-loop-place : goal.invariant-loop-place
invariant-loop-place l =
    AreAdded l.network l.flow (take l.place-index l.places) l.fn.sets l.sets
    × (IsTrue l.all ↔ All (λ p. fault_of l.network l.flow p.channel p.deleted ≡ None) (take l.place-index l.places))
