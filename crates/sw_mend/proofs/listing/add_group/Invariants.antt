use Rattle.std.proofs.Common.{◌≡◌, ◌++◌, ℕ, map}
use Rattle.sw_topo.specs.Ports.{ports_of}
use Rattle.sw_mend.specs.declared.change.Change.TheVariants.{WithoutPort}
use Rattle.sw_mend.proofs.listing.add_group.Given as goal

abbrev pub invariant-loop-port : goal.invariant-loop-port
invariant-loop-port l =
    l.changes.items ++ map (λ (port : ℕ). WithoutPort l.switch l.entry port) (ports_of l.port-iterator)
    ≡ l.initial.changes.items ++ map (λ (port : ℕ). WithoutPort l.switch l.entry port) (ports_of l.initial.port-iterator)
