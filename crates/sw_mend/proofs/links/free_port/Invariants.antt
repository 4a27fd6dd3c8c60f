use Rattle.std.proofs.Common.{◌≡◌, None}
use Rattle.sw_topo.specs.Checked.{first_below}
use Rattle.sw_mend.specs.Splits.{is_free_port}
use Rattle.sw_mend.proofs.links.free_port.Given as goal

abbrev pub invariant-loop-number : goal.invariant-loop-number
invariant-loop-number l = first_below (is_free_port l.topology.ends l.switch) l.number ≡ None
