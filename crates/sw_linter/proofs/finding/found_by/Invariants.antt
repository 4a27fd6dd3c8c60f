use Rattle.std.proofs.Common.{◌≡◌, flat_map, take}
use Rattle.sw_linter.specs.Marks.{nodes_of, slip_lints}
use Rattle.sw_linter.proofs.KindsOfSlips.{kinds}
use Rattle.sw_linter.proofs.finding.found_by.Given as goal

abbrev pub invariant-loop-slip : goal.invariant-loop-slip
invariant-loop-slip l = l.lints.items ≡ flat_map (slip_lints l.network (nodes_of l.network) l.marks) (take l.slip-index kinds)
