use Rattle.std.proofs.Common.{take}
use Rattle.sw_margin.specs.Waits.{AreWith}
use Rattle.sw_margin.proofs.rows.add_waits.Given as goal

abbrev pub invariant-loop-wait : goal.invariant-loop-wait
invariant-loop-wait l = AreWith l.fn.rows (take l.wait-index l.waits) l.rows
