use Rattle.std.proofs.Common.{take}
use Rattle.sw_config.specs.Entries.{all_flows}
use Rattle.sw_linter.specs.Marks.{AreNoted, no_places}
use Rattle.sw_linter.proofs.marks.Marks.note_all.Given as goal

abbrev pub invariant-loop-number : goal.invariant-loop-number
invariant-loop-number l = AreNoted l.network (take l.number (all_flows l.network)) (no_places l.network) l.self
