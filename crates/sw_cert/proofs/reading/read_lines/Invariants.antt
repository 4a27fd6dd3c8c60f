use Rattle.std.proofs.Common.{length}
use Rattle.sw_cert.specs.Parts.{IsRead}
use Rattle.sw_cert.specs.Reading.{state_of}
use Rattle.sw_cert.proofs.reading.read_lines.Given as goal

abbrev pub invariant-loop-line : goal.invariant-loop-line
invariant-loop-line l = IsRead l.first (state_of l.initial.draft) l.text l.number (state_of l.draft) l.rest

abbrev pub decreases-loop-line : goal.decreases-loop-line
decreases-loop-line l = length l.rest
