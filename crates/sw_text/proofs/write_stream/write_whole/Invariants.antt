use Rattle.std.proofs.Common.{◌≤◌, ◌-◌, take, length}
use Rattle.std.specs.Io.KnownBytes.{Appends}
use Rattle.sw_text.proofs.write_stream.write_whole.Given as goal

abbrev pub invariant-loop-written : goal.invariant-loop-written
invariant-loop-written g l = record {
  beginning : Appends (g.W.Write.contents l.fn.writer) (g.W.Write.contents l.writer) (take l.written l.text);
  within : l.written ≤ length l.text;
}

abbrev pub decreases-loop-written : goal.decreases-loop-written
decreases-loop-written g l = length l.text - l.written
