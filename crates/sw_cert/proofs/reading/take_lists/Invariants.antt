use Rattle.std.proofs.Common.{◌≡◌, ◌+◌, ◌-◌, ◌≤◌, drop, length}
use Rattle.sw_cert.specs.Parts.{read_rest}
use Rattle.sw_cert.specs.Reading.{state_of}
use Rattle.sw_cert.specs.Sound.{IsSound}
use Rattle.sw_cert.proofs.reading.take_lists.Given as goal

abbrev pub invariant-loop-lists : goal.invariant-loop-lists
invariant-loop-lists l = record {
  within : l.at ≤ length l.text;
  same : read_rest l.number (state_of l.draft) (drop l.at l.text) ≡ read_rest l.fn.number (state_of l.fn.draft) l.text;
  sound : IsSound (state_of l.draft);
  few : l.number + (length l.text - l.at) ≤ l.fn.number + length l.text;
}
