use Rattle.std.proofs.Common.{◌≡◌, ◌-◌, ◌++◌, map, string_bytes}
use Rattle.std.specs.Prelude.{◌==◌}
use Rattle.sw_summary.specs.Texts.{first_status_lines}
use Rattle.sw_summary.proofs.Counted.{AreCounted}
use Rattle.sw_summary.proofs.status_lines.add_statuses.Given as goal

abbrev pub invariant-loop-number : goal.invariant-loop-number
invariant-loop-number l = string_bytes l.text ≡ string_bytes l.initial.text ++ first_status_lines (map (λ packets. packets.items) l.out) (l.number - 1)

abbrev pub invariant-loop-other : goal.invariant-loop-other
invariant-loop-other l = AreCounted (λ s. s == l.number) l.other-items l.other-index l.count
