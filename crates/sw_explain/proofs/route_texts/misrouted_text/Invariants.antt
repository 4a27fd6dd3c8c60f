use Rattle.std.proofs.Common.{◌≡◌, ◌++◌, take, string_bytes}
use Rattle.sw_explain.specs.ExplainTexts.{misrouted_line, way_lines_from}
use Rattle.sw_explain.proofs.route_texts.misrouted_text.Given as goal

abbrev pub invariant-loop-before : goal.invariant-loop-before
invariant-loop-before l = string_bytes l.text ≡ misrouted_line l.network l.flow ++ way_lines_from l.network l.flow 0 (take l.before l.way)
