use Rattle.std.proofs.Common.{ℕ, ◌<◌}
use Rattle.sw_margin.specs.Rising.{number_at}
use Rattle.sw_graph.specs.Rows.{Leads}
use Rattle.sw_margin.proofs.rising.rise.Given as goal

abbrev pub invariant-loop-member : goal.invariant-loop-member
invariant-loop-member l = (c d : ℕ) → c < l.member → Leads l.rows c d → number_at l.numbers c < number_at l.numbers d
