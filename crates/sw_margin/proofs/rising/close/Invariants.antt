use Rattle.sw_graph.specs.Levels.{Chain}
use Rattle.sw_margin.specs.Rising.{LeadsWith}
use Rattle.sw_margin.proofs.rising.close.Given as goal

abbrev pub invariant-loop-member : goal.invariant-loop-member
invariant-loop-member l = Chain (LeadsWith l.rows l.more) l.member-index l.first l.last
