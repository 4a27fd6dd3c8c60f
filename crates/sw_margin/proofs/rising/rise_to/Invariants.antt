use Rattle.std.proofs.Common.{ℕ, ◌<◌, get_or}
use Rattle.sw_margin.specs.Rising.{number_at}
use Rattle.sw_margin.proofs.rising.rise_to.Given as goal

abbrev pub invariant-loop-member : goal.invariant-loop-member
invariant-loop-member l = (k : ℕ) → k < l.member-index → l.from < number_at l.numbers (get_or l.members k 0)
