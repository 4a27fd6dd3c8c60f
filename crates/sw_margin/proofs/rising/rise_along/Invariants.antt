use Rattle.std.proofs.Common.{ℕ, ◌<◌, get_or}
use Rattle.sw_margin.specs.Rising.{number_at}
use Rattle.sw_margin.proofs.rising.rise_along.Given as goal

abbrev pub invariant-loop-step : goal.invariant-loop-step
invariant-loop-step l = (k : ℕ) → k < l.step-index → number_at l.numbers (get_or l.more k (0, 0)).0 < number_at l.numbers (get_or l.more k (0, 0)).1
