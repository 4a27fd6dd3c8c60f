use Rattle.std.proofs.Common.{◌<◌, ◌≤◌, ℕ, Some}
use Rattle.sw_margin.specs.FlowLimits.{IsFreeWith}
use Rattle.sw_margin.proofs.limits.greatest_limit.Given as goal

abbrev pub invariant-loop-most : goal.invariant-loop-most
invariant-loop-most g l = (l.own ≤ l.most) × ((n : ℕ) → l.own < n → n ≤ l.most → IsFreeWith l.network l.flow (Some n))
