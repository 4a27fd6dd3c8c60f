use Rattle.std.proofs.Common.{◌≡◌, ◌∙◌, ◌<◌, All, List, subst, sym, ℕ}
use Rattle.sw_margin.specs.Rising.{number_at}
use Rattle.sw_margin.proofs.RisingNumbers.{told_by_numbers}
use Rattle.sw_margin.proofs.rising.told_by.Goals as goal

pub returns-then-rise_along : goal.returns-then-rise_along
returns-then-rise_along c =
    let more = c.args.more.now in
    let same : c.deref-then-rise.result.now ≡ c.deref.result.now = c.deref-then-rise.ensures.value ∙ sym c.deref.ensures.value in
    let along = subst (λ (numbers : List ℕ). All (λ step. number_at numbers step.0 < number_at numbers step.1) more) same (c.rise_along.ensures c.if-rise_along.true) in
    told_by_numbers (number_at c.deref.result.now) c.args.rows.now more (c.rise.ensures c.if-rise.true) along
