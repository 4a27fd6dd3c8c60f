use Rattle.std.proofs.Common.{◌≡◌, ◌<◌, arith, get_or, inl, inr, subst}
use Rattle.sw_margin.specs.Rising.{number_at}
use Rattle.std.proofs.lemmas.Bool.{cases_lt}
use Rattle.std.proofs.lemmas.List.{get_or_default}
use Rattle.sw_margin.proofs.rising.rise_to.Goals as goal

pub loop-member-preserved : goal.loop-member-preserved
loop-member-preserved c k lt = elim (cases_lt k c.loop-member.member-index) [
  | inl before ↦ c.loop-member.invariant k before
  | inr behind ↦
      let same : c.loop-member.member-index ≡ k = omega (arith, lt, behind) in
      let here : c.args.from < c.at.result = omega (arith, c.if-from-at.false) in
      subst (λ i. c.args.from < number_at c.args.numbers.now (get_or c.args.members.now i 0)) same (subst (λ n. c.args.from < n) c.at.ensures here)
]

pub returns : goal.returns
returns c is k d lt =
    let all : k < c.loop-member.member-index = omega (arith, lt, c.loop-member-test.false) in
    subst (λ e. c.args.from < number_at c.args.numbers.now e) (get_or_default c.args.members.now k 0 d lt) (c.loop-member.invariant k all)
