use Rattle.std.proofs.Common.{◌≡◌, ◌∙◌, ◌<◌, ℕ, All, List, Vec, Global, ap, arith, get_or, inl, inr, subst, sym}
use Rattle.sw_margin.specs.Rising.{number_at}
use Rattle.std.proofs.lemmas.Bool.{cases_lt}
use Rattle.sw_graph.specs.Rows.{Leads}
use Rattle.sw_margin.proofs.RisingNumbers.{along_row, leads_in}
use Rattle.sw_margin.proofs.rising.rise.Goals as goal

pub loop-member-preserved : goal.loop-member-preserved
loop-member-preserved c m d lt leads = elim (cases_lt m c.loop-member.member) [
  | inl before ↦ c.loop-member.invariant m d before leads
  | inr behind ↦
      let same : c.loop-member.member ≡ m = omega (arith, lt, behind) in
      let rows = c.args.rows.now in
      let number : ℕ → ℕ = λ i. number_at c.args.numbers.now i in
      let row : Vec ℕ Global = c.index-rows-from.result in
      let here : row ≡ get_or rows c.loop-member.member row = c.index-rows-from.is ∙ ap (λ i. get_or rows i row) c.from.ensures in
      let above : All (λ e. c.at.result < number e) c.deref.result.now = c.rise_to.ensures c.if-not-rise_to.false in
      let rise : All (λ e. number c.loop-member.member < number e) row.items =
      subst (λ n. All (λ e. n < number e) row.items) c.at.ensures (subst (λ (l : List ℕ). All (λ e. c.at.result < number e) l) c.deref.ensures.value above) in
      subst (λ i. number i < number d) same (along_row number rows c.loop-member.member row (omega (arith, c.loop-member-test.true, c.loop-member.auto.member-end)) here rise d (subst (λ i. Leads rows i d) (sym same) leads))
]

pub returns : goal.returns
returns c is m d leads = c.loop-member.invariant m d (omega (arith, leads_in c.args.rows.now m d leads, c.loop-member-test.false)) leads
