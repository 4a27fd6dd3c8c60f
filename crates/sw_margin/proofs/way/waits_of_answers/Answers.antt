use Rattle.std.proofs.Common.{◌≡◌, ℕ, List, [], ◌∷◌, ◌++◌, length, All, sym, ap, ap₂, ◌∙◌, subst}
use Rattle.sw_flow.specs.Places.{ends_of}
use Rattle.sw_margin.specs.Bends.{answering}
use Rattle.sw_margin.specs.Waits.{IsWithin}
use Rattle.sw_margin.proofs.Ways.{answering_within}
use Rattle.sw_margin.proofs.way.waits_of_answers.Goals as goal

pub returns-clause-within : goal.returns-clause-within
returns-clause-within c =
    let d = c.args.network.now in
    let f = c.args.flow.now in
    let is : c.push.new.self.items ≡ answering d f =
    c.in_ok-push.ensures.items ∙ ap₂ (λ (a b : ℕ). c.add_waits_back.new.waits.items ++ (a, b) ∷ []) c.number.ensures (c.number-2.ensures ∙ c.partner.ensures) ∙ c.in_ok-last.ensures
    ∙ ap (λ (l : List (ℕ × ℕ)). l ++ answering d f) c.new-waits.ensures.items in
    subst (λ (l : List (ℕ × ℕ)). All (IsWithin (length (ends_of d))) l) (sym is) (answering_within d f)
