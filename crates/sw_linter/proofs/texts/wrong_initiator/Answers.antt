use Rattle.std.proofs.Common.{◌≡◌, ◌++◌, List, ℕ, rules, string_bytes, subst}
use Rattle.std.specs.Prelude.{IfOk, codes}
use Rattle.std.specs.Fmt.{decimal}
use Rattle.sw_output.specs.FlowTexts.{flow_name}
use Rattle.sw_linter.specs.EndNames.{start_name}
use Rattle.sw_linter.proofs.Words.{initiator_is}
use Rattle.sw_linter.proofs.texts.wrong_initiator.Goals as goal

pub returns : goal.returns
returns c =
    let d = c.args.network.now in
    let name : List ℕ = c.flow_name-name.result.now in
    let start : List ℕ = c.start_name-start.result.now in
    let written : IfOk c.format.result (λ s. string_bytes s ≡ codes "the initiator logical address " ++ (decimal c.args.initiator ++ (codes " of " ++ (name ++ (codes " is no known address of " ++ start))))) = search rules in
    subst (λ (l : List ℕ). IfOk c.format.result (λ s. string_bytes s ≡ l))
    (initiator_is (decimal c.args.initiator) name start (flow_name d c.args.flow) (start_name d c.args.flow) c.flow_name-name.ensures c.start_name-start.ensures)
    written
