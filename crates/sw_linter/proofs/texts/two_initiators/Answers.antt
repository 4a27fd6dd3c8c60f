use Rattle.std.proofs.Common.{◌≡◌, ◌∙◌, rules}
use Rattle.std.specs.Fmt.{decimal}
use Rattle.std.proofs.lemmas.Result.{IfOk-weaker}
use Rattle.sw_linter.proofs.Words.{initiators_are}
use Rattle.sw_linter.proofs.texts.two_initiators.Goals as goal

pub returns : goal.returns
returns c =
    let one : c.as_str.result.now ≡ decimal c.args.initiators.0 = search rules in
    let other : c.as_str-2.result.now ≡ decimal c.args.initiators.1 = search rules in
    IfOk-weaker c.join.result _ _
    (λ s e. e ∙ initiators_are c.flow_name-earlier.result.now c.flow_name-name.result.now c.start_name-start.result.now c.end_name-end.result.now c.as_str.result.now c.as_str-2.result.now
    _ _ _ _ _ _ c.flow_name-earlier.ensures c.flow_name-name.ensures c.start_name-start.ensures c.end_name-end.ensures one other)
    c.join.ensures.ok
