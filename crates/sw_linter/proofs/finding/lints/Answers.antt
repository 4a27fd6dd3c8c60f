use Rattle.std.proofs.Common.{◌∙◌, arith}
use Rattle.std.proofs.lemmas.Result.{IfOk-weaker}
use Rattle.sw_linter.proofs.Telling.{no_flows_listed, some_flows_listed, told_with_flows, told_without_flows}
use Rattle.sw_linter.proofs.finding.lints.Goals as goal

pub returns-then-declared_flows-eq0 : goal.returns-then-declared_flows-eq0
returns-then-declared_flows-eq0 c =
    let d = c.args.network.now in
    told_without_flows d c.in_ok-vec.field-0.items (no_flows_listed d (omega (arith, c.if-declared_flows-eq0.true, c.declared_flows.ensures.count))) c.in_ok-vec.ensures.items

pub returns : goal.returns
returns c =
    let d = c.args.network.now in
    IfOk-weaker c.found_by-lints.result _ _
    (λ v told. told_with_flows d v.items c.flows-valid.ensures.valid (some_flows_listed d (λ e. c.if-declared_flows-eq0.false (c.declared_flows.ensures.count ∙ e))) (record { marks = c.in_ok-marks.marks; noted = c.in_ok-marks.ensures; told = told }))
    c.found_by-lints.ensures
