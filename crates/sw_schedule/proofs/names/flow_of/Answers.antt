use Rattle.std.proofs.Common.{sym, ◌∙◌, arith}
use Rattle.sw_schedule.proofs.Named.{named_is, named_none, named_declared, named_reply}
use Rattle.std.proofs.lemmas.Str.{is_utf8-from_IsUtf8}
use Rattle.sw_schedule.proofs.Utf8.{no_name}
use Rattle.sw_schedule.proofs.names.flow_of.Goals as goal

pub returns-in-None : goal.returns-in-None
returns-in-None c =
    named_is c.args.network.now c.args.word.now c.in-Ok.name.now _ c.in-Ok.ensures.cases.0 (is_utf8-from_IsUtf8 c.args.word.now c.in-Ok.ensures.cases.1)
    (named_none c.args.network.now c.in-Ok.name.now (sym c.flow_named.ensures.number ∙ c.in-None.is))

pub returns-then-flow-declared_flows : goal.returns-then-flow-declared_flows
returns-then-flow-declared_flows c =
    named_is c.args.network.now c.args.word.now c.in-Ok.name.now _ c.in-Ok.ensures.cases.0 (is_utf8-from_IsUtf8 c.args.word.now c.in-Ok.ensures.cases.1)
    (named_declared c.args.network.now c.in-Ok.name.now c.in-Some.flow (sym c.flow_named.ensures.number ∙ c.in-Some.is) (omega (arith, c.if-flow-declared_flows.true, c.declared_flows.ensures.count)))

pub returns-else-flow-declared_flows : goal.returns-else-flow-declared_flows
returns-else-flow-declared_flows c =
    named_is c.args.network.now c.args.word.now c.in-Ok.name.now _ c.in-Ok.ensures.cases.0 (is_utf8-from_IsUtf8 c.args.word.now c.in-Ok.ensures.cases.1)
    (named_reply c.args.network.now c.in-Ok.name.now c.in-Some.flow (sym c.flow_named.ensures.number ∙ c.in-Some.is) (omega (arith, c.if-flow-declared_flows.false, c.declared_flows.ensures.count)))

pub returns-in_default : goal.returns-in_default
returns-in_default c = no_name _ c.args.word.now c.in_default.ensures.cases.0
