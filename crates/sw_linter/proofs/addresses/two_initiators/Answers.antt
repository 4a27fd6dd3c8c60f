use Rattle.std.proofs.Common.{◌≡◌, ◌∙◌, None, Some, arith, rules, sym}
use Rattle.std.specs.Prelude.{slice_get}
use Rattle.sw_config.specs.Entries.{reply_flows}
use Rattle.sw_topo.proofs.Lists.{in_front}
use Rattle.sw_linter.specs.Lints.{differing}
use Rattle.sw_linter.specs.declared.lint.Lint.TheVariants.{TwoInitiators}
use Rattle.sw_linter.proofs.Ranges.{first_here, none_made}
use Rattle.sw_linter.proofs.Initiators.{at_first, differs, of_reply}
use Rattle.sw_linter.proofs.addresses.two_initiators.Goals as goal

pub returns-in-Some : goal.returns-in-Some
returns-in-Some c =
    let d = c.args.network.now in
    let f = c.args.flow.now in
    let i = c.args.number in
    let j = c.loop-earlier.earlier in
    let initiator = c.initiator-initiator.result in
    let here : slice_get d.flows j ≡ Some c.flow.result.now = in_front d.flows (reply_flows d.flows) j _ (omega (arith, c.loop-earlier-test.true, c.requires)) c.flow.ensures.flow in
    first_here (differing d i f initiator) 0 i j (TwoInitiators j i c.in-Some.one initiator) c.loop-earlier-test.true c.loop-earlier.invariant (at_first d i f initiator j _ (differs d i f initiator j _ (Some c.in-Some.one) here (sym c.other_initiator.ensures ∙ c.in-Some.is)))
    ∙ sym (of_reply d i f c.in_ok-reply.field-0.now initiator (search rules) c.initiator-initiator.ensures)

pub loop-earlier-preserved : goal.loop-earlier-preserved
loop-earlier-preserved c =
    let d = c.args.network.now in
    let f = c.args.flow.now in
    let i = c.args.number in
    let j = c.loop-earlier.earlier in
    let initiator = c.initiator-initiator.result in
    let here : slice_get d.flows j ≡ Some c.flow.result.now = in_front d.flows (reply_flows d.flows) j _ (omega (arith, c.loop-earlier-test.true, c.requires)) c.flow.ensures.flow in
    none_made (differing d i f initiator) 0 j c.loop-earlier.invariant (at_first d i f initiator j _ (differs d i f initiator j _ None here (sym c.other_initiator.ensures ∙ c.in_default.is)))
