use Rattle.std.proofs.Common.{◌≡◌, ◌∙◌, None, Some, ap, false, sym, true}
use Rattle.std.proofs.lemmas.List.{drop_all}
use Rattle.sw_config.specs.Entries.{all_flows}
use Rattle.sw_flow.specs.Places.{flow_start}
use Rattle.sw_cert.specs.declared.refusal.Refusal.TheVariants.{NoStart}
use Rattle.sw_cert.specs.Refusals.{first_refusal, is_listed, refusal_of_flow, refusal_of_place}
use Rattle.sw_cert.proofs.Firsts.{at_here, started, unstarted}
use Rattle.sw_cert.proofs.Lists.{one_refused}
use Rattle.sw_cert.proofs.closed.closed_refusal.Goals as goal

pub returns-then-not-is_listed : goal.returns-then-not-is_listed
returns-then-not-is_listed c =
    let d = c.args.network.now in
    let n = c.args.number in
    let flow = c.flow-flow in
    let listed = c.places-listed in
    let f = flow.result.now in
    let ps = listed.result.now in
    let test : is_listed ps (flow_start d f) ≡ false = ap (is_listed ps) (sym c.flow_start.ensures.place) ∙ sym c.is_listed.ensures ∙ c.if-not-is_listed.true in
    sym (at_here (refusal_of_flow d) (all_flows d) c.args.certificate.now.places n f ps flow.ensures.flow listed.ensures.places
    ∙ unstarted (is_listed ps (flow_start d f)) (NoStart n) (first_refusal (refusal_of_place d n f ps) ps) test)

pub loop-place-preserved : goal.loop-place-preserved
loop-place-preserved c =
    let ps = c.places-listed.result.now in
    sym (one_refused (refusal_of_place c.args.network.now c.args.number c.flow-flow.result.now ps) ps c.loop-place.place-index c.place-item.result None c.loop-place-test.true c.place-item.is (sym c.in_default.is ∙ c.refusal_of_place.ensures))
    ∙ c.loop-place.invariant

pub returns-in-Some : goal.returns-in-Some
returns-in-Some c =
    let d = c.args.network.now in
    let n = c.args.number in
    let flow = c.flow-flow in
    let listed = c.places-listed in
    let f = flow.result.now in
    let ps = listed.result.now in
    let test : is_listed ps (flow_start d f) ≡ true = ap (is_listed ps) (sym c.flow_start.ensures.place) ∙ sym c.is_listed.ensures ∙ c.if-not-is_listed.false in
    sym (one_refused (refusal_of_place d n f ps) ps c.loop-place.place-index c.place-item.result (Some c.in-Some.refusal) c.loop-place-test.true c.place-item.is (sym c.in-Some.is ∙ c.refusal_of_place.ensures))
    ∙ c.loop-place.invariant
    ∙ sym (at_here (refusal_of_flow d) (all_flows d) c.args.certificate.now.places n f ps flow.ensures.flow listed.ensures.places
    ∙ started (is_listed ps (flow_start d f)) (NoStart n) (first_refusal (refusal_of_place d n f ps) ps) test)

pub returns : goal.returns
returns c =
    let d = c.args.network.now in
    let n = c.args.number in
    let flow = c.flow-flow in
    let listed = c.places-listed in
    let f = flow.result.now in
    let ps = listed.result.now in
    let test : is_listed ps (flow_start d f) ≡ true = ap (is_listed ps) (sym c.flow_start.ensures.place) ∙ sym c.is_listed.ensures ∙ c.if-not-is_listed.false in
    sym (ap (first_refusal (refusal_of_place d n f ps)) (drop_all c.loop-place.place-index ps c.loop-place-test.false))
    ∙ c.loop-place.invariant
    ∙ sym (at_here (refusal_of_flow d) (all_flows d) c.args.certificate.now.places n f ps flow.ensures.flow listed.ensures.places
    ∙ started (is_listed ps (flow_start d f)) (NoStart n) (first_refusal (refusal_of_place d n f ps) ps) test)
