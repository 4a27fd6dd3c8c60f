use Rattle.std.proofs.Common.{◌∙◌, ℕ, List, None, Some, ap, sym}
use Rattle.std.proofs.lemmas.List.{drop_all}
use Rattle.sw_config.specs.Entries.{all_flows}
use Rattle.sw_cert.specs.Refusals.{first_refusal, not_rising_along, not_rising_from}
use Rattle.sw_cert.proofs.Firsts.{at_here}
use Rattle.sw_cert.proofs.Lists.{one_refused}
use Rattle.sw_cert.proofs.rising.rising_refusal.Goals as goal

pub loop-place-preserved : goal.loop-place-preserved
loop-place-preserved c =
    let d = c.args.network.now in
    let numbers = c.args.certificate.now.numbers in
    let f = c.flow-flow.result.now in
    let ps = c.places-place-items.result.now in
    let p = c.place-item.result in
    let told = sym c.in_default.is ∙ c.not_rising_from.ensures ∙ ap (λ (l : List ℕ). not_rising_from d l f p) c.numbers-numbers.ensures.numbers in
    sym (one_refused (not_rising_from d numbers f) ps c.loop-place.place-index p None c.loop-place-test.true c.place-item.is told) ∙ c.loop-place.invariant

pub returns-in-Some : goal.returns-in-Some
returns-in-Some c =
    let d = c.args.network.now in
    let numbers = c.args.certificate.now.numbers in
    let flow = c.flow-flow in
    let f = flow.result.now in
    let listed = c.places-place-items in
    let ps = listed.result.now in
    let p = c.place-item.result in
    let told = sym c.in-Some.is ∙ c.not_rising_from.ensures ∙ ap (λ (l : List ℕ). not_rising_from d l f p) c.numbers-numbers.ensures.numbers in
    sym (one_refused (not_rising_from d numbers f) ps c.loop-place.place-index p (Some c.in-Some.refusal) c.loop-place-test.true c.place-item.is told)
    ∙ c.loop-place.invariant
    ∙ sym (at_here (not_rising_along d numbers) (all_flows d) c.args.certificate.now.places c.args.number f ps flow.ensures.flow listed.ensures.places)

pub returns : goal.returns
returns c =
    let d = c.args.network.now in
    let numbers = c.args.certificate.now.numbers in
    let flow = c.flow-flow in
    let f = flow.result.now in
    let listed = c.places-place-items in
    let ps = listed.result.now in
    sym (ap (first_refusal (not_rising_from d numbers f)) (drop_all c.loop-place.place-index ps c.loop-place-test.false))
    ∙ c.loop-place.invariant
    ∙ sym (at_here (not_rising_along d numbers) (all_flows d) c.args.certificate.now.places c.args.number f ps flow.ensures.flow listed.ensures.places)
