use Rattle.std.proofs.Common.{◌<◌, ◌≤◌, ◌∙◌, None, Some, length, sym, arith}
use Rattle.sw_config.specs.Entries.{all_flows}
use Rattle.sw_cert.specs.Refusals.{not_rising_along}
use Rattle.sw_cert.proofs.Firsts.{all_passed, one_passed}
use Rattle.sw_cert.proofs.parallel.OneByOneCheckWorkers.not_rising_along_flows.Goals as goal

pub returns-in-Some : goal.returns-in-Some
returns-in-Some c =
    let d = c.args.network.now in
    let n = c.loop-number.number in
    let within : n < length (all_flows d) = omega (arith, c.loop-number-test.true, c.flows-number-end.ensures.count) in
    sym (c.loop-number.invariant ∙ one_passed (not_rising_along d c.args.certificate.now.numbers) (all_flows d) c.args.certificate.now.places n (Some c.in-Some.refusal) within c.requires.lists (sym c.in-Some.is ∙ c.rising_refusal.ensures))

pub loop-number-preserved : goal.loop-number-preserved
loop-number-preserved c =
    let d = c.args.network.now in
    let n = c.loop-number.number in
    let within : n < length (all_flows d) = omega (arith, c.loop-number-test.true, c.flows-number-end.ensures.count) in
    c.loop-number.invariant ∙ one_passed (not_rising_along d c.args.certificate.now.numbers) (all_flows d) c.args.certificate.now.places n None within c.requires.lists (sym c.in_default.is ∙ c.rising_refusal.ensures)

pub returns : goal.returns
returns c =
    let d = c.args.network.now in
    let n = c.loop-number.number in
    let past : length (all_flows d) ≤ n = omega (arith, c.loop-number-test.false, c.flows-number-end.ensures.count) in
    sym (c.loop-number.invariant ∙ all_passed (not_rising_along d c.args.certificate.now.numbers) (all_flows d) c.args.certificate.now.places n past)
