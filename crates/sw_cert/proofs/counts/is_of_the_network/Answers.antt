use Rattle.std.proofs.Common.{◌≡◌, length, sym, ap, ◌∙◌, arith}
use Rattle.sw_config.specs.Entries.{all_flows}
use Rattle.sw_flow.specs.Places.{ends_of}
use Rattle.sw_cert.specs.Refusals.{are_in_range}
use Rattle.sw_cert.proofs.Ranged.{in_range_end, in_range_next, in_range_not, not_as_many, other_count, same_count}
use Rattle.sw_cert.proofs.counts.is_of_the_network.Goals as goal

pub returns-then-numbers-channels : goal.returns-then-numbers-channels
returns-then-numbers-channels c =
    let d = c.args.network.now in
    let contents = c.args.certificate.now in
    sym (other_count (length contents.numbers) (length (ends_of d)) (are_in_range d (all_flows d) contents.places) (λ same. (let listed = ap length c.numbers-numbers.ensures.numbers in omega arith)))

pub returns-then-lists-flows : goal.returns-then-lists-flows
returns-then-lists-flows c =
    let d = c.args.network.now in
    let contents = c.args.certificate.now in
    let same : length contents.numbers ≡ length (ends_of d) = (let listed = ap length c.numbers-numbers.ensures.numbers in omega arith) in
    sym (same_count (length contents.numbers) (length (ends_of d)) (are_in_range d (all_flows d) contents.places) same ∙ not_as_many d (all_flows d) contents.places (λ as_many. omega arith))

pub returns-then-not-are_all_in_range : goal.returns-then-not-are_all_in_range
returns-then-not-are_all_in_range c =
    let d = c.args.network.now in
    let contents = c.args.certificate.now in
    let same : length contents.numbers ≡ length (ends_of d) = (let listed = ap length c.numbers-numbers.ensures.numbers in omega arith) in
    sym (in_range_not d c.loop-number.number (all_flows d) contents.places c.flow-entry.result.now c.places-listed.result.now c.flow-entry.ensures.flow c.places-listed.ensures.places (sym c.are_all_in_range.ensures ∙ c.if-not-are_all_in_range.true))
    ∙ c.loop-number.invariant
    ∙ sym (same_count (length contents.numbers) (length (ends_of d)) (are_in_range d (all_flows d) contents.places) same)

pub loop-number-preserved : goal.loop-number-preserved
loop-number-preserved c =
    in_range_next c.args.network.now c.loop-number.number (all_flows c.args.network.now) c.args.certificate.now.places c.flow-entry.result.now c.places-listed.result.now c.flow-entry.ensures.flow c.places-listed.ensures.places (sym c.are_all_in_range.ensures ∙ c.if-not-are_all_in_range.false)
    ∙ c.loop-number.invariant

pub returns : goal.returns
returns c =
    let d = c.args.network.now in
    let contents = c.args.certificate.now in
    let same : length contents.numbers ≡ length (ends_of d) = (let listed = ap length c.numbers-numbers.ensures.numbers in omega arith) in
    sym (in_range_end d c.loop-number.number (all_flows d) contents.places (omega arith) (omega arith))
    ∙ c.loop-number.invariant
    ∙ sym (same_count (length contents.numbers) (length (ends_of d)) (are_in_range d (all_flows d) contents.places) same)
