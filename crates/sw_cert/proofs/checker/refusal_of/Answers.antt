use Rattle.std.proofs.Common.{◌≡◌, ◌==◌, ℕ, List, true, length, ap, sym, ◌∙◌}
use Rattle.sw_config.specs.Entries.{Declaration, all_flows}
use Rattle.sw_flow.specs.Places.{ends_of}
use Rattle.sw_cert.specs.Text.{Contents}
use Rattle.sw_cert.specs.Refusals.{are_in_range, is_of_the_network, not_rising_at_targets}
use Rattle.sw_cert.proofs.Reasons.{other_network, by_flows, by_numbers, by_targets}
use Rattle.sw_cert.proofs.Ranged.{as_many}
use Rattle.sw_cert.proofs.checker.refusal_of.Goals as goal
use Rattle.std.proofs.lemmas.Bool.{and_parts}

of_as_many : (d : Declaration) (c : Contents) → is_of_the_network d c ≡ true → length c.places ≡ length (all_flows d)
of_as_many d c is = as_many d (all_flows d) c.places (and_parts (length c.numbers == length (ends_of d)) (are_in_range d (all_flows d) c.places) is).1

pub returns-then-not-is_of_the_network : goal.returns-then-not-is_of_the_network
returns-then-not-is_of_the_network g c = other_network c.args.network.now c.args.certificate.now (sym c.is_of_the_network.ensures ∙ c.if-not-is_of_the_network.true)

pub refusal_of_flows-closed-requires-clause-lists : goal.refusal_of_flows-closed-requires-clause-lists
refusal_of_flows-closed-requires-clause-lists g c = of_as_many c.args.network.now c.args.certificate.now (sym c.is_of_the_network.ensures ∙ c.if-not-is_of_the_network.false)

pub not_rising_along_flows-rising-requires-clause-lists : goal.not_rising_along_flows-rising-requires-clause-lists
not_rising_along_flows-rising-requires-clause-lists g c = of_as_many c.args.network.now c.args.certificate.now (sym c.is_of_the_network.ensures ∙ c.if-not-is_of_the_network.false)

pub returns-then-is_some : goal.returns-then-is_some
returns-then-is_some g c =
    by_flows c.args.network.now c.args.certificate.now (sym c.is_of_the_network.ensures ∙ c.if-not-is_of_the_network.false) c.refusal_of_flows-closed.result c.refusal_of_flows-closed.ensures (sym c.is_some.ensures ∙ c.if-is_some.true)

pub returns-then-is_some-2 : goal.returns-then-is_some-2
returns-then-is_some-2 g c =
    by_numbers c.args.network.now c.args.certificate.now (sym c.is_of_the_network.ensures ∙ c.if-not-is_of_the_network.false) c.refusal_of_flows-closed.result c.refusal_of_flows-closed.ensures (sym c.is_some.ensures ∙ c.if-is_some.false)
    c.not_rising_along_flows-rising.result c.not_rising_along_flows-rising.ensures (sym c.is_some-2.ensures ∙ c.if-is_some-2.true)

pub returns : goal.returns
returns g c =
    by_targets c.args.network.now c.args.certificate.now (sym c.is_of_the_network.ensures ∙ c.if-not-is_of_the_network.false) c.refusal_of_flows-closed.result c.refusal_of_flows-closed.ensures (sym c.is_some.ensures ∙ c.if-is_some.false)
    c.not_rising_along_flows-rising.result c.not_rising_along_flows-rising.ensures (sym c.is_some-2.ensures ∙ c.if-is_some-2.false)
    c.not_rising_at_targets.result (c.not_rising_at_targets.ensures ∙ ap (λ (numbers : List ℕ). not_rising_at_targets c.args.network.now numbers) c.numbers.ensures.numbers)
