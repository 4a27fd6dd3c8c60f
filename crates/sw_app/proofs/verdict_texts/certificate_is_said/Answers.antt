use Rattle.std.proofs.Common.{◌≤◌, length, arith, refl}
use Rattle.std.specs.List.{AllByRecursion}
use Rattle.sw_cert.specs.Grammar.{spelling}
use Rattle.sw_config.specs.Entries.{all_flows}
use Rattle.sw_flow.specs.Places.{ends_of}
use Rattle.sw_app.proofs.ShownFree.{has_text}
use Rattle.sw_app.proofs.verdict_texts.certificate_is_said.Goals as goal

pub returns-in-Free : goal.returns-in-Free
returns-in-Free c =
    let d = c.args.network.now in
    let contents = c.in-Free.certificate in
    let few : length (ends_of d) ≤ 2048 = omega (arith, c.channels-channels.ensures.ends, c.channels-channels.ensures.few) in
    let flows : length (all_flows d) ≤ 8192 = omega (arith, c.flows-flows.ensures.count, c.flows-flows.ensures.few) in
    let fit : AllByRecursion (λ v. v ≤ 65535) contents.numbers = rw (← c.numbers.ensures.numbers) c.have_text.ensures in
    rw c.in-Free.is ((c.one_text.ensures (spelling contents.numbers contents.places) contents).1
    (refl, has_text d contents c.topology-topology.ensures.valid few flows fit (rw c.in-Free.is at c.requires)))
