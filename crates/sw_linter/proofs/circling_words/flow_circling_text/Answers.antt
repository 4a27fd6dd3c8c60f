use Rattle.std.proofs.Common.{subst}
use Rattle.std.specs.Prelude.{IfSome}
use Rattle.sw_circles.proofs.Lawful.{IsWithin, one_within}
use Rattle.sw_linter.proofs.circling_words.flow_circling_text.Goals as goal

pub circling_text-requires : goal.circling_text-requires
circling_text-requires c =
    let within = one_within c.args.network.now c.args.flow c.in_ok-circling.field-0 c.in_ok-circling.ensures in
    subst (λ o. IfSome o (IsWithin c.args.network.now)) c.in-Some.is within
