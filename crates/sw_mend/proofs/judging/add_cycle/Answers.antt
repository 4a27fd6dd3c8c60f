use Rattle.std.proofs.Common.{subst, sym}
use Rattle.std.proofs.lemmas.List.Elements.{All-push}
use Rattle.sw_mend.specs.Spared.{AreOfACycle, AreOfCycles}
use Rattle.sw_mend.proofs.judging.add_cycle.Goals as goal

pub returns : goal.returns
returns c =
    subst (AreOfCycles c.args.network.now) (sym c.in_ok-push.ensures.items)
    (All-push (AreOfACycle c.args.network.now) c.args.cycles.now.items c.in_ok-uses.uses c.requires
    (c.args.cycle.now, c.check_cycle.ensures.0 c.if-not-check_cycle.false, c.in_ok-uses.ensures))
