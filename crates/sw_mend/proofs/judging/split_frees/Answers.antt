use Rattle.std.proofs.Common.{subst, sym}
use Rattle.std.proofs.lemmas.Result.{IfOk-weaker}
use Rattle.sw_config.specs.Valid.{IsValid}
use Rattle.sw_search.specs.Laws.{RoutedAndFree}
use Rattle.sw_mend.specs.Spared.{AreOfCycles}
use Rattle.sw_mend.specs.Splits.{split}
use Rattle.sw_mend.proofs.SparedSplits.{split_not_free}
use Rattle.sw_mend.proofs.Told.{split_decided}
use Rattle.sw_mend.proofs.Touching.{passed_over}
use Rattle.sw_mend.proofs.judging.split_frees.Goals as goal

pub returns-then-split_spares_one-clause-decided : goal.returns-then-split_spares_one-clause-decided
returns-then-split_spares_one-clause-decided g c =
    let d = c.args.network.now in
    passed_over (IsValid (split d c.args.link.now) × RoutedAndFree (split d c.args.link.now))
    (split_not_free d c.args.link.now c.deref.result.now c.topology-topology.ensures.valid (subst (AreOfCycles d) (sym c.deref.ensures.value) c.requires.known)
    (c.split_spares_one.ensures c.if-split_spares_one.true))

pub returns-in-Some-clause-decided : goal.returns-in-Some-clause-decided
returns-in-Some-clause-decided g c =
    let same = rw c.in-Some.is at c.in_ok-changed.ensures in
    IfOk-weaker c.is_left_free.result _ _ (λ freed decided. split_decided c.args.network.now c.args.link.now _ freed same c.is_left_free.ensures.valid decided)
    c.is_left_free.ensures.decided
