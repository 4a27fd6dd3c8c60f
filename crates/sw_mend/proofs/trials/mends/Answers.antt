use Rattle.std.proofs.Common.{List, map, subst}
use Rattle.sw_mend.specs.Changes.{parts_away}
use Rattle.sw_mend.specs.Mends.{AreAdded, Frees, single_changes}
use Rattle.sw_mend.specs.Splits.{splits}
use Rattle.sw_mend.specs.declared.change.Change.{Change}
use Rattle.sw_mend.specs.declared.change.Trial.TheVariants.{Split, Without}
use Rattle.sw_mend.proofs.OfKinds.{parts_are}
use Rattle.sw_mend.proofs.Told.{all_added, both_added}
use Rattle.sw_mend.proofs.trials.mends.Goals as goal

pub returns : goal.returns
returns g c =
    let d = c.args.network.now in
    let parts =
    subst (λ (l : List Change). AreAdded (Frees d) (map Without l) c.new-mends.result.items c.add_removals.new.mends.items) (parts_are d) c.in_ok-add_removals.ensures.told in
    all_added (Frees d) (single_changes d) _ _ c.new-mends.ensures.items
    (both_added (Frees d) (map Without (parts_away d)) (map Split (splits d)) _ c.add_removals.new.mends.items c.add_splits.new.mends.items parts c.in_ok-add_splits.ensures)
