use Rattle.std.proofs.Common.{◌∙◌, List, ap}
use Rattle.std.specs.Prelude.{[], ◌∷◌, ◌++◌, map}
use Rattle.serde_json.specs.Data.{Data}
use Rattle.serde_json.specs.View.{view}
use Rattle.sw_json.proofs.Added.{added}
use Rattle.sw_changes.specs.MendValues.{change_value, pair_words}
use Rattle.sw_changes.proofs.ToldMends.{first_added, told_with}
use Rattle.sw_changes.proofs.mend_values.pair_value.Goals as goal

pub returns : goal.returns
returns c =
    let d = c.args.network.now in
    let pair = c.args.pair.now in
    let first = change_value d pair.first in
    let second = change_value d pair.second in
    told_with c.told_mend.result c.pair_words.result (map view c.add_value-2.new.values.items) (first ∷ second ∷ []) (pair_words d pair)
    (added c.change_value-2.result second c.add_value.new.values.items c.add_value-2.new.values.items c.change_value-2.ensures c.in_ok-add_value-2.ensures.added
    ∙ ap (λ (l : List Data). l ++ second ∷ []) (first_added c.change_value.result first c.new-changes.result.items c.add_value.new.values.items c.new-changes.ensures.items c.change_value.ensures c.in_ok-add_value.ensures.added))
    c.pair_words.ensures c.told_mend.ensures
