use Rattle.std.specs.Prelude.{[], ◌∷◌, map}
use Rattle.serde_json.specs.View.{view}
use Rattle.sw_changes.specs.MendValues.{mend_words, trial_value}
use Rattle.sw_changes.proofs.ToldMends.{first_added, told_with}
use Rattle.sw_changes.proofs.mend_values.mend_value.Goals as goal

pub returns : goal.returns
returns c =
    let d = c.args.network.now in
    let trial = c.args.trial.now in
    told_with c.told_mend.result c.mend_words.result (map view c.add_value.new.values.items) (trial_value d trial ∷ []) (mend_words d trial)
    (first_added c.trial_value.result (trial_value d trial) c.new-changes.result.items c.add_value.new.values.items c.new-changes.ensures.items c.trial_value.ensures c.in_ok-add_value.ensures.added)
    c.mend_words.ensures c.told_mend.ensures
