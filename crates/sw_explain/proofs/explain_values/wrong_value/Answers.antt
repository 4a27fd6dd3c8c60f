use Rattle.sw_explain.proofs.OnChannels.{way_within}
use Rattle.sw_explain.proofs.explain_values.wrong_value.Goals as goal

pub place_values-requires : goal.place_values-requires
place_values-requires c = way_within c.args.network.now c.args.flow c.args.place c.args.fault c.args.way.now c.requires
