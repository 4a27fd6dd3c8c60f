use Rattle.sw_explain.proofs.OnChannels.{tangled_within}
use Rattle.sw_explain.proofs.explain_values.tangles_value.Goals as goal

pub tangle_values-requires : goal.tangle_values-requires
tangle_values-requires c = tangled_within c.args.network.now c.topology-topology.ensures.valid c.args.tangles.now c.requires
