use Rattle.sw_search.proofs.CycleChannels.{cycle_within}
use Rattle.sw_app.proofs.verdict_texts.verdict_text.Goals as goal

pub cycle_text-requires : goal.cycle_text-requires
cycle_text-requires c = cycle_within c.args.network.now c.topology-topology.ensures.valid c.in-Cyclic.cycle (rw c.in-Cyclic.is at c.requires)
