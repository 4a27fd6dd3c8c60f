use Rattle.std.proofs.Common.{◌<◌, ◌∙◌, ℕ, List, All, ap, length, subst, sym}
use Rattle.sw_config.specs.Entries.{wiring_of}
use Rattle.sw_search.specs.Cycles.{CycleEntry}
use Rattle.sw_search.proofs.CycleChannels.{cycle_within}
use Rattle.sw_json.proofs.cycles.cyclic_value.Goals as goal

pub channel_values-requires : goal.channel_values-requires
channel_values-requires c =
    subst (λ (channels : List ℕ). All (λ channel. channel < length (wiring_of c.args.network.now).ends) channels)
    (sym (c.deref.ensures.value ∙ ap (λ (cycle : CycleEntry). cycle.channels) c.cycle.view_is))
    (cycle_within c.args.network.now c.topology-topology.ensures.valid c.args.cycle.now c.requires)
