use Rattle.std.proofs.Common.{◌≡◌, ◌∙◌, ap, arith, length}
use Rattle.std.proofs.lemmas.Result.{on_ok_weaker}
use Rattle.sw_config.specs.Entries.{Declaration}
use Rattle.sw_mend.proofs.AfterAll.{none_made}
use Rattle.sw_mend.proofs.MoreSlots.{as_many, named_apart, parts_built}
use Rattle.sw_mend.proofs.limiting.add_parts_with.Goals as goal

pub add_switches-requires-clause-named : goal.add_switches-requires-clause-named
add_switches-requires-clause-named c =
    named_apart c.args.slots.now c.args.network.now c.add_nodes_with.new.builder c.in_ok-add_nodes_with.ensures c.topology-topology.ensures.valid.parts_named

pub add_links-requires-clause-nodes : goal.add_links-requires-clause-nodes
add_links-requires-clause-nodes c =
    let same : length c.add_switches.new.builder.nodes ≡ length c.args.network.now.nodes =
    ap (λ (e : Declaration). length e.nodes) c.in_ok-add_switches.ensures ∙ ap (λ (e : Declaration). length e.nodes) c.in_ok-add_nodes_with.ensures
    ∙ as_many c.args.slots.now 0 c.args.network.now.nodes in
    omega (arith, same)

pub add_links-requires-clause-switches : goal.add_links-requires-clause-switches
add_links-requires-clause-switches c =
    ap (λ (d : Declaration). length d.switches) c.in_ok-add_switches.ensures ∙ ap (λ (d : Declaration). length d.switches) (none_made c.args.network.now)

pub returns : goal.returns
returns c =
    on_ok_weaker c.add_links.result
    (λ links. parts_built c.args.slots.now c.args.network.now c.add_nodes_with.new.builder c.add_switches.new.builder c.add_links.new.builder c.in_ok-add_nodes_with.ensures c.in_ok-add_switches.ensures links)
    c.add_links.ensures
