use Rattle.std.proofs.Common.{Some, ap, arith, length, subst, ◌∙◌, ◌≡◌}
use Rattle.std.specs.Prelude.{slice_get}
use Rattle.sw_config.proofs.Steps.{length-link_ends}
use Rattle.sw_config.specs.Entries.{Declaration, wiring_of}
use Rattle.sw_net.proofs.Delivered.{channel_count}
use Rattle.sw_net.proofs.net.Net.place_of.Goals as goal
use Rattle.sw_topo.specs.Checked.{IsIn}
use Rattle.sw_topo.specs.Wiring.{Wiring}

pub start_of-requires : goal.start_of-requires
start_of-requires g c =
    let w = ap (λ (k : Wiring). length k.ends) c.topology.ensures.wiring in
    let size = length-link_ends c.network.result.now.links in
    let same = ap (λ (k : Declaration). length k.links) c.network.ensures.network in
    let s = c.sends.ensures in
    let r = c.requires in
    omega arith

pub returns : goal.returns
returns g c =
    let v = c.args.self.now in
    let wires = c.topology.ensures.wiring ∙ ap wiring_of c.network.ensures.network in
    let all = channel_count v.declared in
    let r = c.requires in
    record {
      starts = subst (λ (w : Wiring). slice_get w.ends c.args.end ≡ Some c.start_of.result) wires (subst (λ k. slice_get c.topology.result.now.ends k ≡ Some c.start_of.result) c.sends.ensures c.start_of.ensures.place);
      inside = subst (λ (w : Wiring). IsIn w.nodes w.switches c.start_of.result) wires c.start_of.ensures.inside;
      within = omega arith;
      sound = c.network.ensures.sound;
    }
