use Rattle.std.proofs.Common.{◌≡◌, ap, arith, length, sym, ◌∙◌, Some}
use Rattle.sw_cell.proofs.Switches as switches
use Rattle.sw_cell.proofs.Network.{channels_are}
use Rattle.sw_topo.specs.Wiring.{Wiring}
use Rattle.std.specs.Prelude.{slice_get}
use Rattle.std.proofs.lemmas.Option.{same_Some}
use Rattle.sw_topo.specs.declared.place.PlaceEnd.TheVariants.{Switch}
use Rattle.sw_cell.proofs.switch.output.Goals as goal

pub start_of-requires : goal.start_of-requires
start_of-requires c =
    let p = switches.start_place c.args.network.now c.args.channel c.args.w c.requires in
    let lt = switches.starts_within c.args.network.now c.args.channel c.args.w p.0 p.1 in
    let all = channels_are c.args.network.now in
    let e = ap (λ (x : Wiring). length x.ends) c.topology.ensures.wiring in
    omega arith

pub unreachable-requires : goal.unreachable-requires
unreachable-requires c =
    let p = switches.start_place c.args.network.now c.args.channel c.args.w c.requires in
    let found : Switch c.args.w p.0 ≡ c.start_of.result = same_Some (Switch c.args.w p.0) c.start_of.result (sym p.1 ∙ ap (λ (x : Wiring). slice_get x.ends c.args.channel) (sym c.topology.ensures.wiring) ∙ c.start_of.ensures.place) in
    let is = c.in-Node.is in
    cc

pub returns : goal.returns
returns c =
    let p = switches.start_place c.args.network.now c.args.channel c.args.w c.requires in
    let found : Switch c.args.w p.0 ≡ c.start_of.result = same_Some (Switch c.args.w p.0) c.start_of.result (sym p.1 ∙ ap (λ (x : Wiring). slice_get x.ends c.args.channel) (sym c.topology.ensures.wiring) ∙ c.start_of.ensures.place) in
    let is = c.in-Switch.is in
    let same : p.0 ≡ c.in-Switch.port = cc in
    p.1 ∙ ap (λ k. Some (Switch c.args.w k)) same
