use Rattle.std.proofs.Common.{◌<◌, ap, sym, subst, ◌∙◌, refl}
use Rattle.std.specs.Prelude.{IsSome}
use Rattle.sw_cell.proofs.Picking as picking
use Rattle.sw_cell.proofs.Switches as switches
use Rattle.sw_cell.proofs.switch.arbitrate.Goals as goal
use Rattle.sw_cell.specs.SwitchParts.{IsSwitchFor}
use Rattle.sw_topo.specs.Wiring.{Wiring, out_of, partner}

pub returns-in_err-picked-clause-none : goal.returns-in_err-picked-clause-none
returns-in_err-picked-clause-none g c =
    rw c.from_residual.ensures (picking.none_picked g.R.Routing.answer g.A.Arbiter.ports c.args.network.now c.args.w c.args.cell.now c.requires.cell c.args.channel c.output-out.result c.output-out.ensures (c.in_err-picked.ensures.none.0 refl))

pub out_of-requires : goal.out_of-requires
out_of-requires g c = subst (λ (x : Wiring). c.args.w < x.switches) (sym c.topology.ensures.wiring) c.requires.cell.in_net

pub unwrap-back-requires : goal.unwrap-back-requires
unwrap-back-requires g c =
    let p = c.in_ok-picked.picked in
    let goes = c.out_of.ensures.channel ∙ ap (λ (x : Wiring). out_of x.ends c.args.w p) c.topology.ensures.wiring in
    subst IsSome (sym goes) ((c.requires.cell.linked p).0 (c.in_ok-picked.ensures.some).possible.asks.linked)

pub returns-in_err-picked-clause-cell : goal.returns-in_err-picked-clause-cell
returns-in_err-picked-clause-cell g c =
    subst (λ k. IsSwitchFor g.R.Routing.answer g.A.Arbiter.ports c.args.network.now c.args.w k) (sym c.in_err-picked.ensures.kept) c.requires.cell

pub returns-in_err-picked-clause-kept : goal.returns-in_err-picked-clause-kept
returns-in_err-picked-clause-kept g c = rw c.from_residual.ensures c.in_err-picked.ensures.kept

pub returns-in_err-picked-clause-some : goal.returns-in_err-picked-clause-some
returns-in_err-picked-clause-some g c = rw c.from_residual.ensures tt

pub returns-clause-none : goal.returns-clause-none
returns-clause-none g c = tt

pub returns-clause-kept : goal.returns-clause-kept
returns-clause-kept g c = tt

pub returns-clause-cell : goal.returns-clause-cell
returns-clause-cell g c =
    let ends = switches.back_found c.requires.cell c.in_ok-picked.picked c.topology.ensures.wiring c.out_of.ensures.channel c.unwrap-back.ensures in
    picking.kept_picked g.R.Routing.answer g.A.Arbiter.ports c.args.network.now c.args.w g.A.Arbiter.policy c.args.cell.now c.grant.new.self c.requires.cell c.output-out.result c.in_ok-picked.picked c.in_ok-picked.ensures.some (partner c.unwrap-back.result) ends g.met.A.Arbiter.keeps_ports

pub returns-clause-some : goal.returns-clause-some
returns-clause-some g c =
    let ends = switches.back_found c.requires.cell c.in_ok-picked.picked c.topology.ensures.wiring c.out_of.ensures.channel c.unwrap-back.ensures in
    rw c.partner.ensures (record {
      out = c.output-out.result;
      input = c.in_ok-picked.picked;
      starts = c.output-out.ensures;
      ends = ends;
      grants = c.in_ok-picked.ensures.some;
      makes = λ b. picking.picked_made g.R.Routing.answer g.A.Arbiter.ports c.args.network.now c.args.w g.A.Arbiter.policy c.args.cell.now c.grant.new.self c.requires.cell c.output-out.result c.in_ok-picked.picked c.in_ok-picked.ensures.some (partner c.unwrap-back.result) c.args.channel b ends c.output-out.ensures;
    })
