use Rattle.std.proofs.Common.{ap, length, sym, ◌≡◌, ◌<◌, ◌*◌, ◌∙◌, Some, subst}
use Rattle.std.specs.Prelude.{slice_get}
use Rattle.sw_net.proofs.New.{capacity_at, partner_in}
use Rattle.sw_net.proofs.make.capacity.Goals as goal
use Rattle.sw_config.specs.Entries.{capacities}
use Rattle.sw_topo.specs.Wiring.{Wiring, out_of}

pub capacity-requires : goal.capacity-requires
capacity-requires c =
    let d = c.args.network.now in
    let lt = subst (λ (w : Wiring). c.in-Some.out < length w.ends) c.topology.ensures.wiring (c.in-Some.ensures.within) in
    subst (λ k. k < 2 * length d.links) (sym c.partner.ensures) (partner_in d c.in-Some.out lt)

pub returns-in-Some-clause-value : goal.returns-in-Some-clause-value
returns-in-Some-clause-value c =
    let d = c.args.network.now in
    let out = sym (ap (λ (w : Wiring). out_of w.ends c.args.w c.args.port) c.topology.ensures.wiring) in
    capacity_at d c.args.w c.args.port c.in-Some.out c.capacity.result (out ∙ sym (c.in-Some.ensures.channel))
    (subst (λ k. slice_get (capacities d.links) k ≡ Some c.capacity.result) c.partner.ensures c.capacity.ensures.capacity)
