use Rattle.std.proofs.Common.{◌≡◌, ◌<◌, ◌/◌, ◌%◌, ◌+◌, ℕ, All, length, map, sym, subst, ap, ◌∙◌}
use Rattle.std.proofs.lemmas.Result.{IfOk-weaker}
use Rattle.sw_flow.specs.Places.{IsPlacesOf}
use Rattle.sw_flow.specs.Numbers.{next_numbers}
use Rattle.sw_flow.proofs.Stepping.{all_below, bound_is}
use Rattle.sw_flow.proofs.Placed.{placed}
use Rattle.sw_flow.proofs.routes.places.Goals as goal

pub reached-requires-clause-inside : goal.reached-requires-clause-inside
reached-requires-clause-inside c =
    let d = c.args.network.now in
    let f = c.flow-flow.result.now in
    let bound = bound_is d f c.channels.result c.topology-topology.result.now c.address.result.now c.channels.ensures.channels c.topology-topology.ensures.wiring c.address.ensures in
    λ n lt. subst (λ (b : ℕ). All (λ x. x < b) (next_numbers d f n)) (sym bound) (all_below d f n)

pub returns : goal.returns
returns c =
    let d = c.args.network.now in
    let f = c.flow-flow.result.now in
    IfOk-weaker c.places_of.result (λ v. v.items ≡ map (λ n. record { channel = n / (length c.address.result.now + 1); deleted = n % (length c.address.result.now + 1) }) c.deref.result.now) (λ v. IsPlacesOf d c.args.flow v.items)
    (λ v made. record {
      flow = f;
      numbered = c.flow-flow.ensures.flow;
      list = placed d f c.out-start.result c.number.result c.from.result c.address.result.now c.in_ok-numbers.numbers.items c.topology-topology.result.now v.items c.topology-topology.ensures.wiring c.from.ensures c.out-start.ensures.channel c.address.ensures c.number.ensures c.in_ok-numbers.ensures.listing
          (made ∙ ap (map (λ n. record { channel = n / (length c.address.result.now + 1); deleted = n % (length c.address.result.now + 1) })) c.deref.ensures.value);
    })
    c.places_of.ensures
