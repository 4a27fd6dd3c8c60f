use Rattle.std.proofs.Common.{IsSome, List, ap, sym, subst}
use Rattle.sw_topo.specs.Wiring.{Wiring, out_of}
use Rattle.sw_topo.specs.declared.place.PlaceEnd.{PlaceEnd}
use Rattle.sw_output.specs.LinkedPorts.{has_link}
use Rattle.sw_linter.proofs.LinkedPorts.{meets}
use Rattle.sw_linter.proofs.entries.linked_ports.Goals as goal

pub returns : goal.returns
returns c =
    let same = ap (λ (w : Wiring). w.ends) c.topology.ensures.wiring in
    meets c.meet.result c.args.route.now.ports (has_link c.args.network.now c.args.switch)
    (λ p. (
      λ here.
          let both = (c.meet.ensures.members p).0 here in
          (both.0, subst (λ (l : List PlaceEnd). IsSome (out_of l c.args.switch p)) same ((c.linked.ensures p).0 both.1)),
      λ both. (c.meet.ensures.members p).1 (both.0, (c.linked.ensures p).1 (subst (λ (l : List PlaceEnd). IsSome (out_of l c.args.switch p)) (sym same) both.1)),
    ))
