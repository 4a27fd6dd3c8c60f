use Rattle.std.proofs.Common.{◌≡◌, List, [], ℕ, IfOk, ap, sym, ◌∙◌, subst}
use Rattle.std.specs.Option.{option_map_or}
use Rattle.sw_config.specs.Entries.{reply_flows}
use Rattle.sw_margin.specs.Bends.{IsBend, answered, answering_at}
use Rattle.sw_margin.proofs.flows.told_of.Goals as goal
use Rattle.sw_topo.proofs.Lists.{in_front}

pub returns : goal.returns
returns g c =
    let d = c.args.network.now in
    let n = c.args.flow in
    let here = in_front d.flows (reply_flows d.flows) n _ c.requires.flow c.flow.ensures.flow in
    let is : c.deref.result.now ≡ answering_at d n = c.deref.ensures.value ∙ c.in_ok-waits.ensures.waits ∙ sym (ap (λ o. option_map_or (answered d) o []) here) in
    subst (λ (more : List (ℕ × ℕ)). IfOk c.bend.result (IsBend d more n)) is c.bend.ensures
