use Rattle.std.proofs.Common.{[], ap, ◌∙◌}
use Rattle.sw_config.specs.Entries.{Declaration}
use Rattle.sw_mend.specs.Outstanding.{flow_with}
use Rattle.sw_mend.specs.Changes.{by_number}
use Rattle.sw_mend.proofs.AfterAll.{none_made}
use Rattle.sw_mend.proofs.outstanding.network_with_outstanding.Goals as goal

pub returns-in-Ok : goal.returns-in-Ok
returns-in-Ok c =
    let d = c.args.network.now in
    c.in-Ok.ensures
    ∙ ap (λ (e : Declaration). record e { flows = by_number (flow_with c.args.flow c.args.most) 0 d.flows }) (c.in_ok-built.ensures ∙ ap (λ (e : Declaration). record e { flows = [] }) (none_made d))
