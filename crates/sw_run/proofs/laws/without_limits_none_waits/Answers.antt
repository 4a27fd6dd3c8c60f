use Rattle.std.proofs.Common.{None, Some, sym, ◌∙◌, ◌≡◌}
use Rattle.sw_journal.proofs.Emptied.{whole_if}
use Rattle.sw_load.specs.History.{packets_of}
use Rattle.sw_machine.specs.Model.{network_of}
use Rattle.sw_run.proofs.laws.without_limits_none_waits.Goals as goal

pub returns : goal.returns
returns c = λ d load limit o free is waits.
    let end = is.waiting waits in
    end.not_whole (whole_if (network_of d) (packets_of load) _ is.state is.history
    (λ n b at. end.kept_back n b at
    (λ most came has out. absurd (let bad : None ≡ Some most = sym (free ((network_of d).flow b.flow).to) ∙ has in cc))))
