use Rattle.sw_run.proofs.laws.accepted_is_not_stuck.Goals as goal
use Rattle.sw_journal.proofs.Emptied.{none_kept_back}
use Rattle.std.proofs.Common.{sym, ◌∙◌}

pub returns-clause-stuck : goal.returns-clause-stuck
returns-clause-stuck c = λ d cert valid acc load limit o is stuck.
    c.accepted_is_never_locked_up.ensures.never_within_limits _ cert (c.declared_networks_are_networks.ensures d valid) acc is.state (_, is.history.run, is.history.keeps) (is.stuck stuck).0

pub returns-clause-waiting : goal.returns-clause-waiting
returns-clause-waiting c = λ d cert valid acc load limit o is waiting.
    let end = is.waiting waiting in
    end.not_whole (none_kept_back d valid load _ is.state is.history (sym is.undelivered ∙ end.delivered) cert acc end.kept_back)
