use Rattle.sw_json_verdicts.proofs.Zeros.{free_is_shown}
use Rattle.sw_json_verdicts.proofs.audit_laws.free_is_shown.Goals as goal

pub returns : goal.returns
returns g c = λ storage.
    free_is_shown
    (record { valid = c.read_networks_are_valid.ensures; accepted = c.free_is_accepted.ensures; one_text = c.one_text.ensures })
    (g.S.Storage.gives storage) (g.S.Storage.keeps storage)
