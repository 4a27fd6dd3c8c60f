use Rattle.sw_json_verdicts.proofs.Zeros.{zero_is_free}
use Rattle.sw_json_verdicts.proofs.audit_laws.zero_is_free.Goals as goal

pub returns : goal.returns
returns g c = λ storage.
    zero_is_free
    (record { valid = c.read_networks_are_valid.ensures; accepted = c.free_is_accepted.ensures; one_text = c.one_text.ensures })
    (g.S.Storage.gives storage) (g.S.Storage.keeps storage)
