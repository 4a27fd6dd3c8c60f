use Rattle.sw_json_verdicts.proofs.ZerosOfPaths.{zero_is_free_of_paths}
use Rattle.sw_json_verdicts.proofs.audit_laws.zero_is_free_of_paths.Goals as goal

pub returns : goal.returns
returns g c = λ files folder.
    zero_is_free_of_paths
    (record { valid = c.read_networks_are_valid.ensures; accepted = c.free_is_accepted.ensures; one_text = c.one_text.ensures })
    (g.F.FileSystem.gives files) (g.F.FileSystem.keeps files) folder
