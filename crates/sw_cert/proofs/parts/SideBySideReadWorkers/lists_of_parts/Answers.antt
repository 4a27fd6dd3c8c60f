use Rattle.std.specs.Prelude.{IfSome}
use Rattle.std.proofs.lemmas.Result.{IfOk-weaker}
use Rattle.sw_cert.specs.Parts.{IsReadPart}
use Rattle.sw_cert.proofs.Parted.{all_made}
use Rattle.sw_cert.proofs.parts.SideBySideReadWorkers.lists_of_parts.Goals as goal

pub returns : goal.returns
returns g c = IfOk-weaker c.map_all.result _ _ (λ v h. all_made (λ lists. IfSome lists (IsReadPart c.args.text.now)) _ v.items h) c.map_all.ensures
