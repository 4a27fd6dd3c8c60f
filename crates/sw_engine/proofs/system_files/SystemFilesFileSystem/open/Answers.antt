use Rattle.sw_engine.proofs.Trusted.{trusted_reader}
use Rattle.sw_engine.proofs.system_files.SystemFilesFileSystem.open.Goals as goal

pub returns : goal.returns
returns g c = trusted_reader g.R.File.Read.remaining c.args.path.now c.ok.result
