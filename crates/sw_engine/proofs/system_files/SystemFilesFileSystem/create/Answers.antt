use Rattle.sw_engine.proofs.Trusted.{trusted_writer}
use Rattle.sw_engine.proofs.system_files.SystemFilesFileSystem.create.Goals as goal

pub returns : goal.returns
returns g c = trusted_writer g.R.File.Write.contents c.args.path.now c.ok.result
