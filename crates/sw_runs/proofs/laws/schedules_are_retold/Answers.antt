use Rattle.sw_runs.proofs.Retold.{schedules_are_retold}
use Rattle.sw_runs.proofs.laws.schedules_are_retold.Goals as goal

pub returns : goal.returns
returns c = schedules_are_retold c.read_networks_are_valid.ensures c.read_names_are_names.ensures c.listed_are_short.ensures c.schedules_are_read.ensures
