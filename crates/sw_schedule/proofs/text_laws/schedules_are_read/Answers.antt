use Rattle.sw_schedule.proofs.Texts.{schedules_are_read}
use Rattle.sw_schedule.proofs.text_laws.schedules_are_read.Goals as goal

pub returns : goal.returns
returns c = schedules_are_read c.cargo_is_read.ensures c.lines_are_read.ensures c.declared_networks_are_networks.ensures
