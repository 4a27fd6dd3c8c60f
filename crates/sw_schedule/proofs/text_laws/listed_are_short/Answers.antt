use Rattle.sw_schedule.proofs.Listed.{listed_are_short}
use Rattle.sw_schedule.proofs.text_laws.listed_are_short.Goals as goal

pub returns : goal.returns
returns c = listed_are_short c.cargo_is_read.ensures c.each_entry_is_read.ensures
