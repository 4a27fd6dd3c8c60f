use Rattle.sw_schedule.proofs.Utf8.{no_name, some_name}
use Rattle.sw_schedule.proofs.names.node_of.Goals as goal

pub returns-in-Ok : goal.returns-in-Ok
returns-in-Ok c = some_name _ c.args.word.now c.in-Ok.name.now c.node_named.result c.in-Ok.ensures.cases.0 c.in-Ok.ensures.cases.1 c.node_named.ensures.node

pub returns-in-Err : goal.returns-in-Err
returns-in-Err c = no_name _ c.args.word.now c.in-Err.ensures.cases.0
