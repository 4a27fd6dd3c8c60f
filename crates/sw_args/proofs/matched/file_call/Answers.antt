use Rattle.clap.specs.Words.{found_of, rows_of}
use Rattle.sw_args.proofs.Wanted.{left, of_check, of_other, of_replay, of_route}
use Rattle.sw_args.proofs.matched.file_call.Goals as goal

pub first_value-file-requires : goal.first_value-file-requires
first_value-file-requires c = of_other c.args.name.now (rows_of (found_of c.args.values.now)) c.requires.other c.requires.called

pub first_value-flow-requires : goal.first_value-flow-requires
first_value-flow-requires c = of_route c.args.name.now (rows_of (found_of c.args.values.now)) c.in-route.is c.requires.called

pub first_value-requires : goal.first_value-requires
first_value-requires c = of_check c.args.name.now (rows_of (found_of c.args.values.now)) c.in-check.is c.requires.called

pub first_value-requires-in-replay : goal.first_value-requires-in-replay
first_value-requires-in-replay c = of_replay c.args.name.now (rows_of (found_of c.args.values.now)) c.in-replay.is c.requires.called

pub returns-in_default : goal.returns-in_default
returns-in_default c =
    let not = c.in_default in
    let margin =
    left c.args.name.now (rows_of (found_of c.args.values.now)) c.requires.other
    (not.not-route, not.not-check, not.not-replay, not.not-decide, not.not-report, not.not-migrate, not.not-explain, not.not-draw, not.not-mend)
    c.requires.called
    in
    (margin, c.first_value-file.ensures, c.is_set-json.ensures)

pub returns-in-route : goal.returns-in-route
returns-in-route c = (c.in-route.is, c.first_value-file.ensures, c.first_value-flow.ensures, c.is_set-json.ensures)

pub returns-in-check : goal.returns-in-check
returns-in-check c = (c.in-check.is, c.first_value-file.ensures, c.first_value.ensures, c.is_set-json.ensures)

pub returns-in-replay : goal.returns-in-replay
returns-in-replay c = (c.in-replay.is, c.first_value-file.ensures, c.first_value-in-replay.ensures, c.is_set-json.ensures)

pub returns-in-decide : goal.returns-in-decide
returns-in-decide c = (c.in-decide.is, c.first_value-file.ensures, c.is_set-json.ensures)

pub returns-in-migrate : goal.returns-in-migrate
returns-in-migrate c = (c.in-migrate.is, c.first_value-file.ensures)

pub returns-in-explain : goal.returns-in-explain
returns-in-explain c = (c.in-explain.is, c.first_value-file.ensures, c.is_set.ensures, c.is_set-json.ensures)

pub returns-in-draw : goal.returns-in-draw
returns-in-draw c = (c.in-draw.is, c.first_value-file.ensures, c.value_of.ensures, c.is_set-in-draw.ensures, c.is_set-in-draw-2.ensures)

pub returns-in-mend : goal.returns-in-mend
returns-in-mend c = (c.in-mend.is, c.first_value-file.ensures, c.is_set-in-mend.ensures, c.is_set-json.ensures)
