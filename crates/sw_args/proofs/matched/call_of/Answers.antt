use Rattle.std.proofs.Common.{arith}
use Rattle.clap.specs.Words.{found_of, rows_of}
use Rattle.sw_args.specs.CommandLine.{most_seed, most_steps, most_tries, most_workers}
use Rattle.sw_args.proofs.Numbers.{counts}
use Rattle.sw_args.proofs.Wanted.{of_rmap, of_run, of_witness, says}
use Rattle.sw_args.proofs.matched.call_of.Goals as goal

pub first_value-requires : goal.first_value-requires
first_value-requires c = (of_run c.args.name.now (rows_of (found_of c.args.values.now)) c.in-run.is c.requires).0

pub first_value-requires-in-run : goal.first_value-requires-in-run
first_value-requires-in-run c = (of_run c.args.name.now (rows_of (found_of c.args.values.now)) c.in-run.is c.requires).1

pub number_of-requires : goal.number_of-requires
number_of-requires c = says most_workers _ (rows_of (found_of c.args.values.now)) (omega arith) (of_run c.args.name.now (rows_of (found_of c.args.values.now)) c.in-run.is c.requires).2

pub number_of-requires-in-run : goal.number_of-requires-in-run
number_of-requires-in-run c = says most_steps _ (rows_of (found_of c.args.values.now)) (omega arith) (of_run c.args.name.now (rows_of (found_of c.args.values.now)) c.in-run.is c.requires).3

pub first_value-requires-in-rmap : goal.first_value-requires-in-rmap
first_value-requires-in-rmap c = (of_rmap c.args.name.now (rows_of (found_of c.args.values.now)) c.in-rmap.is c.requires).0

pub first_value-requires-in-rmap-2 : goal.first_value-requires-in-rmap-2
first_value-requires-in-rmap-2 c = (of_rmap c.args.name.now (rows_of (found_of c.args.values.now)) c.in-rmap.is c.requires).1

pub first_value-requires-in-rmap-3 : goal.first_value-requires-in-rmap-3
first_value-requires-in-rmap-3 c = (of_rmap c.args.name.now (rows_of (found_of c.args.values.now)) c.in-rmap.is c.requires).2

pub first_value-requires-in-rmap-4 : goal.first_value-requires-in-rmap-4
first_value-requires-in-rmap-4 c = (of_rmap c.args.name.now (rows_of (found_of c.args.values.now)) c.in-rmap.is c.requires).3

pub first_value-requires-in-rmap-5 : goal.first_value-requires-in-rmap-5
first_value-requires-in-rmap-5 c = (of_rmap c.args.name.now (rows_of (found_of c.args.values.now)) c.in-rmap.is c.requires).4

pub first_value-requires-in-witness : goal.first_value-requires-in-witness
first_value-requires-in-witness c = (of_witness c.args.name.now (rows_of (found_of c.args.values.now)) c.in-witness.is c.requires).0

pub number_of-requires-in-witness : goal.number_of-requires-in-witness
number_of-requires-in-witness c = says most_tries _ (rows_of (found_of c.args.values.now)) (omega arith) (of_witness c.args.name.now (rows_of (found_of c.args.values.now)) c.in-witness.is c.requires).1

pub number_of-requires-in-witness-2 : goal.number_of-requires-in-witness-2
number_of-requires-in-witness-2 c = says most_seed _ (rows_of (found_of c.args.values.now)) (omega arith) (of_witness c.args.name.now (rows_of (found_of c.args.values.now)) c.in-witness.is c.requires).2

pub file_call-requires-clause-other : goal.file_call-requires-clause-other
file_call-requires-clause-other c = let no = c.in_default in (no.not-audit, no.not-init, no.not-run, no.not-rmap, no.not-witness)

pub returns-in-run : goal.returns-in-run
returns-in-run c = (
  c.in-run.is,
  c.first_value.ensures,
  c.first_value-in-run.ensures,
  counts most_workers _ (rows_of (found_of c.args.values.now)) _ (of_run c.args.name.now (rows_of (found_of c.args.values.now)) c.in-run.is c.requires).2 c.number_of.ensures,
  counts most_steps _ (rows_of (found_of c.args.values.now)) _ (of_run c.args.name.now (rows_of (found_of c.args.values.now)) c.in-run.is c.requires).3 c.number_of-in-run.ensures,
  c.value_of-in-run.ensures,
  c.is_set-in-run.ensures,
  c.is_set-in-run-2.ensures,
)

pub returns-in-rmap : goal.returns-in-rmap
returns-in-rmap c = (
  c.in-rmap.is,
  c.first_value-in-rmap.ensures,
  c.first_value-in-rmap-2.ensures,
  c.first_value-in-rmap-3.ensures,
  c.first_value-in-rmap-4.ensures,
  c.first_value-in-rmap-5.ensures,
  c.is_set-in-rmap.ensures,
  c.value_of-in-rmap.ensures,
)

pub returns-in-witness : goal.returns-in-witness
returns-in-witness c = (
  c.in-witness.is,
  c.first_value-in-witness.ensures,
  counts most_tries _ (rows_of (found_of c.args.values.now)) _ (of_witness c.args.name.now (rows_of (found_of c.args.values.now)) c.in-witness.is c.requires).1 c.number_of-in-witness.ensures,
  counts most_seed _ (rows_of (found_of c.args.values.now)) _ (of_witness c.args.name.now (rows_of (found_of c.args.values.now)) c.in-witness.is c.requires).2 c.number_of-in-witness-2.ensures,
)
