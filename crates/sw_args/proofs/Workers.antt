-- A run that the words ask for has a worker.
use Rattle.std.proofs.Common.{List, Option, arith, ℕ}
use Rattle.clap.specs.Words.{Row}
use Rattle.sw_args.specs.CommandLine.{HasWorkers, IsCallOf, IsMatched}
use Rattle.sw_args.specs.declared.call.Asked.{Asked}
use Rattle.sw_args.specs.declared.call.Call.{Call}
use Rattle.sw_args.specs.declared.call.Call.TheVariants.{Run}

call_workers : (name : List ℕ) (values : List Row) (call : Call) → IsCallOf name values call → HasWorkers call
call_workers name values (Run file load workers limit schedule summary json) (called, is_file, is_load, is_workers, is_limit, is_schedule, is_summary, is_json) =
    let least = is_workers.1 in
    omega (arith, least)
call_workers name values call is = tt

pub matched_workers : (found : Option (List ℕ × List Row)) (asked : Asked) → IsMatched found asked → HasWorkers asked.call
matched_workers found asked (name, values, met, is_call, is_files, is_hints, is_notes, is_faults) = call_workers name values asked.call is_call
