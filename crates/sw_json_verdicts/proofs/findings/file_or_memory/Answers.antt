use Rattle.std.proofs.Common.{inl, inr}
use Rattle.sw_json_verdicts.proofs.Wanted.{memory_found}
use Rattle.sw_json_verdicts.proofs.findings.file_or_memory.Goals as goal

pub returns-in-Ok : goal.returns-in-Ok
returns-in-Ok g c = inl c.in-Ok.ensures

pub returns-in-Err : goal.returns-in-Err
returns-in-Err g c =
    let is = c.memory_judged.ensures in
    inr (memory_found c.args.options.now c.args.named.path.now c.memory_judged.result is.status is.word is.entry is.flowless)
