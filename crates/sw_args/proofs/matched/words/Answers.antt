use Rattle.std.proofs.Common.{List, ℕ, map, Bor}
use Rattle.sw_args.proofs.Called.{matched}
use Rattle.sw_args.proofs.CommandLines.{gives, memory_refused, refuses}
use Rattle.sw_args.proofs.matched.words.Goals as goal

pub asked_of-asked-requires : goal.asked_of-asked-requires
asked_of-asked-requires c =
    let seen = c.in-Ok.ensures.found in matched _ (map (λ (s : Bor (List ℕ)). s.now) c.args.words.now) seen.0 seen.1

pub returns-in-Ok-clause-call : goal.returns-in-Ok-clause-call
returns-in-Ok-clause-call c =
    let seen = c.in-Ok.ensures.found in
    gives (map (λ (s : Bor (List ℕ)). s.now) c.args.words.now) _ c.asked_of-asked.result seen.0 seen.1 c.asked_of-asked.ensures.asked

pub returns-in-Ok-clause-fault : goal.returns-in-Ok-clause-fault
returns-in-Ok-clause-fault c = memory_refused (map (λ (s : Bor (List ℕ)). s.now) c.args.words.now) c.asked_of-asked.result c.asked_of-asked.ensures.memory

pub returns-in-Err-clause-fault : goal.returns-in-Err-clause-fault
returns-in-Err-clause-fault c =
    refuses (map (λ (s : Bor (List ℕ)). s.now) c.args.words.now) c.in-Err.error _ c.in-Err.ensures.kinds c.fault_of-fault.ensures
