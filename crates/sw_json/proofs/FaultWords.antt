-- The words of what has a fault.
use Rattle.std.proofs.Common.{◌≡◌, List, ℕ, Some, ap, option_map, string_bytes}
use Rattle.std.specs.Option.{option_transpose}
use Rattle.std.specs.Prelude.{Err, IfOk, Ok, Result}
use Rattle.std.specs.declared.alloc.AllocError.{AllocError}
use Rattle.std.specs.declared.alloc.Global.{Global}
use Rattle.std.specs.declared.string.String.{String}

-- what has the fault is told by these words, where there was memory for them
pub told_words : (said : Result (String Global) AllocError) (words : List ℕ) → IfOk said (λ s. string_bytes s ≡ words)
    → IfOk (option_transpose (Some said)) (λ o. option_map string_bytes o ≡ Some words)
told_words (Ok s) words is = ap Some is
told_words (Err e) words is = tt
