-- What is trusted of the files of the system. Nothing else cites `trusted_to_give` and `trusted_to_keep`.
use Rattle.std.proofs.Common.{ℕ, List}
use Rattle.std.specs.Prelude.{IfSome, Option, Some, None}
use Rattle.sw_engine.specs.Paths.{ReadsTo, WritesTo}
use Rattle.sw_engine.specs.SystemFiles.{SystemGives, SystemKeeps, trusted_to_give, trusted_to_keep}

pub trusted_reader : {R : Type 0} (remaining : R → Option (List ℕ)) (path : List ℕ) (opened : Option R)
    → IfSome opened (λ (reader : R). ReadsTo (remaining reader) (SystemGives path))
trusted_reader remaining path None = tt
trusted_reader remaining path (Some reader) =
    record { whole = λ after bytes gave. trusted_to_give path (Some bytes); long = λ after bytes gave more. trusted_to_give path None }

pub trusted_writer : {W : Type 0} (contents : W → Option (List ℕ)) (path : List ℕ) (made : Option W)
    → IfSome made (λ (writer : W). WritesTo (contents writer) (SystemKeeps path))
trusted_writer contents path None = tt
trusted_writer contents path (Some writer) = λ new text appended. trusted_to_keep path text
