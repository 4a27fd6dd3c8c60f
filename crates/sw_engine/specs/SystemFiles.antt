-- What the system does with files. Nothing that can be proved says what bytes a file of the system has, so both are names alone: no other file sees
-- what stands behind them, and what says of a path that they hold of it is trusted. It stands once, in the proof of `SystemFiles`.
use Rattle.std.specs.Prelude.{ℕ, List, Option}

-- the system gives this for the path: all the bytes of its file, or None where they are more than a text may have
pub SystemGives : List ℕ → Option (List ℕ) → Type 0
SystemGives path given = Unit {0}

-- the system got all of this text for the file that it made for the path
pub SystemKeeps : List ℕ → List ℕ → Type 0
SystemKeeps path text = Unit {0}

-- trusted of the system's `open`: what its reader gives is what the path gives
pub trusted_to_give : (path : List ℕ) (given : Option (List ℕ)) → SystemGives path given
unfolding SystemGives
trusted_to_give path given = tt

-- trusted of the system's `create`: what its writer gets is put into the file of the path
pub trusted_to_keep : (path text : List ℕ) → SystemKeeps path text
unfolding SystemKeeps
trusted_to_keep path text = tt
