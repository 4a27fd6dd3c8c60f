-- What the words of `rmap` ask for (this project's choice).
use Rattle.std.specs.Prelude.{◌≡◌, Bool, List, ℕ, codes, not, true, false}
use Rattle.sw_app_rmap.specs.declared.request.Access.{Access}
use Rattle.sw_app_rmap.specs.declared.request.Access.TheVariants.{Read, Write}

-- a read with its reply, or a write with one or without
abbrev pub IsAccess : List ℕ → List ℕ → Bool → Access → Type 0
IsAccess action value unacknowledged (Read length) = (action ≡ codes "read") × (unacknowledged ≡ false) × (length.now ≡ value)
IsAccess action value unacknowledged (Write bytes acknowledged) = (action ≡ codes "write") × (bytes.now ≡ value) × (acknowledged ≡ not unacknowledged)

-- neither of them
abbrev pub IsNoAccess : List ℕ → Bool → Type 0
IsNoAccess action unacknowledged = (action ≡ codes "write" → ⊥) × (action ≡ codes "read" → unacknowledged ≡ true)
