-- A file whose bytes are at hand (this project's choice).
use Rattle.std.specs.Prelude.{◌≡◌, ◌⊎◌, ℕ, false, List, Option, Some, None}
use Rattle.sw_json_verdicts.specs.Stores.{Given, Giving, Keeping, whole, too_long, no_memory}
use Rattle.sw_text.specs.Ends.{limited}

-- the text, or that it is too long
abbrev pub text_given : Option (List ℕ) → Given
text_given (Some text) = whole text
text_given None = too_long

-- of these bytes: that, or that there is no memory for the text
abbrev pub AreGiven : List ℕ → Given → Type 0
AreGiven bytes given = (given ≡ text_given (limited bytes)) ⊎ (given ≡ no_memory)

-- each path gives the bytes
abbrev pub gives_bytes : List ℕ → Giving
gives_bytes bytes path given = AreGiven bytes given

-- nothing is kept
abbrev pub keeps_nothing : Keeping
keeps_nothing name certificate kept = kept ≡ false
