-- Where an audit takes its texts from, and where it puts certificates (this project's choice).
use Rattle.std.specs.Prelude.{◌≡◌, ℕ, Bool, true, List, Some, None, ◌++◌, codes}
use Rattle.sw_engine.specs.Paths.{PathTexts}
use Rattle.sw_json_verdicts.specs.declared.stores.AuditInput.{AuditInput}
use Rattle.sw_json_verdicts.specs.declared.stores.AuditInput.TheVariants.{Whole, TooLong, Unread, NoMemory}

-- what a path gives: a text, one that is too long, none since it can't be read, or none since there is no memory for it
pub data Given : Type 0 where
  whole : List ℕ → Given
  too_long : Given
  unread : Given
  no_memory : Given

-- what a read gave
abbrev pub given_of : AuditInput → Given
given_of (Whole text) = whole text.items
given_of TooLong = too_long
given_of Unread = unread
given_of NoMemory = no_memory

-- what a path may give
abbrev pub Giving : Type 1
Giving = List ℕ → Given → Type 0

-- whether a text may have been kept under a name
abbrev pub Keeping : Type 1
Keeping = List ℕ → List ℕ → Bool → Type 0

-- ---- over a file system

-- a name in a folder
abbrev pub path_in : List ℕ → List ℕ → List ℕ
path_in folder name = folder ++ (codes "/" ++ name)

-- what a path gives, where it was read and there was memory for it
abbrev pub IsOfPath : PathTexts → Given → Type 0
IsOfPath gives (whole text) = gives (Some text)
IsOfPath gives too_long = gives None
IsOfPath gives unread = Unit {0}
IsOfPath gives no_memory = Unit {0}

-- the same of each path
abbrev pub gives_of_paths : (List ℕ → PathTexts) → Giving
gives_of_paths gives path given = IsOfPath (gives path) given

-- a text was kept under a name only where all of it was put into the file of that name in the folder
abbrev pub keeps_in : (List ℕ → List ℕ → Type 0) → List ℕ → Keeping
keeps_in keeps folder name text kept = kept ≡ true → keeps (path_in folder name) text
