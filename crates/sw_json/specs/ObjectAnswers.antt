-- What a command answers as one object of JSON that reads a network file, alone or with a second file (this project's choice).
use Rattle.std.specs.Borrow.{Bor}
use Rattle.std.specs.Prelude.{◌≡◌, ℕ, List, [], ◌∷◌, None, Option, Some}
use Rattle.serde_json.specs.Data.{Data}
use Rattle.sw_config.specs.Entries.{Declaration}
use Rattle.sw_engine.specs.Engines.{AnswersToOne}
use Rattle.sw_json.specs.Answering.{IsAnswer, IsCommandOutcome, IsFaultyFile, IsLongFile, OfNetworkFile, Results, read_value}
use Rattle.sw_json.specs.declared.files.Release.{Release}
use Rattle.sw_text.specs.Ends.{AnswersToTwo}
use Rattle.sw_text.specs.declared.fault.TextFault.{TextFault}

-- ---- the files of a command

-- the files by their paths and texts, None where one is too long: one, or two
abbrev pub file_values : List ℕ → Option (Bor (List ℕ)) → Option (List ℕ) → Option (List ℕ) → List Data
file_values path None first second = read_value path first ∷ []
file_values path (Some other) first second = read_value path first ∷ read_value other.now second ∷ []

-- the second file's path, empty where there is one file
abbrev pub second_path : Option (Bor (List ℕ)) → List ℕ
second_path None = []
second_path (Some path) = path.now

-- ---- answers

-- the results of what is found of a network
abbrev pub FindingAsResult : {X : Type 0} → (Declaration → X → Type 0) → (Declaration → X → Results) → Declaration → Results
FindingAsResult {X = X} Finds Tells d value status = (found : X) × Finds d found × Tells d found value status

-- of a command of that name, and a network file by its path, among the files of these values
abbrev pub FilesAsObject : {X : Type 0} → List ℕ → (Declaration → X → Type 0) → (Declaration → X → Results) → List ℕ → (Option (List ℕ) → List Data) → Release
    → AnswersToOne
FilesAsObject command Finds Tells path files release given =
    IsAnswer command (files given) release (OfNetworkFile path (FindingAsResult Finds Tells) given)

-- the value of what is found of a network, with its status
abbrev pub by_value : {X : Type 0} → (Declaration → X → Data) → (X → ℕ) → Declaration → X → Results
by_value value_of status_of d found = IsCommandOutcome (value_of d found) (status_of found)

-- of a command of that name, and a network file by its path
abbrev pub NetworkFileAsObject : {X : Type 0} → List ℕ → (Declaration → X → Type 0) → (Declaration → X → Data) → (X → ℕ) → List ℕ → Release → AnswersToOne
NetworkFileAsObject command Finds value_of status_of path release =
    FilesAsObject command Finds (by_value value_of status_of) path (λ given. read_value path given ∷ []) release

-- of a command of that name, and a network file and a second file by their paths, by what is found of the network and of the second text
abbrev pub TwoFilesAsObject : {X : Type 0} → List ℕ → (Option (List ℕ) → Declaration → X → Type 0) → (List ℕ → Option (List ℕ) → Declaration → X → Results)
    → List ℕ → List ℕ → Release → AnswersToTwo
TwoFilesAsObject command Finds Tells path other release first second =
    FilesAsObject command (Finds second) (Tells other second) path (λ given. read_value path given ∷ read_value other second ∷ []) release first

-- ---- statuses

pub long_has_status : (command : List ℕ) (files : List Data) (release : Release) (path text : List ℕ) (status : ℕ)
    → IsAnswer command files release (IsLongFile path) text status → status ≡ 3
long_has_status command files release path text status (value, is, spells) = is.1

pub fault_has_status : (command : List ℕ) (files : List Data) (release : Release) (path bytes : List ℕ) (fault : TextFault) (text : List ℕ) (status : ℕ)
    → IsAnswer command files release (IsFaultyFile path bytes fault) text status → status ≡ 3
fault_has_status command files release path bytes fault text status (value, (told, at, is), spells) = is.1

pub result_has_status : (command : List ℕ) (files : List Data) (release : Release) (R : Results) (number : ℕ)
    → ((value : Data) (status : ℕ) → R value status → status ≡ number) → (text : List ℕ) (status : ℕ) → IsAnswer command files release R text status
    → status ≡ number
result_has_status command files release R number same text status (value, is, spells) = same value status is
