-- Network files, as far as they could be read.
use Rattle.std.specs.Prelude.{◌≡◌, ℕ, List, Option, Some, None, Ok, Err}
use Rattle.sw_config.specs.Entries.{Declaration}
use Rattle.sw_file.specs.Network.{network_text}
use Rattle.sw_text.specs.Ends.{GivesText}
use Rattle.sw_text.specs.Inputs.{given}
use Rattle.sw_text.specs.declared.read_texts.InputText.{InputText}
use Rattle.sw_engine.specs.declared.network_file.NetworkFile.{NetworkFile}
use Rattle.sw_engine.specs.declared.network_file.NetworkFile.TheVariants.{Network, Faulty, TooLong, Unread, NoMemory}

-- the network, if the file declares one
abbrev pub network_of : NetworkFile → Option Declaration
network_of (Network text network) = Some network
network_of (Faulty text fault) = None
network_of TooLong = None
network_of Unread = None
network_of NoMemory = None

-- what a text, None where it is too long, is as a network file, unless memory was wanted
abbrev pub IsFileOf : Option (List ℕ) → NetworkFile → Type 0
IsFileOf given (Network text network) = (given ≡ Some text.items) × (network_text text.items ≡ Ok network)
IsFileOf given (Faulty text fault) = (given ≡ Some text.items) × (network_text text.items ≡ Err fault)
IsFileOf given TooLong = given ≡ None
IsFileOf given Unread = ⊥
IsFileOf given NoMemory = Unit {0}

-- What the text that a reader gave is. A read that failed, or memory that was wanted, tells nothing of it.
abbrev pub IsFileRead : Option (List ℕ) → Option (List ℕ) → NetworkFile → Type 0
IsFileRead before after Unread = Unit {0}
IsFileRead before after NoMemory = Unit {0}
IsFileRead before after file = (given : Option (List ℕ)) × GivesText before after given × IsFileOf given file

-- the text of a second file, None where it is too long or was not read
abbrev pub second_given : Option InputText → Option (List ℕ)
second_given None = None
second_given (Some input) = given input

-- What the texts are that two readers gave, a network file and a second one. A read that failed, or memory that was wanted, tells nothing of them.
abbrev pub AreFilesRead : Option (List ℕ) → Option (List ℕ) → Option (List ℕ) → Option (List ℕ) → NetworkFile → Option InputText → Type 0
AreFilesRead first first_after second second_after Unread input = Unit {0}
AreFilesRead first first_after second second_after NoMemory input = Unit {0}
AreFilesRead first first_after second second_after file input = IsFileRead first first_after file × GivesText second second_after (second_given input)
