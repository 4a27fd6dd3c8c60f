-- The object that stands for a command's answer (this project's choice).
use Rattle.std.specs.Prelude.{ℕ, List, codes, length}
use Rattle.serde_json.specs.Data.{Data, array, null, object, string, member, no_members}
use Rattle.serde_json.specs.View.{items_of}
use Rattle.sw_json.specs.Simple.{count_value, digest_text}

-- a file that a command was given: how many bytes its text has and their SHA-256, or null for both; and its path as it was given
abbrev pub told_input : Data → List ℕ → Data → Data
told_input bytes path digest =
    object (member (codes "bytes") bytes
    (member (codes "path") (string path)
    (member (codes "sha256") digest no_members)))

-- a file whose text was read
abbrev pub input_value : List ℕ → List ℕ → Data
input_value path text = told_input (count_value (length text)) path (string (digest_text text))

-- a file whose text is longer than a text may be
abbrev pub long_input : List ℕ → Data
long_input path = told_input null path null

-- the result of a command of whose files this one has a fault
abbrev pub file_fault_value : List ℕ → Data → Data
file_fault_value path fault =
    object (member (codes "fault") fault
    (member (codes "kind") (string (codes "fault"))
    (member (codes "path") (string path) no_members)))

-- The answer of a command: its name, the files that it was given in the order of its words, the result and the status, by this version
-- of the program, made with this toolchain.
abbrev pub answer_value : List ℕ → List Data → Data → ℕ → List ℕ → List ℕ → Data
answer_value command files result status toolchain version =
    object (member (codes "command") (string command)
    (member (codes "files") (array (items_of files))
    (member (codes "result") result
    (member (codes "status") (count_value status)
    (member (codes "toolchain") (string toolchain)
    (member (codes "version") (string version) no_members))))))
