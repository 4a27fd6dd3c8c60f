-- The objects that stand for what is found of a file, and of files (this project's choice).
use Rattle.std.specs.Prelude.{ℕ, List, [], codes, length}
use Rattle.serde_json.specs.Data.{Data, array, null, object, string, member, no_members}
use Rattle.serde_json.specs.View.{items_of}
use Rattle.sw_json.specs.Simple.{count_value, digest_text, texts_value}

-- a kind alone: `unread` or `memory`
abbrev pub kind_value : List ℕ → Data
kind_value kind = object (member (codes "kind") (string kind) no_members)

-- A file: how many bytes its text has and their SHA-256, or null for both; what there is to note of its network; its path as it was
-- given; and the status and the verdict.
abbrev pub entry_value : Data → List (List ℕ) → List ℕ → Data → ℕ → Data → Data
entry_value bytes lint path digest status verdict =
    object (member (codes "bytes") bytes
    (member (codes "lint") (texts_value lint)
    (member (codes "path") (string path)
    (member (codes "sha256") digest
    (member (codes "status") (count_value status)
    (member (codes "verdict") verdict no_members))))))

-- a file whose text was read
abbrev pub read_entry : List ℕ → List ℕ → List (List ℕ) → ℕ → Data → Data
read_entry path text lint status verdict =
    entry_value (count_value (length text)) lint path (string (digest_text text)) status verdict

-- a file whose text was not read, or not whole
abbrev pub bare_entry : List ℕ → ℕ → Data → Data
bare_entry path status verdict = entry_value null [] path null status verdict

-- what is found of files, by this version of the program, made with this toolchain
abbrev pub audit_value : List Data → List ℕ → List ℕ → Data
audit_value files toolchain version =
    object (member (codes "files") (array (items_of files))
    (member (codes "toolchain") (string toolchain)
    (member (codes "version") (string version) no_members)))
