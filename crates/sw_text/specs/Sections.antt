-- The sections of the files: where each stands, and how it is called (this project's choice).
use Rattle.std.specs.Prelude.{◌≡◌, ℕ, List, [], ◌∷◌, Option, Some, None, codes}
use Rattle.std.specs.Fmt.{decimal}
use Rattle.sw_text.specs.declared.keys.Key.{Key}
use Rattle.sw_text.specs.declared.keys.Key.TheVariants as key
use Rattle.sw_text.specs.declared.keys.Section.{Section}
use Rattle.sw_text.specs.declared.keys.Section.TheVariants.{Document, Node, Target, Switch, Route, Link, Flow, Reply, Packet}
use Rattle.sw_text.specs.declared.sections.Standing.{Standing}
use Rattle.sw_text.specs.Keys.{key_text}
use Rattle.sw_text.specs.Lines.{spaced}

-- the entry of that number of the list at a key of a section
abbrev pub entry : Section → Key → ℕ → Option Standing
entry s k number = Some record { within = s; key = k; number = Some number }

-- the table at a key of a section
abbrev pub part : Section → Key → Option Standing
part s k = Some record { within = s; key = k; number = None }

-- where the table of a section stands; the document stands in no other
abbrev pub standing : Section → Option Standing
standing Document = None
standing (Node i) = entry Document key.Node i
standing (Target i) = part (Node i) key.Target
standing (Switch i) = entry Document key.Switch i
standing (Route i j) = entry (Switch i) key.Route j
standing (Link i) = entry Document key.Link i
standing (Flow i) = entry Document key.Flow i
standing (Reply i) = part (Flow i) key.Reply
standing (Packet i) = entry Document key.Packet i

-- a section stands at this key of that one, with this number if that is a list
abbrev pub StandsIn : Section → List ℕ → ℕ → Section → Type 0
StandsIn within name n s = stands within name n (standing s)
  where
    IsNumber : ℕ → Option ℕ → Type 0
    IsNumber n None = Unit {0}
    IsNumber n (Some number) = number ≡ n

    stands : Section → List ℕ → ℕ → Option Standing → Type 0
    stands within name n None = ⊥
    stands within name n (Some p) = (p.within ≡ within) × (key_text p.key ≡ name) × IsNumber n p.number

-- the key at which it stands, and its number, if it has one
abbrev pub part_text : Standing → List ℕ
part_text p = numbered (key_text p.key) p.number
  where
    numbered : List ℕ → Option ℕ → List ℕ
    numbered name None = name
    numbered name (Some number) = spaced (name ∷ decimal number ∷ [])

-- how a section is called: by the keys and numbers that lead to it
abbrev pub section_text : Section → List ℕ
section_text s = called (standing s)
  where
    behind : Option Standing → List ℕ → List ℕ
    behind None own = own
    behind (Some outer) own = spaced (part_text outer ∷ own ∷ [])

    called : Option Standing → List ℕ
    called None = codes "document"
    called (Some p) = behind (standing p.within) (part_text p)
