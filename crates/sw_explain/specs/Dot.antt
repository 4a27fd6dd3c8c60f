-- Statements of DOT, the language of Graphviz.
use Rattle.std.specs.Prelude.{◌≡◌, ℕ, Bool, true, false, List, [], ◌∷◌, ◌++◌, codes, flat_map, if◌then◌else◌}

-- an attribute of what is drawn: its name and its value
pub record AttributeText : Type 0 where
  pub name : List ℕ
  pub value : List ℕ

-- a text in quotes, of letters, digits and signs that DOT takes as they are
abbrev pub quoted : List ℕ → List ℕ
quoted text = codes "\"" ++ (text ++ codes "\"")

-- NAME="VALUE"
abbrev pub attribute_text : AttributeText → List ℕ
attribute_text a = a.name ++ (codes "=" ++ quoted a.value)

-- attributes in brackets, with a comma between each two; nothing where there are none
abbrev pub attributes_text : List AttributeText → List ℕ
attributes_text [] = []
attributes_text (a ∷ more) = codes " [" ++ (attribute_text a ++ (flat_map (λ b. codes ", " ++ attribute_text b) more ++ codes "]"))

-- a line for a node or an edge, with its attributes
abbrev pub statement : List ℕ → List AttributeText → List ℕ
statement subject attributes = codes "  " ++ (subject ++ (attributes_text attributes ++ codes ";\n"))

-- ---- how the attributes' text is made

-- attributes with a comma between each two
abbrev pub list_text : List AttributeText → List ℕ
list_text [] = []
list_text (a ∷ more) = attribute_text a ++ flat_map (λ b. codes ", " ++ attribute_text b) more

-- attributes in brackets that are not closed yet
abbrev pub begun_text : List AttributeText → List ℕ
begun_text [] = []
begun_text (a ∷ more) = codes " [" ++ list_text (a ∷ more)

-- there are some
abbrev pub are_some : List AttributeText → Bool
are_some [] = false
are_some (a ∷ more) = true

-- what stands before one more, behind others or as the first
abbrev pub opening : Bool → List ℕ
opening begun = if begun then codes ", " else codes " ["

-- what ends the line
abbrev pub closing : Bool → List ℕ
closing begun = if begun then codes "];\n" else codes ";\n"

-- the attributes stand behind a text, and it is known whether there are any
abbrev pub IsBegun : List ℕ → List ℕ → List AttributeText → Bool → Type 0
IsBegun start text list begun = (text ≡ start ++ begun_text list) × (begun ≡ are_some list)
