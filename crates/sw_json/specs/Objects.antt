-- Objects by a list of their members. RFC 8259, section 4: an object is a pair of curly brackets around zero or more name/value pairs
-- (or members). Names are to be unique; where one stands twice in the list, the last counts, as most readers have it.
use Rattle.std.specs.Prelude.{ℕ, List, [], ◌∷◌}
use Rattle.serde_json.specs.Data.{Data, Members, boolean, object, string, no_members, put}
use Rattle.serde_json.specs.View.{view}
use Rattle.sw_json.specs.Simple.{count_value}
use Rattle.sw_json.specs.declared.objects.Member.{Member}
use Rattle.sw_json.specs.declared.objects.Member.TheVariants.{Text, Number, Truth, Value}

-- what stands at a name: a text, a number, a truth value, or a value that was made before
abbrev pub member_value : Member → Data
member_value (Text text) = string text.now
member_value (Number number) = count_value number
member_value (Truth truth) = boolean truth
member_value (Value value) = view value

-- the members of an object, with those of a list put among them one after another
abbrev pub with_members : List (List ℕ × Data) → Members → Members
with_members [] members = members
with_members (named ∷ more) members = with_members more (put named.0 named.1 members)

-- the object of these members
abbrev pub object_of : List (List ℕ × Data) → Data
object_of members = object (with_members members no_members)
