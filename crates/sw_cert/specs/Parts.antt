-- Parts of a certificate's text that are read by themselves: whole lists of flows, one after another.
use Rattle.std.specs.Prelude.{◌≡◌, ℕ, ◌+◌, ◌-◌, ◌≤◌, ◌==◌, nat_le, ◌&&◌, List, [], ◌∷◌, ◌++◌, length, drop, map, take, Result, Some, if◌then◌else◌}
use Rattle.std.specs.List.{AllByRecursion, flat_map, slice_split}
use Rattle.sw_flow.specs.declared.place.Place.{Place}
use Rattle.sw_cert.specs.declared.lines.Expected.TheVariants.{Flows}
use Rattle.sw_cert.specs.declared.parts.TextPart.{TextPart}
use Rattle.sw_cert.specs.declared.parts.Lists.{Lists}
use Rattle.sw_cert.specs.Grammar.{IsBlock, block, with_lf}
use Rattle.sw_cert.specs.Reading.{State, items_of, next}
use Rattle.sw_cert.specs.Text.{read_lines}

-- from one byte of a text up to another, where the text has both
abbrev pub part_of : List ℕ → TextPart → List ℕ
part_of text p = if nat_le p.begin p.end && nat_le p.end (length text) then take (p.end - p.begin) (drop p.begin text) else []

-- the text is the lists of these flows, one after another, in so many lines
pub record AreLists (text : List ℕ) (flows : List (List Place)) (lines : ℕ) : Type 0 where
  pub spelled : text ≡ flat_map with_lf (flat_map block flows)
  pub blocks : AllByRecursion IsBlock flows
  pub counted : lines ≡ length (flat_map block flows)

-- what was read of a part of this text
abbrev pub IsReadPart : List ℕ → Lists → Type 0
IsReadPart text l = AreLists (part_of text l.part) (map items_of l.flows.items) l.lines

-- what a draft has of a part, whose last list is whole
pub record IsWhole (d : State) (rest : List ℕ) (p : TextPart) (count : ℕ) (l : Lists) : Type 0 where
  pub left : ℕ
  pub whole : d.expected ≡ Flows left
  pub ended : rest ≡ []
  pub part : l.part ≡ p
  pub flows : map items_of l.flows.items ≡ d.flows
  pub lines : l.lines ≡ count

-- what the rest of a text gives, read from that line on after the lines before it
abbrev pub read_rest : ℕ → State → List ℕ → Result State ℕ
read_rest n d rest = read_lines n d (slice_split (λ b. b == 10) rest)

-- line after line leads from a state to a state
abbrev pub Runs : State → List (List ℕ) → State → Type 0
Runs d [] f = d ≡ f
Runs d (line ∷ lines) f = (e : State) × (next d line ≡ Some e) × Runs e lines f

-- lines of a text were read, of which the first has that number: up to a rest, which begins with the line of the other number
pub record IsRead (first : ℕ) (d : State) (text : List ℕ) (number : ℕ) (e : State) (rest : List ℕ) : Type 0 where
  pub lines : List (List ℕ)
  pub cut : slice_split (λ b. b == 10) text ≡ lines ++ slice_split (λ b. b == 10) rest
  pub counted : first + length lines ≡ number
  pub few : number + length rest ≤ first + length text
  pub runs : Runs d lines e

-- these lists were added to what was read, and no longer are to come
pub record AreAdded (flows : List (List Place)) (d e : State) : Type 0 where
  pub before : ℕ
  pub left : ℕ
  pub expected : d.expected ≡ Flows before
  pub fewer : left + length flows ≡ before
  pub is : e ≡ record d { expected = Flows left; flows = d.flows ++ flows }
