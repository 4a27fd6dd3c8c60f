-- The certificate of a text, and the text of a certificate.
use Rattle.std.specs.Prelude.{◌≡◌, ℕ, suc, Bool, true, false, List, [], ◌∷◌, Result, Ok, Err, if◌then◌else◌, ◌==◌, ◌&&◌, length, ◌↔◌}
use Rattle.std.specs.Option.{option_map_or}
use Rattle.std.specs.List.{slice_split}
use Rattle.sw_text.specs.declared.fault.OrMemory.{OrMemory}
use Rattle.sw_text.specs.Gives.{Fails}
use Rattle.sw_flow.specs.declared.place.Place.{Place}
use Rattle.sw_cert.specs.declared.lines.Expected.{Expected}
use Rattle.sw_cert.specs.declared.lines.Expected.TheVariants.{Flows, Title, Nothing}
use Rattle.sw_cert.specs.Grammar.{spelling, HasText}
use Rattle.sw_cert.specs.Reading.{State, next}

-- what a certificate says: a number for each channel, and for each flow its places
pub record Contents : Type 0 where
  pub numbers : List ℕ
  pub places : List (List Place)

-- before the first line
abbrev pub at_first : State
at_first = record { expected = Title; numbers = []; flows = []; open_block = [] }

-- before the lists of so many flows, with nothing read
abbrev pub before_lists : ℕ → State
before_lists k = record { expected = Flows k; numbers = []; flows = []; open_block = [] }

-- the line `end` was read
abbrev pub is_ended : Expected → Bool
is_ended Nothing = true
is_ended e = false

-- reads the lines from line n on, each as the grammar asks after those before it; the last of the list is what stands
-- after the last LF, and has to be empty; answers the state at the end, or the number of the first line that is wrong
abbrev pub read_lines : ℕ → State → List (List ℕ) → Result State ℕ
read_lines n d [] = Err n
read_lines n d (rest ∷ []) = if is_ended d.expected && (length rest == 0) then Ok d else Err n
read_lines n d (line ∷ more ∷ lines) = option_map_or (λ e. read_lines (suc n) e (more ∷ lines)) (next d line) (Err n)

abbrev pub contents_of : State → Contents
contents_of d = record { numbers = d.numbers; places = d.flows }

-- the text is cut at each LF, and its lines are read from line 1 on
abbrev pub read_text : List ℕ → Result State ℕ
read_text text = read_lines 1 at_first (slice_split (λ b. b == 10) text)

-- the text says this
abbrev pub Says : List ℕ → Contents → Type 0
Says text c = (d : State) × (read_text text ≡ Ok d) × (contents_of d ≡ c)

-- a text says a certificate's contents exactly where it is their one spelling
abbrev pub OneSpelling : Type 0
OneSpelling = (text : List ℕ) (c : Contents) → Says text c ↔ ((text ≡ spelling c.numbers c.places) × HasText c.numbers c.places)

-- What a reading gave: what was read, or the first wrong line, unless memory ran out.
abbrev pub Gives : Result State ℕ → Result Contents (OrMemory ℕ) → Type 0
Gives r (Ok c) = (d : State) × (r ≡ Ok d) × (contents_of d ≡ c)
Gives r (Err fault) = Fails fault r

-- what reading a text gave
abbrev pub Reads : List ℕ → Result Contents (OrMemory ℕ) → Type 0
Reads text result = Gives (read_text text) result
