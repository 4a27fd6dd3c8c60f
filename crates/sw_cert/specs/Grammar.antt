-- The certificate text, line by line.
use Rattle.std.specs.Prelude.{◌≡◌, ℕ, zero, suc, ◌+◌, ◌-◌, ◌≤◌, ◌==◌, nat_lt, ◌&&◌, ◌||◌, Bool, true, List, [], ◌∷◌, ◌++◌, length, map, Option, Some, None, codes, option_and_then, nat_eq, drop, take, position, if◌then◌else◌}
use Rattle.std.specs.List.{AllByRecursion, flat_map, starts_with}
use Rattle.std.specs.Fmt.{decimal}
use Rattle.sw_flow.specs.declared.place.Place.{Place}
use Rattle.sw_cert.specs.declared.lines.Expected.{Expected}
use Rattle.sw_cert.specs.declared.lines.Expected.TheVariants.{Title, Channels, Numbers, Flows, Places, Nothing}
use Rattle.sw_cert.specs.declared.lines.Said.{Said}
use Rattle.sw_cert.specs.declared.lines.Said.TheVariants as said
use Rattle.sw_text.specs.Number.{number_of}

-- what follows a word
abbrev pub after_word : List ℕ → List ℕ → Option (List ℕ)
after_word word line = if starts_with nat_eq line word then Some (drop (length word) line) else None

-- a word and a number
abbrev pub field : List ℕ → ℕ → List ℕ → Option ℕ
field word limit line = option_and_then (number_of limit) (after_word word line)

-- the line is this word
abbrev pub is_line : List ℕ → List ℕ → Bool
is_line word line = starts_with nat_eq line word && (length line == length word)

-- two numbers with one space between
abbrev pub place_at : List ℕ → ℕ → Option Place
place_at bytes at = option_and_then (λ c. option_and_then (λ k. Some (record { channel = c; deleted = k })) (number_of 32 (drop (at + 1) bytes))) (number_of 65535 (take at bytes))

abbrev pub place_of : List ℕ → Option Place
place_of bytes = option_and_then (place_at bytes) (position (λ b. b == 32) bytes)

-- the first place stands before the second
abbrev pub stands_before : Option Place → Place → Bool
stands_before None q = true
stands_before (Some p) q = nat_lt p.channel q.channel || ((p.channel == q.channel) && nat_lt p.deleted q.deleted)

abbrev pub if_rising : Option Place → Place → Option Said
if_rising last q = if stands_before last q then Some (said.Listed q) else None

-- what a line says where this is expected, `last` being the place before in its block
abbrev pub said_by : Expected → Option Place → List ℕ → Option Said
said_by Title last line = if is_line (codes "swcert 1") line then Some said.Begun else None
said_by Channels last line = option_and_then (λ n. Some (said.ChannelCount n)) (field (codes "channels ") 2048 line)
said_by (Numbers zero) last line = option_and_then (λ n. Some (said.FlowCount n)) (field (codes "flows ") 8192 line)
said_by (Numbers (suc k)) last line = option_and_then (λ n. Some (said.Number n)) (field (codes "number ") 65535 line)
said_by (Flows zero) last line = if is_line (codes "end") line then Some said.Ended else None
said_by (Flows (suc k)) last line = option_and_then (λ n. Some (said.PlaceCount n)) (field (codes "flow ") 67584 line)
said_by (Places p k) last line = option_and_then (if_rising last) (option_and_then place_of (after_word (codes "place ") line))
said_by Nothing last line = None

-- the places that are still to come after this one
abbrev pub places : ℕ → ℕ → Expected
places zero k = Flows k
places (suc p) k = Places p k

-- what is expected next
abbrev pub moved : Expected → Said → Expected
moved e said.Begun = Channels
moved e (said.ChannelCount n) = Numbers n
moved (Numbers k) (said.Number v) = Numbers (k - 1)
moved e (said.FlowCount m) = Flows m
moved (Flows k) (said.PlaceCount p) = places p (k - 1)
moved (Places p k) (said.Listed q) = places p k
moved e said.Ended = Nothing
moved e s = e

-- a certificate's text, of numbers by channel and places by flow
abbrev pub place_line : Place → List ℕ
place_line p = codes "place " ++ (decimal p.channel ++ (32 ∷ decimal p.deleted))

abbrev pub block : List Place → List (List ℕ)
block ps = (codes "flow " ++ decimal (length ps)) ∷ map place_line ps

-- the first lines, where n channels are numbered
abbrev pub head_lines : ℕ → List ℕ → List (List ℕ)
head_lines n numbers = (codes "swcert 1" ∷ (codes "channels " ++ decimal n) ∷ []) ++ map (λ v. codes "number " ++ decimal v) numbers

-- the lines of m flows
abbrev pub flow_lines : ℕ → List (List Place) → List (List ℕ)
flow_lines m flows = (codes "flows " ++ decimal m) ∷ flat_map block flows

abbrev pub lines_of : List ℕ → List (List Place) → List (List ℕ)
lines_of numbers flows = head_lines (length numbers) numbers ++ (flow_lines (length flows) flows ++ codes "end" ∷ [])

-- each line ends with LF
abbrev pub with_lf : List ℕ → List ℕ
with_lf line = line ++ 10 ∷ []

abbrev pub spelling : List ℕ → List (List Place) → List ℕ
spelling numbers flows = flat_map with_lf (lines_of numbers flows)

abbrev pub Rises : Option Place → List Place → Type 0
Rises last [] = Unit {0}
Rises last (p ∷ ps) = (stands_before last p ≡ true) × Rises (Some p) ps

-- the numbers of a place have a text
abbrev pub Fits : Place → Type 0
Fits p = (p.channel ≤ 65535) × (p.deleted ≤ 32)

-- at most 67584 places, rising strictly by channel and then by deleted bytes
abbrev pub IsBlock : List Place → Type 0
IsBlock places = (length places ≤ 67584) × AllByRecursion Fits places × Rises None places

-- what has a text
pub record HasText (numbers : List ℕ) (flows : List (List Place)) : Type 0 where
  pub channels : length numbers ≤ 2048
  pub numbers_fit : AllByRecursion (λ v. v ≤ 65535) numbers
  pub few : length flows ≤ 8192
  pub blocks : AllByRecursion IsBlock flows
