-- What each form of a subcommand requires is among its matches, where no fault is met.
use Rattle.std.proofs.Common.{◌≡◌, ◌&&◌, List, ℕ, Some, [], ◌∷◌, false, not, refl, codes}
use Rattle.std.specs.Prelude.{pos}
use Rattle.clap.specs.Simple.{filled, with_index}
use Rattle.clap.specs.Takes.{is_given}
use Rattle.clap.specs.Values.{IsSignedIn}
use Rattle.clap.specs.Walk.{Row, Rule, Text, first_of, nothing_held, rows_after, settled, walk}
use Rattle.clap.specs.declared.builder.value_parser.Reading.TheVariants.{AsWritten, WithoutMinus}
use Rattle.sw_args.specs.CommandLine.{IsCount, most_seed, most_steps, most_tries, most_workers, optional_value, required_values}
use Rattle.sw_args.proofs.Kept.{Each, Keeps, KeepsDefault}
use Rattle.sw_args.proofs.Given.{Counts, Holds, IsPlain, Level, count_at, count_default, count_keeps, count_there, counts_nothing, flag_at, flag_default, flag_keeps, given_count, given_value, help_at, help_default, help_keeps, all_faults_at, hints_at, notes_at, level_gives, limit_counts, option_at, option_default, option_keeps, required_at, required_default, required_keeps, seed_counts, tries_count, workers_count}

abbrev pub json_at : ℕ → Rule
json_at i = flag_at i (codes "json")

abbrev pub file_at : Rule
file_at = required_at 1 (codes "FILE")

-- the last arguments, without `--json` and with it
abbrev pub last_rules : ℕ → List Rule
last_rules i = hints_at i ∷ notes_at i ∷ all_faults_at i ∷ help_at i ∷ []

abbrev pub json_rules : ℕ → List Rule
json_rules i = json_at i ∷ last_rules i

abbrev pub file_rules : List Rule
file_rules = file_at ∷ last_rules 2

abbrev pub answer_rules : List Rule
answer_rules = file_at ∷ json_rules 2

abbrev pub flag_rules : Text → List Rule
flag_rules name = file_at ∷ flag_at 2 name ∷ json_rules 2

abbrev pub draw_rules : List Rule
draw_rules = file_at ∷ option_at 2 (codes "flow") ∷ flag_at 2 (codes "cycle") ∷ flag_at 2 (codes "numbers") ∷ last_rules 2

abbrev pub pair_rules : Text → List Rule
pair_rules second = file_at ∷ required_at 2 second ∷ json_rules 3

abbrev pub rmap_rules : List Rule
rmap_rules = file_at ∷ required_at 2 (codes "FLOW") ∷ required_at 3 (codes "ACTION") ∷ required_at 4 (codes "ADDRESS")
    ∷ required_at 5 (codes "VALUE") ∷ flag_at 6 (codes "no-ack") ∷ option_at 6 (codes "transaction") ∷ last_rules 6

abbrev pub run_rules : List Rule
run_rules = file_at ∷ required_at 2 (codes "LOAD") ∷ count_at 3 (codes "workers") (codes "4") most_workers
    ∷ count_at 3 (codes "limit") (codes "1000000") most_steps ∷ option_at 3 (codes "schedule") ∷ flag_at 3 (codes "summary") ∷ json_rules 3

abbrev pub witness_rules : List Rule
witness_rules = file_at ∷ count_at 2 (codes "tries") (codes "200") most_tries ∷ count_at 2 (codes "seed") (codes "1") most_seed ∷ last_rules 2

-- (of these two no value has to be there)
abbrev pub audit_rules : List Rule
audit_rules = with_index 1 (filled (required_values (codes "FILE"))) ∷ json_at 2 ∷ flag_at 2 (codes "quiet") ∷ option_at 2 (codes "certificates") ∷ last_rules 2

abbrev pub init_rules : List Rule
init_rules = with_index 1 (filled (optional_value (codes "NAME"))) ∷ last_rules 2

-- a use of the argument, and its default, keep what the rows hold
abbrev Sound : Rule → Type 0
Sound a = Keeps Holds false a × KeepsDefault Holds a

required_sound : (i : ℕ) (id : Text) → IsPlain id → Sound (required_at i id)
required_sound i id plain = (required_keeps false i id (counts_nothing id AsWritten plain), required_default i id)

flag_sound : (i : ℕ) (name : Text) → IsPlain name → Sound (flag_at i name)
flag_sound i name plain =
    let counts = counts_nothing name AsWritten plain in
    (flag_keeps false i name counts, flag_default i name counts)

option_sound : (i : ℕ) (name : Text) → IsPlain name → Sound (option_at i name)
option_sound i name plain = (option_keeps false i name (counts_nothing name AsWritten plain), option_default i name)

count_sound : (i : ℕ) (name usual : Text) (most : ℕ) → ((v : Text) → IsSignedIn (pos 1) (pos most) v → Counts name WithoutMinus v) → Sound (count_at i name usual most)
count_sound i name usual most counts = (count_keeps false i name usual most counts, count_default i name usual most counts)

hints_sound : (i : ℕ) → Sound (hints_at i)
hints_sound i = option_sound i (codes "hints") (refl, refl, refl, refl)

notes_sound : (i : ℕ) → Sound (notes_at i)
notes_sound i = option_sound i (codes "notes") (refl, refl, refl, refl)

all_faults_sound : (i : ℕ) → Sound (all_faults_at i)
all_faults_sound i = flag_sound i (codes "all-faults") (refl, refl, refl, refl)

help_sound : (i : ℕ) → Sound (help_at i)
help_sound i = (help_keeps false i, help_default i)

file_sound : Sound file_at
file_sound = required_sound 1 (codes "FILE") (refl, refl, refl, refl)

last_sound : (i : ℕ) → Each Sound (last_rules i)
last_sound i = (hints_sound i, (notes_sound i, (all_faults_sound i, (help_sound i, tt))))

json_sound : (i : ℕ) → Each Sound (json_rules i)
json_sound i = (flag_sound i (codes "json") (refl, refl, refl, refl), last_sound i)

all_keep : (rules : List Rule) → Each Sound rules → Each (Keeps Holds false) rules
all_keep [] each = tt
all_keep (a ∷ rest) each = (each.0.0, all_keep rest each.1)

all_default : (rules : List Rule) → Each Sound rules → Each (KeepsDefault Holds) rules
all_default [] each = tt
all_default (a ∷ rest) each = (each.0.1, all_default rest each.1)

sound_gives : (name : Text) (rules : List Rule) (words : List Text) → Each Sound rules → Level name rules words
    → Each Holds (rows_after rules [] words) × Each (λ a. (a.required && not (is_given a.id (rows_after rules [] words))) ≡ false) rules
sound_gives name rules words each e = level_gives name rules words (all_keep rules each) (all_default rules each) e

abbrev HasFirst : Text → List Row → Type 0
HasFirst id rows = (v : Text) × (first_of id rows ≡ Some v)

-- the file is there, whatever sound rules come after it
with_file : (name : Text) (rest : List Rule) (words : List Text) → Each Sound rest → Level name (file_at ∷ rest) words
    → HasFirst (codes "FILE") (rows_after (file_at ∷ rest) [] words)
with_file name rest words sound e =
    let level = sound_gives name (file_at ∷ rest) words (file_sound, sound) e in
    given_value (codes "FILE") _ level.0 level.1.0

pub file_given : (name : Text) (words : List Text) → Level name file_rules words → HasFirst (codes "FILE") (rows_after file_rules [] words)
file_given name words e = with_file name (last_rules 2) words (last_sound 2) e

pub answer_given : (name : Text) (words : List Text) → Level name answer_rules words → HasFirst (codes "FILE") (rows_after answer_rules [] words)
answer_given name words e = with_file name (json_rules 2) words (json_sound 2) e

pub flag_given : (name flag : Text) (words : List Text) → IsPlain flag → Level name (flag_rules flag) words
    → HasFirst (codes "FILE") (rows_after (flag_rules flag) [] words)
flag_given name flag words plain e = with_file name (flag_at 2 flag ∷ json_rules 2) words (flag_sound 2 flag plain, json_sound 2) e

pub draw_given : (name : Text) (words : List Text) → Level name draw_rules words → HasFirst (codes "FILE") (rows_after draw_rules [] words)
draw_given name words e = with_file name _ words (
  option_sound 2 (codes "flow") (refl, refl, refl, refl),
  (flag_sound 2 (codes "cycle") (refl, refl, refl, refl), (flag_sound 2 (codes "numbers") (refl, refl, refl, refl), last_sound 2)),
) e

pub pair_given : (name second : Text) (words : List Text) → IsPlain second → Level name (pair_rules second) words
    → HasFirst (codes "FILE") (rows_after (pair_rules second) [] words) × HasFirst second (rows_after (pair_rules second) [] words)
pair_given name second words plain e =
    let level = sound_gives name (pair_rules second) words (file_sound, (required_sound 2 second plain, json_sound 3)) e in
    (given_value (codes "FILE") _ level.0 level.1.0, given_value second _ level.0 level.1.1.0)

pub rmap_given : (name : Text) (words : List Text) → Level name rmap_rules words
    → HasFirst (codes "FILE") (rows_after rmap_rules [] words) × HasFirst (codes "FLOW") (rows_after rmap_rules [] words)
    × HasFirst (codes "ACTION") (rows_after rmap_rules [] words) × HasFirst (codes "ADDRESS") (rows_after rmap_rules [] words)
    × HasFirst (codes "VALUE") (rows_after rmap_rules [] words)
rmap_given name words e =
    let level = sound_gives name rmap_rules words (
      file_sound,
      (
        required_sound 2 (codes "FLOW") (refl, refl, refl, refl),
        (
          required_sound 3 (codes "ACTION") (refl, refl, refl, refl),
          (
            required_sound 4 (codes "ADDRESS") (refl, refl, refl, refl),
            (
              required_sound 5 (codes "VALUE") (refl, refl, refl, refl),
              (
                flag_sound 6 (codes "no-ack") (refl, refl, refl, refl),
                (option_sound 6 (codes "transaction") (refl, refl, refl, refl), last_sound 6),
              ),
            ),
          ),
        ),
      ),
    ) e in (
      given_value (codes "FILE") _ level.0 level.1.0,
      given_value (codes "FLOW") _ level.0 level.1.1.0,
      given_value (codes "ACTION") _ level.0 level.1.1.1.0,
      given_value (codes "ADDRESS") _ level.0 level.1.1.1.1.0,
      given_value (codes "VALUE") _ level.0 level.1.1.1.1.1.0,
    )

pub run_given : (name : Text) (words : List Text) → Level name run_rules words
    → HasFirst (codes "FILE") (rows_after run_rules [] words) × HasFirst (codes "LOAD") (rows_after run_rules [] words)
    × ((n : ℕ) × IsCount most_workers (codes "workers") (rows_after run_rules [] words) n)
    × ((n : ℕ) × IsCount most_steps (codes "limit") (rows_after run_rules [] words) n)
run_given name words e =
    let one = file_at in
    let two = required_at 2 (codes "LOAD") in
    let three = count_at 3 (codes "workers") (codes "4") most_workers in
    let four = count_at 3 (codes "limit") (codes "1000000") most_steps in
    let five = option_at 3 (codes "schedule") in
    let six = flag_at 3 (codes "summary") in
    let start = (settled run_rules (walk run_rules [] nothing_held words).held).rows in
    let level = sound_gives name run_rules words (
      file_sound,
      (
        required_sound 2 (codes "LOAD") (refl, refl, refl, refl),
        (
          count_sound 3 (codes "workers") (codes "4") most_workers workers_count,
          (
            count_sound 3 (codes "limit") (codes "1000000") most_steps limit_counts,
            (
              option_sound 3 (codes "schedule") (refl, refl, refl, refl),
              (flag_sound 3 (codes "summary") (refl, refl, refl, refl), json_sound 3),
            ),
          ),
        ),
      ),
    ) e in (
      given_value (codes "FILE") _ level.0 level.1.0,
      given_value (codes "LOAD") _ level.0 level.1.1.0,
      given_count (codes "workers") most_workers _ level.0
          (count_there (one ∷ two ∷ []) (four ∷ five ∷ six ∷ json_rules 3) 3 (codes "workers") (codes "4") most_workers start) (λ id how v is counts. counts.0 is),
      given_count (codes "limit") most_steps _ level.0
          (count_there (one ∷ two ∷ three ∷ []) (five ∷ six ∷ json_rules 3) 3 (codes "limit") (codes "1000000") most_steps start) (λ id how v is counts. counts.1 is),
    )

pub witness_given : (name : Text) (words : List Text) → Level name witness_rules words
    → HasFirst (codes "FILE") (rows_after witness_rules [] words)
    × ((n : ℕ) × IsCount most_tries (codes "tries") (rows_after witness_rules [] words) n)
    × ((n : ℕ) × IsCount most_seed (codes "seed") (rows_after witness_rules [] words) n)
witness_given name words e =
    let one = file_at in
    let two = count_at 2 (codes "tries") (codes "200") most_tries in
    let three = count_at 2 (codes "seed") (codes "1") most_seed in
    let start = (settled witness_rules (walk witness_rules [] nothing_held words).held).rows in
    let level = sound_gives name witness_rules words (
      file_sound,
      (
        count_sound 2 (codes "tries") (codes "200") most_tries tries_count,
        (count_sound 2 (codes "seed") (codes "1") most_seed seed_counts, last_sound 2),
      ),
    ) e in (
      given_value (codes "FILE") _ level.0 level.1.0,
      given_count (codes "tries") most_tries _ level.0
          (count_there (one ∷ []) (three ∷ last_rules 2) 2 (codes "tries") (codes "200") most_tries start) (λ id how v is counts. counts.2 is),
      given_count (codes "seed") most_seed _ level.0
          (count_there (one ∷ two ∷ []) (last_rules 2) 2 (codes "seed") (codes "1") most_seed start) (λ id how v is counts. counts.3 is),
    )
