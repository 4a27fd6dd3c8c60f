-- Each value that a subcommand requires is among its matches, where no fault is met.
use Rattle.std.proofs.Common.{◌≡◌, ◌∙◌, ◌≤◌, ◌&&◌, ◌||◌, ◌++◌, ◌==◌, Bool, List, ℕ, Option, Some, None, [], ◌∷◌, true, false, not, true≢false, refl, sym, ap, cond, codes, drop, arith, length}
use Rattle.std.specs.Prelude.{find, option_and_then, option_map, pos, slice_get}
use Rattle.std.specs.List.{fold, list_any}
use Rattle.std.specs.Option.{option_map_or, unwrap_or}
use Rattle.std.specs.Str.{bytes_eq}
use Rattle.std.specs.Str.Parse.{IsNumeral, digits_value, starts_with_minus, without_leading_plus}
use Rattle.std.proofs.lemmas.Int.{ints}
use Rattle.std.proofs.lemmas.Slice.Eq.{bytes_eq-Decides}
use Rattle.clap.specs.Lexer.{without_minus}
use Rattle.clap.specs.Facts.{explicit_source}
use Rattle.clap.specs.Faults.{defaults_fault, level_fault, repeat_fault, settle_fault, walk_fault}
use Rattle.clap.specs.Kinds.{or_else, range_kinds, value_kinds}
use Rattle.clap.specs.Simple.{Shape, filled, help_rule, new_shape, with_index}
use Rattle.clap.specs.Takes.{is_given}
use Rattle.clap.specs.Values.{Accepts, IsSignedIn, read_as, refused_kind}
use Rattle.clap.specs.ValueTests.{accepts}
use Rattle.clap.specs.Walk.{Row, Rule, Text, at_row, default_rows, first_of, has_row, more_values, nothing_held, one_of, reading_by, row_text, rows_after, settled, walk, walk_from, with_default, with_values, without}
use Rattle.clap.proofs.ValueTestLemmas.{accepts-Accepts}
use Rattle.clap.specs.declared.builder.value_parser.Reading.{Reading}
use Rattle.clap.specs.declared.builder.value_parser.Reading.TheVariants.{AsWritten, WithoutMinus}
use Rattle.clap.specs.declared.builder.value_parser.ValueParser.{ValueParser}
use Rattle.clap.specs.declared.builder.value_parser.ValueParser.TheVariants.{Signed}
use Rattle.clap.specs.declared.error.kind.ErrorKind.TheVariants as kind
use Rattle.clap.specs.declared.parser.matches.ValueSource.{ValueSource}
use Rattle.clap.specs.declared.parser.matches.ValueSource.TheVariants.{CommandLine, DefaultValue}
use Rattle.sw_args.specs.CommandLine.{IsCount, count_rule, flag_rule, most_seed, most_steps, most_tries, most_workers, option_rule, required_value}
use Rattle.sw_args.proofs.Kept.{Each, Keeps, KeepsDefault, defaults_keep, end_keeps, first_none, found_in, then_none, walk_keeps}

-- the value is a number from 1 up to the most
abbrev IsNumberIn : ℕ → Reading → Text → Type 0
IsNumberIn most how v = (how ≡ WithoutMinus) × IsSignedIn (pos 1) (pos most) v

-- so it is of an option that counts
abbrev pub Counts : Text → Reading → Text → Type 0
Counts id how v = (id ≡ codes "workers" → IsNumberIn most_workers how v) × (id ≡ codes "limit" → IsNumberIn most_steps how v)
    × (id ≡ codes "tries" → IsNumberIn most_tries how v) × (id ≡ codes "seed" → IsNumberIn most_seed how v)

-- no option that counts has this name
abbrev pub IsPlain : Text → Type 0
IsPlain id = (bytes_eq id (codes "workers") ≡ false) × (bytes_eq id (codes "limit") ≡ false)
    × (bytes_eq id (codes "tries") ≡ false) × (bytes_eq id (codes "seed") ≡ false)

-- the row has a value, and its first is of its argument's kind
abbrev pub Holds : Row → Type 0
Holds r = (v : Text) × (rest : List Text) × (r.values ≡ v ∷ rest) × Counts r.id r.reading v

values_hold : (id : Text) (how : Reading) (source : ValueSource) (v : Text) (vs : List Text) (rows : List Row) → Counts id how v → Each Holds rows
    → Each Holds (with_values id how source (v ∷ vs) rows)
values_hold id how source v vs [] counts each = ((v, vs, refl, counts), tt)
values_hold id how source v vs (r ∷ rs) counts each = go (bytes_eq r.id id) (values_hold id how source v vs rs counts each.1)
  where
    new : Row
    new = record { id = id; values = v ∷ vs; count = None; source = Some source; reading = how }

    go : (b : Bool) → Each Holds (with_values id how source (v ∷ vs) rs)
        → Each Holds (cond b (more_values source (v ∷ vs) r ++ rs) (r ∷ at_row id (more_values source (v ∷ vs)) (new ∷ []) rs))
    go true rest =
        let first = each.0 in
        ((first.0, first.1 ++ v ∷ vs, ap (λ (l : List Text). l ++ v ∷ vs) first.2, first.3), each.1)
    go false rest = (each.0, rest)

without_holds : (id : Text) (rows : List Row) → Each Holds rows → Each Holds (without id rows)
without_holds id [] each = tt
without_holds id (r ∷ rs) each = go (bytes_eq r.id id) (without_holds id rs each.1)
  where
    go : (b : Bool) → Each Holds (without id rs) → Each Holds (cond b ([] ++ rs) (r ∷ without id rs))
    go true rest = each.1
    go false rest = (each.0, rest)

accepted : (ignore_case : Bool) (p : ValueParser) (v : Text) → value_kinds ignore_case p v ≡ [] → Accepts ignore_case p v
accepted ignore_case p v e = go (accepts ignore_case p v) refl e
  where
    go : (b : Bool) → accepts ignore_case p v ≡ b → cond b [] (refused_kind p ∷ []) ≡ [] → Accepts ignore_case p v
    go true is f = accepts-Accepts ignore_case p v is
    go false is f = absurd cc

-- ---- the rules of a subcommand

abbrev pub required_at : ℕ → Text → Rule
required_at i id = with_index i (filled (required_value id))

abbrev pub count_at : ℕ → Text → Text → ℕ → Rule
count_at i name usual most = with_index i (filled (count_rule name usual most))

abbrev pub flag_at : ℕ → Text → Rule
flag_at i name = with_index i (filled (flag_rule name))

abbrev pub option_at : ℕ → Text → Rule
option_at i name = with_index i (filled (option_rule name))

abbrev pub hints_at : ℕ → Rule
hints_at i = option_at i (codes "hints")

abbrev pub notes_at : ℕ → Rule
notes_at i = option_at i (codes "notes")

abbrev pub all_faults_at : ℕ → Rule
all_faults_at i = flag_at i (codes "all-faults")

abbrev pub help_at : ℕ → Rule
help_at i = with_index i (filled help_rule)

pub required_keeps : (again : Bool) (i : ℕ) (id : Text) → ((v : Text) → Counts id AsWritten v) → Keeps Holds again (required_at i id)
required_keeps again i id counts [] rows e each = absurd cc
required_keeps again i id counts (v ∷ vs) rows e each = values_hold id AsWritten CommandLine v vs (without id rows) (counts v) (without_holds id rows each)

pub required_default : (i : ℕ) (id : Text) → KeepsDefault Holds (required_at i id)
required_default i id rows e each = go (has_row id rows)
  where
    go : (b : Bool) → Each Holds (cond b rows rows)
    go true = each
    go false = each

pub count_keeps : (again : Bool) (i : ℕ) (name usual : Text) (most : ℕ) → ((v : Text) → IsSignedIn (pos 1) (pos most) v → Counts name WithoutMinus v)
    → Keeps Holds again (count_at i name usual most)
count_keeps again i name usual most counts [] rows e each = absurd cc
count_keeps again i name usual most counts (v ∷ vs) rows e each =
    let used = then_none (range_kinds 1 1 (length (v ∷ vs))) _ e in
    let values = then_none (repeat_fault again name rows) _ used in
    let first = first_none (value_kinds false (Signed (pos 1) (pos most)) v) _ values in
    values_hold name WithoutMinus CommandLine v vs (without name rows) (counts v (accepted false (Signed (pos 1) (pos most)) v first)) (without_holds name rows each)

pub count_default : (i : ℕ) (name usual : Text) (most : ℕ) → ((v : Text) → IsSignedIn (pos 1) (pos most) v → Counts name WithoutMinus v)
    → KeepsDefault Holds (count_at i name usual most)
count_default i name usual most counts rows e each = go (has_row name rows) e
  where
    go : (b : Bool)
        → cond (b || false) [] (or_else (value_kinds false (Signed (pos 1) (pos most)) usual) []) ≡ []
        → Each Holds (cond b rows (with_values name WithoutMinus DefaultValue (usual ∷ []) rows))
    go true f = each
    go false f = values_hold name WithoutMinus DefaultValue usual [] rows (counts usual (accepted false (Signed (pos 1) (pos most)) usual (first_none (value_kinds false (Signed (pos 1) (pos most)) usual) [] f))) each

pub flag_keeps : (again : Bool) (i : ℕ) (name : Text) → ((v : Text) → Counts name AsWritten v) → Keeps Holds again (flag_at i name)
flag_keeps again i name counts [] rows e each =
    values_hold name AsWritten CommandLine (codes "true") [] (without name rows) (counts (codes "true")) (without_holds name rows each)
flag_keeps again i name counts (v ∷ vs) rows e each = values_hold name AsWritten CommandLine v vs (without name rows) (counts v) (without_holds name rows each)

pub flag_default : (i : ℕ) (name : Text) → ((v : Text) → Counts name AsWritten v) → KeepsDefault Holds (flag_at i name)
flag_default i name counts rows e each = go (has_row name rows)
  where
    go : (b : Bool) → Each Holds (cond b rows (with_values name AsWritten DefaultValue (codes "false" ∷ []) rows))
    go true = each
    go false = values_hold name AsWritten DefaultValue (codes "false") [] rows (counts (codes "false")) each

pub option_keeps : (again : Bool) (i : ℕ) (name : Text) → ((v : Text) → Counts name AsWritten v) → Keeps Holds again (option_at i name)
option_keeps again i name counts [] rows e each = absurd cc
option_keeps again i name counts (v ∷ vs) rows e each = values_hold name AsWritten CommandLine v vs (without name rows) (counts v) (without_holds name rows each)

pub option_default : (i : ℕ) (name : Text) → KeepsDefault Holds (option_at i name)
option_default i name rows e each = go (has_row name rows)
  where
    go : (b : Bool) → Each Holds (cond b rows rows)
    go true = each
    go false = each

pub help_keeps : (again : Bool) (i : ℕ) → Keeps Holds again (help_at i)
help_keeps again i values rows e each =
    let asked : kind.DisplayHelp ∷ [] ≡ [] = then_none (range_kinds 0 0 (length values)) _ e in
    absurd cc

pub help_default : (i : ℕ) → KeepsDefault Holds (help_at i)
help_default i rows e each = go (has_row (codes "help") rows)
  where
    go : (b : Bool) → Each Holds (cond b rows rows)
    go true = each
    go false = each

no_name : (a b : Text) → bytes_eq a b ≡ false → a ≡ b → ⊥
no_name a b differ is = true≢false (sym ((bytes_eq-Decides a b).1 is) ∙ differ)

-- an argument of another name counts nothing
pub counts_nothing : (id : Text) (how : Reading) → IsPlain id → (v : Text) → Counts id how v
counts_nothing id how plain v = (
  λ is. absurd (no_name id _ plain.0 is),
  λ is. absurd (no_name id _ plain.1 is),
  λ is. absurd (no_name id _ plain.2 is),
  λ is. absurd (no_name id _ plain.3 is),
)

pub workers_count : (v : Text) → IsSignedIn (pos 1) (pos most_workers) v → Counts (codes "workers") WithoutMinus v
workers_count v number = (
  λ is. (refl, number),
  λ is. absurd (no_name (codes "workers") (codes "limit") refl is),
  λ is. absurd (no_name (codes "workers") (codes "tries") refl is),
  λ is. absurd (no_name (codes "workers") (codes "seed") refl is),
)

pub limit_counts : (v : Text) → IsSignedIn (pos 1) (pos most_steps) v → Counts (codes "limit") WithoutMinus v
limit_counts v number = (
  λ is. absurd (no_name (codes "limit") (codes "workers") refl is),
  λ is. (refl, number),
  λ is. absurd (no_name (codes "limit") (codes "tries") refl is),
  λ is. absurd (no_name (codes "limit") (codes "seed") refl is),
)

pub tries_count : (v : Text) → IsSignedIn (pos 1) (pos most_tries) v → Counts (codes "tries") WithoutMinus v
tries_count v number = (
  λ is. absurd (no_name (codes "tries") (codes "workers") refl is),
  λ is. absurd (no_name (codes "tries") (codes "limit") refl is),
  λ is. (refl, number),
  λ is. absurd (no_name (codes "tries") (codes "seed") refl is),
)

pub seed_counts : (v : Text) → IsSignedIn (pos 1) (pos most_seed) v → Counts (codes "seed") WithoutMinus v
seed_counts v number = (
  λ is. absurd (no_name (codes "seed") (codes "workers") refl is),
  λ is. absurd (no_name (codes "seed") (codes "limit") refl is),
  λ is. absurd (no_name (codes "seed") (codes "tries") refl is),
  λ is. (refl, number),
)

-- ---- what the rows say

pub given_value : (id : Text) (rows : List Row) → Each Holds rows → not (is_given id rows) ≡ false → (v : Text) × (first_of id rows ≡ Some v)
given_value id rows each given = go (find (λ r. bytes_eq r.id id) rows) refl given
  where
    go : (o : Option Row) → find (λ r. bytes_eq r.id id) rows ≡ o
        → not (option_map_or (λ (r : Row). explicit_source r.source) o false) ≡ false → (v : Text) × (first_of id rows ≡ Some v)
    go None is g = absurd cc
    go (Some r) is g =
        let held = (found_in Holds _ rows r each is).0 in
        (held.0, ap (option_and_then (λ (x : Row). slice_get x.values 0)) is ∙ ap (λ (l : List Text). slice_get l 0) held.2)

without_minus-cond : (t : Text) → without_minus t ≡ cond (starts_with_minus t) (drop 1 t) t
without_minus-cond [] = refl
without_minus-cond (x ∷ xs) = go (x == 45)
  where
    go : (b : Bool) → unwrap_or (cond b (Some xs) None) (x ∷ xs) ≡ cond b xs (x ∷ xs)
    go true = refl
    go false = refl

-- a text that passed the range, without its minus, writes a number of the range
in_range : (most : ℕ) (t : Text) → IsSignedIn (pos 1) (pos most) t
    → (n : ℕ) × IsNumeral 10 (without_leading_plus (without_minus t)) × (digits_value 10 (without_leading_plus (without_minus t)) ≡ n) × (1 ≤ n) × (n ≤ most)
in_range most t passed = go (starts_with_minus t) refl (without_minus-cond t)
  where
    go : (b : Bool) → starts_with_minus t ≡ b → without_minus t ≡ cond (starts_with_minus t) (drop 1 t) t
        → (n : ℕ) × IsNumeral 10 (without_leading_plus (without_minus t)) × (digits_value 10 (without_leading_plus (without_minus t)) ≡ n) × (1 ≤ n) × (n ≤ most)
    go true minus same =
        let low = rw minus at passed.2 in
        absurd (omega (arith, ints))
    go false minus same =
        let low = rw minus at passed.2 in
        let high = rw minus at passed.3 in
        let numeral = rw minus at passed.0 in
        let whole : without_minus t ≡ t = rw minus at same in
        (digits_value 10 (without_leading_plus t), rw whole numeral, rw whole refl, omega (arith, ints), omega (arith, ints))

found_some : (test : Row → Bool) (rows : List Row) → list_any test rows ≡ true → (r : Row) × (find test rows ≡ Some r)
found_some test [] e = absurd cc
found_some test (x ∷ xs) e = go (test x) e (found_some test xs)
  where
    go : (b : Bool) → (b || list_any test xs) ≡ true → (list_any test xs ≡ true → (r : Row) × (find test xs ≡ Some r))
        → (r : Row) × (cond b (Some x) (find test xs) ≡ Some r)
    go true f rest = (x, refl)
    go false f rest = rest f

pub given_count : (id : Text) (most : ℕ) (rows : List Row) → Each Holds rows → has_row id rows ≡ true
    → ((name : Text) (how : Reading) (v : Text) → name ≡ id → Counts name how v → IsNumberIn most how v) → (n : ℕ) × IsCount most id rows n
given_count id most rows each there counts =
    let found = found_some (λ r. bytes_eq r.id id) rows there in
    let r = found.0 in
    let held = found_in Holds (λ r. bytes_eq r.id id) rows r each found.1 in
    let row = held.0 in
    let number = counts r.id r.reading row.0 ((bytes_eq-Decides r.id id).0 held.1) row.3 in
    let n = in_range most row.0 number.1 in
    let text : one_of id rows ≡ Some (without_minus row.0) =
    ap (option_and_then row_text) found.1 ∙ (λ i. option_map (read_as (number.0 i)) (slice_get (row.2 i) 0)) in
    (n.0, ((without_minus row.0, text, n.1, n.2), n.3, n.4))

-- ---- rows that a default leaves, and makes

row_stays : (id other : Text) (how : Reading) (source : ValueSource) (v : Text) (vs : List Text) (rows : List Row) → has_row id rows ≡ true
    → has_row id (with_values other how source (v ∷ vs) rows) ≡ true
row_stays id other how source v vs [] there = absurd cc
row_stays id other how source v vs (r ∷ rs) there = go (bytes_eq r.id other) (bytes_eq r.id id) there (row_stays id other how source v vs rs)
  where
    new : Row
    new = record { id = other; values = v ∷ vs; count = None; source = Some source; reading = how }

    change : Row → List Row
    change = more_values source (v ∷ vs)

    either : (b : Bool) → (b || has_row id rs) ≡ true → (has_row id rs ≡ true → has_row id (at_row other change (new ∷ []) rs) ≡ true)
        → (b || has_row id (at_row other change (new ∷ []) rs)) ≡ true
    either true e rest = refl
    either false e rest = rest e

    go : (b same : Bool) → (bytes_eq r.id id || has_row id rs) ≡ true → (has_row id rs ≡ true → has_row id (at_row other change (new ∷ []) rs) ≡ true)
        → has_row id (cond b (change r ++ rs) (r ∷ at_row other change (new ∷ []) rs)) ≡ true
    go true same e rest = e
    go false same e rest = either (bytes_eq r.id id) e rest

row_made : (id : Text) (how : Reading) (source : ValueSource) (v : Text) (vs : List Text) (rows : List Row) → has_row id (with_values id how source (v ∷ vs) rows) ≡ true
row_made id how source v vs [] = rw ((bytes_eq-Decides id id).1 refl) refl
row_made id how source v vs (r ∷ rs) = go (bytes_eq r.id id) refl (row_made id how source v vs rs)
  where
    new : Row
    new = record { id = id; values = v ∷ vs; count = None; source = Some source; reading = how }

    change : Row → List Row
    change = more_values source (v ∷ vs)

    go : (b : Bool) → bytes_eq r.id id ≡ b → has_row id (at_row id change (new ∷ []) rs) ≡ true
        → has_row id (cond b (change r ++ rs) (r ∷ at_row id change (new ∷ []) rs)) ≡ true
    go true is rest = rw is refl
    go false is rest = rw is rest

default_stays : (id : Text) (a : Rule) (rows : List Row) → has_row id rows ≡ true → has_row id (with_default rows a) ≡ true
default_stays id a rows there = go (has_row a.id rows) a.defaults
  where
    go : (b : Bool) (defaults : List Text) → has_row id (cond b rows (default_rows a.id (reading_by a) defaults rows)) ≡ true
    go true defaults = there
    go false [] = there
    go false (v ∷ vs) = row_stays id a.id (reading_by a) DefaultValue v vs rows there

defaults_stay : (id : Text) (rules : List Rule) (rows : List Row) → has_row id rows ≡ true → has_row id (fold with_default rows rules) ≡ true
defaults_stay id [] rows there = there
defaults_stay id (a ∷ rest) rows there = defaults_stay id rest (with_default rows a) (default_stays id a rows there)

count_made : (i : ℕ) (name usual : Text) (most : ℕ) (rows : List Row) → has_row name (with_default rows (count_at i name usual most)) ≡ true
count_made i name usual most rows = go (has_row name rows) refl
  where
    go : (b : Bool) → has_row name rows ≡ b → has_row name (cond b rows (with_values name WithoutMinus DefaultValue (usual ∷ []) rows)) ≡ true
    go true is = is
    go false is = row_made name WithoutMinus DefaultValue usual [] rows

-- an option that counts has a row, whatever comes before and after it
pub count_there : (before after : List Rule) (i : ℕ) (name usual : Text) (most : ℕ) (rows : List Row)
    → has_row name (fold with_default rows (before ++ count_at i name usual most ∷ after)) ≡ true
count_there [] after i name usual most rows = defaults_stay name after _ (count_made i name usual most rows)
count_there (a ∷ before) after i name usual most rows = count_there before after i name usual most (with_default rows a)

-- ---- one level of words

-- a subcommand with these rules, built
abbrev pub leaf : Text → List Rule → Shape
leaf name rules = record (new_shape name) { rules = rules; disable_help_subcommand = true; is_built = true }

no_missing : (test : Rule → Bool) (rules : List Rule) → cond (list_any test rules) (kind.MissingRequiredArgument ∷ []) [] ≡ [] → Each (λ a. test a ≡ false) rules
no_missing test [] e = tt
no_missing test (a ∷ rest) e = go (test a) refl e (no_missing test rest)
  where
    go : (b : Bool) → test a ≡ b → cond (b || list_any test rest) (kind.MissingRequiredArgument ∷ []) [] ≡ []
        → (cond (list_any test rest) (kind.MissingRequiredArgument ∷ []) [] ≡ [] → Each (λ x. test x ≡ false) rest)
        → Each (λ x. test x ≡ false) (a ∷ rest)
    go true is f more = absurd cc
    go false is f more = (is, more f)

abbrev pub Level : Text → List Rule → List Text → Type 0
Level name rules words = level_fault (leaf name rules) [] nothing_held words false [] ≡ []

pub level_gives : (name : Text) (rules : List Rule) (words : List Text) → Each (Keeps Holds false) rules → Each (KeepsDefault Holds) rules
    → Level name rules words
    → Each Holds (rows_after rules [] words) × Each (λ a. (a.required && not (is_given a.id (rows_after rules [] words))) ≡ false) rules
level_gives name rules words keeps defaults e =
    let s = leaf name rules in
    let end = (walk rules [] nothing_held words).held in
    let walked = first_none (walk_fault s [] (walk_from nothing_held) words) _ e in
    let after = then_none (walk_fault s [] (walk_from nothing_held) words) _ e in
    let settles = first_none (settle_fault rules false end) _ after in
    let later = then_none (settle_fault rules false end) _ after in
    let defaulted = first_none (defaults_fault (settled rules end).rows rules) _ later in
    let checked = then_none (defaults_fault (settled rules end).rows rules) _ later in
    let held = end_keeps Holds s keeps end settles (walk_keeps Holds s keeps [] words (walk_from nothing_held) walked tt) in
    (defaults_keep Holds rules (settled rules end).rows defaults defaulted held, no_missing _ rules checked)
