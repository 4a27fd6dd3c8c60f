-- What clap's matches say of the words.
use Rattle.std.proofs.Common.{◌≡◌, ◌∷◌, ◌||◌, ◌+◌, ◌-◌, ◌<◌, Fits, w64, Bor, List, ℕ, [], Option, arith, refl, sym, ap, ◌∙◌, subst, true, false, inl, inr, length, take, get_or, zero, suc}
use Rattle.std.proofs.lemmas.List.Sums.{fold_more}
use Rattle.std.specs.Prelude.{IfErr, IfOk, IsSome, Result, Ok, Err, Some, None, option_map, slice_get}
use Rattle.std.specs.Option.{unwrap_or}
use Rattle.clap.specs.Built.{AddsArg, AddsSubcommand}
use Rattle.clap.specs.Simple.{app_of_fields, with_rule, with_subcommand}
use Rattle.clap.specs.Words.{App, Row, Rule, app_of, rule_of, FailsBy, HasKind, HasMatchesOf, fault_of, is_simple, is_simple_and_free, kind_of, subcommand_of}
use Rattle.clap.specs.declared.builder.Arg.{Arg}
use Rattle.clap.specs.declared.builder.Command.{Command}
use Rattle.clap.specs.declared.builder.Command.TheViews.{out-Command}
use Rattle.clap.specs.declared.builder.command.Command.TheOpen.{Command-F}
use Rattle.clap.specs.declared.parser.matches.ArgMatches.{ArgMatches}
use Rattle.clap.specs.declared.error.Error.{Error}
use Rattle.sw_args.specs.declared.call.Asked.{Asked}
use Rattle.sw_args.specs.declared.call.WordsFault.{WordsFault}
use Rattle.sw_args.specs.declared.parts.Subcommand.{Subcommand}
use Rattle.sw_args.specs.declared.call.WordsFault.TheVariants.{Help, Refused, Memory}
use Rattle.sw_args.specs.Parts.{CommandPart, HasFound, part_rule, subcommand_app, subcommand_apps, with_parts, with_subcommands}
use Rattle.sw_args.specs.CommandLine.{swcheck_app, top_app, Gives, HasCall, IsCallOf, IsMade, IsMatched, IsOf, IsToldAs, MeetsCall, Refuses}

swcheck_simple : is_simple swcheck_app ≡ true
swcheck_simple = refl

swcheck_free : is_simple_and_free swcheck_app ≡ true
swcheck_free = refl

-- clap's own answer to the words is one of the whole command line
pub found_words : (app : App) (words : List (List ℕ)) (r : Result ArgMatches Error) → app ≡ swcheck_app → IfOk r (HasMatchesOf app words)
    → (is_simple_and_free app ≡ true → FailsBy (fault_of app words) r) → IfOk r (HasFound words)
found_words app words (Ok m) is found free =
    let simple : is_simple app ≡ true = ap is_simple is ∙ swcheck_simple in (
      (found simple).1 ∙ ap (λ (a : App). subcommand_of a words) is,
      ap (λ (a : App). fault_of a words) (sym is) ∙ free (ap is_simple_and_free is ∙ swcheck_free),
    )
found_words app words (Err e) is found free = tt

pub failed_words : (app : App) (words : List (List ℕ)) (r : Result ArgMatches Error) → app ≡ swcheck_app
    → (is_simple_and_free app ≡ true → FailsBy (fault_of app words) r) → IfErr r (HasKind (fault_of swcheck_app words))
failed_words app words (Ok m) is has = tt
failed_words app words (Err e) is has =
    subst (λ (a : App). HasKind (fault_of a words) e) is (has (ap is_simple_and_free is ∙ swcheck_free))

-- the subcommand that was met, by its name and its values
named : {S : Type 0} (f : S → List ℕ × List Row) (o : Option S) (name : List ℕ) (values : List Row) → Some name ≡ option_map (λ b. (f b).0) o
    → Some values ≡ option_map (λ p. p.1) (option_map f o) → option_map f o ≡ Some (name, values)
named f None name values first second = absurd cc
named f (Some b) name values first second =
    ap Some (λ i. (unwrap_or (sym first i) name, unwrap_or (sym second i) values))

-- the subcommand that clap gives is the one that was met
pub met_at : {X S : Type 0} (name : X → List ℕ) (rows : X → List Row) (f : S → List ℕ × List Row) (s : Option S) (o : Option X) (x : X) → o ≡ Some x
    → option_map name o ≡ option_map (λ b. (f b).0) s → option_map rows o ≡ option_map (λ p. p.1) (option_map f s) → option_map f s ≡ Some (name x, rows x)
met_at name rows f s o x is first second = named f s (name x) (rows x) (ap (option_map name) (sym is) ∙ first) (ap (option_map rows) (sym is) ∙ second)

-- where a call is met, clap gives a subcommand
pub gives_one : {X : Type 0} (rows : X → List Row) (o : Option X) (found : Option (List ℕ × List Row)) → option_map rows o ≡ option_map (λ p. p.1) found
    → MeetsCall found → IsSome o
gives_one rows (Some x) found same meets = refl
gives_one rows None found same (call, values, (name, is, is_call)) =
    let both : None ≡ Some values = same ∙ ap (λ (o : Option (List ℕ × List Row)). option_map (λ p. p.1) o) is in absurd cc

-- and it is a call
pub has_call : (found : Option (List ℕ × List Row)) (name : List ℕ) (values : List Row) → found ≡ Some (name, values) → MeetsCall found → HasCall name values
has_call found name values is (call, others, (other, at, is_call)) =
    (call, subst (λ (o : Option (List ℕ × List Row)). IsCallOf (unwrap_or o (name, values)).0 (unwrap_or o (name, values)).1 call) (sym at ∙ is) is_call)

-- what was asked for is what the words ask for
pub gives : (words : List (List ℕ)) (found : Option (List ℕ × List Row)) (told : Result Asked WordsFault) → found ≡ subcommand_of swcheck_app words
    → fault_of swcheck_app words ≡ [] → IfOk told (IsMatched found) → IfOk told (Gives words)
gives words found (Ok asked) same free is = (free, subst (λ (o : Option (List ℕ × List Row)). IsMatched o asked) same is)
gives words found (Err fault) same free is = tt

-- want of memory may come of any words
pub memory_refused : (words : List (List ℕ)) (told : Result Asked WordsFault) → IfErr told (λ fault. fault ≡ Memory) → IfErr told (Refuses words)
memory_refused words (Ok asked) is = tt
memory_refused words (Err fault) is = subst (Refuses words) (sym is) tt

-- the fault that tells of an error of clap's tells of one that the words have
pub refuses : (words : List (List ℕ)) (e : Error) (f : WordsFault) → HasKind (fault_of swcheck_app words) e → IsToldAs (kind_of e) f → Refuses words f
refuses words e Memory has shows = tt
refuses words e (Help text) has shows =
    elim has [
      | inl memory ↦ absurd (elim shows [ inl help ↦ cc | inr version ↦ cc ])
      | inr known ↦ (kind_of e, known, shows)
    ]
refuses words e (Refused text) has shows =
    elim has [
      | inl memory ↦ absurd (shows.0 memory)
      | inr known ↦ (kind_of e, known, shows)
    ]

-- a command that says what it is for
pub described : (new about : Command) (a : App) (what : Bor (List ℕ)) → app_of new ≡ a → (out-Command new).has_globals ≡ false
    → out-Command about ≡ record (out-Command new) { about = Some what } → IsMade a about
described new about a what is local says = (ap app_of_fields says ∙ is, ap (λ (f : Command-F Command). f.has_globals) says ∙ local)

-- a command that shows an example
pub shown : (old new : Command) (a : App) (example : Bor (List ℕ)) → out-Command new ≡ record (out-Command old) { after_help = Some example }
    → IsMade a old → IsMade a new
shown old new a example shows (is, local) = (ap app_of_fields shows ∙ is, ap (λ (f : Command-F Command). f.has_globals) shows ∙ local)

-- a command with one more argument
pub with_argument : (old : Command) (arg : Arg) (new : Command) (a : App) (r : Rule) → IsMade a old → (rule_of arg ≡ r) × (arg.global ≡ false) → AddsArg old arg new
    → IsMade (with_rule a r) new
with_argument old arg new a r made is adds =
    (adds.shape is.1 ∙ (λ i. with_rule (made.0 i) (is.0 i)), adds.globals ∙ (λ i. made.1 i || is.1 i))

-- a command with one more subcommand
pub with_added : (old sub new : Command) (a b : App) → app_of old ≡ a → IsMade b sub → AddsSubcommand old sub new → app_of new ≡ with_subcommand a b.top
with_added old sub new a b first second adds = adds.shape second.1 ∙ (λ i. with_subcommand (first i) (second.0 i).top)

-- a command with one more part of its table
pub with_one_part : (app : App) (parts : List CommandPart) (i : ℕ) (d : CommandPart) (old new : Command) (arg : Arg) → i < length parts → IsMade (with_parts app (take i parts)) old
    → (rule_of arg ≡ part_rule (get_or parts i d)) × (arg.global ≡ false) → AddsArg old arg new → IsMade (with_parts app (take (i + 1) parts)) new
with_one_part app parts i d old new arg within made is adds =
    subst (λ (a : App). IsMade a new) (sym (fold_more (λ a part. with_rule a (part_rule part)) app parts i d within))
    (with_argument old arg new (with_parts app (take i parts)) (part_rule (get_or parts i d)) made is adds)

-- the place of what a list has there
placed : {X : Type 0} (xs : List X) (i : ℕ) (x : X) → slice_get xs i ≡ Some x → (i < length xs) × (get_or xs i x ≡ x)
placed [] i x is = absurd cc
placed (y ∷ ys) zero x is = (omega arith, ap (λ o. unwrap_or o x) is)
placed (y ∷ ys) (suc i) x is = let rest = placed ys i x is in (let within : i < length ys = rest.0 in omega (arith, within), rest.1)

-- a command with one more of the subcommands
pub with_next : (i : ℕ) (row : Subcommand) (old sub new : Command) → Some (subcommand_app row) ≡ slice_get subcommand_apps i
    → IsOf (with_subcommands top_app (take i subcommand_apps)) old → IsMade (subcommand_app row) sub → AddsSubcommand old sub new
    → IsOf (with_subcommands top_app (take (i + 1) subcommand_apps)) new
with_next i row old sub new at is made adds =
    let place = placed subcommand_apps i (subcommand_app row) (sym at) in
    let more = fold_more (λ a (b : App). with_subcommand a b.top) top_app subcommand_apps i (subcommand_app row) place.0 in
    let added = with_added old sub new (with_subcommands top_app (take i subcommand_apps)) (subcommand_app row) is made adds in
    added ∙ (λ j. with_subcommand (with_subcommands top_app (take i subcommand_apps)) (sym place.1 j).top) ∙ sym more

-- there are fifteen of them
within : (i : ℕ) (row : Subcommand) → Some (subcommand_app row) ≡ slice_get subcommand_apps i → i < 15
within i row at = (placed subcommand_apps i (subcommand_app row) (sym at)).0

pub smaller : (i : ℕ) (row : Subcommand) → Some (subcommand_app row) ≡ slice_get subcommand_apps i → 15 - (i + 1) < 15 - i
smaller i row at = let below = within i row at in omega (arith, below)

pub fits : (i : ℕ) (row : Subcommand) → Some (subcommand_app row) ≡ slice_get subcommand_apps i → Fits w64 (i + 1)
fits i row at = let below = within i row at in omega (arith, below)

-- and where there is none more, it has them all
pub with_all : (i : ℕ) (command : Command) → None ≡ slice_get subcommand_apps i → IsOf (with_subcommands top_app (take i subcommand_apps)) command
    → IsOf swcheck_app command
with_all i command none is = is ∙ ap (with_subcommands top_app) (passed subcommand_apps i none)
  where
    passed : (xs : List App) (i : ℕ) → None ≡ slice_get xs i → take i xs ≡ xs
    passed [] zero none = refl
    passed [] (suc i) none = refl
    passed (x ∷ xs) zero none = absurd cc
    passed (x ∷ xs) (suc i) none = ap (λ l. x ∷ l) (passed xs i none)
