-- The words that the program takes.
use Rattle.std.specs.Prelude.{◌≡◌, ◌≢◌, ◌≤◌, ◌<◌, ◌⊎◌, ◌↔◌, ℕ, Bool, List, [], ◌∷◌, Option, Some, codes, false, map, option_map, pos, true, unwrap_or}
use Rattle.std.specs.Borrow.{Bor}
use Rattle.clap.specs.declared.builder.command.Command.{Command}
use Rattle.clap.specs.declared.builder.Command.TheViews.{out-Command}
use Rattle.std.specs.Str.Parse.{IsNumeral, digits_value, without_leading_plus}
use Rattle.clap.specs.Words.{App, Row, Rule, IsAmong, all_of, app_of, fault_of, first_of, new_app, new_rule, one_of, subcommand_of, with_rule, with_subcommand}
use Rattle.clap.specs.declared.builder.action.ArgAction.TheVariants.{Append, SetTrue}
use Rattle.clap.specs.declared.builder.value_parser.ValueParser.TheVariants.{Signed}
use Rattle.clap.specs.declared.error.kind.ErrorKind.{ErrorKind}
use Rattle.clap.specs.declared.error.kind.ErrorKind.TheVariants.{DisplayHelp, DisplayVersion, OutOfMemory}
use Rattle.sw_args.specs.declared.call.Asked.{Asked}
use Rattle.sw_args.specs.declared.call.Call.{Call}
use Rattle.sw_args.specs.declared.call.Call.TheVariants.{Route, Decide, Check, Report, Replay, Run, Migrate, Explain, Draw, Rmap, Mend, Margin, Witness, Audit, Init}
use Rattle.sw_args.specs.declared.call.WordsFault.{WordsFault}
use Rattle.sw_args.specs.declared.call.WordsFault.TheVariants.{Help, Refused, Memory}

-- a value that must be given
abbrev pub required_value : List ℕ → Rule
required_value name = record (new_rule name) { required = true }

-- values of which one or more must be given
abbrev pub required_values : List ℕ → Rule
required_values name = record (new_rule name) { required = true; action = Some Append }

-- a value that may be left out
abbrev pub optional_value : List ℕ → Rule
optional_value name = new_rule name

-- an option `--NAME NUMBER`: a number from 1 up to the most, the usual one if it is left out
abbrev pub count_rule : List ℕ → List ℕ → ℕ → Rule
count_rule name usual most = record (new_rule name) {
  long = Some name;
  defaults = usual ∷ [];
  parser = Some (Signed (pos 1) (pos most));
}

-- an option `--NAME`, which is given or not
abbrev pub flag_rule : List ℕ → Rule
flag_rule name = record (new_rule name) { long = Some name; action = Some SetTrue }

-- an option `--NAME VALUE`, which may be left out
abbrev pub option_rule : List ℕ → Rule
option_rule name = record (new_rule name) { long = Some name }

-- `--json`, of each subcommand whose answer can be one object of JSON
abbrev pub with_json : App → App
with_json app = with_rule app (flag_rule (codes "json"))

-- `NAME FILE`
abbrev pub file_app : List ℕ → App
file_app name = with_rule (new_app name) (required_value (codes "FILE"))

-- `route FILE FLOW [--json]`
abbrev pub route_app : App
route_app = with_json (with_rule (file_app (codes "route")) (required_value (codes "FLOW")))

-- `decide FILE [--json]`
abbrev pub decide_app : App
decide_app = with_json (file_app (codes "decide"))

-- `check FILE CERT [--json]`
abbrev pub check_app : App
check_app = with_json (with_rule (file_app (codes "check")) (required_value (codes "CERT")))

-- `report FILE [--json]`
abbrev pub report_app : App
report_app = with_json (file_app (codes "report"))

-- `replay FILE SCHEDULE [--json]`
abbrev pub replay_app : App
replay_app = with_json (with_rule (file_app (codes "replay")) (required_value (codes "SCHEDULE")))

-- the most threads and the most steps that a run may be asked for (this project's choice)
abbrev pub most_workers : ℕ
most_workers = 64

abbrev pub most_steps : ℕ
most_steps = 16777216

-- `run FILE LOAD [--workers NUMBER] [--limit NUMBER] [--schedule VALUE] [--summary] [--json]`: 4 workers and 1,000,000 steps if they are left out
abbrev pub run_app : App
run_app = with_json (with_rule (with_rule (with_rule (with_rule (with_rule (file_app (codes "run")) (required_value (codes "LOAD")))
    (count_rule (codes "workers") (codes "4") most_workers))
    (count_rule (codes "limit") (codes "1000000") most_steps))
    (option_rule (codes "schedule")))
    (flag_rule (codes "summary")))

-- `migrate FILE`
abbrev pub migrate_app : App
migrate_app = file_app (codes "migrate")

-- `explain FILE [--all] [--json]`
abbrev pub explain_app : App
explain_app = with_json (with_rule (file_app (codes "explain")) (flag_rule (codes "all")))

-- `draw FILE [--flow VALUE] [--cycle] [--numbers]`
abbrev pub draw_app : App
draw_app = with_rule (with_rule (with_rule (file_app (codes "draw"))
    (option_rule (codes "flow")))
    (flag_rule (codes "cycle")))
    (flag_rule (codes "numbers"))

-- `rmap FILE FLOW ACTION ADDRESS VALUE [--no-ack] [--transaction VALUE]`
abbrev pub rmap_app : App
rmap_app = with_rule (with_rule (with_rule (with_rule (with_rule (with_rule (file_app (codes "rmap"))
    (required_value (codes "FLOW")))
    (required_value (codes "ACTION")))
    (required_value (codes "ADDRESS")))
    (required_value (codes "VALUE")))
    (flag_rule (codes "no-ack")))
    (option_rule (codes "transaction"))

-- `mend FILE [--pairs] [--json]`
abbrev pub mend_app : App
mend_app = with_json (with_rule (file_app (codes "mend")) (flag_rule (codes "pairs")))

-- `margin FILE [--json]`
abbrev pub margin_app : App
margin_app = with_json (file_app (codes "margin"))

-- the most tries of a search, and the greatest number that it may begin with (this project's choice)
abbrev pub most_tries : ℕ
most_tries = 1000000

abbrev pub most_seed : ℕ
most_seed = 4294967295

-- `witness FILE [--tries NUMBER] [--seed NUMBER]`: 200 tries, and 1 to begin with, if they are left out
abbrev pub witness_app : App
witness_app = with_rule (with_rule (file_app (codes "witness"))
    (count_rule (codes "tries") (codes "200") most_tries))
    (count_rule (codes "seed") (codes "1") most_seed)

-- `audit FILE.. [--json] [--quiet] [--certificates VALUE]`
abbrev pub audit_app : App
audit_app = with_rule (with_rule (with_json (with_rule (new_app (codes "audit")) (required_values (codes "FILE"))))
    (flag_rule (codes "quiet")))
    (option_rule (codes "certificates"))

-- `init [NAME]`
abbrev pub init_app : App
init_app = with_rule (new_app (codes "init")) (optional_value (codes "NAME"))

-- `--hints VALUE`, of each subcommand
abbrev pub hints_rule : Rule
hints_rule = option_rule (codes "hints")

-- `--notes VALUE`, of each subcommand
abbrev pub notes_rule : Rule
notes_rule = option_rule (codes "notes")

-- `--all-faults`, of each subcommand
abbrev pub all_faults_rule : Rule
all_faults_rule = flag_rule (codes "all-faults")

-- the options that say what is told on standard error
abbrev pub with_telling : App → App
with_telling app = with_rule (with_rule (with_rule app hints_rule) notes_rule) all_faults_rule

-- `swcheck`, which asks for a subcommand, and has a version
abbrev pub top_app : App
top_app = let a = new_app (codes "swcheck") in record a { top = record a.top { has_version = true; subcommand_required = true } }

-- the whole command line: each subcommand stands in a line of its own
abbrev pub swcheck_app : App
swcheck_app =
    with_subcommand (with_subcommand (with_subcommand (with_subcommand (with_subcommand (with_subcommand (with_subcommand (with_subcommand
    (with_subcommand (with_subcommand (with_subcommand (with_subcommand (with_subcommand (with_subcommand (with_subcommand top_app
    (with_telling route_app).top)
    (with_telling decide_app).top)
    (with_telling check_app).top)
    (with_telling report_app).top)
    (with_telling replay_app).top)
    (with_telling run_app).top)
    (with_telling migrate_app).top)
    (with_telling explain_app).top)
    (with_telling draw_app).top)
    (with_telling rmap_app).top)
    (with_telling mend_app).top)
    (with_telling margin_app).top)
    (with_telling witness_app).top)
    (with_telling audit_app).top)
    (with_telling init_app).top

-- the command is that of the app
abbrev pub IsOf : App → Command → Type 0
IsOf app command = app_of command ≡ app

-- and none of its arguments is one of its subcommands' too
abbrev pub IsMade : App → Command → Type 0
IsMade app command = IsOf app command × ((out-Command command).has_globals ≡ false)

-- the option's value is this number, written in decimal digits
abbrev pub SaysNumber : List ℕ → List Row → ℕ → Type 0
SaysNumber name values number = (text : List ℕ) × (one_of name values ≡ Some text)
    × IsNumeral 10 (without_leading_plus text) × (digits_value 10 (without_leading_plus text) ≡ number)

-- and the number is 1 or more, and not over the most
abbrev pub IsCount : ℕ → List ℕ → List Row → ℕ → Type 0
IsCount most name values number = SaysNumber name values number × (1 ≤ number) × (number ≤ most)

-- an option without a value was given, exactly where clap's own value of it is this word
abbrev pub IsSet : List ℕ → List Row → Bool → Type 0
IsSet name values given = (given ≡ true) ↔ (one_of name values ≡ Some (codes "true"))

-- the option's value, where it was given
abbrev pub IsOption : List ℕ → List Row → Option (Bor (List ℕ)) → Type 0
IsOption name values given = option_map (λ text. text.now) given ≡ first_of name values

-- all values of an argument, in their order
abbrev pub AreAll : List ℕ → List Row → List (Bor (List ℕ)) → Type 0
AreAll name values given = map (λ text. text.now) given ≡ unwrap_or (all_of name values) []

-- a subcommand with these values is this call
abbrev pub IsCallOf : List ℕ → List Row → Call → Type 0
IsCallOf name values (Route file flow json) = (name ≡ codes "route")
    × (first_of (codes "FILE") values ≡ Some file.now)
    × (first_of (codes "FLOW") values ≡ Some flow.now)
    × IsSet (codes "json") values json
IsCallOf name values (Decide file json) = (name ≡ codes "decide")
    × (first_of (codes "FILE") values ≡ Some file.now)
    × IsSet (codes "json") values json
IsCallOf name values (Report file json) = (name ≡ codes "report")
    × (first_of (codes "FILE") values ≡ Some file.now)
    × IsSet (codes "json") values json
IsCallOf name values (Check file certificate json) = (name ≡ codes "check")
    × (first_of (codes "FILE") values ≡ Some file.now)
    × (first_of (codes "CERT") values ≡ Some certificate.now)
    × IsSet (codes "json") values json
IsCallOf name values (Replay file schedule json) = (name ≡ codes "replay")
    × (first_of (codes "FILE") values ≡ Some file.now)
    × (first_of (codes "SCHEDULE") values ≡ Some schedule.now)
    × IsSet (codes "json") values json
IsCallOf name values (Run file load workers limit schedule summary json) = (name ≡ codes "run")
    × (first_of (codes "FILE") values ≡ Some file.now)
    × (first_of (codes "LOAD") values ≡ Some load.now)
    × IsCount most_workers (codes "workers") values workers
    × IsCount most_steps (codes "limit") values limit
    × IsOption (codes "schedule") values schedule
    × IsSet (codes "summary") values summary
    × IsSet (codes "json") values json
IsCallOf name values (Migrate file) = (name ≡ codes "migrate") × (first_of (codes "FILE") values ≡ Some file.now)
IsCallOf name values (Explain file all json) = (name ≡ codes "explain")
    × (first_of (codes "FILE") values ≡ Some file.now)
    × IsSet (codes "all") values all
    × IsSet (codes "json") values json
IsCallOf name values (Draw file flow cycle numbers) = (name ≡ codes "draw")
    × (first_of (codes "FILE") values ≡ Some file.now)
    × IsOption (codes "flow") values flow
    × IsSet (codes "cycle") values cycle
    × IsSet (codes "numbers") values numbers
IsCallOf name values (Rmap file flow action address value unacknowledged transaction) = (name ≡ codes "rmap")
    × (first_of (codes "FILE") values ≡ Some file.now)
    × (first_of (codes "FLOW") values ≡ Some flow.now)
    × (first_of (codes "ACTION") values ≡ Some action.now)
    × (first_of (codes "ADDRESS") values ≡ Some address.now)
    × (first_of (codes "VALUE") values ≡ Some value.now)
    × IsSet (codes "no-ack") values unacknowledged
    × IsOption (codes "transaction") values transaction
IsCallOf name values (Mend file pairs json) = (name ≡ codes "mend")
    × (first_of (codes "FILE") values ≡ Some file.now)
    × IsSet (codes "pairs") values pairs
    × IsSet (codes "json") values json
IsCallOf name values (Margin file json) = (name ≡ codes "margin")
    × (first_of (codes "FILE") values ≡ Some file.now)
    × IsSet (codes "json") values json
IsCallOf name values (Witness file tries seed) = (name ≡ codes "witness")
    × (first_of (codes "FILE") values ≡ Some file.now)
    × IsCount most_tries (codes "tries") values tries
    × IsCount most_seed (codes "seed") values seed
IsCallOf name values (Audit json quiet certificates) = (name ≡ codes "audit")
    × IsSet (codes "json") values json
    × IsSet (codes "quiet") values quiet
    × IsOption (codes "certificates") values certificates
IsCallOf name values (Init sample) = (name ≡ codes "init") × IsOption (codes "NAME") values sample

-- a subcommand with these values is some call
abbrev pub HasCall : List ℕ → List Row → Type 0
HasCall name values = (call : Call) × IsCallOf name values call

-- the subcommand is none of those that want no file, or more than one value beside it
abbrev pub IsOther : List ℕ → Type 0
IsOther name = (name ≢ codes "audit") × (name ≢ codes "init") × (name ≢ codes "run") × (name ≢ codes "rmap") × (name ≢ codes "witness")

-- a run has a worker
abbrev pub HasWorkers : Call → Type 0
HasWorkers (Run file load workers limit schedule summary json) = 0 < workers
HasWorkers _ = Unit {0}

-- the subcommand that was met, with its values, is this call, the files that it names, and what was given at the options that say what is
-- told on standard error
abbrev pub IsMatched : Option (List ℕ × List Row) → Asked → Type 0
IsMatched found asked = (name : List ℕ) × (values : List Row) × (found ≡ Some (name, values))
    × IsCallOf name values asked.call
    × AreAll (codes "FILE") values asked.files.items
    × IsOption (codes "hints") values asked.hints
    × IsOption (codes "notes") values asked.notes
    × IsSet (codes "all-faults") values asked.all_faults

-- the subcommand that was met has these values, and is this call
abbrev pub IsMet : Option (List ℕ × List Row) → Call → List Row → Type 0
IsMet found call values = (name : List ℕ) × (found ≡ Some (name, values)) × IsCallOf name values call

-- the subcommand that was met is some call
abbrev pub MeetsCall : Option (List ℕ × List Row) → Type 0
MeetsCall found = (call : Call) × (values : List Row) × IsMet found call values

-- clap's own matches of the words have no error, and the call's subcommand and values
abbrev pub Gives : List (List ℕ) → Asked → Type 0
Gives words asked = (fault_of swcheck_app words ≡ []) × IsMatched (subcommand_of swcheck_app words) asked

-- the status that the program exits with
abbrev pub words_status : WordsFault → ℕ
words_status (Help text) = 0
words_status (Refused text) = 2
words_status Memory = 5

-- how an error of clap's is told: help goes to standard output, and each other text to standard error; none is told as want of memory
abbrev pub ShowsKind : ErrorKind → WordsFault → Type 0
ShowsKind kind Memory = ⊥
ShowsKind kind (Help text) = (kind ≡ DisplayHelp) ⊎ (kind ≡ DisplayVersion)
ShowsKind kind (Refused text) = (kind ≢ OutOfMemory) × (kind ≢ DisplayHelp) × (kind ≢ DisplayVersion)

-- the same, or want of memory
abbrev pub IsToldAs : ErrorKind → WordsFault → Type 0
IsToldAs kind Memory = Unit {0}
IsToldAs kind (Help text) = ShowsKind kind (Help text)
IsToldAs kind (Refused text) = ShowsKind kind (Refused text)

-- the fault tells of an error that clap's own matches of the words meet first; want of memory apart
abbrev pub Refuses : List (List ℕ) → WordsFault → Type 0
Refuses words Memory = Unit {0}
Refuses words (Help text) = (kind : ErrorKind) × IsAmong kind (fault_of swcheck_app words) × ShowsKind kind (Help text)
Refuses words (Refused text) = (kind : ErrorKind) × IsAmong kind (fault_of swcheck_app words) × ShowsKind kind (Refused text)
