-- A command by a table of its words and options (this project's choice).
use Rattle.std.specs.Prelude.{◌≡◌, List, ℕ, [], ◌∷◌, fold}
use Rattle.clap.specs.Words.{App, Rule, fault_of, new_app, subcommand_of, subcommand_rows_of, with_rule, with_subcommand}
use Rattle.std.specs.Borrow.{Bor}
use Rattle.clap.specs.declared.parser.matches.ArgMatches.{ArgMatches}
use Rattle.sw_args.specs.declared.parts.Subcommand.{Subcommand}
use Rattle.sw_args.specs.declared.parts.Takes.{Takes}
use Rattle.sw_args.specs.declared.parts.Takes.TheVariants.{Value, Values, Optional, Count, Flag, Text}
use Rattle.sw_args.specs.CommandLine.{count_rule, flag_rule, option_rule, optional_value, required_value, required_values, swcheck_app, with_telling, route_app, decide_app, check_app, report_app, replay_app, run_app, migrate_app, explain_app, draw_app, rmap_app, mend_app, margin_app, witness_app, audit_app, init_app}

-- the rule of an argument of this name that takes this
abbrev pub taking : List ℕ → Takes → Rule
taking name Value = required_value name
taking name Values = required_values name
taking name Optional = optional_value name
taking name (Count usual most) = count_rule name usual.now most
taking name Flag = flag_rule name
taking name Text = option_rule name

-- a part of a table: the name of an argument, what it takes, and what it is for
abbrev pub CommandPart : Type 0
CommandPart = Bor (List ℕ) × Takes × Bor (List ℕ)

abbrev pub part_rule : CommandPart → Rule
part_rule part = taking part.0.now part.1

-- the command with each of the parts besides, in their order
abbrev pub with_parts : App → List CommandPart → App
with_parts app parts = fold (λ a part. with_rule a (part_rule part)) app parts

-- the command that a row of the table is, with the options that say what is told on standard error
abbrev pub subcommand_app : Subcommand → App
subcommand_app subcommand = with_telling (with_parts (new_app subcommand.name.now) subcommand.parts.now)

-- the subcommands, in the order of the help
abbrev pub subcommand_apps : List App
subcommand_apps =
    with_telling route_app ∷
    with_telling decide_app ∷
    with_telling check_app ∷
    with_telling report_app ∷
    with_telling replay_app ∷
    with_telling run_app ∷
    with_telling migrate_app ∷
    with_telling explain_app ∷
    with_telling draw_app ∷
    with_telling rmap_app ∷
    with_telling mend_app ∷
    with_telling margin_app ∷
    with_telling witness_app ∷
    with_telling audit_app ∷
    with_telling init_app ∷ []

-- the command with each of the subcommands besides, in their order
abbrev pub with_subcommands : App → List App → App
with_subcommands app subcommands = fold (λ a (subcommand : App). with_subcommand a subcommand.top) app subcommands

-- clap met no fault in the words, and these are its matches
abbrev pub HasFound : List (List ℕ) → ArgMatches → Type 0
HasFound words matches = (subcommand_rows_of matches ≡ subcommand_of swcheck_app words) × (fault_of swcheck_app words ≡ [])
