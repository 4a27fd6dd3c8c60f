-- Words at which clap meets no fault are a call.
use Rattle.std.proofs.Common.{◌≡◌, ◌∙◌, ◌∷◌, ◌||◌, Bool, Bor, List, Option, Some, None, [], true, false, true≢false, refl, subst, sym, codes, is_some}
use Rattle.std.specs.Prelude.{find, option_map}
use Rattle.std.specs.List.{list_any}
use Rattle.std.specs.Option.{option_map_or}
use Rattle.std.specs.Str.{bytes_eq}
use Rattle.std.proofs.lemmas.Slice.Eq.{bytes_eq-Decides}
use Rattle.clap.specs.Faults.{built_fault, check_fault, defaults_fault, entered_fault, fault_of, level_fault, settle_fault, walk_fault}
use Rattle.clap.specs.Kinds.{check_kinds}
use Rattle.clap.specs.Simple.{App, Shape, argument_words, built, entered, label_of, names_of, rows_at, subcommand_of}
use Rattle.clap.specs.Walk.{Row, Text, answers_to, finished, first_of, nothing_held, rows_after, settled, stop_after, walk, walk_from}
use Rattle.sw_args.specs.CommandLine.{HasCall, MeetsCall, IsSet, swcheck_app}
use Rattle.sw_args.specs.declared.call.Call.TheVariants.{Route, Decide, Check, Report, Replay, Run, Migrate, Explain, Draw, Rmap, Mend, Margin, Witness, Audit, Init}
use Rattle.sw_args.proofs.Kept.{Each, first_none, found_in, then_none}
use Rattle.sw_args.proofs.Given.{leaf}
use Rattle.sw_args.proofs.GivenForms.{answer_given, answer_rules, audit_rules, draw_given, draw_rules, file_given, file_rules, flag_given, flag_rules, init_rules, pair_given, pair_rules, rmap_given, rmap_rules, run_given, run_rules, witness_given, witness_rules}
use Rattle.sw_args.proofs.Flags.{some_flag}
use Rattle.sw_args.proofs.Named.{NotAtHelp, not_at_help}

-- a subcommand other than `help` at whose words there is no fault is a call
abbrev GivesCall : Shape → Type 0
GivesCall s = (name : Text) → answers_to name (label_of s) ≡ true → bytes_eq name (codes "help") ≡ false
    → (words : List Text) → level_fault s [] nothing_held words false [] ≡ [] → HasCall s.name (rows_after s.rules [] words)

-- a command that wants a subcommand does not pass without
wanted : (s : Shape) (rows : List Row) → s.subcommand_required ≡ true → check_fault s rows false ≡ [] → ⊥
wanted s rows required e = go _ s.subcommand_required _ required e
  where
    go : (help subcommand missing : Bool) → subcommand ≡ true → check_kinds help subcommand missing ≡ [] → ⊥
    go true subcommand missing is f = absurd cc
    go false true missing is f = absurd cc
    go false false missing is f = absurd cc

found_call : (a : App) (words : List Text) → a.top.subcommand_required ≡ true → a.top.disable_help_subcommand ≡ false → Each GivesCall a.subs
    → built_fault a nothing_held words ≡ []
    → (name : Text) × (rows : List Row) × (entered a (stop_after a.top.rules (names_of a) words) ≡ Some (name, rows)) × HasCall name rows
found_call a words required enabled gives e =
    let w = walk a.top.rules (names_of a) nothing_held words in
    let passed = first_none (walk_fault a.top (names_of a) (walk_from nothing_held) words) _ e in
    let after = then_none (walk_fault a.top (names_of a) (walk_from nothing_held) words) _ e in
    let below = first_none (entered_fault a w.stopped) _ after in
    let settles = then_none (entered_fault a w.stopped) _ after in
    let later = then_none (settle_fault a.top.rules a.top.args_override_self w.held) _ settles in
    let checked = then_none (defaults_fault (settled a.top.rules w.held).rows a.top.rules) _ later in
    go w.stopped (finished a.top.rules w.held) (not_at_help a.top enabled (names_of a) words (walk_from nothing_held) passed tt) below checked
  where
    sub : (p : Text × List Text) (rows : List Row) (o : Option Shape) → find (λ s. answers_to p.0 (label_of s)) a.subs ≡ o → bytes_eq p.0 (codes "help") ≡ false
        → option_map_or (λ s. level_fault s [] nothing_held p.1 false []) o [] ≡ []
        → check_fault a.top rows (is_some (option_map (λ s. rows_at s p.1) o)) ≡ []
        → (name : Text) × (found : List Row) × (option_map (λ s. rows_at s p.1) o ≡ Some (name, found)) × HasCall name found
    sub p rows None is other f checked = absurd (wanted a.top rows required checked)
    sub p rows (Some s) is other f checked =
        let call = found_in GivesCall _ a.subs s gives is in
        (s.name, rows_after s.rules [] p.1, refl, call.0 p.0 call.1 other p.1 f)

    go : (stop : Option (Text × List Text)) (rows : List Row) → NotAtHelp stop → entered_fault a stop ≡ [] → check_fault a.top rows (is_some (entered a stop)) ≡ []
        → (name : Text) × (found : List Row) × (entered a stop ≡ Some (name, found)) × HasCall name found
    go None rows other f checked = absurd (wanted a.top rows required checked)
    go (Some p) rows other f checked = sub p rows _ refl other f checked

-- a text as it is lent
abbrev lent : Text → Bor Text
lent v = record { ref_ptr = (0, 0); now = v }

-- whether the answer is to be an object of JSON
some_json : (rows : List Row) → (given : Bool) × IsSet (codes "json") rows given
some_json rows = some_flag (codes "json") rows

route_call : GivesCall (leaf (codes "route") (pair_rules (codes "FLOW")))
route_call name is other words e =
    let given = pair_given (codes "route") (codes "FLOW") words (refl, refl, refl, refl) e in
    let json = some_json (rows_after (pair_rules (codes "FLOW")) [] words) in
    (Route (lent given.0.0) (lent given.1.0) json.0, (refl, given.0.1, given.1.1, json.1))

check_call : GivesCall (leaf (codes "check") (pair_rules (codes "CERT")))
check_call name is other words e =
    let given = pair_given (codes "check") (codes "CERT") words (refl, refl, refl, refl) e in
    let json = some_json (rows_after (pair_rules (codes "CERT")) [] words) in
    (Check (lent given.0.0) (lent given.1.0) json.0, (refl, given.0.1, given.1.1, json.1))

replay_call : GivesCall (leaf (codes "replay") (pair_rules (codes "SCHEDULE")))
replay_call name is other words e =
    let given = pair_given (codes "replay") (codes "SCHEDULE") words (refl, refl, refl, refl) e in
    let json = some_json (rows_after (pair_rules (codes "SCHEDULE")) [] words) in
    (Replay (lent given.0.0) (lent given.1.0) json.0, (refl, given.0.1, given.1.1, json.1))

decide_call : GivesCall (leaf (codes "decide") answer_rules)
decide_call name is other words e =
    let given = answer_given (codes "decide") words e in
    let json = some_json (rows_after answer_rules [] words) in
    (Decide (lent given.0) json.0, (refl, given.1, json.1))

report_call : GivesCall (leaf (codes "report") answer_rules)
report_call name is other words e =
    let given = answer_given (codes "report") words e in
    let json = some_json (rows_after answer_rules [] words) in
    (Report (lent given.0) json.0, (refl, given.1, json.1))

margin_call : GivesCall (leaf (codes "margin") answer_rules)
margin_call name is other words e =
    let given = answer_given (codes "margin") words e in
    let json = some_json (rows_after answer_rules [] words) in
    (Margin (lent given.0) json.0, (refl, given.1, json.1))

migrate_call : GivesCall (leaf (codes "migrate") file_rules)
migrate_call name is other words e =
    let given = file_given (codes "migrate") words e in
    (Migrate (lent given.0), (refl, given.1))

explain_call : GivesCall (leaf (codes "explain") (flag_rules (codes "all")))
explain_call name is other words e =
    let rows = rows_after (flag_rules (codes "all")) [] words in
    let given = flag_given (codes "explain") (codes "all") words (refl, refl, refl, refl) e in
    let all = some_flag (codes "all") rows in
    let json = some_json rows in
    (Explain (lent given.0) all.0 json.0, (refl, given.1, all.1, json.1))

mend_call : GivesCall (leaf (codes "mend") (flag_rules (codes "pairs")))
mend_call name is other words e =
    let rows = rows_after (flag_rules (codes "pairs")) [] words in
    let given = flag_given (codes "mend") (codes "pairs") words (refl, refl, refl, refl) e in
    let pairs = some_flag (codes "pairs") rows in
    let json = some_json rows in
    (Mend (lent given.0) pairs.0 json.0, (refl, given.1, pairs.1, json.1))

-- a value that may be left out, as it is lent
some_option : (o : Option Text) → (given : Option (Bor Text)) × (option_map (λ text. text.now) given ≡ o)
some_option None = (None, refl)
some_option (Some v) = (Some (lent v), refl)

draw_call : GivesCall (leaf (codes "draw") draw_rules)
draw_call name is other words e =
    let rows = rows_after draw_rules [] words in
    let given = draw_given (codes "draw") words e in
    let flow = some_option (first_of (codes "flow") rows) in
    let cycle = some_flag (codes "cycle") rows in
    let numbers = some_flag (codes "numbers") rows in
    (Draw (lent given.0) flow.0 cycle.0 numbers.0, (refl, given.1, flow.1, cycle.1, numbers.1))

rmap_call : GivesCall (leaf (codes "rmap") rmap_rules)
rmap_call name is other words e =
    let rows = rows_after rmap_rules [] words in
    let given = rmap_given (codes "rmap") words e in
    let unacknowledged = some_flag (codes "no-ack") rows in
    let transaction = some_option (first_of (codes "transaction") rows) in (
      Rmap (lent given.0.0) (lent given.1.0) (lent given.2.0) (lent given.3.0) (lent given.4.0) unacknowledged.0 transaction.0,
      (refl, given.0.1, given.1.1, given.2.1, given.3.1, given.4.1, unacknowledged.1, transaction.1),
    )

witness_call : GivesCall (leaf (codes "witness") witness_rules)
witness_call name is other words e =
    let given = witness_given (codes "witness") words e in
    (Witness (lent given.0.0) given.1.0 given.2.0, (refl, given.0.1, given.1.1, given.2.1))

run_call : GivesCall (leaf (codes "run") run_rules)
run_call name is other words e =
    let rows = rows_after run_rules [] words in
    let given = run_given (codes "run") words e in
    let schedule = some_option (first_of (codes "schedule") rows) in
    let summary = some_flag (codes "summary") rows in
    let json = some_json rows in (
      Run (lent given.0.0) (lent given.1.0) given.2.0 given.3.0 schedule.0 summary.0 json.0,
      (refl, given.0.1, given.1.1, given.2.1, given.3.1, schedule.1, summary.1, json.1),
    )

audit_call : GivesCall (leaf (codes "audit") audit_rules)
audit_call name is other words e =
    let rows = rows_after audit_rules [] words in
    let json = some_json rows in
    let quiet = some_flag (codes "quiet") rows in
    let certificates = some_option (first_of (codes "certificates") rows) in
    (Audit json.0 quiet.0 certificates.0, (refl, json.1, quiet.1, certificates.1))

init_call : GivesCall (leaf (codes "init") init_rules)
init_call name is other words e =
    let sample = some_option (first_of (codes "NAME") (rows_after init_rules [] words)) in
    (Init sample.0, (refl, sample.1))

-- the subcommand `help` answers to no other name
no_help : (s : Shape) → s.name ≡ codes "help" → s.aliases ≡ [] → GivesCall s
no_help s named none name is other words e = go s.aliases none is
  where
    either : (b : Bool) → bytes_eq s.name name ≡ b → (b || false) ≡ true → HasCall s.name (rows_after s.rules [] words)
    either true same f =
        let at : name ≡ codes "help" = sym ((bytes_eq-Decides s.name name).0 same) ∙ named in
        absurd (true≢false (sym ((bytes_eq-Decides name (codes "help")).1 at) ∙ other))
    either false same f = absurd cc

    go : (aliases : List Text) → aliases ≡ [] → (bytes_eq s.name name || list_any (λ alias. bytes_eq alias name) aliases) ≡ true
        → HasCall s.name (rows_after s.rules [] words)
    go [] empty f = either (bytes_eq s.name name) refl f
    go (x ∷ xs) empty f = absurd cc

pub called : (words : List Text) → fault_of swcheck_app words ≡ []
    → MeetsCall (subcommand_of swcheck_app words)
called words e =
    let found = found_call (built swcheck_app) (argument_words swcheck_app words) refl refl (
      route_call,
      (
        decide_call,
        (
          check_call,
          (
            report_call,
            (
              replay_call,
              (
                run_call,
                (
                  migrate_call,
                  (
                    explain_call,
                    (draw_call, (rmap_call, (mend_call, (margin_call, (witness_call, (audit_call, (init_call, (no_help _ refl refl, tt)))))))),
                  ),
                ),
              ),
            ),
          ),
        ),
      ),
    ) e in
    (found.3.0, found.1, (found.0, found.2, found.3.1))

-- what was matched is a call where the words are one
pub matched : (found : Option (Text × List Row)) (words : List Text) → found ≡ subcommand_of swcheck_app words → fault_of swcheck_app words ≡ [] → MeetsCall found
matched found words same e = subst MeetsCall (sym same) (called words e)
