use Rattle.std.proofs.Common.{◌≡◌, ◌∙◌, ap, map, refl, Bor, List, ℕ, [], Option, Some, None, codes}
use Rattle.std.specs.Option.{option_map, unwrap_or}
use Rattle.clap.specs.Words.{found_of, rows_of, subcommand_name_of, subcommand_rows_of}
use Rattle.clap.proofs.WalkLemmas.{raw_values-rows}
use Rattle.clap.specs.declared.parser.matches.ArgMatches.{ArgMatches}
use Rattle.clap.specs.declared.parser.matches.ArgMatches.TheViews.{out-ArgMatches}
use Rattle.sw_args.proofs.CommandLines.{gives_one, has_call, met_at}
use Rattle.sw_args.proofs.matched.asked_of.Goals as goal

-- the values behind references, or none
all_given : (o : Option (Bor (List (Bor (List ℕ))))) (none : Bor (List (Bor (List ℕ)))) (q : Option (List (List ℕ))) → none.now ≡ []
    → option_map (λ s. map (λ v. v.now) s.now) o ≡ q → map (λ v. v.now) (unwrap_or o none).now ≡ unwrap_or q []
all_given None none q empty same = rw empty (ap (λ x. unwrap_or x []) same)
all_given (Some s) none q empty same = ap (λ x. unwrap_or x []) same

-- the name and the values that clap gives are those of the subcommand that was met
met : (m : ArgMatches) (o : Option (Bor (List ℕ) × Bor ArgMatches)) (x : Bor (List ℕ) × Bor ArgMatches) → o ≡ Some x
    → option_map (λ p. p.0.now) o ≡ subcommand_name_of m → option_map (λ p. rows_of (found_of p.1.now)) o ≡ option_map (λ p. p.1) (subcommand_rows_of m)
    → subcommand_rows_of m ≡ Some (x.0.now, rows_of (found_of x.1.now))
met m o x is = met_at (λ p. p.0.now) (λ p. rows_of (found_of p.1.now)) _ (out-ArgMatches m).subcommand o x is

pub unwrap-requires : goal.unwrap-requires
unwrap-requires c = gives_one (λ (p : Bor (List ℕ) × Bor ArgMatches). rows_of (found_of p.1.now)) _ _ c.subcommand.ensures.rows c.requires

pub call_of-requires : goal.call_of-requires
call_of-requires c =
    has_call _ _ _ (met c.args.matches.now c.subcommand.result c.unwrap.result c.unwrap.ensures c.subcommand.ensures.name c.subcommand.ensures.rows) c.requires

pub returns-clause-asked : goal.returns-clause-asked
returns-clause-asked c =
    let is = met c.args.matches.now c.subcommand.result c.unwrap.result c.unwrap.ensures c.subcommand.ensures.name c.subcommand.ensures.rows in
    let values = c.unwrap.result.1.now in
    let found = c.get_strs.ensures ∙ raw_values-rows (found_of values) (codes "FILE") in
    let chosen = all_given c.get_strs.result _ _ refl found in
    (c.unwrap.result.0.now, rows_of (found_of values), is, c.call_of.ensures, rw c.in-Ok.ensures.items (rw c.unwrap_or.ensures chosen), c.value_of.ensures, c.value_of-2.ensures, c.is_set.ensures)
