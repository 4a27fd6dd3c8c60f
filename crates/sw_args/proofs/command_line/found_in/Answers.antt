use Rattle.std.proofs.Common.{Bor, List, ℕ, map, rules}
use Rattle.sw_args.proofs.CommandLines.{failed_words, fits, found_words, smaller, with_all, with_next}
use Rattle.sw_args.proofs.command_line.found_in.Goals as goal

pub loop-row-init : goal.loop-row-init
loop-row-init c = search rules

pub loop-row-preserved : goal.loop-row-preserved
loop-row-preserved c =
    with_next c.loop-row.place c.in-Some.row.now c.loop-row.command c.in-Ok.subcommand c.in_ok-command-in-Ok.command c.in-Some.ensures c.loop-row.invariant c.in-Ok.ensures
    c.in_ok-command-in-Ok.ensures

pub loop-row-smaller : goal.loop-row-smaller
loop-row-smaller c = smaller c.loop-row.place c.in-Some.row.now c.in-Some.ensures

pub overflow_add-place : goal.overflow_add-place
overflow_add-place c = fits c.loop-row.place c.in-Some.row.now c.in-Some.ensures

pub returns-clause-found : goal.returns-clause-found
returns-clause-found c =
    let made = with_all c.loop-row.place c.loop-row.command c.in_default.ensures c.loop-row.invariant in
    found_words _ (map (λ (s : Bor (List ℕ)). s.now) c.args.words.now) _ made c.try_get_matches_from-2.ensures.matches
    c.try_get_matches_from-2.ensures.kinds

pub returns-clause-kinds : goal.returns-clause-kinds
returns-clause-kinds c =
    let made = with_all c.loop-row.place c.loop-row.command c.in_default.ensures c.loop-row.invariant in
    failed_words _ (map (λ (s : Bor (List ℕ)). s.now) c.args.words.now) _ made c.try_get_matches_from-2.ensures.kinds
