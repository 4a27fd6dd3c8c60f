use Rattle.std.proofs.Common.{Some, ap, arith, length, option_map, refl, subst, sym, ◌∙◌, ◌≡◌, ℕ}
use Rattle.std.proofs.lemmas.Option.{slice_get_read}
use Rattle.std.specs.Prelude.{slice_get}
use Rattle.sw_journal.specs.Numbers.{Numbers}
use Rattle.sw_run.proofs.Noted.{marked_at, past_at, places_are}
use Rattle.sw_run.proofs.Wanted.{has_own}
use Rattle.sw_run.proofs.run_journal.awake_at.Goals as goal

pub returns-clause-listed : goal.returns-clause-listed
returns-clause-listed c =
    let all = c.ends.result.now in
    let own = c.in-Some.at.now in
    let read = slice_get_read all (length all) c.args.place own refl c.in-Some.ensures.lookup.3.0 c.in-Some.ensures.lookup.1 in
    has_own c.args.cell.now.ends c.args.place own (subst (λ l. slice_get l c.args.place ≡ Some own) c.ends.ensures read)

pub returns-clause-at : goal.returns-clause-at
returns-clause-at c =
    let all = c.ends.result.now in
    let own = c.in-Some.at.now in
    let read = slice_get_read all (length all) c.args.place own refl c.in-Some.ensures.lookup.3.0 c.in-Some.ensures.lookup.1 in
    ap (option_map (λ (p : ℕ × Numbers). p.0)) (subst (λ l. slice_get l c.args.place ≡ Some own) c.ends.ensures read)

pub returns-then-number-ends-clause-none : goal.returns-then-number-ends-clause-none
returns-then-number-ends-clause-none c =
    let all = c.ends.result.now in
    let own = c.in-Some.at.now in
    let read = slice_get_read all (length all) c.args.place own refl c.in-Some.ensures.lookup.3.0 c.in-Some.ensures.lookup.1 in
    let places = places_are c.args.journal.now c.len-count.ensures.true_view in
    past_at c.args.journal.now c.args.cell.now.ends c.args.place own (subst (λ l. slice_get l c.args.place ≡ Some own) c.ends.ensures read) (omega (arith, places, c.requires, c.if-number-ends.true, c.number.ensures))

pub returns-then-eq-clause-none : goal.returns-then-eq-clause-none
returns-then-eq-clause-none c =
    let all = c.ends.result.now in
    let own = c.in-Some.at.now in
    let read = slice_get_read all (length all) c.args.place own refl c.in-Some.ensures.lookup.3.0 c.in-Some.ensures.lookup.1 in
    marked_at c.args.journal.now c.args.cell.now.ends c.args.place own c.mark.result c.len-count.result (subst (λ l. slice_get l c.args.place ≡ Some own) c.ends.ensures read) c.mark.ensures (sym c.eq.ensures ∙ c.if-eq.true) c.len-count.ensures.len
