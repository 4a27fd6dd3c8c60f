use Rattle.std.proofs.Common.{None, Some, ap, length, refl, rules, sym, ℕ, ◌∙◌, ◌≡◌}
use Rattle.std.proofs.Math.Seq.{map-set_same}
use Rattle.std.proofs.lemmas.Option.{get_or_from_slice_get, slice_get_read}
use Rattle.std.specs.Prelude.{slice_get}
use Rattle.sw_journal.proofs.Renewed.{is_other, is_that, one_renewed, other_renewed, same_renewed, seat_first, seat_told, set_renewed}
use Rattle.sw_journal.proofs.renewal.renew_one.Goals as goal
use Rattle.sw_machine.specs.Model.{network_of}
use Rattle.sw_net.specs.declared.numbers.Numbers.{Numbers}

pub returns-clause-numbers : goal.returns-clause-numbers
returns-clause-numbers c = λ s state.
    let at : slice_get c.args.ends.now.items c.args.place ≡ Some c.index.result.now = slice_get_read c.args.ends.now.items (length c.args.ends.now.items) c.args.place c.index.result.now refl c.requires.place c.index.ensures in
    let p = c.index.result.now in
    let one = is_that c.args.own p.0 _ _ c.number.ensures c.number-2.ensures c.if-number.false in
    set_renewed (Some c.args.own, None) (network_of c.args.net.now.declared) s c.args.place c.args.ends.now.items p (p.0, c.numbers-numbers.result) at (one_renewed (Some c.args.own, None) (network_of c.args.net.now.declared) s p c.numbers-numbers.result one (c.numbers-numbers.ensures s state))

pub returns-clause-names : goal.returns-clause-names
returns-clause-names c =
    let p = c.index.result.now in
    let at : slice_get c.args.ends.now.items c.args.place ≡ Some p = slice_get_read c.args.ends.now.items (length c.args.ends.now.items) c.args.place c.index.result.now refl c.requires.place c.index.ensures in
    map-set_same (λ (q : ℕ × Numbers). q.0) c.args.ends.now.items c.args.place (p.0, c.numbers-numbers.result) p (sym (ap (λ (q : ℕ × Numbers). q.0) (get_or_from_slice_get c.args.ends.now.items c.args.place p p at)))

pub returns-clause-seat : goal.returns-clause-seat
returns-clause-seat c =
    let at : slice_get c.args.ends.now.items c.args.place ≡ Some c.index.result.now = slice_get_read c.args.ends.now.items (length c.args.ends.now.items) c.args.place c.index.result.now refl c.requires.place c.index.ensures in
    seat_told c.args.seat.now.me c.tell.new.seat.me c.args.ends.now.items c.args.place c.index.result.now c.numbers-numbers.result c.requires.known at c.tell.ensures.1

pub returns-then-eq-clause-numbers : goal.returns-then-eq-clause-numbers
returns-then-eq-clause-numbers c = λ s state.
    let at : slice_get c.args.ends.now.items c.args.place ≡ Some c.index.result.now = slice_get_read c.args.ends.now.items (length c.args.ends.now.items) c.args.place c.index.result.now refl c.requires.place c.index.ensures in
    let p = c.index.result.now in
    let one = is_that c.args.own p.0 _ _ c.number.ensures c.number-2.ensures c.if-number.false in
    let same : c.numbers-numbers.result ≡ p.1 = search rules in
    same_renewed (Some c.args.own, None) (network_of c.args.net.now.declared) s c.args.place c.args.ends.now.items p at (one_renewed (Some c.args.own, None) (network_of c.args.net.now.declared) s p p.1 one (sym same ∙ c.numbers-numbers.ensures s state))

pub returns-then-eq-clause-seat : goal.returns-then-eq-clause-seat
returns-then-eq-clause-seat c = seat_first c.args.seat.now.me c.args.ends.now.items c.requires.same c.requires.known

pub returns-then-number-clause-numbers : goal.returns-then-number-clause-numbers
returns-then-number-clause-numbers c = λ s state.
    let at : slice_get c.args.ends.now.items c.args.place ≡ Some c.index.result.now = slice_get_read c.args.ends.now.items (length c.args.ends.now.items) c.args.place c.index.result.now refl c.requires.place c.index.ensures in
    let p = c.index.result.now in
    let none = is_other c.args.own p.0 _ _ c.number.ensures c.number-2.ensures c.if-number.true in
    same_renewed (Some c.args.own, None) (network_of c.args.net.now.declared) s c.args.place c.args.ends.now.items p at (other_renewed (Some c.args.own, None) (network_of c.args.net.now.declared) s p none)

pub returns-then-number-clause-seat : goal.returns-then-number-clause-seat
returns-then-number-clause-seat c = seat_first c.args.seat.now.me c.args.ends.now.items c.requires.same c.requires.known
