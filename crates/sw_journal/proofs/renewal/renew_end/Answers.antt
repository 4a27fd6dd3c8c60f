use Rattle.std.proofs.Common.{List, None, Option, Some, map, subst, sym, ℕ, ◌≡◌}
use Rattle.std.specs.Prelude.{option_map, slice_get}
use Rattle.sw_journal.proofs.Renewed.{end_renewed, no_end_renewed, seat_first, stands_within}
use Rattle.sw_journal.proofs.renewal.renew_end.Goals as goal
use Rattle.sw_journal.specs.Renewal.{renewed}
use Rattle.sw_machine.specs.Model.{network_of}
use Rattle.sw_net.specs.declared.numbers.Numbers.{Numbers}

pub returns-in_default-clause-numbers : goal.returns-in_default-clause-numbers
returns-in_default-clause-numbers c = λ s state.
    let ends = c.args.ends.now.items in
    let net = network_of c.args.net.now.declared in
    subst (λ (o : Option ℕ). ends ≡ map (renewed (o, None) net s) ends) (sym c.in_default.is) (no_end_renewed net s ends)

pub returns-in_default-clause-seat : goal.returns-in_default-clause-seat
returns-in_default-clause-seat c = seat_first c.args.seat.now.me c.args.ends.now.items c.requires.same c.requires.known

pub renew_one-requires-clause-place : goal.renew_one-requires-clause-place
renew_one-requires-clause-place c =
    let place = c.in-Some-seen_at.place in
    let at = subst (λ (l : List (ℕ × Numbers)). option_map (λ (p : ℕ × Numbers). p.0) (slice_get l place) ≡ Some c.in-Some.end) c.deref.ensures.value c.in-Some-seen_at.ensures in
    stands_within c.args.ends.now.items place c.in-Some.end at

pub returns-in-Some-seen_at-clause-numbers : goal.returns-in-Some-seen_at-clause-numbers
returns-in-Some-seen_at-clause-numbers c = λ s state.
    let ends = c.args.ends.now.items in
    let after = c.renew_one.new.ends.items in
    let net = network_of c.args.net.now.declared in
    let place = c.in-Some-seen_at.place in
    let at = subst (λ (l : List (ℕ × Numbers)). option_map (λ (p : ℕ × Numbers). p.0) (slice_get l place) ≡ Some c.in-Some.end) c.deref.ensures.value c.in-Some-seen_at.ensures in
    subst (λ (o : Option ℕ). after ≡ map (renewed (o, None) net s) ends) (sym c.in-Some.is)
    (end_renewed net s c.in-Some.end place ends after c.requires.once at (c.renew_one.ensures.numbers s state))

pub returns-clause-numbers : goal.returns-clause-numbers
returns-clause-numbers c = λ s state.
    let ends = c.args.ends.now.items in
    let net = network_of c.args.net.now.declared in
    subst (λ (o : Option ℕ). c.renew.new.ends.items ≡ map (renewed (o, None) net s) ends) (sym c.in-Some.is) (c.renew.ensures.numbers s state)
