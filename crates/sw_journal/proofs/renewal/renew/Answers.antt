use Rattle.std.proofs.Common.{None, Some, length, refl, rules, ◌∙◌, ◌≡◌}
use Rattle.sw_journal.proofs.Renewed.{all_renewed, more_renewed, seat_first, seat_more, seat_same, within_names}
use Rattle.sw_journal.proofs.renewal.renew.Goals as goal
use Rattle.sw_machine.specs.Model.{network_of}

pub loop-place-init : goal.loop-place-init
loop-place-init c = record {
  numbers = λ s state. refl;
  names = refl;
  table = refl;
  seat = seat_first c.args.seat.now.me c.args.ends.now.items c.requires.same c.requires.known;
}

pub renew_one-requires-clause-within : goal.renew_one-requires-clause-within
renew_one-requires-clause-within c = within_names _ c.loop-place.ends.items c.args.ends.now.items c.loop-place.invariant.names c.requires.within

pub renew_one-requires-clause-same : goal.renew_one-requires-clause-same
renew_one-requires-clause-same c = seat_same c.args.seat.now.me c.loop-place.seat.me c.loop-place.ends.items c.requires.same c.loop-place.invariant.seat

pub loop-place-preserved : goal.loop-place-preserved
loop-place-preserved c =
    let i = c.loop-place.invariant in
    let made = c.renew_one.ensures in
    record {
      numbers = λ s state. more_renewed (Some c.args.own, None) (network_of c.args.net.now.declared) s c.loop-place.place c.args.ends.now.items c.loop-place.ends.items c.renew_one.new.ends.items (i.numbers s state) (made.numbers s state);
      names = made.names ∙ i.names;
      table = made.table ∙ i.table;
      seat = seat_more c.args.seat.now.me c.loop-place.seat.me c.renew_one.new.seat.me c.loop-place.ends.items c.renew_one.new.ends.items i.seat made.seat;
    }

pub returns-clause-numbers : goal.returns-clause-numbers
returns-clause-numbers c = λ s state.
    let i = c.loop-place.invariant in
    let names = i.names in
    let counts : c.loop-place.place ≡ length c.args.ends.now.items = search rules in
    i.numbers s state ∙ all_renewed (Some c.args.own, None) (network_of c.args.net.now.declared) s c.loop-place.place c.args.ends.now.items counts
