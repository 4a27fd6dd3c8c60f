use Rattle.std.proofs.Common.{All, length, map, subst, sym, ℕ, ◌*◌, ◌<◌, ◌≡◌}
use Rattle.sw_config.specs.Entries.{Declaration}
use Rattle.sw_journal.proofs.Renewed.{seat_more, two_renewed, within_names}
use Rattle.sw_journal.proofs.renewal.renew_after.Goals as goal
use Rattle.sw_journal.specs.Renewal.{renewed}
use Rattle.sw_machine.specs.Model.{network_of}
use Rattle.sw_net.specs.declared.numbers.Numbers.{Numbers}

pub renew_end-requires-2-clause-within : goal.renew_end-requires-2-clause-within
renew_end-requires-2-clause-within c =
    let within = subst (λ (d : Declaration). All {X = ℕ × Numbers} (λ p. p.0 < 2 * length d.links) c.args.ends.now.items) (sym c.net-after.ensures.declared) c.requires.within in
    within_names _ c.renew_end.new.ends.items c.args.ends.now.items c.renew_end.ensures.names within

pub returns-clause-numbers : goal.returns-clause-numbers
returns-clause-numbers c = λ s leads.
    let these = c.args.these.now in
    let state = c.net-after.ensures.state s leads in
    let two = two_renewed (network_of c.net-after.result.now.declared) s these c.args.ends.now.items c.renew_end.new.ends.items c.renew_end-2.new.ends.items
    (c.renew_end.ensures.numbers s state) (c.renew_end-2.ensures.numbers s state) in
    subst (λ (d : Declaration). c.renew_end-2.new.ends.items ≡ map (renewed these (network_of d) s) c.args.ends.now.items) c.net-after.ensures.declared two

pub returns-clause-seat : goal.returns-clause-seat
returns-clause-seat c =
    seat_more c.args.seat.now.me c.renew_end.new.seat.me c.renew_end-2.new.seat.me c.renew_end.new.ends.items c.renew_end-2.new.ends.items c.renew_end.ensures.seat c.renew_end-2.ensures.seat
