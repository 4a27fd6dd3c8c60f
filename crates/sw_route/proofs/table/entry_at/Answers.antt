use Rattle.std.proofs.Common.{sym, ◌∙◌}
use Rattle.sw_route.proofs.Entries.{entries_answer}
use Rattle.sw_route.proofs.table.entry_at.Goals as goal

pub returns-in-Some : goal.returns-in-Some
returns-in-Some c =
    let there = c.in-Some.ensures.lookup in
    let route = c.in-Some.route.now in
    entries_answer c.args.routes.now c.requires route (c.args.place, there.3.0, sym (there.3.1 route)) c.args.address (sym c.covers.ensures ∙ c.if-covers.true)
