use Rattle.std.proofs.Common.{ap, length, refl, sym, ◌*◌, ◌∙◌}
use Rattle.sw_config.specs.Entries.{Declaration}
use Rattle.sw_journal.proofs.Opened.{account_first, kept_first, state_first}
use Rattle.sw_journal.proofs.journal.Journal.new.Goals as goal
use Rattle.sw_journal.specs.Record.{new_cells}

pub opening_of-requires : goal.opening_of-requires
opening_of-requires c = state_first c.in_ok-history.history c.net.result.now c.net.ensures.declared c.in_ok-history.ensures.steps c.net.ensures.state

pub invariant_of-journal : goal.invariant_of-journal
invariant_of-journal c =
    let d = c.net.result.now.declared in
    let made = c.in-Ok.ensures in (
      kept_first _ d c.in_ok-history.history _ (2 * length d.links) _ _ made.valid refl (sym c.net.ensures.declared) c.in_ok-history.ensures.steps made.marks made.known,
      made.seat,
      made.table,
    )

pub returns-in-Ok-clause-journal : goal.returns-in-Ok-clause-journal
returns-in-Ok-clause-journal c =
    let h = c.in_ok-history.history in
    let own = c.in_ok-history.ensures.network ∙ c.in_ok-declared_net.ensures.new.network in
    let links = ap (λ (d : Declaration). 2 * length d.links) (c.net.ensures.declared ∙ own) in
    account_first _ c.args.network.now h c.args.load.now c.args.limit _ _ links own c.in_ok-history.ensures.load c.in_ok-history.ensures.steps c.in-Ok.ensures.marks

pub returns-in-Ok-clause-cells : goal.returns-in-Ok-clause-cells
returns-in-Ok-clause-cells c =
    let own = c.net.ensures.declared ∙ c.in_ok-history.ensures.network ∙ c.in_ok-declared_net.ensures.new.network in
    c.in-Ok.ensures.cells ∙ ap (λ (d : Declaration). new_cells d c.in-Ok.field-0.table.shared.table_id) own
