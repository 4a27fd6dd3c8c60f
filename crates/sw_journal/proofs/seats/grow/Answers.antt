use Rattle.std.proofs.Common.{[], ap, arith, suc, sym, take, ℕ, ◌+◌, ◌++◌, ◌∙◌, ◌∷◌, ◌≡◌}
use Rattle.std.proofs.Math.Seq.{take-suc}
use Rattle.atomic_table.specs.Table.{Me}
use Rattle.sw_net.specs.declared.numbers.Numbers.{Numbers}
use Rattle.sw_journal.proofs.Moves.{grown_more, opens_by, pushes_by}
use Rattle.sw_journal.proofs.seats.grow.Goals as goal
use Rattle.sw_journal.specs.declared.cell_table.SeatChange.{SeatChange}
use Rattle.sw_journal.specs.declared.cell_table.View.{View}

pub compare_exchange_with-requires : goal.compare_exchange_with-requires
compare_exchange_with-requires c = (c.requires.seat.0, c.requires.table, opens_by _ _ _ c.args.id c.requires.seat.1)

pub loop-end-init : goal.loop-end-init
loop-end-init c = record { name = c.compare_exchange_with.ensures.0; seat = c.compare_exchange_with.ensures.2 }

pub compare_exchange_with-requires-in-loop-end : goal.compare_exchange_with-requires-in-loop-end
compare_exchange_with-requires-in-loop-end c =
    let i = c.loop-end.invariant in
    let item = c.loop-end-item.result in
    (i.name ∙ c.requires.seat.0, c.requires.table, pushes_by _ _ _ item.0 item.1 (ap (λ (m : Me SeatChange View). m.0.keeps) i.seat ∙ c.requires.seat.1) (ap (λ (m : Me SeatChange View). m.0.claims) i.seat))

pub loop-end-preserved : goal.loop-end-preserved
loop-end-preserved c =
    let i = c.loop-end.invariant in
    let k = c.loop-end.end-index in
    let ends = c.args.ends.now in
    let item = c.loop-end-item.result in
    let made = c.compare_exchange_with-in-loop-end in
    let next : k + 1 ≡ suc k = omega arith in
    let more : take (k + 1) ends ≡ take k ends ++ item ∷ [] = ap (λ (n : ℕ). take n ends) next ∙ take-suc ends k item c.loop-end-test.true ∙ ap (λ (x : ℕ × Numbers). take k ends ++ x ∷ []) (sym c.loop-end-item.is) in
    record {
      name = made.ensures.0 ∙ i.name;
      seat = grown_more c.args.seat.now.me c.loop-end.seat.me made.new.seat.me c.args.id (take k ends) (take (k + 1) ends) item.0 item.1 i.seat made.ensures.2 more;
    }
