use Rattle.std.proofs.Common.{◌≡◌, ◌++◌, ◌∷◌, [], take, ap, sym, ◌∙◌, ◌+◌}
use Rattle.std.proofs.lemmas.List.{take_more}
use Rattle.sw_margin.proofs.Needing.{marked_more}
use Rattle.sw_margin.proofs.losing.mark_places.Goals as goal

pub loop-place-preserved : goal.loop-place-preserved
loop-place-preserved c =
    let xs = c.args.places.now in
    let i = c.loop-place.place-index in
    let item = c.place-item.result in
    let more : take (i + 1) xs ≡ take i xs ++ item ∷ [] = take_more xs i item c.loop-place-test.true ∙ ap (λ q. take i xs ++ q ∷ []) (sym c.place-item.is) in
    rw more (marked_more c.args.network.now c.args.flow.now (take i xs) item c.args.marks.now c.loop-place.marks c.mark_place.new.marks c.loop-place.invariant c.mark_place.ensures)
