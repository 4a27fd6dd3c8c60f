use Rattle.std.proofs.Common.{[], ap, arith, length, sym, ℕ, ◌++◌, ◌<◌, ◌∙◌, ◌∷◌}
use Rattle.std.specs.Prelude.{Vec}
use Rattle.std.specs.declared.alloc.Global.{Global}
use Rattle.sw_load.proofs.Sends.{added_more}
use Rattle.sw_load.proofs.senders.add_places.Goals as goal

pub loop-preserved : goal.loop-preserved
loop-preserved c =
    let rows = c.loop.rows in
    let bound = c.requires in
    let long = c.loop.auto.rows in
    let node = c.from.ensures in
    let within : c.args.node < length rows = omega arith in
    let more = c.in_ok-push.ensures.items ∙ ap (λ (v : Vec ℕ Global). v.items ++ c.args.place ∷ []) (sym c.index-rows-from.is) in
    rw node (added_more c.args.node c.args.place c.loop.counter c.args.rows.now rows c.index-rows-from.result c.push.new.self within (rw node at c.index-rows-from.is) more c.loop.invariant)
