use Rattle.std.proofs.Common.{◌+◌, sym, refl, subst, take}
use Rattle.sw_config.specs.Entries.{all_flows}
use Rattle.sw_linter.specs.Marks.{AreNoted, no_places}
use Rattle.sw_linter.proofs.Again.{like_last}
use Rattle.sw_linter.proofs.Noting.{noted_more_flows}
use Rattle.sw_linter.proofs.marks.Marks.note_all.Goals.{then-not-is_like_last+in_ok-note_number, else-not-is_like_last}
use Rattle.sw_linter.proofs.marks.Marks.note_all.Goals as goal

pub loop-number-preserved : goal.loop-number-preserved
loop-number-preserved c =
    let flows = all_flows c.args.network.now in
    let n = c.loop-number.number in
    elim c.if-not-is_like_last.branch [
      | then-not-is_like_last+in_ok-note_number w ↦
          subst (AreNoted c.args.network.now (take (n + 1) flows) (no_places c.args.network.now)) (sym w.self-is) (noted_more_flows c.args.network.now flows n (no_places c.args.network.now) _ _ refl c.loop-number.invariant w.in_ok-note_number.ensures)
      | else-not-is_like_last w ↦
          subst (AreNoted c.args.network.now (take (n + 1) flows) (no_places c.args.network.now)) (sym w.self-is) (like_last c.args.network.now flows n c.loop-number.self (c.is_like_last.ensures.0 w.if-not-is_like_last.false) c.loop-number.invariant)
    ]
