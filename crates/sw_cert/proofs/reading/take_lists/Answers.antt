use Rattle.std.proofs.Common.{◌∙◌}
use Rattle.std.proofs.Math.Nat.{le_trans}
use Rattle.sw_cert.proofs.reading.take_lists.Goals as goal

pub take_part-requires-clause-sound : goal.take_part-requires-clause-sound
take_part-requires-clause-sound c = c.loop-lists.invariant.sound

pub take_part-requires-clause-within : goal.take_part-requires-clause-within
take_part-requires-clause-within c = c.loop-lists.invariant.within

pub take_part-requires-clause-few : goal.take_part-requires-clause-few
take_part-requires-clause-few c = le_trans c.loop-lists.invariant.few c.requires.few

pub loop-lists-preserved : goal.loop-lists-preserved
loop-lists-preserved c =
    let taken = rw c.in-Ok-Some.field-0-is at c.in-Ok-Some.ensures in
    record {
      within = taken.within;
      same = taken.same ∙ c.loop-lists.invariant.same;
      sound = taken.sound;
      few = le_trans taken.few c.loop-lists.invariant.few;
    }
