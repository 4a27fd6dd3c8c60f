use Rattle.std.proofs.Common.{◌≡◌, ◌++◌, ◌∷◌, [], refl, arith}
use Rattle.sw_char.specs.declared.nchar.End.TheVariants as ends
use Rattle.sw_char.proofs.Cuts.{packet, next_marker}
use Rattle.sw_char.proofs.packet.packets.Goals as goal
use Rattle.sw_char.proofs.packet.packets.Goals.{in-Eop, in-Eep}

pub loop-i-preserved : goal.loop-i-preserved
loop-i-preserved c =
    let empty : c.replace-bytes.new.dest.items ≡ [] = rw c.replace-bytes.ensures.after c.new.ensures.items in
    elim c.match-char.branch [
      | in-Eop w ↦
          let more : c.push-in-loop-i.new.self.items ≡ c.loop-i.whole.items ++ packet c.loop-i.bytes.items ends.Eop ∷ [] = rw (c.in_ok-push.ensures.items, c.replace-bytes.ensures.value, w.end-is) refl in
          record { cut = rw (more, empty) (next_marker _ _ _ _ _ ends.Eop c.loop-i-test.true w.in-Eop.is c.loop-i.invariant.cut); start = rw empty (omega arith) }
      | in-Eep w ↦
          let more : c.push-in-loop-i.new.self.items ≡ c.loop-i.whole.items ++ packet c.loop-i.bytes.items ends.Eep ∷ [] = rw (c.in_ok-push.ensures.items, c.replace-bytes.ensures.value, w.end-is) refl in
          record { cut = rw (more, empty) (next_marker _ _ _ _ _ ends.Eep c.loop-i-test.true w.in-Eep.is c.loop-i.invariant.cut); start = rw empty (omega arith) }
    ]
