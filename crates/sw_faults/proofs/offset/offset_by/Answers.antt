use Rattle.std.proofs.Common.{arith, ◌<◌, ◌≤◌, length, take}
use Rattle.std.proofs.lemmas.List.{take_rest}
use Rattle.sw_faults.proofs.Pieces.{piece_place}
use Rattle.sw_faults.proofs.offset.offset_by.Goals as goal

pub returns-then-branch-3 : goal.returns-then-branch-3
returns-then-branch-3 c =
    let order : c.args.piece.from < c.args.piece.to = omega (arith, c.if-from-to.false) in
    let within : c.args.piece.to ≤ length c.args.text.now = omega (arith, c.if-to-text.false) in
    let upto = take c.args.piece.to c.args.text.now in
    piece_place c.args.text.now _ _ _ c.args.piece.from c.args.piece.to (take_rest upto c.args.piece.from) order within
    (c.in_ok-holds.ensures c.if-branch.true) (c.in_ok-holds-2.ensures c.if-branch-2.true) (c.in_ok-is_piece.ensures c.if-branch-3.true)
