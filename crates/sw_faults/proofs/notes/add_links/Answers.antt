use Rattle.std.proofs.Common.{◌∙◌, ap, arith, sym, take}
use Rattle.std.proofs.lemmas.List.{take_min}
use Rattle.sw_faults.specs.declared.note.Note.TheVariants.{LinkHere}
use Rattle.sw_faults.proofs.Placed.{element_more, links_walked}
use Rattle.sw_faults.proofs.notes.add_links.Goals as goal

pub loop-link-preserved : goal.loop-link-preserved
loop-link-preserved c =
    element_more LinkHere (take c.min.result c.args.links.now) c.loop-link.link-index _ _ c.loop-link.notes.items c.add_note-in-loop-link.new.notes.items c.loop-link-test.true
    c.loop-link.invariant c.in_ok-add_note.ensures

pub returns : goal.returns
returns c =
    let most = ap (λ n. take n c.args.links.now) c.min.ensures ∙ take_min 8 c.args.links.now in
    links_walked c.args.links.now (take c.min.result c.args.links.now) c.loop-link.link-index c.args.notes.now.items c.loop-link.notes.items
    (sym c.is_empty.ensures ∙ c.if-is_empty.false) most (omega (arith, c.loop-link-test.false)) c.loop-link.invariant
