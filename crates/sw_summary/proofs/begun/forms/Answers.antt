use Rattle.std.proofs.Common.{[], ap, get_or, subst, sym, ◌++◌, ◌∙◌, ◌≡◌}
use Rattle.std.proofs.lemmas.List.{take_all}
use Rattle.std.proofs.lemmas.List.Elements.{same_from_all_zip}
use Rattle.sw_machine.specs.Begun.{Begun}
use Rattle.sw_summary.proofs.Lists.{form_kept, form_pushed}
use Rattle.sw_summary.specs.Counts.{forms}
use Rattle.sw_summary.proofs.begun.forms.Goals as goal

pub loop-packet-preserved-then-packet-number : goal.loop-packet-preserved-then-packet-number
loop-packet-preserved-then-packet-number c =
    let begun = c.args.begun.now in
    let i = c.loop-packet.packet-index in
    let packet : Begun = record { flow = c.packet.inside.flow; cargo = c.packet.inside.cargo.now; end = c.packet.inside.end } in
    let at : packet ≡ get_or begun i packet = subst (λ (b : Begun). b ≡ get_or begun i b) (sym c.packet.view_is) c.packet-item.is in
    form_kept c.args.flow.now c.args.number begun i packet c.loop-packet.all.items c.loop-packet-test.true at c.if-packet-number.true c.loop-packet.invariant

pub loop-packet-preserved : goal.loop-packet-preserved
loop-packet-preserved c =
    let begun = c.args.begun.now in
    let i = c.loop-packet.packet-index in
    let packet : Begun = record { flow = c.packet.inside.flow; cargo = c.packet.inside.cargo.now; end = c.packet.inside.end } in
    let at : packet ≡ get_or begun i packet = subst (λ (b : Begun). b ≡ get_or begun i b) (sym c.packet.view_is) c.packet-item.is in
    let left = c.left_bytes.result.now in
    let bytes = c.in_ok-bytes.bytes.items in
    let joined : bytes ≡ left ++ (packet.cargo ++ []) = same_from_all_zip _ (left ++ (packet.cargo ++ [])) bytes c.in_ok-bytes.ensures.ok (λ x y same. same) in
    form_pushed c.args.flow.now c.args.number begun i packet left bytes c.loop-packet.all.items c.push.new.self.items c.loop-packet-test.true at c.if-packet-number.false c.left_bytes.ensures joined
    c.loop-packet.invariant c.in_ok-push.ensures.items

pub returns : goal.returns
returns c =
    c.loop-packet.invariant ∙ ap (forms c.args.flow.now c.args.number) (take_all c.loop-packet.packet-index c.args.begun.now c.loop-packet-test.false)
