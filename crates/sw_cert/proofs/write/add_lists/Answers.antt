use Rattle.std.proofs.Common.{[], ◌++◌, ◌∙◌, ap, string_bytes}
use Rattle.sw_cert.proofs.Numbered.{added_all, added_more}
use Rattle.sw_cert.proofs.Written.{block_text, blocks_text}
use Rattle.sw_cert.proofs.write.add_lists.Goals as goal

pub loop-places-preserved : goal.loop-places-preserved
loop-places-preserved c =
    let added = rw c.deref.ensures.value at c.in_ok-add_block.ensures in
    added_more block_text (string_bytes c.args.text.now) [] c.args.flows.now c.loop-places.places-index c.places-item.result (string_bytes c.loop-places.text)
    (string_bytes c.add_block.new.text) c.loop-places-test.true c.places-item.is c.loop-places.invariant added

pub returns : goal.returns
returns c =
    added_all block_text (string_bytes c.args.text.now) [] c.args.flows.now c.loop-places.places-index (string_bytes c.loop-places.text) c.loop-places-test.false c.loop-places.invariant
    ∙ ap (λ x. string_bytes c.args.text.now ++ x) (blocks_text c.args.flows.now)
