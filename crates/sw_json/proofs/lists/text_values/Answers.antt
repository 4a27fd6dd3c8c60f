use Rattle.std.proofs.Common.{string_bytes}
use Rattle.serde_json.specs.Data.{string}
use Rattle.sw_json.proofs.Added.{all_made, all_strings, one_more, spelled}
use Rattle.sw_json.proofs.lists.text_values.Goals as goal

pub loop-text-preserved : goal.loop-text-preserved
loop-text-preserved c =
    one_more (λ t. string (string_bytes t)) c.args.texts.now c.loop-text.text-index c.text-item.result c.loop-text.values.items c.add_value.new.values.items
    c.try_from_str.result c.loop-text.invariant c.loop-text-test.true c.text-item.is (spelled _ _ _ c.try_from_str.ensures c.as_str.ensures.value) c.in_ok-add_value.ensures.added

pub returns : goal.returns
returns c =
    all_strings c.args.texts.now c.loop-text.values.items
    (all_made (λ t. string (string_bytes t)) c.args.texts.now c.loop-text.text-index c.loop-text.values.items c.loop-text.invariant c.loop-text-test.false)
