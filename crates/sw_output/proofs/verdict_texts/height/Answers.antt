use Rattle.std.proofs.Common.{◌∙◌, ap, sym}
use Rattle.std.specs.Prelude.{unwrap_or}
use Rattle.std.proofs.lemmas.Iterator.{YieldsList-from_slice}
use Rattle.std.proofs.lemmas.Iterator.Adapters.{option_map_id}
use Rattle.std.proofs.lemmas.Iterator.Consumers.{YieldsList-from_copied, max_from_yields_List}
use Rattle.sw_output.proofs.verdict_texts.height.Goals as goal

pub returns : goal.returns
returns c =
    let greatest = sym (option_map_id _) ∙ max_from_yields_List c.copied.result _ c.max.ensures.ran (YieldsList-from_copied (YieldsList-from_slice c.args.numbers.now cc)) in
    c.unwrap_or.ensures ∙ ap (λ o. unwrap_or o 0) greatest
