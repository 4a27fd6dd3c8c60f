use Rattle.std.proofs.Common.{◌∙◌, List, ℕ, [], ◌∷◌}
use Rattle.std.specs.Borrow.{Bor}
use Rattle.std.specs.List.{zip}
use Rattle.std.proofs.lemmas.List.{length_push}
use Rattle.std.proofs.lemmas.Iterator.{YieldsList-from_slice, YieldsList-from_zip}
use Rattle.std.proofs.lemmas.Iterator.Adapters.{YieldsList-from_vec}
use Rattle.std.proofs.lemmas.Iterator.Consumers.{YieldsList-end, YieldsList-turn}
use Rattle.sw_json_verdicts.specs.AuditTexts.{objects}
use Rattle.sw_json_verdicts.specs.declared.judged.Judged.{Judged}
use Rattle.sw_json_verdicts.proofs.Pairs.{all_items, objects_of_pairs, one_item_more, pair_of}
use Rattle.sw_json_verdicts.proofs.audit_texts.objects.Goals as goal

pub loop-path-preserved : goal.loop-path-preserved
loop-path-preserved c =
    let turn = YieldsList-turn {s = c.into_iter-path-iterator.result} (YieldsList-from_zip (YieldsList-from_slice c.args.paths.now cc) (YieldsList-from_vec c.args.all.items (cc) (cc)))
    c.loop-path.yielded c.loop-path.path-iterator c.loop-path.yielded_by _ c.next.new.self _ c.in-Some.is c.next.ensures.steps in
    one_item_more (λ (p : Bor (List ℕ) × Judged). objects c.args.quiet (pair_of p ∷ [])) (zip c.args.paths.now c.args.all.items) _ _ _ _ _
    turn.0 turn.1 (length_push c.loop-path.yielded _) c.loop-path.invariant c.in_ok-add_object.ensures

pub returns : goal.returns
returns c =
    let ended = YieldsList-end {s = c.into_iter-path-iterator.result} (YieldsList-from_zip (YieldsList-from_slice c.args.paths.now cc) (YieldsList-from_vec c.args.all.items (cc) (cc)))
    c.loop-path.yielded c.loop-path.path-iterator c.loop-path.yielded_by _ c.next.new.self c.in-None.is c.next.ensures.steps in
    all_items (λ (p : Bor (List ℕ) × Judged). objects c.args.quiet (pair_of p ∷ [])) (zip c.args.paths.now c.args.all.items) _ _ ended.1 c.loop-path.invariant
    ∙ objects_of_pairs c.args.quiet c.args.paths.now c.args.all.items
