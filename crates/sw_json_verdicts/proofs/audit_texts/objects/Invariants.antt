use Rattle.std.proofs.Common.{◌≡◌, ℕ, List, [], ◌∷◌, length, map, take}
use Rattle.std.specs.Borrow.{Bor}
use Rattle.std.specs.List.{flat_map, zip}
use Rattle.serde_json.specs.View.{view}
use Rattle.sw_json_verdicts.specs.AuditTexts.{objects}
use Rattle.sw_json_verdicts.specs.declared.judged.Judged.{Judged}
use Rattle.sw_json_verdicts.proofs.Pairs.{pair_of}
use Rattle.sw_json_verdicts.proofs.audit_texts.objects.Given as goal

abbrev pub invariant-loop-path : goal.invariant-loop-path
invariant-loop-path l =
    map view l.values.items ≡ flat_map (λ (p : Bor (List ℕ) × Judged). objects l.quiet (pair_of p ∷ [])) (take (length l.yielded) (zip l.paths l.fn.all.items))
