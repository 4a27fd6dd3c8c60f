use Rattle.std.proofs.Common.{◌≡◌, ℕ, List, [], ◌∷◌, length, string_bytes, take}
use Rattle.std.specs.Borrow.{Bor}
use Rattle.std.specs.List.{flat_map, zip}
use Rattle.sw_json_verdicts.specs.AuditTexts.{lines_text}
use Rattle.sw_json_verdicts.specs.declared.judged.Judged.{Judged}
use Rattle.sw_json_verdicts.proofs.Pairs.{pair_of}
use Rattle.sw_json_verdicts.proofs.audit_texts.lines_text.Given as goal

abbrev pub invariant-loop-path : goal.invariant-loop-path
invariant-loop-path l =
    string_bytes l.text ≡ flat_map (λ (p : Bor (List ℕ) × Judged). lines_text l.quiet (pair_of p ∷ [])) (take (length l.yielded) (zip l.paths l.all))
