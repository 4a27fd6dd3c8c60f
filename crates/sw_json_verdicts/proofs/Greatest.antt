-- The greatest status of what was judged, one after another.
use Rattle.std.proofs.Common.{◌≡◌, ◌∙◌, ℕ, ◌+◌, ◌<◌, List, [], ◌∷◌, ◌++◌, ap, arith, get_or, length, map, max, refl, sym, take, unwrap_or}
use Rattle.std.specs.List.{fold, reduce}
use Rattle.std.proofs.lemmas.List.{take_more}
use Rattle.sw_json_verdicts.specs.declared.judged.Judged.{Judged}

abbrev pub greatest : List Judged → ℕ
greatest all = unwrap_or (reduce max (map (λ (j : Judged). j.status) all)) 0

max_none : (n : ℕ) → max 0 n ≡ n
max_none n = omega arith

fold_push : (start : ℕ) (all : List Judged) (j : Judged) → fold max start (map (λ (j : Judged). j.status) (all ++ j ∷ [])) ≡ max (fold max start (map (λ (j : Judged). j.status) all)) j.status
fold_push start [] j = refl
fold_push start (next ∷ all) j = fold_push (max start next.status) all j

greatest_push : (all : List Judged) (j : Judged) → greatest (all ++ j ∷ []) ≡ max (greatest all) j.status
greatest_push [] j = sym (max_none j.status)
greatest_push (first ∷ all) j = fold_push first.status all j

pub greatest_more : (all : List Judged) (i : ℕ) (j : Judged) (before after : ℕ) → i < length all → j ≡ get_or all i j → before ≡ greatest (take i all)
    → after ≡ max before j.status → after ≡ greatest (take (i + 1) all)
greatest_more all i j before after lt at so_far more =
    more ∙ ap (λ n. max n j.status) so_far ∙ sym (greatest_push (take i all) j) ∙ ap greatest (sym (take_more all i j lt ∙ ap (λ y. take i all ++ y ∷ []) (sym at)))
