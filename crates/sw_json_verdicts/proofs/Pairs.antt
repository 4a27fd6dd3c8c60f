-- Loops over paths and what was judged of them.
use Rattle.std.proofs.Common.{◌≡◌, ◌∙◌, ℕ, ◌+◌, ◌<◌, Bool, true, false, cond, List, [], ◌∷◌, ◌++◌, ap, append-nil, arith, get_or, length, map, refl, sym, take}
use Rattle.std.specs.Borrow.{Bor}
use Rattle.std.specs.List.{flat_map, zip}
use Rattle.std.proofs.lemmas.Grind.{flat_map-append}
use Rattle.std.proofs.lemmas.List.{take_all, take_more}
use Rattle.sw_json_verdicts.specs.AuditTexts.{finding_line, is_told, lines_text, objects, told}
use Rattle.sw_json_verdicts.specs.Findings.{Finding}
use Rattle.sw_json_verdicts.specs.Judgements.{finding_of, findings_of}
use Rattle.sw_json_verdicts.specs.declared.judged.Judged.{Judged}

-- what a path and what was judged of it tell
abbrev pub pair_of : Bor (List ℕ) × Judged → List ℕ × Finding
pair_of p = (p.0.now, finding_of p.0.now p.1)

-- what stands for one item more
pub one_item_more : {Z X : Type 0} (f : Z → List X) (zs : List Z) (i n : ℕ) (z : Z) (before after : List X) → i < length zs → z ≡ get_or zs i z → n ≡ i + 1
    → before ≡ flat_map f (take i zs) → after ≡ before ++ f z → after ≡ flat_map f (take n zs)
one_item_more f zs i n z before after within read next e more =
    let taken = take_more zs i z within in
    let joined = flat_map-append f (take i zs) (get_or zs i z ∷ []) in
    more ∙ (ap (λ t. t ++ f z) e ∙ (ap (λ x. flat_map f (take i zs) ++ f x) read
    ∙ (ap (λ end. flat_map f (take i zs) ++ end) (sym (append-nil (f (get_or zs i z))))
    ∙ (sym joined ∙ (ap (flat_map f) (sym taken) ∙ ap (λ k. flat_map f (take k zs)) (sym next))))))

pub all_items : {Z X : Type 0} (f : Z → List X) (zs : List Z) (n : ℕ) (all : List X) → n ≡ length zs → all ≡ flat_map f (take n zs) → all ≡ flat_map f zs
all_items f zs n all ended e = e ∙ ap (flat_map f) (take_all n zs (omega arith))

line_more : (b : Bool) (x : List ℕ × Finding) (xs : List (List ℕ × Finding)) → flat_map finding_line (cond b (x ∷ xs) xs) ≡ flat_map finding_line (cond b (x ∷ []) []) ++ flat_map finding_line xs
line_more true x xs = ap (λ line. line ++ flat_map finding_line xs) (sym (append-nil (finding_line x)))
line_more false x xs = refl

pub lines_of_pairs : (quiet : Bool) (paths : List (Bor (List ℕ))) (all : List Judged) → flat_map (λ (p : Bor (List ℕ) × Judged). lines_text quiet (pair_of p ∷ [])) (zip paths all)
    ≡ lines_text quiet (zip (map (λ (s : Bor (List ℕ)). s.now) paths) (findings_of (map (λ (s : Bor (List ℕ)). s.now) paths) all))
lines_of_pairs quiet [] all = refl
lines_of_pairs quiet (p ∷ ps) [] = refl
lines_of_pairs quiet (p ∷ ps) (j ∷ js) =
    let texts = map (λ (s : Bor (List ℕ)). s.now) ps in
    ap (λ rest. lines_text quiet (pair_of (p, j) ∷ []) ++ rest) (lines_of_pairs quiet ps js)
    ∙ sym (line_more (is_told quiet j.status) (pair_of (p, j)) (told quiet (zip texts (findings_of texts js))))

object_more : (b : Bool) (x : List ℕ × Finding) (xs : List (List ℕ × Finding))
    → map (λ (p : List ℕ × Finding). p.1.object) (cond b (x ∷ xs) xs) ≡ map (λ (p : List ℕ × Finding). p.1.object) (cond b (x ∷ []) []) ++ map (λ (p : List ℕ × Finding). p.1.object) xs
object_more true x xs = refl
object_more false x xs = refl

pub objects_of_pairs : (quiet : Bool) (paths : List (Bor (List ℕ))) (all : List Judged) → flat_map (λ (p : Bor (List ℕ) × Judged). objects quiet (pair_of p ∷ [])) (zip paths all)
    ≡ objects quiet (zip (map (λ (s : Bor (List ℕ)). s.now) paths) (findings_of (map (λ (s : Bor (List ℕ)). s.now) paths) all))
objects_of_pairs quiet [] all = refl
objects_of_pairs quiet (p ∷ ps) [] = refl
objects_of_pairs quiet (p ∷ ps) (j ∷ js) =
    let texts = map (λ (s : Bor (List ℕ)). s.now) ps in
    ap (λ rest. objects quiet (pair_of (p, j) ∷ []) ++ rest) (objects_of_pairs quiet ps js)
    ∙ sym (object_more (is_told quiet j.status) (pair_of (p, j)) (told quiet (zip texts (findings_of texts js))))
