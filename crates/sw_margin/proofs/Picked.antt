-- The nodes and flows that are told of.
use Rattle.std.proofs.Common.{◌≡◌, ℕ, ◌+◌, Bool, true, false, cond, List, [], ◌∷◌, ◌++◌, filter, sym, ap, ◌∙◌, append-nil}
use Rattle.std.specs.List.{AllZip, range_with_len}
use Rattle.std.proofs.lemmas.Slice.Zip.{all_zipped_more}
use Rattle.sw_graph.proofs.Marked.{marked_more}

-- the next number is chosen, and told of
pub chosen_told : {B : Type 0} (R : ℕ → B → Type 0) (test : ℕ → Bool) (n : ℕ) (ys after : List B) (y : B) (chosen : Bool) → AllZip R (filter test (range_with_len 0 n)) ys → chosen ≡ test n → chosen ≡ true → R n y → after ≡ ys ++ y ∷ []
    → AllZip R (filter test (range_with_len 0 (n + 1))) after
chosen_told R test n ys after y chosen told same is here more =
    let one : filter test (range_with_len 0 (n + 1)) ≡ filter test (range_with_len 0 n) ++ n ∷ [] = marked_more test n ∙ ap (λ b. filter test (range_with_len 0 n) ++ cond b (n ∷ []) []) (sym same ∙ is) in
    rw (one, more) (all_zipped_more R (filter test (range_with_len 0 n)) ys n y told here)

-- or it is not chosen
pub not_chosen : {B : Type 0} (R : ℕ → B → Type 0) (test : ℕ → Bool) (n : ℕ) (ys : List B) (chosen : Bool) → AllZip R (filter test (range_with_len 0 n)) ys → chosen ≡ test n → chosen ≡ false → AllZip R (filter test (range_with_len 0 (n + 1))) ys
not_chosen R test n ys chosen told same is =
    let none : filter test (range_with_len 0 (n + 1)) ≡ filter test (range_with_len 0 n) = marked_more test n ∙ ap (λ b. filter test (range_with_len 0 n) ++ cond b (n ∷ []) []) (sym same ∙ is) ∙ append-nil (filter test (range_with_len 0 n)) in
    rw none told
