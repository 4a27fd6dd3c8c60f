-- A part of a walk turned round.
use Rattle.std.proofs.Common.{◌≡◌, ℕ, zero, suc, ◌+◌, ◌-◌, ◌<◌, ◌≤◌, List, [], ◌∷◌, ◌++◌, length, take, drop, get_or, refl, sym, ap, ◌∙◌, subst, arith, All, false, length-take, length-drop}
use Rattle.std.specs.Prelude.{slice_index, ◌==◌, reverse}
use Rattle.std.proofs.lemmas.List.{reverse-append, get_or-reverse, length-reverse, get_or-take, get_or-drop, get_or_append_left, take-append-drop, drop_more, take_rest}
use Rattle.std.proofs.lemmas.List.Elements.{All-append, All-from_get_or}
use Rattle.sw_graph.specs.Cycles.{IsTurned}
use Rattle.sw_graph.specs.Walking.{times, IsLowest, IsSince}
use Rattle.sw_graph.proofs.Counts.{flag, times_cons}

all_reversed : (P : ℕ → Type 0) (xs : List ℕ) → ((k : ℕ) → k < length xs → P (slice_index xs k)) → All P (reverse xs)
all_reversed P xs h = All-from_get_or P (reverse xs) 0 (λ i lt. let n = length-reverse xs in subst P (sym (get_or-reverse xs i 0 (omega arith))) (h (length xs - 1 - i) (omega arith)))

turned_is : (xs : List ℕ) (low : ℕ) (cycle : List ℕ) → IsLowest xs low → cycle ≡ reverse (take (low + 1) xs) ++ reverse (drop (low + 1) xs) → IsTurned xs cycle
turned_is xs low cycle h e =
    let a = take (low + 1) xs in
    let b = drop (low + 1) xs in
    let inn = h.0 in
    let la : length a ≡ low + 1 = omega (arith, length-take (low + 1) xs) in
    let lr = length-reverse a in
    let at : length a - 1 - 0 ≡ low = omega arith in
    let head : slice_index cycle 0 ≡ slice_index xs low =
    ap (λ l. slice_index l 0) e ∙ get_or_append_left (reverse a) (reverse b) 0 0 (omega arith) ∙ get_or-reverse a 0 0 (omega arith) ∙ ap (slice_index a) at ∙ get_or-take (low + 1) xs low 0 (omega arith) in
    record {
      early = reverse b;
      late = reverse a;
      direction = ap reverse (sym (take-append-drop (low + 1) xs)) ∙ reverse-append a b;
      turned = e;
      least =
          let P : ℕ → Type 0 = λ c. slice_index cycle 0 ≤ c in
          let left = all_reversed P a (λ k lt. let g = get_or-take (low + 1) xs k 0 (omega arith) in let le = h.1 k (omega arith) in omega arith) in
          let right = all_reversed P b (λ k lt. let n = length-drop (low + 1) xs in let g = get_or-drop (low + 1) xs k 0 in let le = h.1 (low + 1 + k) (omega arith) in omega arith) in
          subst (All P) (sym e) (All-append P (reverse a) (reverse b) left right);
    }

-- as it is made
pub turned_made : (xs : List ℕ) (low : ℕ) (made cycle : List ℕ) → IsLowest xs low → made ≡ take (length xs - (low + 1)) (drop (low + 1) xs) ++ take (low + 1) xs → cycle ≡ reverse made → IsTurned xs cycle
turned_made xs low made cycle h made_is is =
    let a = take (low + 1) xs in
    let b = drop (low + 1) xs in
    let whole : made ≡ b ++ a = made_is ∙ ap (λ l. l ++ a) (take_rest xs (low + 1)) in
    turned_is xs low cycle h (is ∙ ap reverse whole ∙ reverse-append b a)

-- where c stands first at k or later
pub since_within : (xs : List ℕ) (c k : ℕ) → 0 < times (drop k xs) c → k < length xs
since_within [] c zero some = absurd (omega arith)
since_within [] c (suc k) some = absurd (omega arith)
since_within (x ∷ xs) c zero some = omega arith
since_within (x ∷ xs) c (suc k) some = let r = since_within xs c k some in omega arith

pub fewer_behind : (xs : List ℕ) (c k : ℕ) → 0 < times (drop k xs) c → length xs - (k + 1) < length xs - k
fewer_behind xs c k some = let lt = since_within xs c k some in omega arith

pub since_more : (xs : List ℕ) (c k : ℕ) → 0 < times (drop k xs) c → (get_or xs k 0 == c) ≡ false → 0 < times (drop (k + 1) xs) c
since_more xs c k some other =
    let here : times (drop k xs) c ≡ times (get_or xs k 0 ∷ drop (k + 1) xs) c = ap (λ l. times l c) (drop_more xs k 0 (since_within xs c k some)) in
    let t = times_cons (get_or xs k 0) (drop (k + 1) xs) c in
    let f : flag (get_or xs k 0 == c) ≡ 0 = rw other refl in
    omega arith

pub since_is : (xs : List ℕ) (c k : ℕ) → k < length xs → get_or xs k 0 ≡ c → IsSince xs c (take (length xs - k) (drop k xs))
since_is xs c k lt found =
    let here = drop_more xs k 0 lt in
    let n = length-drop k xs in
    rw (take_rest xs k) (record {
      before = take k xs;
      parts = take-append-drop k xs;
      some = omega arith;
      begins = ap (λ l. slice_index l 0) here ∙ found;
    })
