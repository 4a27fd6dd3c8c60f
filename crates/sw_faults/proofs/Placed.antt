-- The places of those that pass, one after another.
use Rattle.std.proofs.Common.{◌≡◌, ◌∙◌, ◌<◌, ◌≤◌, ◌+◌, ◌++◌, ℕ, suc, Bool, true, false, List, [], ◌∷◌, ap, arith, cond, get_or, length, map, sym, take}
use Rattle.std.proofs.lemmas.List.{append-nil, append_assoc, length-take-le, map_more, take_all, take_more}
use Rattle.std.specs.Bool.{◌==◌}
use Rattle.toml.specs.Data.{Members}
use Rattle.sw_faults.specs.Finding.{places_from}
use Rattle.sw_faults.specs.Notes.{link_notes}
use Rattle.sw_faults.specs.declared.note.Note.{Note}
use Rattle.sw_faults.specs.declared.note.Note.TheVariants.{LinkHere}

onward : (passes : Bool) (n : ℕ) (all before last : List ℕ) → all ≡ before ++ last → cond passes (n ∷ all) all ≡ cond passes (n ∷ before) before ++ last
onward true n all before last is = ap (λ l. n ∷ l) is
onward false n all before last is = is

place_with : {T : Type 0} (test : Members → Bool) (f : T → Members) (ts : List T) (t : T) (n m : ℕ) → n + length ts ≡ m
    → places_from test n (map f (ts ++ t ∷ [])) ≡ places_from test n (map f ts) ++ cond (test (f t)) (m ∷ []) []
place_with test f [] t n m is = ap (λ k. cond (test (f t)) (k ∷ []) []) (let same : n ≡ m = omega (arith, is) in same)
place_with test f (x ∷ xs) t n m is =
    onward (test (f x)) n (places_from test (suc n) (map f (xs ++ t ∷ []))) (places_from test (suc n) (map f xs)) (cond (test (f t)) (m ∷ []) [])
    (place_with test f xs t (suc n) m (omega (arith, is)))

-- those up to one more are those before it, and its own, if it passes
pub place_more : {T : Type 0} (test : Members → Bool) (f : T → Members) (ts : List T) (i : ℕ) (d : T) → i < length ts
    → places_from test 0 (map f (take (i + 1) ts)) ≡ places_from test 0 (map f (take i ts)) ++ cond (test (f (get_or ts i d))) (i ∷ []) []
place_more test f ts i d within =
    let few : i ≤ length ts = omega (arith, within) in
    let at : 0 + length (take i ts) ≡ i = omega (arith, length-take-le i ts few) in
    ap (λ l. places_from test 0 (map f l)) (take_more ts i d within) ∙ place_with test f (take i ts) (get_or ts i d) 0 i at

-- those up to one more, where it is told of that one whether it passes
place_next : {T : Type 0} (test : Members → Bool) (f : T → Members) (ts : List T) (i : ℕ) (item : T) (passes : Bool) (before : List ℕ) → i < length ts
    → item ≡ get_or ts i item → before ≡ places_from test 0 (map f (take i ts)) → passes ≡ test (f item)
    → before ++ cond passes (i ∷ []) [] ≡ places_from test 0 (map f (take (i + 1) ts))
place_next test f ts i item passes before within is placed told =
    ap (λ b. before ++ cond b (i ∷ []) []) (told ∙ ap (λ t. test (f t)) is)
    ∙ ap (λ l. l ++ cond (test (f (get_or ts i item))) (i ∷ []) []) placed
    ∙ sym (place_more test f ts i item within)

-- one more turn of a walk over them, where the next passes
pub place_taken : {T : Type 0} (test : Members → Bool) (f : T → Members) (ts : List T) (i : ℕ) (item : T) (passes : Bool) (before after : List ℕ) → i < length ts
    → item ≡ get_or ts i item → before ≡ places_from test 0 (map f (take i ts)) → passes ≡ test (f item) → passes ≡ true → after ≡ before ++ i ∷ []
    → after ≡ places_from test 0 (map f (take (i + 1) ts))
place_taken test f ts i item passes before after within is placed told does adds =
    adds ∙ ap (λ b. before ++ cond b (i ∷ []) []) (sym does) ∙ place_next test f ts i item passes before within is placed told

-- the same, where it does not
pub place_left : {T : Type 0} (test : Members → Bool) (f : T → Members) (ts : List T) (i : ℕ) (item : T) (passes : Bool) (before : List ℕ) → i < length ts
    → item ≡ get_or ts i item → before ≡ places_from test 0 (map f (take i ts)) → passes ≡ test (f item) → passes ≡ false
    → before ≡ places_from test 0 (map f (take (i + 1) ts))
place_left test f ts i item passes before within is placed told fails =
    sym (append-nil before) ∙ ap (λ b. before ++ cond b (i ∷ []) []) (sym fails) ∙ place_next test f ts i item passes before within is placed told

-- one more turn of a walk that adds an element for each
pub element_more : {T X : Type 0} (f : T → X) (ts : List T) (i : ℕ) (d : T) (start before after : List X) → i < length ts
    → before ≡ start ++ map f (take i ts) → after ≡ before ++ f (get_or ts i d) ∷ [] → after ≡ start ++ map f (take (i + 1) ts)
element_more f ts i d start before after within so_far adds =
    adds ∙ ap (λ l. l ++ f (get_or ts i d) ∷ []) so_far ∙ append_assoc start (map f (take i ts)) (f (get_or ts i d) ∷ [])
    ∙ ap (λ l. start ++ l) (sym (map_more f ts i d within))

-- the links at a node, where there are some, and the first 8 of them were walked over
pub links_walked : (links most : List ℕ) (i : ℕ) (start after : List Note) → (length links == 0) ≡ false → most ≡ take 8 links → length most ≤ i
    → after ≡ start ++ map LinkHere (take i most) → after ≡ start ++ link_notes links
links_walked [] most i start after some is past walked = absurd cc
links_walked (link ∷ links) most i start after some is past walked = walked ∙ ap (λ l. start ++ map LinkHere l) (take_all i most past ∙ is)
