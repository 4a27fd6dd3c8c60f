-- The steps of a cycle, one after another.
use Rattle.std.proofs.Common.{◌≡◌, ◌∙◌, ◌+◌, ◌<◌, ◌≤◌, ℕ, List, Vec, Global, [], ◌∷◌, ◌++◌, ap, arith, get_or, length, map, refl, sym, take}
use Rattle.std.proofs.lemmas.List.{length-map, length-take-le, map-append, take_all, take_more}
use Rattle.serde_json.specs.Data.{Data}
use Rattle.sw_config.specs.Entries.{Declaration}
use Rattle.sw_cycle.specs.Cycles.{CauseEntry, cause_of}
use Rattle.sw_cycle.specs.declared.cycle.Cause.{Cause}
use Rattle.sw_explain.specs.ExplainValues.{step_value, step_values}

abbrev items : Vec ℕ Global → List ℕ
items row = row.items

steps_push : (d : Declaration) (cs : List ℕ) (qs : List CauseEntry) (rs : List (List ℕ)) (c : ℕ) (q : CauseEntry) (r : List ℕ) → length qs ≡ length cs → length rs ≡ length cs
    → step_values d (cs ++ c ∷ []) (qs ++ q ∷ []) (rs ++ r ∷ []) ≡ step_values d cs qs rs ++ step_value d c q r ∷ []
steps_push d [] [] [] c q r e f = refl
steps_push d [] [] (z ∷ rs) c q r e f = absurd (omega arith)
steps_push d [] (y ∷ qs) rs c q r e f = absurd (omega arith)
steps_push d (x ∷ cs) [] rs c q r e f = absurd (omega arith)
steps_push d (x ∷ cs) (y ∷ qs) [] c q r e f = absurd (omega arith)
steps_push d (x ∷ cs) (y ∷ qs) (z ∷ rs) c q r e f =
    let fewer : length qs ≡ length cs = omega arith in
    let shorter : length rs ≡ length cs = omega arith in
    ap (λ l. step_value d x y z ∷ l) (steps_push d cs qs rs c q r fewer shorter)

-- one element more
cut : {A : Type 0} (xs : List A) (i : ℕ) (x : A) → i < length xs → x ≡ get_or xs i x → take (i + 1) xs ≡ take i xs ++ x ∷ []
cut xs i x lt at = take_more xs i x lt ∙ ap (λ y. take i xs ++ y ∷ []) (sym at)

cut_map : {A B : Type 0} (f : A → B) (xs : List A) (i : ℕ) (x : A) → i < length xs → x ≡ get_or xs i x → map f (take (i + 1) xs) ≡ map f (take i xs) ++ f x ∷ []
cut_map f xs i x lt at = ap (map f) (cut xs i x lt at) ∙ map-append f (take i xs) (x ∷ [])

-- the steps of the first i channels
abbrev pub first_steps : Declaration → ℕ → List ℕ → List Cause → List (Vec ℕ Global) → List Data
first_steps d i channels causes rows = step_values d (take i channels) (map cause_of (take i causes)) (map items (take i rows))

-- and that of the next one
pub steps_more : (d : Declaration) (i : ℕ) (channels : List ℕ) (causes : List Cause) (rows : List (Vec ℕ Global)) (c : ℕ) (cause : Cause) (row : Vec ℕ Global) (flows : List ℕ) (before after : List Data)
    → i < length channels → length causes ≡ length channels → length rows ≡ length channels
    → c ≡ get_or channels i c → cause ≡ get_or causes i cause → row ≡ get_or rows i row → flows ≡ row.items
    → before ≡ first_steps d i channels causes rows → after ≡ before ++ step_value d c (cause_of cause) flows ∷ []
    → after ≡ first_steps d (i + 1) channels causes rows
steps_more d i channels causes rows c cause row flows before after lt caused made c_is cause_is row_is flows_are so_far more =
    let also : i < length causes = omega arith in
    let there : i < length rows = omega arith in
    let size : length (take i channels) ≡ i = length-take-le i channels (omega arith) in
    let causes_size : length (map cause_of (take i causes)) ≡ length (take i channels) =
    omega (arith, length-map (take i causes) cause_of, length-take-le i causes (omega arith)) in
    let rows_size : length (map items (take i rows)) ≡ length (take i channels) =
    omega (arith, length-map (take i rows) items, length-take-le i rows (omega arith)) in
    let pushed = steps_push d (take i channels) (map cause_of (take i causes)) (map items (take i rows)) c (cause_of cause) row.items causes_size rows_size in
    more ∙ ap (λ l. l ++ step_value d c (cause_of cause) flows ∷ []) so_far
    ∙ ap (λ f. first_steps d i channels causes rows ++ step_value d c (cause_of cause) f ∷ []) flows_are ∙ sym pushed
    ∙ ap (λ l. step_values d l (map cause_of (take i causes) ++ cause_of cause ∷ []) (map items (take i rows) ++ row.items ∷ [])) (sym (cut channels i c lt c_is))
    ∙ ap (λ l. step_values d (take (i + 1) channels) l (map items (take i rows) ++ row.items ∷ [])) (sym (cut_map cause_of causes i cause also cause_is))
    ∙ ap (λ l. step_values d (take (i + 1) channels) (map cause_of (take (i + 1) causes)) l) (sym (cut_map items rows i row there row_is))

-- the steps of all channels
pub all_steps : (d : Declaration) (i : ℕ) (channels : List ℕ) (causes : List Cause) (rows : List (Vec ℕ Global)) (values : List Data)
    → length channels ≤ i → length causes ≡ length channels → length rows ≡ length channels → values ≡ first_steps d i channels causes rows
    → values ≡ step_values d channels (map cause_of causes) (map items rows)
all_steps d i channels causes rows values past caused made so_far =
    let also : length causes ≤ i = omega arith in
    let there : length rows ≤ i = omega arith in
    so_far ∙ ap (λ l. step_values d l (map cause_of (take i causes)) (map items (take i rows))) (take_all i channels past)
    ∙ ap (λ l. step_values d channels (map cause_of l) (map items (take i rows))) (take_all i causes also)
    ∙ ap (λ l. step_values d channels (map cause_of causes) (map items l)) (take_all i rows there)
