-- The values of links, one after another.
use Rattle.std.proofs.Common.{◌≡◌, ◌∙◌, ℕ, ◌+◌, ◌<◌, List, Vec, Global, [], ◌∷◌, ◌++◌, ap, arith, get_or, length, map, sym, take}
use Rattle.std.proofs.lemmas.List.{length-map, length-take-le, map-append, take_more}
use Rattle.serde_json.specs.Data.{Data}
use Rattle.sw_config.specs.Entries.{Declaration}
use Rattle.sw_changes.specs.MarginValues.{loss_value, loss_values}

abbrev items : Vec ℕ Global → List ℕ
items flows = flows.items

losses_push : (d : Declaration) (n m : ℕ) (losses : List (List ℕ)) (flows : List ℕ) → n + length losses ≡ m
    → loss_values d n (losses ++ flows ∷ []) ≡ loss_values d n losses ++ loss_value d m flows ∷ []
losses_push d n m [] flows is =
    let same : n ≡ m = omega arith in
    ap (λ k. loss_value d k flows ∷ []) same
losses_push d n m (first ∷ losses) flows is = ap (λ l. loss_value d n first ∷ l) (losses_push d (n + 1) m losses flows (omega arith))

-- the value of one link more
pub losses_more : (d : Declaration) (i : ℕ) (rows : List (Vec ℕ Global)) (row : Vec ℕ Global) (flows : List ℕ) (before after : List Data) → i < length rows
    → row ≡ get_or rows i row → flows ≡ row.items → before ≡ loss_values d 0 (map items (take i rows)) → after ≡ before ++ loss_value d i flows ∷ []
    → after ≡ loss_values d 0 (map items (take (i + 1) rows))
losses_more d i rows row flows before after lt at flows_are so_far more =
    let parts : map items (take (i + 1) rows) ≡ map items (take i rows) ++ row.items ∷ [] =
    ap (map items) (take_more rows i row lt ∙ ap (λ q. take i rows ++ q ∷ []) (sym at)) ∙ map-append items (take i rows) (row ∷ []) in
    let size : 0 + length (map items (take i rows)) ≡ i =
    omega (arith, length-map (take i rows) items, length-take-le i rows (omega arith)) in
    more ∙ ap (λ l. l ++ loss_value d i flows ∷ []) so_far ∙ ap (λ f. loss_values d 0 (map items (take i rows)) ++ loss_value d i f ∷ []) flows_are
    ∙ sym (losses_push d 0 i (map items (take i rows)) row.items size) ∙ ap (loss_values d 0) (sym parts)
