-- What a write to one ring does to the wires.
use Rattle.std.proofs.Common.{◌≡◌, ℕ, zero, suc, ◌<◌, List, [], ◌∷◌, map, get_or, set, length, replicate, refl, sym, ap, ◌∙◌, Result, Ok, Err}
use Rattle.std.specs.Result.{IsOk, OnOk}
use Rattle.std.proofs.lemmas.Bool.{false≢true}
use Rattle.std.proofs.lemmas.List.{map-set, get_or-map}
use Rattle.circular_buffer.specs.Buffer.{Buffer, buffer}

-- what holds after a call that succeeds
pub on_ok : {A E : Type 0} (r : Result A E) (P : Type 0) → IsOk r → OnOk r P → P
on_ok (Ok x) P is h = h
on_ok (Err e) P is h = absurd (false≢true is)

module _ {X : Type 0} where
  pub ring_set : (f : List X → List X) (rs : List (Buffer X)) (c : ℕ) (old new : Buffer X) → c < length rs → old ≡ get_or rs c old → new.items ≡ f old.items
      → map (λ (q : Buffer X). q.items) (set rs c new) ≡ set (map (λ (q : Buffer X). q.items) rs) c (f (get_or (map (λ (q : Buffer X). q.items) rs) c []))
  ring_set f rs c old new lt is e =
      let items : Buffer X → List X = λ q. q.items in
      map-set items rs c new ∙ ap (set (map items rs) c) (e ∙ ap f (ap items is ∙ sym (get_or-map items rs c old [] lt)))

  pub rings_empty : (n capacity : ℕ) → map (λ (q : Buffer X). q.items) (replicate n (buffer [] capacity)) ≡ replicate n []
  rings_empty zero capacity = refl
  rings_empty (suc n) capacity = ap (λ (l : List (List X)). [] ∷ l) (rings_empty n capacity)
