-- Numbers between two words: one more, and the one of a number.
use Rattle.std.proofs.Common.{◌≡◌, ℕ, ◌+◌, ◌<◌, ◌≤◌, List, [], ◌∷◌, ◌++◌, length, map, get_or, Some, sym, ap, ◌∙◌, append_assoc, append-nil, take, arith, Global}
use Rattle.std.specs.declared.alloc.AllocError.{AllocError}
use Rattle.std.specs.Prelude.{Err, Ok, OnOk, Result, if◌then◌else◌, is_ok, String, string_bytes, codes, slice_get, option_map}
use Rattle.std.specs.Fmt.{decimal}
use Rattle.std.specs.List.{flat_map, range_with_len}
use Rattle.std.proofs.lemmas.Grind.{flat_map-append}
use Rattle.std.proofs.lemmas.List.{map-append, length-append, take_all, take_more}
use Rattle.std.proofs.lemmas.List.FromFn.{map-range_with_len_more, get_or-map-range_with_len}
use Rattle.std.proofs.lemmas.Option.{slice_get-map, slice_get_within, get_or_from_slice_get}
use Rattle.sw_flow.specs.declared.place.Place.{Place}
use Rattle.sw_cert.specs.Grammar.{place_line, with_lf}
use Rattle.sw_cert.specs.Pieces.{ArePieces, piece}

module _ (before after : List ℕ) where
  -- one more
  pub pieces_more : (texts : List (String Global)) (s : String Global) (n : ℕ) → ArePieces before after texts → length texts ≡ n → string_bytes s ≡ piece before after n → ArePieces before after (texts ++ s ∷ [])
  pieces_more texts s n are long is =
      let from : 0 + length texts ≡ n = omega (arith, long) in
      let one : length (texts ++ s ∷ []) ≡ length texts + 1 = length-append texts (s ∷ []) in
      map-append string_bytes texts (s ∷ [])
      ∙ (λ i. are i ++ is i ∷ [])
      ∙ sym (map-range_with_len_more (piece before after) 0 (length texts) n from)
      ∙ ap (λ (m : ℕ). map (piece before after) (range_with_len 0 m)) (sym one)

  -- the one of a number
  pub piece_at : (texts : List (String Global)) (n : ℕ) (s : String Global) → ArePieces before after texts → slice_get texts n ≡ Some s → string_bytes s ≡ piece before after n
  piece_at texts n s are at =
      let there : slice_get (map string_bytes texts) n ≡ Some (string_bytes s) = slice_get-map string_bytes texts n ∙ ap (option_map string_bytes) at in
      let from : 0 + n ≡ n = omega arith in
      sym (get_or_from_slice_get (map string_bytes texts) n (string_bytes s) [] there)
      ∙ ap (λ (l : List (List ℕ)). get_or l n []) are
      ∙ get_or-map-range_with_len (piece before after) 0 (length texts) n n [] (slice_get_within texts n s at) from

-- a piece is added
pub pushed : (r : Result (Unit {0}) AllocError) (old now more wanted : List ℕ) → more ≡ wanted → now ≡ (if is_ok r then old ++ more else old) → OnOk r (now ≡ old ++ wanted)
pushed (Ok u) old now more wanted same is = is ∙ ap (λ l. old ++ l) same
pushed (Err e) old now more wanted same is = tt

-- a line of two pieces
two_pieces : (text word c k : List ℕ) (space end : ℕ) → (text ++ (word ++ (c ++ space ∷ []))) ++ (k ++ end ∷ []) ≡ text ++ ((word ++ (c ++ (space ∷ k))) ++ end ∷ [])
two_pieces text word c k space end =
    append_assoc text (word ++ (c ++ space ∷ [])) (k ++ end ∷ [])
    ∙ ap (λ x. text ++ x)
    (append_assoc word (c ++ space ∷ []) (k ++ end ∷ [])
    ∙ ap (λ x. word ++ x) (append_assoc c (space ∷ []) (k ++ end ∷ []))
    ∙ sym (append_assoc word (c ++ (space ∷ k)) (end ∷ []) ∙ ap (λ x. word ++ x) (append_assoc c (space ∷ k) (end ∷ []))))

-- a place's line is added, a piece for its channel and one for its deleted bytes
pub place_added : (t u v : List ℕ) (p : Place) → u ≡ t ++ piece (codes "place ") (32 ∷ []) p.channel → v ≡ u ++ piece [] (10 ∷ []) p.deleted → v ≡ t ++ with_lf (place_line p)
place_added t u v p first second = second ∙ ap (λ x. x ++ piece [] (10 ∷ []) p.deleted) first ∙ two_pieces t (codes "place ") (decimal p.channel) (decimal p.deleted) 32 10

-- the text of one element more, behind a head
pub added_more : {X : Type 0} (f : X → List ℕ) (before head : List ℕ) (xs : List X) (i : ℕ) (x : X) (t u : List ℕ) → i < length xs → x ≡ get_or xs i x → t ≡ before ++ (head ++ flat_map f (take i xs)) → u ≡ t ++ f x
    → u ≡ before ++ (head ++ flat_map f (take (i + 1) xs))
added_more f before head xs i x t u lt is so_far added =
    let one : take (i + 1) xs ≡ take i xs ++ x ∷ [] = take_more xs i x lt ∙ ap (λ y. take i xs ++ y ∷ []) (sym is) in
    added
    ∙ ap (λ z. z ++ f x) so_far
    ∙ append_assoc before (head ++ flat_map f (take i xs)) (f x)
    ∙ ap (λ z. before ++ z)
    (append_assoc head (flat_map f (take i xs)) (f x)
    ∙ ap (λ z. head ++ z) (ap (λ z. flat_map f (take i xs) ++ z) (sym (append-nil (f x))) ∙ sym (flat_map-append f (take i xs) (x ∷ [])) ∙ ap (flat_map f) (sym one)))

-- and of all of them
pub added_all : {X : Type 0} (f : X → List ℕ) (before head : List ℕ) (xs : List X) (i : ℕ) (t : List ℕ) → length xs ≤ i → t ≡ before ++ (head ++ flat_map f (take i xs)) → t ≡ before ++ (head ++ flat_map f xs)
added_all f before head xs i t past so_far = so_far ∙ ap (λ l. before ++ (head ++ flat_map f l)) (take_all i xs past)
