-- Lines that are written for the pairs of two lists.
use Rattle.std.proofs.Common.{◌≡◌, ◌∙◌, ℕ, ◌+◌, ◌<◌, ◌≤◌, List, [], ◌∷◌, ◌++◌, ap, append-nil, append_assoc, arith, get_or, length, map, min, sym, take}
use Rattle.std.specs.List.{flat_map, zip}
use Rattle.std.specs.Fmt.{decimal}
use Rattle.std.specs.Prelude.{codes}
use Rattle.std.proofs.lemmas.Grind.{flat_map-append}
use Rattle.std.proofs.lemmas.List.{get_or-map, length-map, take_all, take_more}
use Rattle.std.proofs.lemmas.Slice.Zip.{get_or-zip, length-zip}
use Rattle.sw_config.specs.Entries.{Declaration}
use Rattle.sw_cycle.specs.Cycles.{CauseEntry}
use Rattle.sw_output.specs.ChannelTexts.{channel_text}
use Rattle.sw_output.specs.Lines.{spaced}
use Rattle.sw_output.specs.VerdictTexts.{cause_words, cycle_line}

-- the lines of one more element
flat_map-take_more : {X : Type 0} (f : X → List ℕ) (xs : List X) (i : ℕ) (d : X) → i < length xs
    → flat_map f (take (i + 1) xs) ≡ flat_map f (take i xs) ++ f (get_or xs i d)
flat_map-take_more f xs i d lt =
    ap (flat_map f) (take_more xs i d lt) ∙ (flat_map-append f (take i xs) (get_or xs i d ∷ [])
    ∙ ap (λ end. flat_map f (take i xs) ++ end) (append-nil (f (get_or xs i d))))

-- the lines of one more pair
flat_map_zip_more : {A B : Type 0} (f : A × B → List ℕ) (xs : List A) (ys : List B) (i : ℕ) (a : A) (b : B) → i < length xs → i < length ys
    → flat_map f (take (i + 1) (zip xs ys)) ≡ flat_map f (take i (zip xs ys)) ++ f (get_or xs i a, get_or ys i b)
flat_map_zip_more f xs ys i a b p q =
    let within : i < length (zip xs ys) = rw (length-zip xs ys) (omega arith) in
    flat_map-take_more f (zip xs ys) i (a, b) within ∙ ap (λ pair. flat_map f (take i (zip xs ys)) ++ f pair) (get_or-zip xs ys i (a, b) p q)

-- a text that has the lines of i pairs behind what stood there, and then that of the next
one_more_line : {A B : Type 0} (f : A × B → List ℕ) (start : List ℕ) (xs : List A) (ys : List B) (i n : ℕ) (a : A) (b : B) (before after : List ℕ)
    → i < length xs → i < length ys → a ≡ get_or xs i a → b ≡ get_or ys i b → n ≡ i + 1
    → before ≡ start ++ flat_map f (take i (zip xs ys)) → after ≡ before ++ f (a, b) → after ≡ start ++ flat_map f (take n (zip xs ys))
one_more_line f start xs ys i n a b before after p q is_a is_b next e more =
    let step = flat_map_zip_more f xs ys i a b p q in
    let pair : (get_or xs i a, get_or ys i b) ≡ (a, b) = cc in
    let lines = flat_map f (take i (zip xs ys)) in
    more ∙ ap (λ t. t ++ f (a, b)) e ∙ append_assoc start lines (f (a, b))
    ∙ ap (λ l. start ++ l) (ap (λ line. lines ++ f line) (sym pair) ∙ (sym step ∙ ap (λ k. flat_map f (take k (zip xs ys))) (sym next)))

-- pairs whose second parts are read by h, of two lists that are those of zs and ws
module _ {A B C : Type 0} (f : A × C → List ℕ) (h : B → C) (start : List ℕ) (xs : List A) (ys : List B) (zs : List A) (ws : List C) (zs_are : zs ≡ xs) (ws_are : map h ys ≡ ws) where
  pub next_line : (i n : ℕ) (a : A) (b : B) (before after : List ℕ) → i < length xs → i < length ys → a ≡ get_or xs i a → b ≡ get_or ys i b → n ≡ i + 1
      → before ≡ start ++ flat_map f (take i (zip zs ws)) → after ≡ before ++ f (a, h b) → after ≡ start ++ flat_map f (take n (zip zs ws))
  next_line i n a b before after p q is_a is_b next e more =
      let within : i < length (map h ys) = rw (length-map ys h) q in
      one_more_line f start xs (map h ys) i n a (h b) before after p within is_a (ap h is_b ∙ sym (get_or-map h ys i b (h b) q)) next
      (e ∙ (λ j. start ++ flat_map f (take i (zip (zs_are j) (sym ws_are j))))) more
      ∙ sym (λ j. start ++ flat_map f (take n (zip (zs_are j) (sym ws_are j))))

  -- a text that has the lines of all pairs behind what stood there
  pub all_lines : (n : ℕ) (text : List ℕ) → n ≡ min (length xs) (length ys) → text ≡ start ++ flat_map f (take n (zip zs ws)) → text ≡ start ++ flat_map f (zip zs ws)
  all_lines n text ended e =
      let whole : length (zip xs (map h ys)) ≤ n = rw (length-zip xs (map h ys), length-map ys h) (omega arith) in
      let every = take_all n (zip xs (map h ys)) whole in
      e ∙ (λ j. start ++ flat_map f (take n (zip (zs_are j) (sym ws_are j)))) ∙ ap (λ l. start ++ flat_map f l) every
      ∙ sym (λ j. start ++ flat_map f (zip (zs_are j) (sym ws_are j)))

-- the line of a channel, as it is written
pub line_is : (d : Declaration) (c : ℕ) (cause : CauseEntry) (number : ℕ) (ends kind name : List ℕ) → number ≡ c → ends ≡ channel_text d c → spaced (kind ∷ name ∷ []) ≡ cause_words d cause
    → codes "channel " ++ (decimal number ++ (codes " " ++ (ends ++ (codes " by " ++ (kind ++ (codes " " ++ (name ++ codes "\n"))))))) ≡ cycle_line d c cause
line_is d c cause number ends kind name number_is ends_are parts_are =
    let words : kind ++ (codes " " ++ (name ++ codes "\n")) ≡ cause_words d cause ++ codes "\n" = sym (append_assoc kind (codes " " ++ name) (codes "\n")) ∙ ap (λ w. w ++ codes "\n") parts_are in
    (λ i. codes "channel " ++ (decimal (number_is i) ++ (codes " " ++ (ends_are i ++ (codes " by " ++ words i)))))
