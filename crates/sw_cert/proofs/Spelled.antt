-- What is read is spelled so: the lines that lead to a state.
use Rattle.std.proofs.Common.{◌≡◌, ℕ, zero, suc, ◌+◌, ◌-◌, ◌<◌, ◌≤◌, ◌^◌, true, List, [], ◌∷◌, ◌++◌, length, map, drop, refl, sym, ap, ◌∙◌, subst, inl, inr, arith, Option, Some, None, append_assoc, append-nil, get_or, drop-cons, zero-add}
use Rattle.std.specs.Prelude.{codes, option_and_then, option_map, ◌==◌, take, position, slice_get, if◌then◌else◌}
use Rattle.std.specs.List.{flat_map}
use Rattle.std.specs.Fmt.{decimal}
use Rattle.std.proofs.lemmas.Bool.{cases_Bool, and_parts, eqb-true}
use Rattle.std.proofs.lemmas.List.{map-append, length_push, drop_all, take-append-drop}
use Rattle.std.proofs.lemmas.List.Quantifiers.{position-Some}
use Rattle.std.proofs.lemmas.Grind.{flat_map-append}
use Rattle.sw_flow.specs.declared.place.Place.{Place}
use Rattle.sw_cert.specs.declared.lines.Expected.{Expected}
use Rattle.sw_cert.specs.declared.lines.Expected.TheVariants.{Title, Channels, Numbers, Flows, Places, Nothing}
use Rattle.sw_cert.specs.declared.lines.Said.{Said}
use Rattle.sw_cert.specs.declared.lines.Said.TheVariants as said
use Rattle.sw_text.specs.Number.{number_of}
use Rattle.sw_cert.specs.Grammar.{after_word, field, is_line, if_rising, place_of, place_at, places, place_line, block, head_lines, flow_lines, Fits, IsBlock, Rises, stands_before}
use Rattle.sw_cert.specs.Reading.{State, next, with_said, last_of}
use Rattle.sw_cert.specs.Sound.{IsSound}
use Rattle.sw_text.proofs.Numbers.{read_spelled}
use Rattle.sw_cert.proofs.Fields.{begins, field_spelled, after_spelled}
use Rattle.sw_topo.proofs.Lists.{none_some}
use Rattle.sw_machine.proofs.Lists.{all_push}

same_some : {A : Type 0} (x y : A) → ◌≡◌ {A = Option A} (Some x) (Some y) → x ≡ y
same_some x y e = cc

-- a line that is this word
pub word_case : (word line : List ℕ) (s : Said) (h : Said → State) (f : State) (P : State → Type 0) → option_map h (if is_line word line then Some s else None) ≡ Some f → (line ≡ word → P (h s)) → P f
word_case word line s h f P e done = elim (cases_Bool (is_line word line)) [
  | inl t ↦ let k : Some (h s) ≡ Some f = rw t at e in subst P (same_some (h s) f k) (done (whole word line t))
  | inr g ↦ let bad : None ≡ Some f = rw g at e in absurd (none_some f bad)
]
  where
    whole : (w l : List ℕ) → is_line w l ≡ true → l ≡ w
    whole w l t =
        let h = and_parts _ _ t in
        let n : length l ≡ length w = eqb-true _ _ h.1 in
        begins w l h.0 ∙ ap (λ r. w ++ r) (drop_all (length w) l (omega arith)) ∙ append-nil w

-- a line of a word and a number
pub field_case : (word line : List ℕ) (limit : ℕ) (g : ℕ → Said) (h : Said → State) (f : State) (P : State → Type 0) → limit < 2 ^ 24
    → option_map h (option_and_then (λ n. Some (g n)) (field word limit line)) ≡ Some f
    → ((n : ℕ) → line ≡ word ++ decimal n → n ≤ limit → P (h (g n))) → P f
field_case word line limit g h f P few e done = go (field word limit line) refl e
  where
    go : (o : Option ℕ) → field word limit line ≡ o → option_map h (option_and_then (λ n. Some (g n)) o) ≡ Some f → P f
    go None k e = absurd (none_some f e)
    go (Some n) k e = let r = field_spelled word line limit n few k in subst P (same_some (h (g n)) f e) (done n r.0 r.1)

-- two numbers with a space between them
place_spelled : (bytes : List ℕ) (p : Place) → place_of bytes ≡ Some p → (bytes ≡ decimal p.channel ++ (32 ∷ decimal p.deleted)) × (p.channel ≤ 65535) × (p.deleted ≤ 32)
place_spelled bytes p e = go (position (λ b. b == 32) bytes) refl e
  where
    last : (at c k : ℕ) → position (λ b. b == 32) bytes ≡ Some at → number_of 65535 (take at bytes) ≡ Some c → number_of 32 (drop (at + 1) bytes) ≡ Some k → (bytes ≡ decimal c ++ (32 ∷ decimal k)) × (c ≤ 65535) × (k ≤ 32)
    last at c k h m n =
        let q = position-Some (λ b. b == 32) bytes at 0 h in
        let more : suc at ≡ at + 1 = omega arith in
        let sp : get_or bytes at 0 ≡ 32 = eqb-true _ _ q.1 in
        let a = read_spelled 65535 c (take at bytes) (omega arith) m in
        let b = read_spelled 32 k (drop (at + 1) bytes) (omega arith) n in
        let tail : drop at bytes ≡ 32 ∷ decimal k = drop-cons bytes at 0 q.0 ∙ ap (λ x. x ∷ drop (suc at) bytes) sp ∙ ap (λ k. 32 ∷ drop k bytes) more ∙ ap (λ l. 32 ∷ l) b.0 in
        (sym (take-append-drop at bytes) ∙ ap (λ l. l ++ drop at bytes) a.0 ∙ ap (λ l. decimal c ++ l) tail, a.1, b.1)

    two : (at c : ℕ) → position (λ b. b == 32) bytes ≡ Some at → number_of 65535 (take at bytes) ≡ Some c → (o : Option ℕ) → number_of 32 (drop (at + 1) bytes) ≡ o → option_and_then (λ k. Some (record { channel = c; deleted = k })) o ≡ Some p → (bytes ≡ decimal p.channel ++ (32 ∷ decimal p.deleted)) × (p.channel ≤ 65535) × (p.deleted ≤ 32)
    two at c h m None n e = absurd (none_some p e)
    two at c h m (Some k) n e = subst (λ q. (bytes ≡ decimal q.channel ++ (32 ∷ decimal q.deleted)) × (q.channel ≤ 65535) × (q.deleted ≤ 32)) (same_some _ p e) (last at c k h m n)

    one : (at : ℕ) → position (λ b. b == 32) bytes ≡ Some at → (o : Option ℕ) → number_of 65535 (take at bytes) ≡ o → option_and_then (λ c. option_and_then (λ k. Some (record { channel = c; deleted = k })) (number_of 32 (drop (at + 1) bytes))) o ≡ Some p → (bytes ≡ decimal p.channel ++ (32 ∷ decimal p.deleted)) × (p.channel ≤ 65535) × (p.deleted ≤ 32)
    one at h None m e = absurd (none_some p e)
    one at h (Some c) m e = two at c h m (number_of 32 (drop (at + 1) bytes)) refl e

    go : (o : Option ℕ) → position (λ b. b == 32) bytes ≡ o → option_and_then (place_at bytes) o ≡ Some p → (bytes ≡ decimal p.channel ++ (32 ∷ decimal p.deleted)) × (p.channel ≤ 65535) × (p.deleted ≤ 32)
    go None h e = absurd (none_some p e)
    go (Some at) h e = one at h (number_of 65535 (take at bytes)) refl e

-- a line of a place that stands behind the last
pub place_case : (last : Option Place) (line : List ℕ) (h : Said → State) (f : State) (P : State → Type 0)
    → option_map h (option_and_then (if_rising last) (option_and_then place_of (after_word (codes "place ") line))) ≡ Some f
    → ((p : Place) → line ≡ place_line p → p.channel ≤ 65535 → p.deleted ≤ 32 → stands_before last p ≡ true → P (h (said.Listed p))) → P f
place_case last line h f P e done = one (after_word (codes "place ") line) refl e
  where
    three : (p : Place) → line ≡ place_line p → p.channel ≤ 65535 → p.deleted ≤ 32 → option_map h (if_rising last p) ≡ Some f → P f
    three p l a b e = elim (cases_Bool (stands_before last p)) [
      | inl t ↦ let k : Some (h (said.Listed p)) ≡ Some f = rw t at e in subst P (same_some _ f k) (done p l a b t)
      | inr g ↦ let bad : None ≡ Some f = rw g at e in absurd (none_some f bad)
    ]

    two : (rest : List ℕ) → after_word (codes "place ") line ≡ Some rest → (o : Option Place) → place_of rest ≡ o → option_map h (option_and_then (if_rising last) o) ≡ Some f → P f
    two rest a None b e = absurd (none_some f e)
    two rest a (Some p) b e = let s = place_spelled rest p b in three p (after_spelled (codes "place ") line rest a ∙ ap (λ l. codes "place " ++ l) s.0) s.1 s.2 e

    one : (o : Option (List ℕ)) → after_word (codes "place ") line ≡ o → option_map h (option_and_then (if_rising last) (option_and_then place_of o)) ≡ Some f → P f
    one None a e = absurd (none_some f e)
    one (Some rest) a e = two rest a (place_of rest) refl e

-- the lines of a block of which the count and some places were read
abbrev pub open_lines : ℕ → List Place → List (List ℕ)
open_lines n ps = (codes "flow " ++ decimal n) ∷ map place_line ps

-- the lines that lead to a state
abbrev pub written : Expected → List ℕ → List (List Place) → List Place → List (List ℕ)
written Title ns fs ps = []
written Channels ns fs ps = codes "swcert 1" ∷ []
written (Numbers k) ns fs ps = head_lines (length ns + k) ns
written (Flows k) ns fs ps = head_lines (length ns) ns ++ flow_lines (length fs + k) fs
written (Places p k) ns fs ps = head_lines (length ns) ns ++ (flow_lines (length fs + suc k) fs ++ open_lines (length ps + suc p) ps)
written Nothing ns fs ps = head_lines (length ns) ns ++ (flow_lines (length fs) fs ++ codes "end" ∷ [])

abbrev pub lines_to : State → List (List ℕ)
lines_to d = written d.expected d.numbers d.flows d.open_block

-- a line more was read
pub record GoesOn (d : State) (line : List ℕ) (e : State) : Type 0 where
  pub lines : lines_to e ≡ lines_to d ++ line ∷ []
  pub sound : IsSound e

-- the last of the list, or what was last before it
abbrev pub last_or : Option Place → List Place → Option Place
last_or last [] = last
last_or last (p ∷ ps) = last_or (Some p) ps

last_at : (p : Place) (ps : List Place) → slice_get (p ∷ ps) (length ps) ≡ last_or (Some p) ps
last_at p [] = refl
last_at p (q ∷ qs) = last_at q qs

pub last_is : (ps : List Place) → last_of ps ≡ last_or None ps
last_is [] = refl
last_is (p ∷ ps) = let e : length (p ∷ ps) - 1 ≡ length ps = omega arith in ap (slice_get (p ∷ ps)) e ∙ last_at p ps

rises_after : (last : Option Place) (ps : List Place) (p : Place) → Rises last ps → stands_before (last_or last ps) p ≡ true → Rises last (ps ++ p ∷ [])
rises_after last [] p h e = (e, tt)
rises_after last (q ∷ qs) p h e = (h.0, rises_after (Some q) qs p h.1 e)

rises_push : (ps : List Place) (p : Place) → Rises None ps → stands_before (last_of ps) p ≡ true → Rises None (ps ++ p ∷ [])
rises_push ps p h e = rises_after None ps p h (ap (λ o. stands_before o p) (sym (last_is ps)) ∙ e)

map_push : {A B : Type 0} (f : A → B) (xs : List A) (x : A) → map f (xs ++ x ∷ []) ≡ map f xs ++ f x ∷ []
map_push f xs x = map-append f xs (x ∷ [])

flat_push : (fs : List (List Place)) (ps : List Place) → flat_map block (fs ++ ps ∷ []) ≡ flat_map block fs ++ block ps
flat_push fs ps = flat_map-append block fs (ps ∷ []) ∙ ap (λ l. flat_map block fs ++ l) (append-nil (block ps))

-- a count of places was read
count_goes_on : (k : ℕ) (ns : List ℕ) (fs : List (List Place)) (ps : List Place) (line : List ℕ)
    → IsSound (record { expected = Flows (suc k); numbers = ns; flows = fs; open_block = ps })
    → (n : ℕ) → line ≡ codes "flow " ++ decimal n → n ≤ 67584
    → GoesOn (record { expected = Flows (suc k); numbers = ns; flows = fs; open_block = ps }) line
    (record (with_said (record { expected = Flows (suc k); numbers = ns; flows = fs; open_block = ps }) (said.PlaceCount n)) { expected = places n (suc k - 1) })
count_goes_on k ns fs ps line h zero l le =
    let few : length (fs ++ [] ∷ []) + (suc k - 1) ≡ length fs + suc k = omega (arith, length_push fs []) in
    record {
      lines =
          ap (λ m. head_lines (length ns) ns ++ flow_lines m (fs ++ [] ∷ [])) few
          ∙ ap (λ x. head_lines (length ns) ns ++ ((codes "flows " ++ decimal (length fs + suc k)) ∷ x)) (flat_push fs [] ∙ ap (λ x. flat_map block fs ++ x ∷ []) (sym l))
          ∙ sym (append_assoc (head_lines (length ns) ns) (flow_lines (length fs + suc k) fs) (line ∷ []));
      sound = record { kept = (h.kept.0, omega arith, h.kept.2); numbers = h.numbers; blocks = all_push IsBlock fs [] h.blocks (omega arith, tt, tt); fits = h.fits; rises = h.rises };
    }
count_goes_on k ns fs ps line h (suc p) l le =
    let none = h.kept.2 in
    let size : length ps + suc p ≡ suc p = ap (λ x. length x + suc p) none ∙ zero-add (suc p) in
    let left : suc (suc k - 1) ≡ suc k = omega arith in
    record {
      lines =
          ap (λ m. head_lines (length ns) ns ++ (flow_lines (length fs + m) fs ++ open_lines (length ps + suc p) ps)) left
          ∙ ap (λ m. head_lines (length ns) ns ++ (flow_lines (length fs + suc k) fs ++ open_lines m ps)) size
          ∙ ap (λ x. head_lines (length ns) ns ++ (flow_lines (length fs + suc k) fs ++ open_lines (suc p) x)) none
          ∙ ap (λ x. head_lines (length ns) ns ++ (flow_lines (length fs + suc k) fs ++ x ∷ [])) (sym l)
          ∙ sym (append_assoc (head_lines (length ns) ns) (flow_lines (length fs + suc k) fs) (line ∷ []));
      sound = record { kept = (h.kept.0, omega (arith, h.kept.1), omega arith); numbers = h.numbers; blocks = h.blocks; fits = h.fits; rises = h.rises };
    }

-- a place was read, and more are to come
place_goes_on : (p k : ℕ) (ns : List ℕ) (fs : List (List Place)) (ps : List Place) (line : List ℕ)
    → IsSound (record { expected = Places (suc p) k; numbers = ns; flows = fs; open_block = ps })
    → (q : Place) → line ≡ place_line q → q.channel ≤ 65535 → q.deleted ≤ 32 → stands_before (last_of ps) q ≡ true
    → GoesOn (record { expected = Places (suc p) k; numbers = ns; flows = fs; open_block = ps }) line
    (record { expected = Places p k; numbers = ns; flows = fs; open_block = ps ++ q ∷ [] })
place_goes_on p k ns fs ps line h q l c d r =
    let size : length (ps ++ q ∷ []) + suc p ≡ length ps + suc (suc p) = omega (arith, length_push ps q) in
    record {
      lines =
          ap (λ m. head_lines (length ns) ns ++ (flow_lines (length fs + suc k) fs ++ open_lines m (ps ++ q ∷ []))) size
          ∙ ap (λ x. head_lines (length ns) ns ++ (flow_lines (length fs + suc k) fs ++ ((codes "flow " ++ decimal (length ps + suc (suc p))) ∷ x))) (map_push place_line ps q ∙ ap (λ x. map place_line ps ++ x ∷ []) (sym l))
          ∙ ap (λ x. head_lines (length ns) ns ++ x) (sym (append_assoc (flow_lines (length fs + suc k) fs) (open_lines (length ps + suc (suc p)) ps) (line ∷ [])))
          ∙ sym (append_assoc (head_lines (length ns) ns) (flow_lines (length fs + suc k) fs ++ open_lines (length ps + suc (suc p)) ps) (line ∷ []));
      sound = record { kept = (h.kept.0, h.kept.1, omega (arith, h.kept.2)); numbers = h.numbers; blocks = h.blocks; fits = all_push Fits ps q h.fits (c, d); rises = rises_push ps q h.rises r };
    }

-- the last place of a block was read
last_goes_on : (k : ℕ) (ns : List ℕ) (fs : List (List Place)) (ps : List Place) (line : List ℕ)
    → IsSound (record { expected = Places zero k; numbers = ns; flows = fs; open_block = ps })
    → (q : Place) → line ≡ place_line q → q.channel ≤ 65535 → q.deleted ≤ 32 → stands_before (last_of ps) q ≡ true
    → GoesOn (record { expected = Places zero k; numbers = ns; flows = fs; open_block = ps }) line
    (record { expected = Flows k; numbers = ns; flows = fs ++ (ps ++ q ∷ []) ∷ []; open_block = [] })
last_goes_on k ns fs ps line h q l c d r =
    let size : length (ps ++ q ∷ []) ≡ length ps + suc zero = omega (arith, length_push ps q) in
    let few : length (fs ++ (ps ++ q ∷ []) ∷ []) + k ≡ length fs + suc k = omega (arith, length_push fs (ps ++ q ∷ [])) in
    let opened : block (ps ++ q ∷ []) ≡ open_lines (length ps + suc zero) ps ++ line ∷ [] =
    ap (λ m. open_lines m (ps ++ q ∷ [])) size
    ∙ ap (λ x. (codes "flow " ++ decimal (length ps + suc zero)) ∷ x) (map_push place_line ps q ∙ ap (λ x. map place_line ps ++ x ∷ []) (sym l)) in
    record {
      lines =
          ap (λ m. head_lines (length ns) ns ++ flow_lines m (fs ++ (ps ++ q ∷ []) ∷ [])) few
          ∙ ap (λ x. head_lines (length ns) ns ++ ((codes "flows " ++ decimal (length fs + suc k)) ∷ x)) (flat_push fs (ps ++ q ∷ []) ∙ ap (λ x. flat_map block fs ++ x) opened)
          ∙ ap (λ x. head_lines (length ns) ns ++ x) (sym (append_assoc (flow_lines (length fs + suc k) fs) (open_lines (length ps + suc zero) ps) (line ∷ [])))
          ∙ sym (append_assoc (head_lines (length ns) ns) (flow_lines (length fs + suc k) fs ++ open_lines (length ps + suc zero) ps) (line ∷ []));
      sound = record {
        kept = (h.kept.0, omega (arith, h.kept.1), refl);
        numbers = h.numbers;
        blocks = all_push IsBlock fs (ps ++ q ∷ []) h.blocks (omega (arith, h.kept.2), all_push Fits ps q h.fits (c, d), rises_push ps q h.rises r);
        fits = tt;
        rises = tt;
      };
    }

-- each line goes on from the state before it
pub goes_on_from : (e : Expected) (ns : List ℕ) (fs : List (List Place)) (ps : List Place) (line : List ℕ) (f : State)
    → IsSound (record { expected = e; numbers = ns; flows = fs; open_block = ps })
    → next (record { expected = e; numbers = ns; flows = fs; open_block = ps }) line ≡ Some f
    → GoesOn (record { expected = e; numbers = ns; flows = fs; open_block = ps }) line f
goes_on_from Title ns fs ps line f h e =
    word_case (codes "swcert 1") line said.Begun _ f (GoesOn (record { expected = Title; numbers = ns; flows = fs; open_block = ps }) line) e
    (λ l. record { lines = ap (λ x. x ∷ []) (sym l); sound = record { kept = h.kept; numbers = h.numbers; blocks = h.blocks; fits = h.fits; rises = h.rises } })
goes_on_from Channels ns fs ps line f h e =
    field_case (codes "channels ") line 2048 said.ChannelCount _ f (GoesOn (record { expected = Channels; numbers = ns; flows = fs; open_block = ps }) line) (omega arith) e
    (λ n l le.
    let none = h.kept.0 in
    let same : length ns + n ≡ n = ap (λ xs. length xs + n) none ∙ zero-add n in
    record {
      lines =
          ap (λ m. head_lines m ns) same
          ∙ ap (λ xs. head_lines n xs) none
          ∙ ap (λ x. codes "swcert 1" ∷ x ∷ []) (sym l);
      sound = record { kept = (omega arith, h.kept.1, h.kept.2); numbers = h.numbers; blocks = h.blocks; fits = h.fits; rises = h.rises };
    })
goes_on_from (Numbers zero) ns fs ps line f h e =
    field_case (codes "flows ") line 8192 said.FlowCount _ f (GoesOn (record { expected = Numbers zero; numbers = ns; flows = fs; open_block = ps }) line) (omega arith) e
    (λ m l le.
    let none = h.kept.1 in
    let same : length fs + m ≡ m = ap (λ xs. length xs + m) none ∙ zero-add m in
    let all : length ns + zero ≡ length ns = omega arith in
    record {
      lines =
          ap (λ n. head_lines (length ns) ns ++ flow_lines n fs) same
          ∙ ap (λ xs. head_lines (length ns) ns ++ flow_lines m xs) none
          ∙ ap (λ x. head_lines (length ns) ns ++ x ∷ []) (sym l)
          ∙ ap (λ n. head_lines n ns ++ line ∷ []) (sym all);
      sound = record { kept = (omega (arith, h.kept.0), omega arith, h.kept.2); numbers = h.numbers; blocks = h.blocks; fits = h.fits; rises = h.rises };
    })
goes_on_from (Numbers (suc k)) ns fs ps line f h e =
    field_case (codes "number ") line 65535 said.Number _ f (GoesOn (record { expected = Numbers (suc k); numbers = ns; flows = fs; open_block = ps }) line) (omega arith) e
    (λ v l le.
    let same : length (ns ++ v ∷ []) + (suc k - 1) ≡ length ns + suc k = omega (arith, length_push ns v) in
    record {
      lines =
          ap (λ n. head_lines n (ns ++ v ∷ [])) same
          ∙ ap (λ x. codes "swcert 1" ∷ (codes "channels " ++ decimal (length ns + suc k)) ∷ x) (map_push (λ v. codes "number " ++ decimal v) ns v ∙ ap (λ x. map (λ v. codes "number " ++ decimal v) ns ++ x ∷ []) (sym l));
      sound = record { kept = (omega (arith, h.kept.0), h.kept.1, h.kept.2); numbers = all_push (λ v. v ≤ 65535) ns v h.numbers le; blocks = h.blocks; fits = h.fits; rises = h.rises };
    })
goes_on_from (Flows zero) ns fs ps line f h e =
    word_case (codes "end") line said.Ended _ f (GoesOn (record { expected = Flows zero; numbers = ns; flows = fs; open_block = ps }) line) e
    (λ l.
    let all : length fs + zero ≡ length fs = omega arith in
    record {
      lines =
          ap (λ x. head_lines (length ns) ns ++ (flow_lines (length fs) fs ++ x ∷ [])) (sym l)
          ∙ sym (append_assoc (head_lines (length ns) ns) (flow_lines (length fs) fs) (line ∷ []))
          ∙ ap (λ m. (head_lines (length ns) ns ++ flow_lines m fs) ++ line ∷ []) (sym all);
      sound = record { kept = (h.kept.0, omega (arith, h.kept.1), h.kept.2); numbers = h.numbers; blocks = h.blocks; fits = h.fits; rises = h.rises };
    })
goes_on_from (Flows (suc k)) ns fs ps line f h e =
    field_case (codes "flow ") line 67584 said.PlaceCount _ f (GoesOn (record { expected = Flows (suc k); numbers = ns; flows = fs; open_block = ps }) line) (omega arith) e
    (count_goes_on k ns fs ps line h)
goes_on_from (Places zero k) ns fs ps line f h e =
    place_case (last_of ps) line _ f (GoesOn (record { expected = Places zero k; numbers = ns; flows = fs; open_block = ps }) line) e (last_goes_on k ns fs ps line h)
goes_on_from (Places (suc p) k) ns fs ps line f h e =
    place_case (last_of ps) line _ f (GoesOn (record { expected = Places (suc p) k; numbers = ns; flows = fs; open_block = ps }) line) e (place_goes_on p k ns fs ps line h)
goes_on_from Nothing ns fs ps line f h e = absurd (none_some f e)
