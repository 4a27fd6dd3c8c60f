-- Lines that are read one after another.
use Rattle.std.proofs.Common.{◌≡◌, ℕ, suc, ◌+◌, ◌<◌, Bool, true, false, ◌&&◌, List, [], ◌∷◌, ◌++◌, length, refl, sym, ap, ◌∙◌, subst, inl, inr, arith, Option, Some, None, append_assoc, append-nil}
use Rattle.std.specs.Prelude.{◌==◌, Result, Ok, Err}
use Rattle.std.specs.List.{slice_split}
use Rattle.std.specs.Option.{option_map_or}
use Rattle.std.proofs.lemmas.Bool.{cases_Bool, and_parts, eqb-true}
use Rattle.std.proofs.lemmas.List.{length-append, nil_from_length}
use Rattle.std.proofs.lemmas.List.Splits.{length-slice_split}
use Rattle.sw_cert.specs.declared.lines.Expected.TheVariants.{Nothing}
use Rattle.sw_cert.specs.Parts.{IsRead, Runs, read_rest}
use Rattle.sw_cert.specs.Reading.{State, Follows, next}
use Rattle.sw_cert.specs.Text.{read_lines, is_ended}
use Rattle.sw_cert.specs.Sound.{IsSound}
use Rattle.sw_cert.proofs.Spelled.{goes_on_from, lines_to}

no_ok : {A B : Type 0} (b : B) (a : A) → ◌≡◌ {A = Result A B} (Err b) (Ok a) → ⊥
no_ok b a e = cc

same_ok : {A B : Type 0} (x y : A) → ◌≡◌ {A = Result A B} (Ok x) (Ok y) → x ≡ y
same_ok x y e = cc

-- what was read to its end
pub record WasRead (d : State) (pieces : List (List ℕ)) (e : State) : Type 0 where
  pub lines : List (List ℕ)
  pub cut : pieces ≡ lines ++ [] ∷ []
  pub written : lines_to e ≡ lines_to d ++ lines
  pub sound : IsSound e
  pub ended : is_ended e.expected ≡ true

pub was_read : (n : ℕ) (d : State) (pieces : List (List ℕ)) (e : State) → IsSound d → read_lines n d pieces ≡ Ok e → WasRead d pieces e
was_read n d [] e h r = absurd (no_ok n e r)
was_read n d (rest ∷ []) e h r = elim (cases_Bool (is_ended d.expected && (length rest == 0))) [
  | inl t ↦
      let k : Ok d ≡ Ok e = rw t at r in
      let a = and_parts _ _ t in
      let empty : rest ≡ [] = nil_from_length rest (eqb-true _ _ a.1) in
      subst (WasRead d (rest ∷ [])) (same_ok d e k) (record { lines = []; cut = ap (λ l. l ∷ []) empty; written = sym (append-nil (lines_to d)); sound = h; ended = a.0 })
  | inr g ↦ let bad : Err n ≡ Ok e = rw g at r in absurd (no_ok n e bad)
]
was_read n d (line ∷ more ∷ lines) e h r = go (next d line) refl r (λ f k q. was_read (suc n) f (more ∷ lines) e k q)
  where
    go : (o : Option State) → next d line ≡ o → option_map_or (λ f. read_lines (suc n) f (more ∷ lines)) o (Err n) ≡ Ok e
        → ((f : State) → IsSound f → read_lines (suc n) f (more ∷ lines) ≡ Ok e → WasRead f (more ∷ lines) e) → WasRead d (line ∷ more ∷ lines) e
    go None k q again = absurd (no_ok n e q)
    go (Some f) k q again =
        let g = goes_on_from d.expected d.numbers d.flows d.open_block line f h k in
        let w = again f g.sound q in
        record {
          lines = line ∷ w.lines;
          cut = ap (λ x. line ∷ x) w.cut;
          written = w.written ∙ ap (λ x. x ++ w.lines) g.lines ∙ append_assoc (lines_to d) (line ∷ []) w.lines;
          sound = w.sound;
          ended = w.ended;
        }

-- line after line
pub runs_append : (d e f : State) (xs ys : List (List ℕ)) → Runs d xs e → Runs e ys f → Runs d (xs ++ ys) f
runs_append d e f [] ys r s = subst (λ g. Runs g ys f) (sym r) s
runs_append d e f (x ∷ xs) ys r s = (r.0, r.1, runs_append r.0 e f xs ys r.2 s)

-- a run to the end is read
pub reads : (n : ℕ) (d e : State) (lines : List (List ℕ)) → Runs d lines e → is_ended e.expected ≡ true → read_lines n d (lines ++ [] ∷ []) ≡ Ok e
reads n d e [] r t = rw (ap (λ g. is_ended g.expected) r ∙ t) (ap Ok r)
reads n d e (x ∷ []) r t = rw r.1 (reads (suc n) r.0 e [] r.2 t)
reads n d e (x ∷ y ∷ lines) r t = rw r.1 (reads (suc n) r.0 e (y ∷ lines) r.2 t)

-- a line that is wrong ends the reading
pub wrong_line : (n : ℕ) (d : State) (line : List ℕ) (pieces : List (List ℕ)) (right : Bool) (e : State) → 0 < length pieces → right ≡ false → Follows d line right e → read_lines n d (line ∷ pieces) ≡ Err n
wrong_line n d line [] right e some k h = absurd (omega arith)
wrong_line n d line (p ∷ ps) right e some k h = let g : next d line ≡ None = subst (λ b. Follows d line b e) k h in rw g refl

-- and one that is right goes on
line_read : (n : ℕ) (d e : State) (line : List ℕ) (pieces : List (List ℕ)) → 0 < length pieces → next d line ≡ Some e → read_lines n d (line ∷ pieces) ≡ read_lines (n + 1) e pieces
line_read n d e line [] some is = absurd (omega arith)
line_read n d e line (p ∷ ps) some is =
    let one : suc n ≡ n + 1 = omega arith in
    rw is (ap (λ m. read_lines m e (p ∷ ps)) one)

-- lines that lead from a state to a state are read
pub runs_read : (n : ℕ) (d e : State) (lines pieces : List (List ℕ)) → Runs d lines e → 0 < length pieces → read_lines n d (lines ++ pieces) ≡ read_lines (n + length lines) e pieces
runs_read n d e [] pieces r some =
    let none : n ≡ n + 0 = omega arith in
    ap (λ f. read_lines n f pieces) r ∙ ap (λ m. read_lines m e pieces) none
runs_read n d e (x ∷ xs) pieces r some =
    let count : n + 1 + length xs ≡ n + suc (length xs) = omega arith in
    line_read n d r.0 x (xs ++ pieces) (omega (arith, some, length-append xs pieces)) r.1
    ∙ runs_read (n + 1) r.0 e xs pieces r.2 some
    ∙ ap (λ m. read_lines m e pieces) count

-- and are the lines that lead to that state
pub runs_kept : (d e : State) (lines : List (List ℕ)) → Runs d lines e → IsSound d → (lines_to e ≡ lines_to d ++ lines) × IsSound e
runs_kept d e [] r s = (ap lines_to (sym r) ∙ sym (append-nil (lines_to d)), subst IsSound r s)
runs_kept d e (x ∷ xs) r s =
    let g = goes_on_from d.expected d.numbers d.flows d.open_block x r.0 s r.1 in
    let m = runs_kept r.0 e xs r.2 g.sound in
    (m.0 ∙ ap (λ l. l ++ xs) g.lines ∙ append_assoc (lines_to d) (x ∷ []) xs, m.1)

-- a text has a piece at least
pub some_piece : (xs : List ℕ) → 0 < length (slice_split (λ b. b == 10) xs)
some_piece xs = omega (arith, length-slice_split (λ b. b == 10) xs)

-- a rest without a line, where nothing more is expected
pub read_end : (n : ℕ) (d : State) (rest : List ℕ) → slice_split (λ b. b == 10) rest ≡ rest ∷ [] → d.expected ≡ Nothing → length rest ≡ 0 → read_rest n d rest ≡ Ok d
read_end n d rest one ended empty = ap (read_lines n d) one ∙ rw (ended, empty) refl

-- ---- a text of which lines are read one after another

pub read_none : (n : ℕ) (d : State) (text : List ℕ) → IsRead n d text n d text
read_none n d text = record { lines = []; cut = refl; counted = omega arith; few = omega arith; runs = refl }

pub read_more : (n m : ℕ) (d e f : State) (text rest line more : List ℕ) (right : Bool) → IsRead n d text m e rest
    → slice_split (λ b. b == 10) rest ≡ line ∷ slice_split (λ b. b == 10) more → length more < length rest → right ≡ true → Follows e line right f → IsRead n d text (m + 1) f more
read_more n m d e f text rest line more right s cut shorter k h =
    let counted = s.counted in
    let few = s.few in
    let follows : next e line ≡ Some f = subst (λ b. Follows e line b f) k h in
    record {
      lines = s.lines ++ line ∷ [];
      cut = s.cut ∙ ap (λ l. s.lines ++ l) cut ∙ sym (append_assoc s.lines (line ∷ []) (slice_split (λ b. b == 10) more));
      counted = omega (arith, counted, length-append s.lines (line ∷ []));
      few = omega (arith, few, shorter);
      runs = runs_append d e f s.lines (line ∷ []) s.runs (f, follows, refl);
    }

pub read_same : (n m : ℕ) (d e : State) (text rest : List ℕ) → IsRead n d text m e rest → read_rest n d text ≡ read_rest m e rest
read_same n m d e text rest s =
    ap (read_lines n d) s.cut
    ∙ runs_read n d e s.lines (slice_split (λ b. b == 10) rest) s.runs (some_piece rest)
    ∙ ap (λ k. read_lines k e (slice_split (λ b. b == 10) rest)) s.counted

pub read_wrong : (n m : ℕ) (d e f : State) (text rest line more : List ℕ) (right : Bool) → IsRead n d text m e rest
    → slice_split (λ b. b == 10) rest ≡ line ∷ slice_split (λ b. b == 10) more → right ≡ false → Follows e line right f → read_rest n d text ≡ Err m
read_wrong n m d e f text rest line more right s cut k h =
    read_same n m d e text rest s ∙ ap (read_lines m e) cut ∙ wrong_line m e line (slice_split (λ b. b == 10) more) right f (some_piece more) k h

pub read_sound : (n m : ℕ) (d e : State) (text rest : List ℕ) → IsRead n d text m e rest → IsSound d → IsSound e
read_sound n m d e text rest s sound = (runs_kept d e s.lines s.runs sound).1
