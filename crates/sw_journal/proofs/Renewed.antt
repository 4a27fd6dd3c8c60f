-- Link ends whose numbers are renewed one after another.
use Rattle.std.proofs.Common.{All, Bool, List, None, Option, Some, [], ap, arith, false, get_or, length, map, refl, subst, suc, sym, true, zero, ℕ, ◌+◌, ◌<◌, ◌∙◌, ◌∷◌, ◌≡◌, ◌≢◌}
use Rattle.std.proofs.lemmas.Bool.{eq-eqb, false≢true, ne_eqb}
use Rattle.std.proofs.lemmas.Option.{slice_get-map, slice_get_within}
use Rattle.std.proofs.lemmas.List.{get_or-map, length-map}
use Rattle.std.specs.Prelude.{if◌then◌else◌, option_map, slice_get, slice_set, ◌||◌}
use Rattle.atomic_table.specs.Table.{Me}
use Rattle.sw_journal.specs.Renewal.{AreOnce, is_it, is_one_of, renewed, renewed_at}
use Rattle.sw_machine.specs.Network.{Network}
use Rattle.sw_machine.specs.State.{State}
use Rattle.sw_net.specs.Numbers.{numbers_at}
use Rattle.sw_net.specs.declared.numbers.Numbers.{Numbers}
use Rattle.sw_journal.specs.Views.{changed, ends_with, with_known}
use Rattle.sw_journal.specs.declared.cell_table.SeatChange.{SeatChange}
use Rattle.sw_journal.specs.declared.cell_table.Known.{Known}
use Rattle.sw_journal.specs.declared.cell_table.View.{View}
use Rattle.sw_topo.proofs.Lists.{slice_get-set_same}

set_back : {X : Type 0} (xs : List X) (k : ℕ) (x : X) → slice_get xs k ≡ Some x → slice_set xs k x ≡ xs
set_back [] zero x e = refl
set_back [] (suc k) x e = refl
set_back (y ∷ xs) zero x e = let same : x ≡ y = cc in λ i. same i ∷ xs
set_back (y ∷ xs) (suc k) x e = ap (λ l. y ∷ l) (set_back xs k x e)

pub if_true : {X : Type 0} (b : Bool) (x y : X) → b ≡ true → (if b then x else y) ≡ x
if_true true x y e = refl
if_true false x y e = absurd (false≢true e)

pub if_false : {X : Type 0} (b : Bool) (x y : X) → b ≡ false → (if b then x else y) ≡ y
if_false true x y e = absurd (false≢true (sym e))
if_false false x y e = refl

module _ (these : Option ℕ × Option ℕ) (net : Network) (s : State) where
  -- the first k are renewed
  abbrev pub first_renewed : ℕ → List (ℕ × Numbers) → List (ℕ × Numbers)
  first_renewed zero ends = ends
  first_renewed (suc k) [] = []
  first_renewed (suc k) (p ∷ ends) = renewed these net s p ∷ first_renewed k ends

  next_renewed : (k : ℕ) (ends : List (ℕ × Numbers)) → renewed_at these net s k (first_renewed k ends) ≡ first_renewed (suc k) ends
  next_renewed zero [] = refl
  next_renewed zero (p ∷ ends) = refl
  next_renewed (suc k) [] = refl
  next_renewed (suc k) (p ∷ ends) = ap (λ l. renewed these net s p ∷ l) (next_renewed k ends)

  pub more_renewed : (k : ℕ) (ends before after : List (ℕ × Numbers)) → before ≡ first_renewed k ends → after ≡ renewed_at these net s k before → after ≡ first_renewed (k + 1) ends
  more_renewed k ends before after is next =
      let same : suc k ≡ k + 1 = omega arith in
      next ∙ ap (renewed_at these net s k) is ∙ next_renewed k ends ∙ ap (λ n. first_renewed n ends) same

  pub all_renewed : (k : ℕ) (ends : List (ℕ × Numbers)) → k ≡ length ends → first_renewed k ends ≡ map (renewed these net s) ends
  all_renewed zero [] e = refl
  all_renewed zero (p ∷ ends) e = absurd (omega arith)
  all_renewed (suc k) [] e = absurd (omega arith)
  all_renewed (suc k) (p ∷ ends) e = ap (λ l. renewed these net s p ∷ l) (all_renewed k ends (omega arith))

  -- a link end of the list, renewed
  pub set_renewed : (k : ℕ) (ends : List (ℕ × Numbers)) (p x : ℕ × Numbers) → slice_get ends k ≡ Some p → x ≡ renewed these net s p → slice_set ends k x ≡ renewed_at these net s k ends
  set_renewed zero [] p x e is = refl
  set_renewed (suc k) [] p x e is = refl
  set_renewed zero (q ∷ ends) p x e is =
      let same : q ≡ p = cc in
      λ i. (is ∙ ap (renewed these net s) (sym same)) i ∷ ends
  set_renewed (suc k) (q ∷ ends) p x e is = ap (λ l. q ∷ l) (set_renewed k ends p x e is)

  -- one that stays as it is
  pub same_renewed : (k : ℕ) (ends : List (ℕ × Numbers)) (p : ℕ × Numbers) → slice_get ends k ≡ Some p → p ≡ renewed these net s p → ends ≡ renewed_at these net s k ends
  same_renewed k ends p at is = sym (set_back ends k p at) ∙ set_renewed k ends p p at is

  -- it is none of these
  pub other_renewed : (p : ℕ × Numbers) → is_one_of these p.0 ≡ false → p ≡ renewed these net s p
  other_renewed p none = sym (if_false (is_one_of these p.0) (p.0, numbers_at net s p.0) p none)

  -- it is one of these, with its numbers
  pub one_renewed : (p : ℕ × Numbers) (numbers : Numbers) → is_one_of these p.0 ≡ true → numbers ≡ numbers_at net s p.0 → (p.0, numbers) ≡ renewed these net s p
  one_renewed p numbers one is = (λ i. (p.0, is i)) ∙ sym (if_true (is_one_of these p.0) (p.0, numbers_at net s p.0) p one)

  -- none of the list is one of these
  others_renewed : (ends : List (ℕ × Numbers)) → ((i : ℕ) (q : ℕ × Numbers) → slice_get ends i ≡ Some q → is_one_of these q.0 ≡ false) → ends ≡ map (renewed these net s) ends
  others_renewed [] none = refl
  others_renewed (p ∷ ends) none = λ i. other_renewed p (none 0 p refl) i ∷ others_renewed ends (λ j q e. none (suc j) q e) i

  -- none but that at one place
  here_renewed : (k : ℕ) (ends : List (ℕ × Numbers)) → ((i : ℕ) (q : ℕ × Numbers) → (i ≡ k → ⊥) → slice_get ends i ≡ Some q → is_one_of these q.0 ≡ false)
      → renewed_at these net s k ends ≡ map (renewed these net s) ends
  here_renewed zero [] others = refl
  here_renewed (suc k) [] others = refl
  here_renewed zero (p ∷ ends) others = λ i. renewed these net s p ∷ others_renewed ends (λ j q e. others (suc j) q (λ (no : suc j ≡ 0). absurd (omega arith)) e) i
  here_renewed (suc k) (p ∷ ends) others =
      let here = other_renewed p (others 0 p (λ (no : 0 ≡ suc k). absurd (omega arith)) refl) in
      let later = here_renewed k ends (λ j q ne e. others (suc j) q (λ (same : suc j ≡ suc k). ne (omega arith)) e) in
      λ i. here i ∷ later i

-- two link ends, read as numbers, are one
pub is_that : (own e m n : ℕ) → m ≡ e → n ≡ own → m ≡ n → is_one_of (Some own, None) e ≡ true
is_that own e m n at named same = ap (λ b. b || false) (eq-eqb own e (sym named ∙ sym same ∙ at))

-- or two
pub is_other : (own e m n : ℕ) → m ≡ e → n ≡ own → (m ≡ n → ⊥) → is_one_of (Some own, None) e ≡ false
is_other own e m n at named apart = ap (λ b. b || false) (ne_eqb own e (λ (same : own ≡ e). apart (at ∙ sym same ∙ sym named)))

module _ (net : Network) (s : State) where
  -- no link end is renewed
  pub no_end_renewed : (ends : List (ℕ × Numbers)) → ends ≡ map (renewed (None, None) net s) ends
  no_end_renewed ends = others_renewed (None, None) net s ends (λ i q e. refl)

  -- the link end at that place is
  pub end_renewed : (end k : ℕ) (ends after : List (ℕ × Numbers)) → AreOnce (map (λ p. p.0) ends) → option_map (λ p. p.0) (slice_get ends k) ≡ Some end
      → after ≡ renewed_at (Some end, None) net s k ends → after ≡ map (renewed (Some end, None) net s) ends
  end_renewed end k ends after once at is =
      let name : ℕ × Numbers → ℕ = λ p. p.0 in
      let here : slice_get (map name ends) k ≡ Some end = slice_get-map name ends k ∙ at in
      let other : (i : ℕ) (q : ℕ × Numbers) → (i ≡ k → ⊥) → slice_get ends i ≡ Some q → is_one_of (Some end, None) q.0 ≡ false = λ i q apart e.
      let there : slice_get (map name ends) i ≡ Some q.0 = slice_get-map name ends i ∙ ap (option_map name) e in
      let ne : end ≢ q.0 = λ same. apart (once i k end (there ∙ ap (λ (n : ℕ). Some n) (sym same)) here) in
      ap (λ b. b || false) (ne_eqb end q.0 ne) in
      is ∙ here_renewed (Some end, None) net s k ends other

  abbrev pick : Bool → ℕ × Numbers → ℕ × Numbers
  pick b p = if b then (p.0, numbers_at net s p.0) else p

  again : (p : ℕ × Numbers) (b : Bool) → pick (b || false) (p.0, numbers_at net s p.0) ≡ (p.0, numbers_at net s p.0)
  again p true = refl
  again p false = refl

  or_false : (b : Bool) → b || false ≡ b
  or_false true = refl
  or_false false = refl

  one_by_one : (b : Option ℕ) (p : ℕ × Numbers) (x : Bool) → pick (is_it b (pick (x || false) p).0 || false) (pick (x || false) p) ≡ pick (x || is_it b p.0) p
  one_by_one b p true = again p (is_it b p.0)
  one_by_one b p false = ap (λ y. pick y p) (or_false (is_it b p.0))

  both_renewed : (a b : Option ℕ) (ends : List (ℕ × Numbers)) → map (renewed (b, None) net s) (map (renewed (a, None) net s) ends) ≡ map (renewed (a, b) net s) ends
  both_renewed a b [] = refl
  both_renewed a b (p ∷ ends) = λ i. one_by_one b p (is_it a p.0) i ∷ both_renewed a b ends i

  -- one after the other
  pub two_renewed : (these : Option ℕ × Option ℕ) (ends between after : List (ℕ × Numbers)) → between ≡ map (renewed (these.0, None) net s) ends → after ≡ map (renewed (these.1, None) net s) between
      → after ≡ map (renewed these net s) ends
  two_renewed these ends between after first second = second ∙ ap (map (renewed (these.1, None) net s)) first ∙ both_renewed these.0 these.1 ends

-- a link end stands inside the list
pub stands_within : (ends : List (ℕ × Numbers)) (k end : ℕ) → option_map (λ p. p.0) (slice_get ends k) ≡ Some end → k < length ends
stands_within ends k end at = inside (slice_get ends k) refl at
  where
    inside : (o : Option (ℕ × Numbers)) → slice_get ends k ≡ o → option_map (λ p. p.0) o ≡ Some end → k < length ends
    inside None is h = absurd cc
    inside (Some p) is h = slice_get_within ends k p is

-- ---- what the journal's seat knows of them

set_twice : {X : Type 0} (xs : List X) (k : ℕ) (x y : X) → slice_set (slice_set xs k x) k y ≡ slice_set xs k y
set_twice [] zero x y = refl
set_twice [] (suc k) x y = refl
set_twice (z ∷ xs) zero x y = refl
set_twice (z ∷ xs) (suc k) x y = ap (λ l. z ∷ l) (set_twice xs k x y)

abbrev pub with_ends : Me SeatChange View → List (ℕ × Numbers) → Me SeatChange View
with_ends m ends = (with_known m.0 (record { id = m.0.known.id; ends = ends }), m.1)

-- as it is
pub seat_first : (before : Me SeatChange View) (ends : List (ℕ × Numbers)) → slice_get before.0.all before.0.cell ≡ Some before.0.known → before.0.known.ends ≡ ends → before ≡ with_ends before ends
seat_first before ends at is =
    let v = before.0 in
    let all = set_back v.all v.cell v.known at in
    (λ i. (record { keeps = v.keeps; all = sym all i; claims = v.claims; cell = v.cell; known = v.known }, before.1)) ∙ ap (with_ends before) is

-- still as it is
pub seat_same : (first before : Me SeatChange View) (ends : List (ℕ × Numbers)) → slice_get first.0.all first.0.cell ≡ Some first.0.known → before ≡ with_ends first ends → slice_get before.0.all before.0.cell ≡ Some before.0.known
seat_same first before ends at is =
    let known : Known = record { id = first.0.known.id; ends = ends } in
    subst (λ (m : Me SeatChange View). slice_get m.0.all m.0.cell ≡ Some m.0.known) (sym is) (slice_get-set_same first.0.all first.0.cell first.0.known known at)

-- it is told of one
pub seat_told : (before after : Me SeatChange View) (ends : List (ℕ × Numbers)) (k : ℕ) (p : ℕ × Numbers) (numbers : Numbers) → before.0.known.ends ≡ ends → slice_get ends k ≡ Some p
    → after ≡ (changed before.0 k numbers, before.1) → after ≡ with_ends before (slice_set ends k (p.0, numbers))
seat_told before after ends k p numbers is at told =
    let own : ends_with before.0.known.ends k numbers (slice_get before.0.known.ends k) ≡ slice_set ends k (p.0, numbers) =
    (λ i. ends_with (is i) k numbers (slice_get (is i) k)) ∙ ap (ends_with ends k numbers) at in
    told ∙ ap (with_ends before) own

-- one more
pub seat_more : (first before after : Me SeatChange View) (ends more : List (ℕ × Numbers)) → before ≡ with_ends first ends → after ≡ with_ends before more → after ≡ with_ends first more
seat_more first before after ends more is next =
    let v = first.0 in
    let all = set_twice v.all v.cell (record { id = v.known.id; ends = ends }) (record { id = v.known.id; ends = more }) in
    next ∙ ap (λ (m : Me SeatChange View). with_ends m more) is
    ∙ (λ i. (record { keeps = v.keeps; all = all i; claims = v.claims; cell = v.cell; known = record { id = v.known.id; ends = more } }, first.1))

-- the same link ends are in range
pub within_names : (n : ℕ) (a b : List (ℕ × Numbers)) → map (λ p. p.0) a ≡ map (λ p. p.0) b → All {X = ℕ × Numbers} (λ p. p.0 < n) b → All {X = ℕ × Numbers} (λ p. p.0 < n) a
within_names n a b same low k d lt =
    let name : ℕ × Numbers → ℕ = λ p. p.0 in
    let counts : length a ≡ length b = sym (length-map a name) ∙ ap length same ∙ length-map b name in
    let here : (get_or a k d).0 ≡ (get_or b k d).0 = sym (get_or-map name a k d d.0 lt) ∙ ap (λ (l : List ℕ). get_or l k d.0) same ∙ get_or-map name b k d d.0 (omega arith) in
    let small = low k d (omega arith) in
    omega (arith, here, small)
