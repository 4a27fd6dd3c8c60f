-- The cycle to show is determined.
use Rattle.std.proofs.Common.{◌≡◌, ℕ, ◌+◌, ◌<◌, ◌≤◌, List, [], ◌∷◌, ◌++◌, length, refl, sym, ap, ◌∙◌, subst, inl, inr, arith, All}
use Rattle.std.specs.Prelude.{◌==◌, reverse, slice_index}
use Rattle.std.proofs.lemmas.Bool.{cases_eq}
use Rattle.std.proofs.lemmas.List.{append_assoc, length-reverse, reverse-append}
use Rattle.std.proofs.lemmas.List.Sums.{sum_by-append}
use Rattle.std.proofs.lemmas.List.Elements.{All-head, All-tail}
use Rattle.sw_graph.specs.Cycles.{IsBehindCycle, IsLeast, IsLeastPredecessor, IsShownCycle, IsTurned, Walks}
use Rattle.sw_graph.specs.Walking.{times}
use Rattle.sw_graph.proofs.Counts.{flag, flag_here, flag_there, times_cons}

times_append : (xs ys : List ℕ) (c : ℕ) → times (xs ++ ys) c ≡ times xs c + times ys c
times_append xs ys c = sum_by-append (λ (x : ℕ). flag (x == c)) xs ys

times_head : (x : ℕ) (xs : List ℕ) → 0 < times (x ∷ xs) x
times_head x xs = let h = times_cons x xs x in let k = flag_here x x refl in omega arith

times_reverse : (xs : List ℕ) (c : ℕ) → times (reverse xs) c ≡ times xs c
times_reverse [] c = refl
times_reverse (x ∷ xs) c =
    let turned : reverse (x ∷ xs) ≡ reverse xs ++ x ∷ [] = reverse-append (x ∷ []) xs in
    let parted = times_append (reverse xs) (x ∷ []) c in
    let one : times (x ∷ []) c ≡ flag (x == c) + times [] c = times_cons x [] c in
    let none : times [] c ≡ 0 = refl in
    let more : times (x ∷ xs) c ≡ flag (x == c) + times xs c = times_cons x xs c in
    let rest = times_reverse xs c in
    let sides : times (reverse xs ++ x ∷ []) c ≡ times (x ∷ xs) c = omega arith in
    ap (λ (l : List ℕ). times l c) turned ∙ sides

-- what holds of each holds of what stands in the list
at_times : (P : ℕ → Type 0) (xs : List ℕ) → All P xs → (c : ℕ) → 0 < times xs c → P c
at_times P [] all c some = absurd (let none : times [] c ≡ 0 = refl in omega arith)
at_times P (x ∷ xs) all c some = elim (cases_eq x c) [
  | inl same ↦ subst P same (All-head P x xs all)
  | inr other ↦
      let more = times_cons x xs c in
      let none = flag_there x c other in
      at_times P xs (All-tail P x xs all) c (omega arith)
]

-- where a number stands once, it cuts the list in one way
cut_same : (a : ℕ) (b c : List ℕ) (v w : List ℕ) → b ++ a ∷ v ≡ c ++ a ∷ w → times (b ++ a ∷ v) a ≤ 1 → (b ≡ c) × (v ≡ w)
cut_same a [] [] v w e once = let rest : v ≡ w = cc in (refl, rest)
cut_same a [] (y ∷ c) v w e once =
    let rest : v ≡ c ++ a ∷ w = cc in
    let head = times_cons a v a in
    let one = flag_here a a refl in
    let moved : times v a ≡ times (c ++ a ∷ w) a = ap (λ (l : List ℕ). times l a) rest in
    let parted = times_append c (a ∷ w) a in
    let some = times_head a w in
    absurd (omega arith)
cut_same a (x ∷ b) [] v w e once =
    let first : x ≡ a = cc in
    let head = times_cons x (b ++ a ∷ v) a in
    let one = flag_here x a first in
    let parted = times_append b (a ∷ v) a in
    let some = times_head a v in
    absurd (omega arith)
cut_same a (x ∷ b) (y ∷ c) v w e once =
    let first : x ≡ y = cc in
    let rest : b ++ a ∷ v ≡ c ++ a ∷ w = cc in
    let head = times_cons x (b ++ a ∷ v) a in
    let r = cut_same a b c v w rest (omega arith) in
    ((λ i. first i ∷ r.0 i), r.1)

-- ---- the walk

module _ (next : ℕ → ℕ → Type 0) (sure : (c p q : ℕ) → next c p → next c q → p ≡ q) where
  -- one walk does not end where the other goes on
  not_more : (visited : List ℕ) (x e y : ℕ) (ys : List ℕ) → next x e → next x y → 0 < times (visited ++ x ∷ []) e → times (visited ++ x ∷ y ∷ ys) y ≤ 1 → ⊥
  not_more visited x e y ys to goes again once =
      let same : e ≡ y = sure x e y to goes in
      let seen : 0 < times (visited ++ x ∷ []) y = subst (λ (z : ℕ). 0 < times (visited ++ x ∷ []) z) same again in
      let parted : times ((visited ++ x ∷ []) ++ y ∷ ys) y ≡ times (visited ++ x ∷ []) y + times (y ∷ ys) y = times_append (visited ++ x ∷ []) (y ∷ ys) y in
      let joined : (visited ++ x ∷ []) ++ y ∷ ys ≡ visited ++ x ∷ y ∷ ys = append_assoc visited (x ∷ []) (y ∷ ys) in
      let whole : times ((visited ++ x ∷ []) ++ y ∷ ys) y ≡ times (visited ++ x ∷ y ∷ ys) y = ap (λ (l : List ℕ). times l y) joined in
      let head = times_head y ys in
      omega arith

  -- two walks from one member, each until a member comes again
  same_walk : (visited : List ℕ) (x : ℕ) (xs ys : List ℕ) (e f : ℕ) → Walks next (x ∷ xs) e → Walks next (x ∷ ys) f → 0 < times (visited ++ x ∷ xs) e → 0 < times (visited ++ x ∷ ys) f
      → ((c : ℕ) → times (visited ++ x ∷ xs) c ≤ 1) → ((c : ℕ) → times (visited ++ x ∷ ys) c ≤ 1) → (xs ≡ ys) × (e ≡ f)
  same_walk visited x [] [] e f h k again_e again_f once_e once_f = (refl, sure x e f h k)
  same_walk visited x [] (y ∷ ys) e f h k again_e again_f once_e once_f = absurd (not_more visited x e y ys h k.0 again_e (once_f y))
  same_walk visited x (y ∷ ys) [] e f h k again_e again_f once_e once_f = absurd (not_more visited x f y ys k h.0 again_f (once_e y))
  same_walk visited x (y ∷ ys) (z ∷ zs) e f h k again_e again_f once_e once_f =
      let same : y ≡ z = sure x y z h.0 k.0 in
      let joined : (ws : List ℕ) → visited ++ x ∷ y ∷ ws ≡ (visited ++ x ∷ []) ++ y ∷ ws = λ ws. sym (append_assoc visited (x ∷ []) (y ∷ ws)) in
      let back : z ≡ y = sym same in
      let walk_f : Walks next (y ∷ zs) f = subst (λ (w : ℕ). Walks next (w ∷ zs) f) back k.1 in
      let again_y : 0 < times (visited ++ x ∷ y ∷ zs) f = subst (λ (w : ℕ). 0 < times (visited ++ x ∷ w ∷ zs) f) back again_f in
      let once_y : (c : ℕ) → times (visited ++ x ∷ y ∷ zs) c ≤ 1 = λ c. subst (λ (w : ℕ). times (visited ++ x ∷ w ∷ zs) c ≤ 1) back (once_f c) in
      let r =
      same_walk (visited ++ x ∷ []) y ys zs e f h.1 walk_f (subst (λ (l : List ℕ). 0 < times l e) (joined ys) again_e) (subst (λ (l : List ℕ). 0 < times l f) (joined zs) again_y)
      (λ c. subst (λ (l : List ℕ). times l c ≤ 1) (joined ys) (once_e c)) (λ c. subst (λ (l : List ℕ). times l c ≤ 1) (joined zs) (once_y c))
      in
      ((λ i. same i ∷ r.0 i), r.1)

  pub same_path : (path path2 : List ℕ) (e f : ℕ) → slice_index path 0 ≡ slice_index path2 0 → Walks next path e → Walks next path2 f → 0 < times path e → 0 < times path2 f
      → ((c : ℕ) → times path c ≤ 1) → ((c : ℕ) → times path2 c ≤ 1) → (path ≡ path2) × (e ≡ f)
  same_path [] ys e f head h k again_e again_f once_e once_f = absurd (let none : times [] e ≡ 0 = refl in omega arith)
  same_path (x ∷ xs) [] e f head h k again_e again_f once_e once_f = absurd (let none : times [] f ≡ 0 = refl in omega arith)
  same_path (x ∷ xs) (y ∷ ys) e f head h k again_e again_f once_e once_f =
      let first : x ≡ y = head in
      let back : y ≡ x = sym first in
      let r =
      same_walk [] x xs ys e f h (subst (λ (w : ℕ). Walks next (w ∷ ys) f) back k) again_e (subst (λ (w : ℕ). 0 < times (w ∷ ys) f) back again_f) once_e
      (λ c. subst (λ (w : ℕ). times (w ∷ ys) c ≤ 1) back (once_f c))
      in
      ((λ i. first i ∷ r.0 i), r.1)

-- ---- where the cycle begins

-- the least member, and what the walk had before it and after it, in the direction of the steps
record Turned (between cycle : List ℕ) : Type 0 where
  least : ℕ
  early : List ℕ
  late : List ℕ
  direction : reverse between ≡ early ++ least ∷ late
  turned : cycle ≡ least ∷ (late ++ early)
  low : All (λ c. least ≤ c) cycle

turned_by : (between cycle : List ℕ) → IsTurned between cycle → 0 < length (reverse between) → Turned between cycle
turned_by between cycle h some = by h.early h.late h.direction h.turned
  where
    at_least : (x : ℕ) (xs : List ℕ) → cycle ≡ x ∷ xs → All (λ c. x ≤ c) cycle
    at_least x xs same = subst (λ (z : ℕ). All (λ c. z ≤ c) cycle) (ap (λ (l : List ℕ). slice_index l 0) same) h.least

    nil_after : (xs : List ℕ) → xs ++ [] ≡ xs
    nil_after [] = refl
    nil_after (x ∷ xs) = ap (λ (l : List ℕ). x ∷ l) (nil_after xs)

    by : (early late : List ℕ) → reverse between ≡ early ++ late → cycle ≡ late ++ early → Turned between cycle
    by [] [] direction turned = absurd (let none : length (reverse between) ≡ 0 = ap length direction in omega arith)
    by (x ∷ early) [] direction turned = record {
      least = x;
      early = [];
      late = early;
      direction = direction ∙ nil_after (x ∷ early);
      turned = turned ∙ ap (λ (l : List ℕ). x ∷ l) (sym (nil_after early));
      low = at_least x early turned;
    }
    by early (x ∷ late) direction turned = record { least = x; early = early; late = late; direction = direction; turned = turned; low = at_least x (late ++ early) turned }

module _ (between : List ℕ) (once : (c : ℕ) → times between c ≤ 1) where
  -- the cycle has what the walk has
  as_often : (cycle : List ℕ) (t : Turned between cycle) (c : ℕ) → times cycle c ≡ times between c
  as_often cycle t c =
      let back = times_reverse between c in
      let parted = times_append t.early (t.least ∷ t.late) c in
      let direction : times (reverse between) c ≡ times (t.early ++ t.least ∷ t.late) c = ap (λ (l : List ℕ). times l c) t.direction in
      let whole : times cycle c ≡ times ((t.least ∷ t.late) ++ t.early) c = ap (λ (l : List ℕ). times l c) t.turned in
      let other = times_append (t.least ∷ t.late) t.early c in
      omega arith

  least_in : (cycle : List ℕ) (t : Turned between cycle) → 0 < times between t.least
  least_in cycle t =
      let same = as_often cycle t t.least in
      let whole : times cycle t.least ≡ times (t.least ∷ (t.late ++ t.early)) t.least = ap (λ (l : List ℕ). times l t.least) t.turned in
      let head = times_head t.least (t.late ++ t.early) in
      omega arith

  below : (cycle other : List ℕ) (t : Turned between cycle) (u : Turned between other) → t.least ≤ u.least
  below cycle other t u =
      let inside = least_in other u in
      let same = as_often cycle t u.least in
      at_times (λ c. t.least ≤ c) cycle t.low u.least (omega arith)

  same_turned : (cycle other : List ℕ) → Turned between cycle → Turned between other → cycle ≡ other
  same_turned cycle other t u =
      let down = below cycle other t u in
      let up = below other cycle u t in
      let least : t.least ≡ u.least = omega arith in
      let there : reverse between ≡ u.early ++ t.least ∷ u.late = u.direction ∙ ap (λ (z : ℕ). u.early ++ z ∷ u.late) (sym least) in
      let back = times_reverse between t.least in
      let number : times (reverse between) t.least ≡ times (t.early ++ t.least ∷ t.late) t.least = ap (λ (l : List ℕ). times l t.least) t.direction in
      let most = once t.least in
      let r = cut_same t.least t.early u.early t.late u.late (sym t.direction ∙ there) (omega arith) in
      t.turned ∙ (λ i. least i ∷ (r.1 i ++ r.0 i)) ∙ sym u.turned

-- ---- all together

pub same_least : (P : ℕ → Type 0) (p q : ℕ) → IsLeast P p → IsLeast P q → p ≡ q
same_least P p q h k =
    let down = h.least q k.member in
    let up = k.least p h.member in
    omega arith

module _ (dep : ℕ → ℕ → Type 0) (cycle : List ℕ) (h : IsShownCycle dep cycle) where
  some_again : (before between : List ℕ) → 0 < length between → 0 < times (before ++ between) (slice_index between 0)
  some_again before [] some = absurd (omega arith)
  some_again before (a ∷ ws) some = let parted = times_append before (a ∷ ws) a in let head = times_head a ws in omega arith

  comes_again : 0 < times (h.before ++ h.between) (slice_index h.between 0)
  comes_again = some_again h.before h.between h.some

  once_between : (c : ℕ) → times h.between c ≤ 1
  once_between c = let parted = times_append h.before h.between c in let once : times (h.before ++ h.between) c ≤ 1 = h.once c in omega arith

same_between : (b c v w : List ℕ) → 0 < length v → 0 < length w → slice_index v 0 ≡ slice_index w 0 → b ++ v ≡ c ++ w → ((x : ℕ) → times (b ++ v) x ≤ 1) → v ≡ w
same_between b c [] w sv sw head e once = absurd (omega arith)
same_between b c (x ∷ v) [] sv sw head e once = absurd (omega arith)
same_between b c (x ∷ v) (y ∷ w) sv sw head e once =
    let first : x ≡ y = head in
    let there : b ++ x ∷ v ≡ c ++ x ∷ w = e ∙ ap (λ (z : ℕ). c ++ z ∷ w) (sym first) in
    let r = cut_same x b c v w there (once x) in
    λ i. first i ∷ r.1 i

pub same_cycle : (dep : ℕ → ℕ → Type 0) (cycle other : List ℕ) → IsShownCycle dep cycle → IsShownCycle dep other → cycle ≡ other
same_cycle dep cycle other h k =
    let head = same_least (IsBehindCycle dep) (slice_index (h.before ++ h.between) 0) (slice_index (k.before ++ k.between) 0) h.begins k.begins in
    let sure : (c p q : ℕ) → IsLeastPredecessor dep c p → IsLeastPredecessor dep c q → p ≡ q = λ c p q s t. same_least (λ b. IsBehindCycle dep b × dep b c) p q s t in
    let r =
    same_path (IsLeastPredecessor dep) sure (h.before ++ h.between) (k.before ++ k.between) (slice_index h.between 0) (slice_index k.between 0) head h.goes_back k.goes_back (comes_again dep cycle h) (comes_again dep other k) h.once k.once
    in
    let same : h.between ≡ k.between = same_between h.before k.before h.between k.between h.some k.some r.1 r.0 h.once in
    let other_shown : IsTurned h.between other = subst (λ (l : List ℕ). IsTurned l other) (sym same) k.shown in
    let some : 0 < length (reverse h.between) = (let size = length-reverse h.between in let some_of = h.some in omega arith) in
    same_turned h.between (once_between dep cycle h) cycle other (turned_by h.between cycle h.shown some) (turned_by h.between other other_shown some)
