-- From where a walk found its numbers, and the way back.
use Rattle.std.proofs.Common.{◌≡◌, ℕ, ◌+◌, ◌-◌, ◌<◌, ◌≤◌, Bool, true, false, List, [], ◌∷◌, ◌++◌, length, get_or, replicate, reverse, take, All, Option, None, Some, refl, sym, ap, ◌∙◌, subst, ◌⊎◌, inl, inr, arith}
use Rattle.std.specs.Prelude.{Contains, MatchOption, Vec, option_map, slice_get}
use Rattle.std.specs.declared.alloc.Global.{Global}
use Rattle.sw_graph.specs.Reached.{Reached}
use Rattle.std.proofs.lemmas.Bool.{cases_lt}
use Rattle.std.proofs.lemmas.List.{append-nil, append_assoc, reverse-append, length-append, length-replicate, take_all, get_or-replicate, get_or_append_left, get_or-append_right}
use Rattle.std.proofs.lemmas.List.Elements.{All-nil, All-cons, All-append, All-weaker, Contains-append_right, Contains-get_or}
use Rattle.sw_graph.specs.Walks.{holds, with_number, with_all}
use Rattle.sw_graph.specs.Parents.{AreParents}
use Rattle.sw_graph.specs.Ways.{EndsAt, IsWay, IsWayIfReached}

-- ys is xs, and behind it some of the others
pub record Added (xs others ys : List ℕ) : Type 0 where
  pub more : List ℕ
  pub is : ys ≡ xs ++ more
  pub from : All (Contains others) more

added_one : (xs : List ℕ) (n : ℕ) (others : List ℕ) → Added xs (n ∷ others) (with_number xs n)
added_one xs n others = by (holds xs n) refl
  where
    by : (b : Bool) → holds xs n ≡ b → Added xs (n ∷ others) (with_number xs n)
    by true e = rw e (record { more = []; is = sym (append-nil xs); from = All-nil (Contains (n ∷ others)) })
    by false e = rw e (record { more = n ∷ []; is = refl; from = All-cons (Contains (n ∷ others)) n [] (Contains-get_or (n ∷ others) 0 0 (omega arith)) (All-nil (Contains (n ∷ others))) })

pub added_all : (xs others : List ℕ) → Added xs others (with_all xs others)
added_all xs [] = record { more = []; is = sym (append-nil xs); from = All-nil (Contains []) }
added_all xs (n ∷ others) =
    let a = added_one xs n others in
    let b = added_all (with_number xs n) others in
    record {
      more = a.more ++ b.more;
      is = b.is ∙ ap (λ l. l ++ b.more) a.is ∙ append_assoc xs a.more b.more;
      from = All-append (Contains (n ∷ others)) a.more b.more a.from (All-weaker (Contains others) (Contains (n ∷ others)) (λ m h. Contains-append_right (n ∷ []) others m h) b.more b.from);
    }

-- ---- filling up

-- as resize fills
pub filled : (xs ys : List ℕ) (x len count many : ℕ) → len ≡ length xs → count ≡ many → length xs ≤ many → ys ≡ take count xs ++ replicate (count - len) x → ys ≡ xs ++ replicate (many - length xs) x
filled xs ys x len count many a b le is =
    let whole : take count xs ≡ xs = take_all count xs (omega (arith, b, le)) in
    let rest : count - len ≡ many - length xs = omega (arith, a, b) in
    is ∙ ap (λ l. l ++ replicate (count - len) x) whole ∙ ap (λ k. xs ++ replicate k x) rest

-- ---- parents

pub parents_first : (next : ℕ → List ℕ) (start : ℕ) → AreParents next (start ∷ []) (0 ∷ [])
parents_first next start = record {
  one_each = refl;
  earlier = λ k some lt. absurd (omega arith);
  leads = λ k some lt. absurd (omega arith);
}

module _ (next : ℕ → List ℕ) (numbers parents : List ℕ) (done : ℕ) (known : AreParents next numbers parents) (lt : done < length numbers) where
  abbrev new : List ℕ
  new = next (get_or numbers done 0)

  abbrev after : List ℕ
  after = with_all numbers new

  abbrev parents2 : List ℕ
  parents2 = parents ++ replicate (length after - length parents) done

  added : Added numbers new after
  added = added_all numbers new

  longer : length after ≡ length numbers + length (added.more)
  longer = ap length added.is ∙ length-append numbers added.more

  old_number : (k : ℕ) → k < length numbers → get_or after k 0 ≡ get_or numbers k 0
  old_number k l = ap (λ x. get_or x k 0) added.is ∙ get_or_append_left numbers added.more 0 k l

  old_parent : (k : ℕ) → k < length numbers → get_or parents2 k 0 ≡ get_or parents k 0
  old_parent k l = get_or_append_left parents (replicate (length after - length parents) done) 0 k (omega (arith, known.one_each))

  new_parent : (k : ℕ) → length numbers ≤ k → k < length after → get_or parents2 k 0 ≡ done
  new_parent k le l =
      get_or-append_right parents (replicate (length after - length parents) done) (length numbers) k 0 known.one_each le
      ∙ get_or-replicate (length after - length parents) (k - length numbers) done 0 (omega (arith, known.one_each))

  new_number : (k : ℕ) → length numbers ≤ k → k < length after → Contains new (get_or after k 0)
  new_number k le l =
      let at : get_or after k 0 ≡ get_or (added.more) (k - length numbers) 0 = ap (λ x. get_or x k 0) added.is ∙ get_or-append_right numbers added.more (length numbers) k 0 refl le in
      subst (Contains new) (sym at) (added.from (k - length numbers) 0 (omega (arith, longer)))

  earlier : (k : ℕ) → 0 < k → k < length after → get_or parents2 k 0 < k
  earlier k some l = by (cases_lt k (length numbers))
    where
      by : (k < length numbers) ⊎ (length numbers ≤ k) → get_or parents2 k 0 < k
      by (inl old) = subst (λ p. p < k) (sym (old_parent k old)) (known.earlier k some old)
      by (inr le) = subst (λ p. p < k) (sym (new_parent k le l)) (omega (arith, lt, le))

  leads : (k : ℕ) → 0 < k → k < length after → Contains (next (get_or after (get_or parents2 k 0) 0)) (get_or after k 0)
  leads k some l = by (cases_lt k (length numbers))
    where
      by : (k < length numbers) ⊎ (length numbers ≤ k) → Contains (next (get_or after (get_or parents2 k 0) 0)) (get_or after k 0)
      by (inl old) =
          let from : get_or after (get_or parents2 k 0) 0 ≡ get_or numbers (get_or parents k 0) 0 =
          ap (λ p. get_or after p 0) (old_parent k old) ∙ old_number (get_or parents k 0) (omega (arith, known.earlier k some old, old)) in
          subst (λ m. Contains (next m) (get_or after k 0)) (sym from) (subst (Contains (next (get_or numbers (get_or parents k 0) 0))) (sym (old_number k old)) (known.leads k some old))
      by (inr le) =
          let from : get_or after (get_or parents2 k 0) 0 ≡ get_or numbers done 0 = ap (λ p. get_or after p 0) (new_parent k le l) ∙ old_number done lt in
          subst (λ m. Contains (next m) (get_or after k 0)) (sym from) (new_number k le l)

  parents_filled : AreParents next after parents2
  parents_filled = record {
    one_each = length-append parents (replicate (length after - length parents) done) ∙ ap (λ n. length parents + n) (length-replicate (length after - length parents) done) ∙ omega (arith, known.one_each, longer);
    earlier = earlier;
    leads = leads;
  }

pub parents_more : (next : ℕ → List ℕ) (numbers parents led later more : List ℕ) (done n : ℕ) → AreParents next numbers parents → done < length numbers → n ≡ get_or numbers done 0 → led ≡ next n
    → later ≡ with_all numbers led → more ≡ parents ++ replicate (length later - length parents) done → AreParents next later more
parents_more next numbers parents led later more done n known lt at led_is later_is more_is =
    let is : later ≡ with_all numbers (next (get_or numbers done 0)) = later_is ∙ ap (with_all numbers) (led_is ∙ ap next at) in
    let filled_is : more ≡ parents ++ replicate (length (with_all numbers (next (get_or numbers done 0))) - length parents) done = more_is ∙ ap (λ l. parents ++ replicate (length l - length parents) done) is in
    subst (λ l. AreParents next l more) (sym is) (subst (AreParents next (with_all numbers (next (get_or numbers done 0)))) (sym filled_is) (parents_filled next numbers parents done known lt))

pub longer_with : (numbers led later : List ℕ) → later ≡ with_all numbers led → length numbers ≤ length later
longer_with numbers led later is =
    let a = added_all numbers led in
    let long : length later ≡ length numbers + length (a.more) = ap length (is ∙ a.is) ∙ length-append numbers a.more in
    omega (arith, long)

-- what stands first stays first
pub first_stays : (numbers led later : List ℕ) (start : ℕ) → later ≡ with_all numbers led → 0 < length numbers → get_or numbers 0 0 ≡ start → (0 < length later) × (get_or later 0 0 ≡ start)
first_stays numbers led later start is some at =
    let a = added_all numbers led in
    let long : length later ≡ length numbers + length (a.more) = ap length (is ∙ a.is) ∙ length-append numbers a.more in
    (omega (arith, some, long), ap (λ l. get_or l 0 0) (is ∙ a.is) ∙ get_or_append_left numbers a.more 0 0 some ∙ at)

-- ---- the way back

-- the way from number n on
pub record Onward (next : ℕ → List ℕ) (goal n : ℕ) (way : List ℕ) : Type 0 where
  pub begins : slice_get way 0 ≡ Some n
  pub goes : EndsAt next goal way

pub onward_first : (next : ℕ → List ℕ) (goal n : ℕ) → n ≡ goal → Onward next goal n (reverse (n ∷ []))
onward_first next goal n e = record { begins = refl; goes = e }

before : (next : ℕ → List ℕ) (goal p n : ℕ) (way : List ℕ) → Onward next goal n way → Contains (next p) n → Onward next goal p (p ∷ way)
before next goal p n [] o led = absurd (o.goes)
before next goal p n (m ∷ more) o led =
    let same : m ≡ n = ap (λ (x : Option ℕ). unwrap x) o.begins in
    record { begins = refl; goes = (subst (Contains (next p)) (sym same) led, o.goes) }
  where
    unwrap : Option ℕ → ℕ
    unwrap (Some x) = x
    unwrap o = n

pub onward_more : (next : ℕ → List ℕ) (goal p n : ℕ) (path : List ℕ) → Onward next goal n (reverse path) → Contains (next p) n → Onward next goal p (reverse (path ++ p ∷ []))
onward_more next goal p n path o led = subst (Onward next goal p) (sym (reverse-append path (p ∷ []))) (before next goal p n (reverse path) o led)

-- ---- the way, or none

pub way_if : (next : ℕ → List ℕ) (start goal : ℕ) (numbers : List ℕ) (found : Option (Vec ℕ Global)) → get_or numbers 0 0 ≡ start → ((n : ℕ) → Reached next start n → Contains numbers n)
    → MatchOption found (Contains numbers goal → ⊥) (λ v. IsWay next (get_or numbers 0 0) goal v.items) → IsWayIfReached next start goal (option_map (λ v. v.items) found)
way_if next start goal numbers None first complete none = λ r. none (complete goal r)
way_if next start goal numbers (Some v) first complete way = subst (λ s. IsWay next s goal v.items) first way
