-- A walk along the steps: what it keeps, and what it has found at its end.
use Rattle.std.proofs.Common.{◌≡◌, ℕ, ◌+◌, ◌-◌, ◌<◌, ◌≤◌, ◌↔◌, List, [], ◌∷◌, ◌++◌, length, get_or, All, sym, ap, ◌∙◌, subst, arith, below_more}
use Rattle.std.specs.Prelude.{Contains, IfOk, Result, Ok, Err}
use Rattle.std.specs.List.Sorted.{IsStrictlyIncreasing}
use Rattle.std.proofs.lemmas.List.{length-append, get_or_default}
use Rattle.std.proofs.lemmas.List.Elements.{All-weaker, All-contains, All-push, All-nil, Contains-push, Contains-get_or}
use Rattle.sw_graph.specs.Reached.{Reached, IsListing}
use Rattle.sw_graph.specs.Reached.Reached.{begin, step}
use Rattle.sw_graph.specs.Walks.{with_all}
use Rattle.sw_graph.proofs.Numbers.{Grows, Contains-grows, get_or-grows, grows_all, All-with_all, has_all}

-- what a list has that was empty before
pub led_by : (led pushed none new : List ℕ) → led ≡ pushed → pushed ≡ none ++ new → none ≡ [] → led ≡ new
led_by led pushed none new a b e = a ∙ b ∙ ap (λ l. l ++ new) e

-- fewer places are left behind the next one
pub nearer : (bound later done count all : ℕ) → done < count → count ≤ all → all ≡ bound → later ≡ bound → later - (done + 1) < bound - done
nearer bound later done count all lt few same kept = omega arith

-- two things that are so of what went well give a third
pub on_ok_both : {A E : Type 0} {P Q R : A → Type 0} (r : Result A E) → ((x : A) → P x → Q x → R x) → IfOk r P → IfOk r Q → IfOk r R
on_ok_both (Ok x) f p q = f x p q
on_ok_both (Err e) f p q = tt

-- the steps from the first done of the numbers lead to numbers among them, and all are reached
pub record Walks (next : ℕ → List ℕ) (start : ℕ) (numbers : List ℕ) (done : ℕ) : Type 0 where
  pub start_in : Contains numbers start
  pub sound : All (Reached next start) numbers
  pub within : done ≤ length numbers
  pub closed : (k : ℕ) → k < done → All (Contains numbers) (next (get_or numbers k 0))

module _ (next : ℕ → List ℕ) (start : ℕ) where
  pub walks_first : Walks next start (start ∷ []) 0
  walks_first = record {
    start_in = Contains-push [] start;
    sound = All-push (Reached next start) [] start (All-nil (Reached next start)) begin;
    within = omega arith;
    closed = λ k lt. absurd (omega arith);
  }

  pub walks_more : (numbers : List ℕ) (done : ℕ) → Walks next start numbers done → done < length numbers → Walks next start (with_all numbers (next (get_or numbers done 0))) (done + 1)
  walks_more numbers done w lt = record {
    start_in = Contains-grows numbers after start grown w.start_in;
    sound = All-with_all (Reached next start) numbers new w.sound (λ k d l. step here (Contains-get_or new k d l));
    within = let long = length-append numbers grown.more in let e = ap length grown.is in omega arith;
    closed = below_more _ _ (λ k l. let same = get_or-grows numbers after k 0 grown (omega arith) in subst (λ (n : ℕ). All (Contains after) (next n)) (sym same) (All-weaker (Contains numbers) (Contains after) (λ m h. Contains-grows numbers after m grown h) (next (get_or numbers k 0)) (w.closed k l)))
        (subst (λ (n : ℕ). All (Contains after) (next n)) (sym (get_or-grows numbers after done 0 grown lt)) (has_all numbers new));
  }
    where
      new : List ℕ
      new = next (get_or numbers done 0)

      after : List ℕ
      after = with_all numbers new

      grown : Grows numbers after
      grown = grows_all numbers new

      here : Reached next start (get_or numbers done 0)
      here = w.sound done 0 lt

  -- one more number, and those that a step from it leads to
  pub walks_on : (numbers new after : List ℕ) (done n : ℕ) → Walks next start numbers done → done < length numbers → n ≡ get_or numbers done 0 → new ≡ next n → after ≡ with_all numbers new → Walks next start after (done + 1)
  walks_on numbers new after done n w lt at led found =
      subst (λ (l : List ℕ). Walks next start l (done + 1)) (sym (found ∙ ap (with_all numbers) (led ∙ ap next at))) (walks_more numbers done w lt)

  pub complete : (numbers : List ℕ) (done : ℕ) → Walks next start numbers done → length numbers ≤ done → (n : ℕ) → Reached next start n → Contains numbers n
  complete numbers done w all n begin = w.start_in
  complete numbers done w all n (step {n = m} r h) =
      let c = complete numbers done w all m r in
      let e : get_or numbers c.0 0 ≡ m = get_or_default numbers c.0 0 m c.1 ∙ c.2 in
      All-contains (Contains numbers) (next m) n (subst (λ (x : ℕ). All (Contains numbers) (next x)) e (w.closed c.0 (omega (arith, c.1)))) h

  pub listing : (numbers sorted : List ℕ) (done : ℕ) → Walks next start numbers done → length numbers ≤ done → ((n : ℕ) → Contains numbers n ↔ Contains sorted n) → IsStrictlyIncreasing sorted → IsListing (Reached next start) sorted
  listing numbers sorted done w all same rising = record {
    rising = rising;
    member = λ n. (
      λ h. All-contains (Reached next start) numbers n w.sound ((same n).1 h),
      λ r. (same n).0 (complete numbers done w all n r),
    );
  }

  pub reached_below : (bound : ℕ) → start < bound → ((n : ℕ) → n < bound → All (λ m. m < bound) (next n)) → (n : ℕ) → Reached next start n → n < bound
  reached_below bound first inside n begin = first
  reached_below bound first inside n (step {n = m} r h) = All-contains (λ k. k < bound) (next m) n (inside m (reached_below bound first inside m r)) h

  pub all_below : (bound : ℕ) → start < bound → ((n : ℕ) → n < bound → All (λ m. m < bound) (next n)) → (numbers : List ℕ) → IsListing (Reached next start) numbers → All (λ n. n < bound) numbers
  all_below bound first inside numbers l = λ k d lt. reached_below bound first inside _ ((l.member _).0 (Contains-get_or numbers k d lt))
