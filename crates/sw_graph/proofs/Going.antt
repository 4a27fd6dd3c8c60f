-- The way round, from the start each time to the least number on a shortest way back.
use Rattle.std.proofs.Common.{◌≡◌, ℕ, zero, suc, ◌+◌, ◌-◌, ◌<◌, ◌≤◌, List, [], ◌∷◌, ◌++◌, length, Option, Some, None, refl, ap, ◌∙◌, subst, arith}
use Rattle.std.specs.Prelude.{Vec, slice_index}
use Rattle.std.specs.declared.alloc.Global.{Global}
use Rattle.std.proofs.lemmas.List.{length-append}
use Rattle.sw_graph.specs.Cycles.{IsLeast, Walks}
use Rattle.sw_graph.specs.Levels.{Chain}
use Rattle.sw_graph.specs.Rows.{IsReversed, Leads}
use Rattle.sw_graph.proofs.Backs.{walks_more, head_more}
use Rattle.sw_graph.specs.Searches.{AreKnown, IsSearch, steps_to}
use Rattle.sw_graph.specs.Shortest.{IsFewest, IsNext, IsShortestFrom}
use Rattle.sw_graph.proofs.Chains.{chain_cons, chain_first, chain_flip}

-- after so many members of the way, the last of which is `now`
pub record Going (dep : ℕ → ℕ → Type 0) (start count done : ℕ) (way : List ℕ) (now : ℕ) : Type 0 where
  pub size : suc (length way) ≡ done
  pub low : done ≤ count
  pub begins : slice_index (way ++ now ∷ []) 0 ≡ start
  pub goes : Walks (IsNext dep start) way now
  pub fewest : IsFewest dep now start (suc (count - done))

pub going_first : (dep : ℕ → ℕ → Type 0) (start count : ℕ) → IsFewest dep start start count → Going dep start count 1 [] start
going_first dep start count f = record {
  size = refl;
  low = let some = f.some in omega arith;
  begins = refl;
  goes = tt;
  fewest = let some = f.some in let e : count ≡ suc (count - 1) = omega arith in let P : ℕ → Type 0 = λ n. IsFewest dep start start n in subst P e f;
}

-- two least counts are the same
same_fewest : (dep : ℕ → ℕ → Type 0) (c d m n : ℕ) → IsFewest dep c d (suc m) → IsFewest dep c d (suc n) → m ≡ n
same_fewest dep c d m n f g = let a = f.fewest n g.leads in let b = g.fewest m f.leads in omega arith

module _ (dep : ℕ → ℕ → Type 0) (start count : ℕ) (steps : List (Option ℕ)) (known : AreKnown (λ j d. Chain dep j d start) count steps) (now j : ℕ) (few : suc j ≤ count) (f : IsFewest dep now start (suc j)) where
  -- a number on a shortest way has the count of steps that are left
  pub known_at : (e : ℕ) → dep now e → Chain dep j e start → steps_to steps e ≡ Some j
  known_at e s h =
      let r = known.least e j (omega arith) h in
      let le = f.fewest r.0 (chain_cons dep r.0 now e start s (known.sound e r.0 r.2)) in
      let le2 = r.1 in
      let same : r.0 ≡ j = omega arith in
      r.2 ∙ ap Some same

  pub some_on : (d : ℕ) × dep now d × (steps_to steps d ≡ Some j)
  some_on = let r = chain_first dep j now start f.leads in (r.0, r.1, known_at r.0 r.1 r.2)

  pub next_is : (d : ℕ) → IsLeast (λ e. dep now e × (steps_to steps e ≡ Some j)) d → IsNext dep start now d
  next_is d h = record {
    member = (j, f, h.member.0, known.sound d j h.member.1);
    least = λ e k.
        let same : k.0 ≡ j = same_fewest dep now start k.0 j k.1 f in
        let P : ℕ → Type 0 = λ n. Chain dep n e start in
        h.least e (k.2, known_at e k.2 (subst P same k.3));
  }

  pub fewer : (d : ℕ) → 0 < j → dep now d → steps_to steps d ≡ Some j → IsFewest dep d start j
  fewer d some s at = record {
    some = some;
    leads = known.sound d j at;
    fewest = λ i h. let le = f.fewest (suc i) (chain_cons dep (suc i) now d start s h) in omega arith;
  }

pub going_more : (dep : ℕ → ℕ → Type 0) (start count done : ℕ) (way : List ℕ) (now d : ℕ) (steps : List (Option ℕ)) → AreKnown (λ j e. Chain dep j e start) count steps → done < count → Going dep start count done way now
    → IsLeast (λ e. dep now e × (steps_to steps e ≡ Some (count - done))) d → Going dep start count (done + 1) (way ++ now ∷ []) d
going_more dep start count done way now d steps known lt g h = record {
  size = let a = length-append way (now ∷ []) in let b = g.size in omega arith;
  low = omega arith;
  begins = head_more way now d ∙ g.begins;
  goes = walks_more (IsNext dep start) way now d g.goes (next_is dep start count steps known now (count - done) (let b = g.size in omega arith) g.fewest d h);
  fewest =
      let e : count - done ≡ suc (count - (done + 1)) = omega arith in
      let P : ℕ → Type 0 = λ n. IsFewest dep d start n in
      subst P e (fewer dep start count steps known now (count - done) (let b = g.size in omega arith) g.fewest d (omega arith) h.member.0 h.member.1);
}

pub gone : (dep : ℕ → ℕ → Type 0) (start count done : ℕ) (way : List ℕ) (now : ℕ) → count ≤ done → Going dep start count done way now → IsShortestFrom dep start count (way ++ now ∷ [])
gone dep start count done way now past g =
    let low = g.low in
    let z : count - done ≡ 0 = omega arith in
    let P : ℕ → Type 0 = λ n. IsFewest dep now start (suc n) in
    let f : IsFewest dep now start 1 = subst P z g.fewest in
    let r = chain_first dep 0 now start f.leads in
    let Q : ℕ → Type 0 = λ x. dep now x in
    let s : dep now start = subst Q r.2 r.1 in
    record {
      size = let a = length-append way (now ∷ []) in let b = g.size in omega arith;
      begins = g.begins;
      goes = walks_more (IsNext dep start) way now start g.goes (record {
        member = (0, f, s, refl);
        least = λ e k.
            let same : k.0 ≡ 0 = same_fewest dep now start k.0 0 k.1 f in
            let R : ℕ → Type 0 = λ n. Chain dep n e start in
            let here : e ≡ start = subst R same k.3 in
            omega arith;
      });
    }

-- ---- what a search along the predecessors knows

module _ (g h : List (Vec ℕ Global)) (r : IsReversed g h) where
  pub ahead : (n c d : ℕ) → Chain (Leads h) n c d → Chain (Leads g) n d c
  ahead = chain_flip (Leads h) (Leads g) (λ c d k. (r.each d c).1 k)

  pub behind : (n c d : ℕ) → Chain (Leads g) n c d → Chain (Leads h) n d c
  behind = chain_flip (Leads g) (Leads h) (λ c d k. (r.each c d).0 k)

  pub turned_known : (start count most : ℕ) (steps : List (Option ℕ)) (round : Option ℕ) → IsFewest (Leads g) start start count → count ≤ most → IsSearch (Leads h) start most steps round
      → AreKnown (λ j d. Chain (Leads g) j d start) count steps
  turned_known start zero most steps round f le s = let some = f.some in absurd (omega arith)
  turned_known start (suc k) most steps None f le s = absurd (s k (omega arith) (behind (suc k) start start f.leads))
  turned_known start (suc k) most steps (Some zero) f le s = let some = s.1.some in absurd (omega arith)
  turned_known start (suc k) most steps (Some (suc n)) f le s =
      let a = f.fewest n (ahead (suc n) start start s.1.leads) in
      let b = s.1.fewest k (behind (suc k) start start f.leads) in
      record {
        sound = λ d j e. ahead j start d (s.2.sound d j e);
        least = λ d i lt c. s.2.least d i (omega arith) (behind i d start c);
      }
