-- Components, as they are found.
use Rattle.std.proofs.Common.{◌≡◌, ℕ, zero, suc, ◌+◌, ◌-◌, ◌<◌, ◌≤◌, List, [], ◌∷◌, ◌++◌, length, get_or, take, refl, sym, ap, ◌∙◌, subst, inl, inr, arith, All, Bool, true, false}
use Rattle.std.specs.Prelude.{Contains, AllPairs, ◌≢◌, Vec, slice_index}
use Rattle.std.specs.declared.alloc.Global.{Global}
use Rattle.std.specs.List.{list_any}
use Rattle.std.proofs.lemmas.Bool.{cases_eq, cases_lt, false≢true}
use Rattle.std.proofs.lemmas.List.Elements.{All-contains, All-contains_itself, All-push, Contains-append_left, Contains-get_or, Contains-push}
use Rattle.std.proofs.lemmas.List.Folds.{Any-from_list_any, list_any_at}
use Rattle.std.proofs.lemmas.List.{get_or_default, take_all}
use Rattle.std.proofs.lemmas.List.Kept.{AllPairs-from_increasing}
use Rattle.std.proofs.lemmas.List.Quantifiers.{all_pairs_push}
use Rattle.sw_graph.specs.Cycles.{IsLeast, Walks}
use Rattle.sw_graph.specs.Laws.{IsAmong, IsChain, IsCycle}
use Rattle.sw_graph.specs.Levels.{Chain}
use Rattle.sw_graph.specs.Reached.{IsListing, Reached}
use Rattle.sw_graph.specs.Rows.{IsGraph, IsReversed, Leads, row}
use Rattle.sw_graph.specs.Walks.{holds}
use Rattle.sw_graph.proofs.Listed.{lead_inside, row_member}
use Rattle.sw_graph.proofs.Numbers.{Contains-from_holds}
use Rattle.sw_graph.proofs.Pigeons.{chain_join}
use Rattle.sw_graph.specs.declared.shortest_cycle.KnownCycle.{KnownCycle}
use Rattle.sw_graph.specs.declared.component.Component.{Component}
use Rattle.sw_graph.specs.Bests.{IsBest}
use Rattle.sw_graph.specs.Components.{AreComponents, AreComponentsBelow, AreTogether, IsComponent, LeadsTo}
use Rattle.sw_graph.specs.Searches.{NoRound}
use Rattle.sw_graph.specs.Shortest.{IsFewest, IsNext, IsShortestFrom}
use Rattle.sw_graph.proofs.Adding.{at_contains}
use Rattle.sw_graph.proofs.Chains.{chain_cons, chain_first, chain_reached, reached_chain, shortened}
use Rattle.sw_graph.proofs.Going.{ahead, behind}
use Rattle.sw_graph.proofs.Marked.{holds-from_Contains}

module _ (dep : ℕ → ℕ → Type 0) where
  leads_on : (b c d : ℕ) → LeadsTo dep b c → LeadsTo dep c d → LeadsTo dep b d
  leads_on b c d h k = (h.0 + suc k.0, chain_join dep (suc h.0) (suc k.0) b c d h.1 k.1 (suc (h.0 + suc k.0)) (omega arith))

  pub together_back : (c d : ℕ) → AreTogether dep c d → AreTogether dep d c
  together_back c d h = (h.1, h.0)

  pub together_on : (b c d : ℕ) → AreTogether dep b c → AreTogether dep c d → AreTogether dep b d
  together_on b c d h k = (leads_on b c d h.0 k.0, leads_on d c b k.1 h.1)

  -- ---- the cycle

  is_chain : (c : ℕ) (cs : List ℕ) (start : ℕ) → Walks (IsNext dep start) (c ∷ cs) start → (end : ℕ) → start ≡ end → IsChain dep c cs end
  is_chain c [] start w end e = let P : ℕ → Type 0 = λ x. dep c x in subst P e w.member.2
  is_chain c (d ∷ cs) start w end e = (w.0.member.2, is_chain d cs start w.1 end e)

  pub is_cycle : (start : ℕ) (cycle : List ℕ) → 0 < length cycle → slice_index cycle 0 ≡ start → Walks (IsNext dep start) cycle start → IsCycle dep cycle
  is_cycle start [] some begins w = omega arith
  is_cycle start (c ∷ cs) some begins w = is_chain c cs start w c (sym begins)

  chain_to : (c : ℕ) (cs : List ℕ) (start : ℕ) → Walks (IsNext dep start) (c ∷ cs) start → (k : ℕ) → k < suc (length cs) → Chain dep k c (slice_index (c ∷ cs) k)
  chain_to c cs start w zero lt = refl
  chain_to c [] start w (suc k) lt = absurd (omega arith)
  chain_to c (d ∷ cs) start w (suc k) lt = chain_cons dep k c d (slice_index (d ∷ cs) k) w.0.member.2 (chain_to d cs start w.1 k (omega arith))

  chain_back : (c : ℕ) (cs : List ℕ) (start : ℕ) → Walks (IsNext dep start) (c ∷ cs) start → Chain dep (suc (length cs)) c start
  chain_back c [] start w = (c, refl, w.member.2)
  chain_back c (d ∷ cs) start w = chain_cons dep (suc (length cs)) c d start w.0.member.2 (chain_back d cs start w.1)

  chain_from : (c : ℕ) (cs : List ℕ) (start : ℕ) → Walks (IsNext dep start) (c ∷ cs) start → (k n : ℕ) → k + n ≡ suc (length cs) → 0 < n → Chain dep n (slice_index (c ∷ cs) k) start
  chain_from c cs start w zero n e some = let P : ℕ → Type 0 = λ x. Chain dep x c start in let s : suc (length cs) ≡ n = omega arith in subst P s (chain_back c cs start w)
  chain_from c [] start w (suc k) n e some = absurd (omega arith)
  chain_from c (d ∷ cs) start w (suc k) n e some = chain_from d cs start w.1 k n (omega arith) some

  -- no member of a shortest cycle comes twice
  pub comes_once : (start : ℕ) (cycle : List ℕ) → slice_index cycle 0 ≡ start → Walks (IsNext dep start) cycle start → IsFewest dep start start (length cycle) → AllPairs (λ c d. c ≢ d) cycle
  comes_once start [] begins w f = λ i j x less lt. absurd (omega arith)
  comes_once start (c ∷ cs) begins w f = λ i j x less lt same.
      let size : j < suc (length cs) = lt in
      let n : ℕ = suc (length cs) - j in
      let k : ℕ = i + n - 1 in
      let e : c ≡ start = begins in
      let P : ℕ → Type 0 = λ y. Chain dep i y (slice_index (c ∷ cs) i) in
      let Q : ℕ → Type 0 = λ y. Chain dep n y start in
      let to : Chain dep i start (slice_index (c ∷ cs) i) = subst P e (chain_to c cs start w i (omega arith)) in
      let met : slice_index (c ∷ cs) j ≡ slice_index (c ∷ cs) i = sym (at i j x less lt same) in
      let back : Chain dep n (slice_index (c ∷ cs) i) start = subst Q met (chain_from c cs start w j n (omega arith) (omega arith)) in
      let le = f.fewest k (chain_join dep i n start (slice_index (c ∷ cs) i) start to back (suc k) (omega arith)) in
      omega arith
    where
      at : (i j x : ℕ) → i < j → j < length (c ∷ cs) → get_or (c ∷ cs) i x ≡ get_or (c ∷ cs) j x → slice_index (c ∷ cs) i ≡ slice_index (c ∷ cs) j
      at i j x less lt same = get_or_default (c ∷ cs) i 0 x (omega arith) ∙ same ∙ get_or_default (c ∷ cs) j x 0 lt

  -- ---- a component

  pub is_component : (c : ℕ) (component : Component) (best : KnownCycle) → LeadsTo dep c c → IsListing (AreTogether dep c) component.members.items → IsBest dep component.members.items best → IsShortestFrom dep best.start best.length component.cycle.items → IsComponent dep component
  is_component c component best on l b s =
      let x : ℕ = slice_index component.cycle.items 0 in
      let here : x ≡ best.start = s.begins in
      let size : length component.cycle.items ≡ best.length = s.size in
      let some = b.fewest.some in
      let P : ℕ → Type 0 = λ y. AreTogether dep c y in
      let first : AreTogether dep c x = subst P (sym here) ((l.member best.start).0 b.member) in
      let fewest : IsFewest dep x x (length component.cycle.items) =
      let Q : ℕ → Type 0 = λ y. IsFewest dep y y (length component.cycle.items) in
      let R : ℕ → Type 0 = λ n. IsFewest dep best.start best.start n in
      subst Q (sym here) (subst R (sym size) b.fewest) in
      let goes : Walks (IsNext dep x) component.cycle.items x = let Q : ℕ → Type 0 = λ y. Walks (IsNext dep y) component.cycle.items y in subst Q (sym here) s.goes in
      let member : (d : ℕ) → AreTogether dep x d → Contains component.members.items d = λ d t. (l.member d).1 (together_on c x d first t) in
      record {
        members = record {
          rising = l.rising;
          member = λ d. (λ m. together_on x c d (together_back c x first) ((l.member d).0 m), member d);
        };
        shortest = record {
          closed = is_cycle x component.cycle.items (omega arith) refl goes;
          once = comes_once x component.cycle.items refl goes fewest;
          shortest = λ d n t k. let le = b.shortest d n (member d t) k in omega arith;
          first = λ d t k. let R : ℕ → Type 0 = λ n. Chain dep n d d in let le = b.least d (member d t) (subst R size k) in omega arith;
          goes = goes;
        };
      }

  -- ---- the components of the first c numbers

  abbrev has_member : ℕ → Component → Bool
  has_member c component = holds component.members.items c

  abbrev pub Below : ℕ → List Component → Type 0
  Below = AreComponentsBelow dep

  pub components_none : Below 0 []
  components_none = record {
    each = λ k d lt. absurd (omega arith);
    every = λ d lt h. absurd (omega arith);
    apart = λ i j d less lt. absurd (omega arith);
    rising = λ i j d less lt. absurd (omega arith);
    low = λ k d lt. absurd (omega arith);
  }

  shared : (p : Component) (c d : ℕ) → IsComponent dep p → Contains p.members.items d → AreTogether dep c d → Contains p.members.items c
  shared p c d h m t = let x : ℕ = slice_index p.cycle.items 0 in (h.members.member c).1 (together_on x d c ((h.members.member d).0 m) (together_back c d t))

  module _ (c : ℕ) (components : List Component) (s : Below c components) where
    one_more : (Q : ℕ → Type 0) → ((d : ℕ) → d < c → Q d) → Q c → (d : ℕ) → d < c + 1 → Q d
    one_more Q old here d lt = elim (cases_lt d c) [ inl less ↦ old d less | inr past ↦ (let e : c ≡ d = omega arith in subst Q e here) ]

    low_more : All (λ p. slice_index p.members.items 0 < c + 1) components
    low_more = λ k d lt. let a = s.low k d lt in omega arith

    pub components_taken : list_any (has_member c) components ≡ true → Below (c + 1) components
    components_taken e =
        let a = Any-from_list_any (has_member c) components e in
        record {
          each = s.each;
          every = one_more (λ d. LeadsTo dep d d → (component : Component) × Contains components component × Contains component.members.items d) s.every (λ h. (a.1, (a.0, a.2, a.3), Contains-from_holds a.1.members.items c a.4));
          apart = s.apart;
          rising = s.rising;
          low = low_more;
        }

    pub components_free : (LeadsTo dep c c → ⊥) → Below (c + 1) components
    components_free none = record {
      each = s.each;
      every = one_more (λ d. LeadsTo dep d d → (component : Component) × Contains components component × Contains component.members.items d) s.every (λ h. absurd (none h));
      apart = s.apart;
      rising = s.rising;
      low = low_more;
    }

    not_in : list_any (has_member c) components ≡ false → (k : ℕ) (d : Component) → k < length components → Contains (get_or components k d).members.items c → ⊥
    not_in e k d lt m = false≢true (sym e ∙ list_any_at (has_member c) components k d lt (holds-from_Contains (get_or components k d).members.items c m))

    -- no lesser number is in the component of c
    pub least_of : list_any (has_member c) components ≡ false → LeadsTo dep c c → IsLeast (AreTogether dep c) c
    least_of e on = record {
      member = (on, on);
      least = λ d t. elim (cases_lt d c) [
        | inl less ↦
            let r = s.every d less (leads_on d c d t.1 t.0) in
            let k : ℕ = r.1.0 in
            let lt : k < length components = r.1.1 in
            let P : Component → Type 0 = λ p. Contains p.members.items c in
            absurd (not_in e k r.0 lt (subst P (sym r.1.2) (shared r.0 c d (All-contains (IsComponent dep) components r.0 s.each r.1) r.2 t)))
        | inr past ↦ past
      ];
    }

    pub components_more : (component : Component) → list_any (has_member c) components ≡ false → IsComponent dep component → Contains component.members.items c → slice_index component.members.items 0 ≡ c → Below (c + 1) (components ++ component ∷ [])
    components_more component e h m begins = record {
      each = All-push (IsComponent dep) components component s.each h;
      every = one_more (λ d. LeadsTo dep d d → (p : Component) × Contains (components ++ component ∷ []) p × Contains p.members.items d) (λ d less on. let r = s.every d less on in (r.0, Contains-append_left components (component ∷ []) r.0 r.1, r.2)) (λ on. (component, Contains-push components component, m));
      apart = all_pairs_push (λ p q. (x : ℕ) → Contains p.members.items x → Contains q.members.items x → ⊥) components component s.apart (λ k d lt x old new.
          let y : ℕ = slice_index component.cycle.items 0 in
          let t = together_on c y x (together_back y c ((h.members.member c).0 m)) ((h.members.member x).0 new) in
          not_in e k d lt (shared (get_or components k d) c x (s.each k d lt) old t));
      rising = all_pairs_push (λ p q. slice_index p.members.items 0 < slice_index q.members.items 0) components component s.rising (λ k d lt. let a = s.low k d lt in omega arith);
      low = All-push (λ p. slice_index p.members.items 0 < c + 1) components component low_more (omega arith);
    }

    pub are_components : ((d : ℕ) → LeadsTo dep d d → d < c) → AreComponents dep components
    are_components inside = record { each = s.each; every = λ d on. s.every d (inside d on) on; apart = s.apart; rising = s.rising }

  pub no_round : (count c : ℕ) → IsAmong dep count → NoRound dep c count → LeadsTo dep c c → ⊥
  no_round count c among none h = let r = shortened dep count among h.0 h.0 c (omega arith) h.1 in none r.0 r.1 r.2

-- ---- members, by what is reached both ways

module _ (g h : List (Vec ℕ Global)) (r : IsReversed g h) where
  abbrev Both : ℕ → ℕ → Type 0
  Both c d = Reached (row g) c d × Reached (row h) c d

  pub both_together : (c d : ℕ) → LeadsTo (Leads g) c c → Both c d → AreTogether (Leads g) c d
  both_together c d on k =
      let a = reached_chain g c d k.0 in
      let b = reached_chain h c d k.1 in (
        (on.0 + a.0, chain_join (Leads g) (suc on.0) a.0 c c d on.1 a.1 (suc (on.0 + a.0)) (omega arith)),
        (on.0 + b.0, chain_join (Leads g) b.0 (suc on.0) d c c (ahead g h r b.0 c d b.1) on.1 (suc (on.0 + b.0)) (omega arith)),
      )

  pub together_both : (c d : ℕ) → AreTogether (Leads g) c d → Both c d
  together_both c d t = (chain_reached g (suc t.0.0) c d t.0.1, chain_reached h (suc t.1.0) c d (behind g h r (suc t.1.0) d c t.1.1))

  pub together_listing : (c : ℕ) (members : List ℕ) → LeadsTo (Leads g) c c → IsListing (Both c) members → IsListing (AreTogether (Leads g) c) members
  together_listing c members on l = record {
    rising = l.rising;
    member = λ d. (λ m. both_together c d on ((l.member d).0 m), λ t. (l.member d).1 (together_both c d t));
  }

-- the least of the listed numbers stands first
pub stands_first : (P : ℕ → Type 0) (members : List ℕ) (c : ℕ) → IsListing P members → IsLeast P c → (0 < length members) × (slice_index members 0 ≡ c)
stands_first P members c l h =
    let m = (l.member c).1 h.member in
    let lt : m.0 < length members = m.1 in
    let here : slice_index members m.0 ≡ c = at_contains members c m in
    let le = h.least (slice_index members 0) ((l.member (slice_index members 0)).0 (Contains-get_or members 0 0 (omega arith))) in
    let up : slice_index members 0 ≤ slice_index members m.0 = elim (cases_eq m.0 0) [
      | inl z ↦ (let s : slice_index members m.0 ≡ slice_index members 0 = ap (slice_index members) z in omega arith)
      | inr ne ↦ (let s : slice_index members 0 < slice_index members m.0 = AllPairs-from_increasing members l.rising 0 m.0 0 (omega arith) lt in omega arith)
    ] in
    (omega arith, omega arith)

pub leads_of : (dep : ℕ → ℕ → Type 0) (c d n : ℕ) → IsFewest dep c d n → LeadsTo dep c d
leads_of dep c d zero f = let some = f.some in absurd (omega arith)
leads_of dep c d (suc n) f = (n, f.leads)

-- members of a component are numbers of the relation
pub listed_inside : (rows : List (Vec ℕ Global)) (c : ℕ) (members : List ℕ) → IsListing (AreTogether (Leads rows) c) members → All (λ d. d < length rows) members
listed_inside rows c members l = λ k d lt.
    let x : ℕ = get_or members k d in
    let t = (l.member x).0 (All-contains_itself members k d lt) in
    let r = chain_first (Leads rows) t.1.0 x c t.1.1 in
    row_member rows x r.0 r.1

pub among_rows : (rows : List (Vec ℕ Global)) → IsGraph rows → IsAmong (Leads rows) (length rows)
among_rows rows ok c d h = lead_inside rows ok c d h

pub on_inside : (rows : List (Vec ℕ Global)) (c : ℕ) → LeadsTo (Leads rows) c c → c < length rows
on_inside rows c h = let r = chain_first (Leads rows) h.0 c c h.1 in row_member rows c r.0 r.1

-- no component holds-from_Contains the number, after all were looked at
pub untaken : (c : ℕ) (components items : List Component) (i : ℕ) → items ≡ components → length items ≤ i → list_any (λ p. holds p.members.items c) (take i items) ≡ false → list_any (λ p. holds p.members.items c) components ≡ false
untaken c components items i same past none = ap (list_any (λ p. holds p.members.items c)) (sym same ∙ sym (take_all i items past)) ∙ none
