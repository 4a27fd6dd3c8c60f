-- As many replies go to each node, whatever the run.
use Rattle.std.proofs.Common.{Bool, List, Some, [], ap, arith, cond, count_by, eq-eqb, eqb-true, false, nat_eq, nat_lt, ne_eqb, refl, suc, sym, true, zero, ℕ, ◌+◌, ◌<◌, ◌∙◌, ◌∷◌, ◌≡◌, ◌≤◌, ◌⊎◌, inl, inr}
use Rattle.std.proofs.lemmas.Bool.{cases_eq, cases_lt, le-leb, and_parts}
use Rattle.std.proofs.lemmas.Bool.Decides.{nat_tests}
use Rattle.std.proofs.lemmas.Slice.Eq.{bytes_eq-Decides}
use Rattle.std.specs.Prelude.{bytes_eq, slice_get, ◌&&◌, ◌||◌}
use Rattle.sw_machine.proofs.Balance.{count_cons}
use Rattle.sw_machine.specs.Begun.{Begun, is_reply_at}
use Rattle.sw_machine.specs.Certificate.{Certificate, IsAccepted}
use Rattle.sw_machine.specs.Network.{IsNetwork, Network}
use Rattle.sw_run.proofs.SameWays.{same_end}
use Rattle.sw_run.specs.Laws.{IsOfReplies}

-- ---- counts by keys

abbrev pub Each : {X : Type 0} → (X → Type 0) → List X → Type 0
Each {X} P xs = (k : ℕ) (x : X) → slice_get xs k ≡ Some x → P x

one_same : {X : Type 0} (p q : X → Bool) (x : X) → p x ≡ q x → count_by p (x ∷ []) ≡ count_by q (x ∷ [])
one_same p q x e = ap (λ (b : Bool). 0 + cond b 1 0) e

pub count_same : {X : Type 0} (p q : X → Bool) (xs : List X) → Each (λ x. p x ≡ q x) xs → count_by p xs ≡ count_by q xs
count_same p q [] same = refl
count_same p q (x ∷ xs) same =
    let first = one_same p q x (same 0 x refl) in
    let rest = count_same p q xs (λ k y at. same (suc k) y at) in
    let a = count_cons p x xs in
    let b = count_cons q x xs in
    omega arith

is_lt : (a b : ℕ) → a < b → nat_lt a b ≡ true
is_lt a b lt = le-leb (suc a) b (omega arith)

not_lt : (a b : ℕ) → b ≤ a → nat_lt a b ≡ false
not_lt a b le = grind (arith, nat_tests)

module _ {X : Type 0} (key : X → ℕ) (p : X → Bool) where
  abbrev below : ℕ → X → Bool
  below n x = nat_lt (key x) n && p x

  abbrev at : ℕ → X → Bool
  at n x = nat_eq (key x) n && p x

  split_one : (a b e q : Bool) → ((a ≡ true) × (b ≡ true) × (e ≡ false)) ⊎ (((a ≡ true) × (b ≡ false) × (e ≡ true)) ⊎ ((a ≡ false) × (b ≡ false) × (e ≡ false)))
      → 0 + cond (a && q) 1 0 ≡ (0 + cond (b && q) 1 0) + (0 + cond (e && q) 1 0)
  split_one a b e true (inl h) = rw (h.0, h.1, h.2) refl
  split_one a b e true (inr (inl h)) = rw (h.0, h.1, h.2) refl
  split_one a b e true (inr (inr h)) = rw (h.0, h.1, h.2) refl
  split_one a b e false (inl h) = rw (h.0, h.1, h.2) refl
  split_one a b e false (inr (inl h)) = rw (h.0, h.1, h.2) refl
  split_one a b e false (inr (inr h)) = rw (h.0, h.1, h.2) refl

  kinds : (k n : ℕ) → ((nat_lt k (suc n) ≡ true) × (nat_lt k n ≡ true) × (nat_eq k n ≡ false))
      ⊎ (((nat_lt k (suc n) ≡ true) × (nat_lt k n ≡ false) × (nat_eq k n ≡ true)) ⊎ ((nat_lt k (suc n) ≡ false) × (nat_lt k n ≡ false) × (nat_eq k n ≡ false)))
  kinds k n = elim (cases_lt k n) [
    | inl lt ↦ inl (is_lt k (suc n) (omega arith), is_lt k n lt, ne_eqb k n (λ e. omega arith))
    | inr ge ↦ elim (cases_eq k n) [
      | inl same ↦ inr (inl (is_lt k (suc n) (omega arith), not_lt k n ge, eq-eqb k n same))
      | inr ne ↦ inr (inr (not_lt k (suc n) (let other : n < k = elim (cases_lt n k) [ inl lt ↦ lt | inr le ↦ absurd (ne (omega arith)) ] in omega arith), not_lt k n ge, ne_eqb k n ne))
    ]
  ]

  split : (n : ℕ) (xs : List X) → count_by (below (suc n)) xs ≡ count_by (below n) xs + count_by (at n) xs
  split n [] = refl
  split n (x ∷ xs) =
      let first : count_by (below (suc n)) (x ∷ []) ≡ count_by (below n) (x ∷ []) + count_by (at n) (x ∷ []) =
      split_one (nat_lt (key x) (suc n)) (nat_lt (key x) n) (nat_eq (key x) n) (p x) (kinds (key x) n) in
      let rest = split n xs in
      let a = count_cons (below (suc n)) x xs in
      let b = count_cons (below n) x xs in
      let c = count_cons (at n) x xs in
      omega arith

  none_below : (xs : List X) → count_by (below 0) xs ≡ 0
  none_below [] = refl
  none_below (x ∷ xs) =
      let first : count_by (below 0) (x ∷ []) ≡ 0 = ap (λ (b : Bool). 0 + cond (b && p x) 1 0) (not_lt (key x) 0 (omega arith)) in
      let rest = none_below xs in
      let a = count_cons (below 0) x xs in
      omega arith

  alike : (n : ℕ) (xs ys : List X) → ((k : ℕ) → k < n → count_by (at k) xs ≡ count_by (at k) ys) → count_by (below n) xs ≡ count_by (below n) ys
  alike zero xs ys same = none_below xs ∙ sym (none_below ys)
  alike (suc n) xs ys same =
      let rest = alike n xs ys (λ k lt. same k (omega arith)) in
      let last = same n (omega arith) in
      let a = split n xs in
      let b = split n ys in
      omega arith

  all_below : (n : ℕ) (xs : List X) → Each (λ x. key x < n) xs → count_by p xs ≡ count_by (below n) xs
  all_below n xs within = count_same p (below n) xs (λ k x at. ap (λ (b : Bool). b && p x) (sym (is_lt (key x) n (within k x at))))

  -- lists with as many elements for each key
  pub by_keys : (n : ℕ) (xs ys : List X) → Each (λ x. key x < n) xs → Each (λ x. key x < n) ys → ((k : ℕ) → k < n → count_by (at k) xs ≡ count_by (at k) ys) → count_by p xs ≡ count_by p ys
  by_keys n xs ys in_xs in_ys same = all_below n xs in_xs ∙ alike n xs ys same ∙ sym (all_below n ys in_ys)

-- ---- where an address leads from node n

or_true : (a b : Bool) → b ≡ true → (a || b) ≡ true
or_true true b e = refl
or_true false b e = e

never_true : (a : Bool) → (a ≡ true → ⊥) → a ≡ false
never_true true never = absurd (never refl)
never_true false never = refl

module _ (net : Network) (n m : ℕ) where
  abbrev from_of : Begun → ℕ
  from_of b = (net.flow b.flow).from

  abbrev to_of : Begun → ℕ
  to_of b = (net.flow b.flow).to

  abbrev address_of : Begun → List ℕ
  address_of b = (net.flow b.flow).address

  abbrev hits : List ℕ → Begun → Bool
  hits a b = nat_eq (from_of b) n && (bytes_eq (address_of b) a && nat_eq (to_of b) m)

  abbrev found : List Begun → List ℕ → Bool
  found [] a = false
  found (b ∷ bs) a = hits a b || found bs a

  found_true : (bs : List Begun) (a : List ℕ) (k : ℕ) (b : Begun) → slice_get bs k ≡ Some b → hits a b ≡ true → found bs a ≡ true
  found_true [] a k b is hit = absurd cc
  found_true (c ∷ bs) a zero b is hit = let same : c ≡ b = cc in ap (λ (t : Bool). t || found bs a) (ap (hits a) same ∙ hit)
  found_true (c ∷ bs) a (suc k) b is hit = or_true (hits a c) (found bs a) (found_true bs a k b is hit)

  found_false : (bs : List Begun) (a : List ℕ) → Each (λ b. hits a b ≡ false) bs → found bs a ≡ false
  found_false [] a none = refl
  found_false (b ∷ bs) a none = ap (λ (t : Bool). t || found bs a) (none 0 b refl) ∙ found_false bs a (λ k c is. none (suc k) c is)

  abbrev Agrees : Begun → Begun → Type 0
  Agrees x b = from_of x ≡ from_of b → address_of x ≡ address_of b → to_of x ≡ to_of b

  no_hit : (x b : Begun) → from_of x ≡ n → (to_of x ≡ m → ⊥) → Agrees x b → hits (address_of x) b ≡ false
  no_hit x b from other agrees = never_true (hits (address_of x) b) (λ hit.
      let one = and_parts (nat_eq (from_of b) n) (bytes_eq (address_of b) (address_of x) && nat_eq (to_of b) m) hit in
      let two = and_parts (bytes_eq (address_of b) (address_of x)) (nat_eq (to_of b) m) one.1 in
      let starts : from_of b ≡ n = eqb-true (from_of b) n one.0 in
      let address : address_of b ≡ address_of x = (bytes_eq-Decides (address_of b) (address_of x)).0 two.0 in
      let ends : to_of b ≡ m = eqb-true (to_of b) m two.1 in
      other (agrees (from ∙ sym starts) (sym address) ∙ ends))

  own_hit : (x : Begun) → from_of x ≡ n → to_of x ≡ m → hits (address_of x) x ≡ true
  own_hit x from to =
      let a = eq-eqb (from_of x) n from in
      let b = (bytes_eq-Decides (address_of x) (address_of x)).1 refl in
      let c = eq-eqb (to_of x) m to in
      λ i. a i && (b i && c i)

  abbrev test : List Begun → List Begun → List ℕ → Bool
  test xs ys a = found xs a || found ys a

  abbrev IsIn : Begun → List Begun → Type 0
  IsIn x xs = (k : ℕ) × (slice_get xs k ≡ Some x)

  tells : (xs ys : List Begun) (x : Begun) → from_of x ≡ n → Each (Agrees x) xs → Each (Agrees x) ys → IsIn x xs ⊎ IsIn x ys → test xs ys (address_of x) ≡ nat_eq (to_of x) m
  tells xs ys x from in_xs in_ys is = elim (cases_eq (to_of x) m) [
    | inl to ↦ hit_in is (own_hit x from to) ∙ sym (eq-eqb (to_of x) m to)
    | inr other ↦
        let a = found_false xs (address_of x) (λ k b at. no_hit x b from other (in_xs k b at)) in
        let b = found_false ys (address_of x) (λ k b at. no_hit x b from other (in_ys k b at)) in
        (λ i. a i || b i) ∙ sym (ne_eqb (to_of x) m other)
  ]
    where
      hit_in : IsIn x xs ⊎ IsIn x ys → hits (address_of x) x ≡ true → test xs ys (address_of x) ≡ true
      hit_in (inl at) hit = ap (λ (t : Bool). t || found ys (address_of x)) (found_true xs (address_of x) at.0 x at.1 hit)
      hit_in (inr at) hit = or_true (found xs (address_of x)) (found ys (address_of x)) (found_true ys (address_of x) at.0 x at.1 hit)

  -- a reply of node n that goes to node m
  reply_to_is : (xs ys : List Begun) (x : Begun) → net.declared_flows ≤ x.flow → Each (Agrees x) xs → Each (Agrees x) ys → IsIn x xs ⊎ IsIn x ys
      → (nat_eq (from_of x) n && nat_eq (to_of x) m) ≡ is_reply_at net n (test xs ys) x
  reply_to_is xs ys x reply in_xs in_ys is = elim (cases_eq (from_of x) n) [
    | inl from ↦
        let a = le-leb net.declared_flows x.flow reply in
        let t = tells xs ys x from in_xs in_ys is in
        λ i. sym a i && (nat_eq (from_of x) n && sym t i)
    | inr other ↦
        let apart = ne_eqb (from_of x) n other in
        let a = le-leb net.declared_flows x.flow reply in
        ap (λ (b : Bool). b && nat_eq (to_of x) m) apart ∙ sym (λ i. a i && (apart i && test xs ys (address_of x)))
  ]

-- ---- replies of two runs

module _ (net : Network) (cert : Certificate) (ok : IsNetwork net) (acc : IsAccepted net cert) (xs ys : List Begun) (in_xs : Each (λ b. IsOfReplies net b.flow) xs) (in_ys : Each (λ b. IsOfReplies net b.flow) ys)
    (same : (n : ℕ) → n < net.nodes → (test : List ℕ → Bool) → count_by (is_reply_at net n test) xs ≡ count_by (is_reply_at net n test) ys) (m : ℕ) where
  agree : (x b : Begun) → IsOfReplies net x.flow → IsOfReplies net b.flow → Agrees net 0 m x b
  agree x b p q from address = same_end net cert acc x.flow b.flow p.in_flows q.in_flows address from

  abbrev to_m : Begun → Bool
  to_m b = nat_eq (net.flow b.flow).to m

  at_node : (n : ℕ) → n < net.nodes → count_by (λ b. nat_eq (net.flow b.flow).from n && to_m b) xs ≡ count_by (λ b. nat_eq (net.flow b.flow).from n && to_m b) ys
  at_node n lt =
      let t = test net n m xs ys in
      let a = count_same (λ b. nat_eq (net.flow b.flow).from n && to_m b) (is_reply_at net n t) xs (λ k x at.
      let is = in_xs k x at in
      reply_to_is net n m xs ys x is.after_declared (λ j b there. agree x b is (in_xs j b there)) (λ j b there. agree x b is (in_ys j b there)) (inl (k, at))) in
      let b = count_same (λ b. nat_eq (net.flow b.flow).from n && to_m b) (is_reply_at net n t) ys (λ k x at.
      let is = in_ys k x at in
      reply_to_is net n m xs ys x is.after_declared (λ j b there. agree x b is (in_xs j b there)) (λ j b there. agree x b is (in_ys j b there)) (inr (k, at))) in
      a ∙ same n lt t ∙ sym b

  -- as many of them go to node m
  pub as_many : count_by to_m xs ≡ count_by to_m ys
  as_many =
      let within : (b : Begun) → IsOfReplies net b.flow → (net.flow b.flow).from < net.nodes = λ b is. (ok.flow_ends b.flow is.in_flows).0 in
      by_keys (λ b. (net.flow b.flow).from) to_m net.nodes xs ys (λ k x at. within x (in_xs k x at)) (λ k x at. within x (in_ys k x at)) at_node
