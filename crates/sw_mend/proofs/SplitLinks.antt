-- Which links a target can have of its own, in words.
use Rattle.std.proofs.Common.{◌≡◌, ℕ, zero, suc, ◌+◌, ◌&&◌, Bool, true, false, List, [], ◌∷◌, Contains, Option, Some, None, is_some, option_map, ap, arith, inl, inr, refl, subst, sym, ◌∙◌}
use Rattle.std.specs.Prelude.{option_and_then, slice_get, if◌then◌else◌}
use Rattle.std.specs.Option.{option_to_list}
use Rattle.std.proofs.lemmas.Bool.{and_parts}
use Rattle.std.proofs.lemmas.List.Elements.{Contains-append_cases, Contains-append_left, Contains-append_right}
use Rattle.std.proofs.lemmas.Option.{none-some, option_and_then_some, same_Some}
use Rattle.sw_topo.specs.declared.place.PlaceEnd.{PlaceEnd}
use Rattle.sw_topo.specs.declared.place.PlaceEnd.TheVariants.{Node, Switch}
use Rattle.sw_topo.specs.Wiring.{out, partner}
use Rattle.sw_topo.specs.Checked.{first_below}
use Rattle.sw_topo.proofs.Lists.{none_in}
use Rattle.sw_config.specs.Entries.{NodeEntry, Declaration, is_answering, link_ends}
use Rattle.sw_flow.specs.Places.{ends_of, end_of}
use Rattle.sw_flow.proofs.Listed.{Contains-cases}
use Rattle.sw_mend.specs.Changes.{by_number}
use Rattle.sw_mend.specs.Splits.{buffer_of, free_port_below, is_free_port, link_beside, own_links, splits, target_link}
use Rattle.sw_mend.specs.declared.change.TargetLink.{TargetLink}

-- ---- what is made of elements by their numbers

-- it is made of some element
pub record IsMade {A B : Type 0} (make : ℕ → A → List B) (n : ℕ) (xs : List A) (y : B) : Type 0 where
  pub place : ℕ
  pub element : A
  pub at : slice_get xs place ≡ Some element
  pub made : Contains (make (n + place) element) y

pub made_of : {A B : Type 0} (make : ℕ → A → List B) (n : ℕ) (xs : List A) (y : B) → Contains (by_number make n xs) y → IsMade make n xs y
made_of make n [] y here = absurd (none_in y here)
made_of make n (x ∷ xs) y here =
    elim (Contains-append_cases (make n x) (by_number make (n + 1) xs) y here) [
      | inl first ↦
          let e : n ≡ n + 0 = omega arith in
          record { place = 0; element = x; at = refl; made = subst (λ k. Contains (make k x) y) e first }
      | inr later ↦
          let rest = made_of make (n + 1) xs y later in
          let e : n + 1 + rest.place ≡ n + suc rest.place = omega arith in
          record { place = suc rest.place; element = rest.element; at = rest.at; made = subst (λ k. Contains (make k rest.element) y) e rest.made }
    ]

pub made_in : {A B : Type 0} (make : ℕ → A → List B) (n : ℕ) (xs : List A) (y : B) (i : ℕ) (x : A) → slice_get xs i ≡ Some x → Contains (make (n + i) x) y → Contains (by_number make n xs) y
made_in make n [] y i x at made = absurd cc
made_in make n (z ∷ xs) y zero x at made =
    let e : n + 0 ≡ n = omega arith in
    let same : x ≡ z = sym (same_Some z x at) in
    Contains-append_left (make n z) (by_number make (n + 1) xs) y (subst (λ k. Contains (make k z) y) e (subst (λ w. Contains (make (n + 0) w) y) same made))
made_in make n (z ∷ xs) y (suc i) x at made =
    let e : n + suc i ≡ n + 1 + i = omega arith in
    Contains-append_right (make n z) (by_number make (n + 1) xs) y (made_in make (n + 1) xs y i x at (subst (λ k. Contains (make k x) y) e made))

-- ---- lists of one or none

in_if : {A : Type 0} (b : Bool) (xs : List A) (y : A) → Contains (if b then xs else []) y → (b ≡ true) × Contains xs y
in_if true xs y here = (refl, here)
in_if false xs y here = absurd (none_in y here)

in_one : {A : Type 0} (o : Option A) (y : A) → Contains (option_to_list o) y → o ≡ Some y
in_one None y here = absurd (none_in y here)
in_one (Some x) y here = elim (Contains-cases x y [] here) [ inl same ↦ ap Some same | inr none ↦ absurd (none_in y none) ]

mapped_some : {A B : Type 0} (f : A → B) (o : Option A) (y : B) → option_map f o ≡ Some y → (x : A) × (o ≡ Some x) × (f x ≡ y)
mapped_some f None y e = absurd (none-some y e)
mapped_some f (Some x) y e = (x, refl, same_Some (f x) y e)

-- ---- a link that is tried

-- what is found out of it: the channel out of its node, and where that leads
pub record IsFound (d : Declaration) (link : TargetLink) : Type 0 where
  pub entry : NodeEntry
  pub at : slice_get d.nodes link.node ≡ Some entry
  pub target : is_some entry.target ≡ true
  pub answers : is_answering d link.node ≡ true
  pub channel : ℕ
  pub starts : out (ends_of d) link.node ≡ Some channel
  pub leads : end_of d channel ≡ Some (Switch link.switch link.beside)
  pub port : first_below (is_free_port (ends_of d) link.switch) 32 ≡ Some link.port
  pub near : buffer_of d.links (partner channel) ≡ link.near
  pub far : buffer_of d.links channel ≡ link.far

module _ (d : Declaration) where
  -- beside the node's link
  record IsBeside (node channel : ℕ) (e : PlaceEnd) (link : TargetLink) : Type 0 where
    is_node : link.node ≡ node
    leads : e ≡ Switch link.switch link.beside
    port : first_below (is_free_port (ends_of d) link.switch) 32 ≡ Some link.port
    near : buffer_of d.links (partner channel) ≡ link.near
    far : buffer_of d.links channel ≡ link.far

  beside : (node channel : ℕ) (e : PlaceEnd) (link : TargetLink) → link_beside d node channel e ≡ Some link → IsBeside node channel e link
  unfolding free_port_below
  beside node channel (Node other) link is = absurd (none-some link is)
  beside node channel (Switch s p) link is =
      let found = mapped_some (λ (q : ℕ). record { node = node; switch = s; beside = p; port = q; near = buffer_of d.links (partner channel); far = buffer_of d.links channel })
      (free_port_below 32 (link_ends d.links) s) link is in
      let same = found.2 in
      record {
        is_node = sym (ap (λ (l : TargetLink). l.node) same);
        leads = ap (λ (l : TargetLink). Switch l.switch l.beside) same;
        port = subst (λ (l : TargetLink). first_below (is_free_port (ends_of d) l.switch) 32 ≡ Some l.port) same found.1;
        near = ap (λ (l : TargetLink). l.near) same;
        far = ap (λ (l : TargetLink). l.far) same;
      }

  found_of : (node : ℕ) (entry : NodeEntry) (link : TargetLink) → slice_get d.nodes node ≡ Some entry → is_some entry.target ≡ true → is_answering d node ≡ true → target_link d node ≡ Some link
      → IsFound d link
  found_of node entry link at target answers is =
      option_and_then_some (λ (c : ℕ). option_and_then (link_beside d node c) (slice_get (link_ends d.links) (partner c))) (out (link_ends d.links) node) link is
      (λ channel starts there. option_and_then_some (link_beside d node channel) (slice_get (link_ends d.links) (partner channel)) link there
      (λ e ends made.
      let b = beside node channel e link made in
      record {
        entry = entry;
        at = ap (slice_get d.nodes) b.is_node ∙ at;
        target = target;
        answers = ap (is_answering d) b.is_node ∙ answers;
        channel = channel;
        starts = ap (out (link_ends d.links)) b.is_node ∙ starts;
        leads = ends ∙ ap Some b.leads;
        port = b.port;
        near = b.near;
        far = b.far;
      }))

  pub found_in : (link : TargetLink) → Contains (splits d) link → IsFound d link
  found_in link here =
      let m = made_of (own_links d) 0 d.nodes link here in
      let e : 0 + m.place ≡ m.place = omega arith in
      let made : Contains (own_links d m.place m.element) link = subst (λ k. Contains (own_links d k m.element) link) e m.made in
      let test = in_if (is_some m.element.target && is_answering d m.place) (option_to_list (target_link d m.place)) link made in
      let both = and_parts (is_some m.element.target) (is_answering d m.place) test.0 in
      found_of m.place m.element link m.at both.0 both.1 (in_one (target_link d m.place) link test.1)
