-- The channels of a network in which a node is split: those that there were, and the own link's.
use Rattle.std.proofs.Common.{◌≡◌, ◌⊎◌, ℕ, ◌+◌, ◌*◌, ◌<◌, ◌&&◌, Bool, false, cond, eqb, List, [], ◌∷◌, ◌++◌, length, Option, Some, None, ap, arith, inl, inr, refl, sym, ◌∙◌, append_assoc, length-append, eq-eqb}
use Rattle.std.specs.Prelude.{position, slice_get, unwrap_or}
use Rattle.std.proofs.lemmas.Bool.{ne_eqb}
use Rattle.std.proofs.lemmas.Option.{none-some, slice_get_within}
use Rattle.sw_topo.specs.declared.place.PlaceEnd.{PlaceEnd}
use Rattle.sw_topo.specs.declared.place.PlaceEnd.TheVariants.{Node, Switch}
use Rattle.sw_topo.specs.Wiring.{is_node, is_port, out, out_of, partner}
use Rattle.sw_topo.specs.Checked.{IsIn, first_of}
use Rattle.sw_topo.proofs.Ends.{node_starts, partner_back, port_found, port_is}
use Rattle.sw_topo.proofs.Lists.{at_front, cond_some, first_of-assoc, in_front}
use Rattle.sw_topo.proofs.Positions.{position_push}
use Rattle.sw_config.specs.Entries.{Declaration, wiring_of}
use Rattle.sw_config.specs.Valid.{IsValid}
use Rattle.sw_config.proofs.Flows.{All-at, slice_get-append_right}
use Rattle.sw_config.proofs.Steps.{length-link_ends, link_ends-push}
use Rattle.sw_flow.specs.Places.{ends_of, end_of, out_at}
use Rattle.sw_flow.proofs.Partners.{partner_within}
use Rattle.sw_mend.specs.Splits.{own_link, split}
use Rattle.sw_mend.specs.SplitLaws.{in_at, own_node}
use Rattle.sw_mend.specs.declared.change.TargetLink.{TargetLink}
use Rattle.sw_mend.proofs.SplitLinks.{IsFound}

-- ---- the first place that passes, with two elements more

position_two : {X : Type 0} (p : X → Bool) (xs : List X) (y z : X)
    → position p (xs ++ y ∷ z ∷ []) ≡ first_of (position p xs) (first_of (cond (p y) (Some (length xs)) None) (cond (p z) (Some (length xs + 1)) None))
position_two p xs y z =
    let one : length (xs ++ y ∷ []) ≡ length xs + 1 = length-append xs (y ∷ []) in
    ap (position p) (sym (append_assoc xs (y ∷ []) (z ∷ []))) ∙ position_push p (xs ++ y ∷ []) z
    ∙ (λ t. first_of (position_push p xs y t) (cond (p z) (Some (one t)) None))
    ∙ first_of-assoc (position p xs) (cond (p y) (Some (length xs)) None) (cond (p z) (Some (length xs + 1)) None)

first_kept : {A : Type 0} (o p : Option A) (x : A) → o ≡ Some x → first_of o p ≡ Some x
first_kept None p x is = absurd (none-some x is)
first_kept (Some y) p x is = is

-- of two the first, or the second where there is no first
pub one_of : {A : Type 0} (o p : Option A) (x : A) → first_of o p ≡ Some x → (o ≡ Some x) ⊎ ((o ≡ None) × (p ≡ Some x))
one_of None p x is = inr (refl, is)
one_of (Some y) p x is = inl is

pub same_switch : (s p t q : ℕ) → ◌≡◌ {A = Option PlaceEnd} (Some (Switch s p)) (Some (Switch t q)) → (s ≡ t) × (p ≡ q)
same_switch s p t q e = (cc, cc)

pub not_switch : (n s p : ℕ) → ◌≡◌ {A = Option PlaceEnd} (Some (Node n)) (Some (Switch s p)) → ⊥
not_switch n s p e = cc

pub same_node : (n m : ℕ) → ◌≡◌ {A = Option PlaceEnd} (Some (Node n)) (Some (Node m)) → n ≡ m
same_node n m e = cc

module _ (d : Declaration) (link : TargetLink) (valid : IsValid d) (found : IsFound d link) where
  abbrev pub left : Declaration
  left = split d link

  abbrev pub count : ℕ
  count = length (ends_of d)

  abbrev more : List PlaceEnd
  more = Node (own_node d) ∷ Switch link.switch link.port ∷ []

  grown : ends_of left ≡ ends_of d ++ more
  grown = link_ends-push d.links (own_link (own_node d) link)

  pub even : count ≡ 2 * length d.links
  even = length-link_ends d.links

  pub partner_there : partner count ≡ count + 1
  partner_there = grind (arith, even)

  pub partner_back_there : partner (count + 1) ≡ count
  partner_back_there = ap partner (sym partner_there) ∙ partner_back count

  -- ---- where channels start and end

  pub start_kept : (c : ℕ) (e : PlaceEnd) → slice_get (ends_of d) c ≡ Some e → slice_get (ends_of left) c ≡ Some e
  start_kept c e at = ap (λ l. slice_get l c) grown ∙ at_front (ends_of d) more c e at

  pub end_kept : (c : ℕ) (e : PlaceEnd) → end_of d c ≡ Some e → end_of left c ≡ Some e
  end_kept c e at = start_kept (partner c) e at

  pub start_was : (c : ℕ) (e : PlaceEnd) → c < count → slice_get (ends_of left) c ≡ Some e → slice_get (ends_of d) c ≡ Some e
  start_was c e lt at = in_front (ends_of d) more c e lt (sym (ap (λ l. slice_get l c) grown) ∙ at)

  pub end_was : (c : ℕ) (e : PlaceEnd) → c < count → end_of left c ≡ Some e → end_of d c ≡ Some e
  end_was c e lt at = start_was (partner c) e (partner_within d c lt) at

  pub start_within : (c : ℕ) (e : PlaceEnd) → slice_get (ends_of left) c ≡ Some e → c < count + 2
  start_within c e at =
      let lt = slice_get_within (ends_of left) c e at in
      let size : length (ends_of left) ≡ count + 2 = ap length grown ∙ length-append (ends_of d) more in
      omega (arith, lt, size)

  pub own_end : end_of left count ≡ Some (Switch link.switch link.port)
  own_end =
      ap (slice_get (ends_of left)) partner_there ∙ ap (λ l. slice_get l (count + 1)) grown
      ∙ slice_get-append_right (ends_of d) more 1

  pub back_end : end_of left (count + 1) ≡ Some (Node (own_node d))
  back_end =
      let e : count ≡ count + 0 = omega arith in
      ap (slice_get (ends_of left)) (partner_back_there ∙ e) ∙ ap (λ l. slice_get l (count + 0)) grown
      ∙ slice_get-append_right (ends_of d) more 0

  -- ---- channels out of ports

  port_now : (s p : ℕ) → out_of (ends_of left) s p ≡ first_of (out_of (ends_of d) s p) (cond (is_port s p (Switch link.switch link.port)) (Some (count + 1)) None)
  port_now s p = ap (position (is_port s p)) grown ∙ position_two (is_port s p) (ends_of d) (Node (own_node d)) (Switch link.switch link.port)

  pub port_kept : (s p c : ℕ) → out_of (ends_of d) s p ≡ Some c → out_of (ends_of left) s p ≡ Some c
  port_kept s p c is = port_now s p ∙ first_kept (out_of (ends_of d) s p) _ c is

  pub port_was : (s p c : ℕ) → out_of (ends_of left) s p ≡ Some c → (out_of (ends_of d) s p ≡ Some c) ⊎ ((c ≡ count + 1) × (s ≡ link.switch) × (p ≡ link.port))
  port_was s p c is =
      elim (one_of (out_of (ends_of d) s p) _ c (sym (port_now s p) ∙ is)) [
        | inl old ↦ inl old
        | inr new ↦
            let own = cond_some (is_port s p (Switch link.switch link.port)) (count + 1) c new.1 in
            let same = same_switch link.switch link.port s p (ap Some (port_is s p (Switch link.switch link.port) own.0)) in
            inr (sym own.1, sym same.0, sym same.1)
      ]

  pub own_port : out_of (ends_of d) link.switch link.port ≡ None → out_of (ends_of left) link.switch link.port ≡ Some (count + 1)
  own_port free =
      port_now link.switch link.port ∙ ap (λ o. first_of o (cond (is_port link.switch link.port (Switch link.switch link.port)) (Some (count + 1)) None)) free
      ∙ (λ t. cond (eq-eqb link.switch link.switch refl t && eq-eqb link.port link.port refl t) (Some (count + 1)) None)

  -- ---- channels out of nodes

  node_now : (n : ℕ) → out (ends_of left) n ≡ first_of (out (ends_of d) n) (cond (eqb (own_node d) n) (Some count) None)
  node_now n =
      ap (position (is_node n)) grown ∙ position_two (is_node n) (ends_of d) (Node (own_node d)) (Switch link.switch link.port)
      ∙ ap (first_of (out (ends_of d) n)) (whole (cond (eqb (own_node d) n) (Some count) None))
    where
      whole : (o : Option ℕ) → first_of o None ≡ o
      whole None = refl
      whole (Some x) = refl

  pub node_kept : (n c : ℕ) → out (ends_of d) n ≡ Some c → out (ends_of left) n ≡ Some c
  node_kept n c is = node_now n ∙ first_kept (out (ends_of d) n) _ c is

  pub node_was : (n c : ℕ) → n < own_node d → out (ends_of left) n ≡ Some c → out (ends_of d) n ≡ Some c
  node_was n c lt is =
      elim (one_of (out (ends_of d) n) _ c (sym (node_now n) ∙ is)) [
        | inl old ↦ old
        | inr new ↦
            let other : eqb (own_node d) n ≡ false = ne_eqb (own_node d) n (λ same. omega (arith, lt, same)) in
            absurd (none-some c (ap (λ b. cond b (Some count) None) (sym other) ∙ new.1))
      ]

  none_own : out (ends_of d) (own_node d) ≡ None
  none_own = by (out (ends_of d) (own_node d)) refl
    where
      by : (o : Option ℕ) → out (ends_of d) (own_node d) ≡ o → o ≡ None
      by None is = refl
      by (Some c) is =
          let within : own_node d < own_node d =
          All-at (IsIn (length d.nodes) (length d.switches)) (ends_of d) c (Node (own_node d)) (node_starts (wiring_of d) (own_node d) c is) valid.sound.wiring.inside in
          absurd (omega (arith, within))

  pub own_starts : out (ends_of left) (own_node d) ≡ Some count
  own_starts =
      node_now (own_node d) ∙ (λ t. first_of (none_own t) (cond (eq-eqb (own_node d) (own_node d) refl t) (Some count) None))

  pub own_out : out_at left (own_node d) ≡ count
  own_out = ap (λ o. unwrap_or o 0) own_starts

  pub own_in : in_at left (own_node d) ≡ count + 1
  own_in = ap partner own_out ∙ partner_there

  -- ---- the node's own link

  pub out_is : out_at d link.node ≡ found.channel
  out_is = ap (λ o. unwrap_or o 0) found.starts

  pub node_ends : end_of d (in_at d link.node) ≡ Some (Node link.node)
  node_ends =
      ap (λ c. slice_get (ends_of d) (partner (partner c))) out_is ∙ ap (slice_get (ends_of d)) (partner_back found.channel)
      ∙ node_starts (wiring_of d) link.node found.channel found.starts

  pub in_starts : slice_get (ends_of d) (in_at d link.node) ≡ Some (Switch link.switch link.beside)
  in_starts = ap (λ c. slice_get (ends_of d) (partner c)) out_is ∙ found.leads

  pub in_linked : out_of (ends_of d) link.switch link.beside ≡ Some (in_at d link.node)
  in_linked = port_found (wiring_of d) valid.sound link.switch link.beside (in_at d link.node) in_starts

  pub beside_low : link.beside < 32
  beside_low = (All-at (IsIn (length d.nodes) (length d.switches)) (ends_of d) (in_at d link.node) (Switch link.switch link.beside) in_starts valid.sound.wiring.inside).1

  pub node_low : link.node < own_node d
  node_low = slice_get_within d.nodes link.node found.entry found.at
