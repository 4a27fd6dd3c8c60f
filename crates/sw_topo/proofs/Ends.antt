-- What the channels of a wiring without fault start and end at.
use Rattle.std.proofs.Common.{◌≡◌, ℕ, ◌+◌, ◌*◌, ◌/◌, ◌%◌, ◌<◌, Bool, true, false, eqb, List, length, Some, None, Option, refl, sym, ap, ap₂, ◌∙◌, subst, inl, inr, arith, eq-eqb, All, IsSome, ◌||◌}
use Rattle.std.specs.Prelude.{slice_get, position, count_by}
use Rattle.std.proofs.lemmas.Bool.{cases_Bool, cases_eq, cases_lt, eqb-true, false≢true}
use Rattle.std.proofs.lemmas.Option.{slice_get_within, get_or_from_slice_get}
use Rattle.std.proofs.lemmas.List.Elements.{All-get_or}
use Rattle.sw_topo.specs.declared.place.PlaceEnd.{PlaceEnd}
use Rattle.sw_topo.specs.declared.place.PlaceEnd.TheVariants.{Node, Switch}
use Rattle.sw_topo.specs.Wiring.{Wiring, is_node, is_port, is_at_switch, out, out_of, partner}
use Rattle.sw_topo.specs.Checked.{IsIn, IsWiring, IsSound, is_taken}
use Rattle.sw_topo.specs.Laws.{StartsAt, IsOnly, IsLinkedBy}
use Rattle.sw_topo.proofs.Faultless.{kept}
use Rattle.sw_topo.proofs.Found.{Passes, counted, one_place, found_before, any_place, place_passes}
use Rattle.sw_topo.proofs.Positions.{position_some, place_some}

-- ---- tests of ends

position_at : {X : Type 0} (p : X → Bool) (xs : List X) → IsSome (position p xs) → (c : ℕ) × (position p xs ≡ Some c)
position_at p xs some = by (position p xs) some
  where
    by : (o : Option ℕ) → IsSome o → (c : ℕ) × (o ≡ Some c)
    by None some = absurd (false≢true some)
    by (Some c) some = (c, refl)

port_in : (nodes switches : ℕ) (ends : List PlaceEnd) (c s p : ℕ) → All (IsIn nodes switches) ends → slice_get ends c ≡ Some (Switch s p) → p < 32
port_in nodes switches ends c s p inside starts =
    let P = IsIn nodes switches in
    (subst P (get_or_from_slice_get ends c (Switch s p) (Switch s p) starts) (All-get_or P ends c (Switch s p) (slice_get_within ends c _ starts) inside)).1

pub node_is : (n : ℕ) (e : PlaceEnd) → is_node n e ≡ true → e ≡ Node n
node_is n (Node m) is = ap Node (eqb-true m n is)
node_is n (Switch s p) is = absurd (false≢true is)

pub port_is : (s p : ℕ) (e : PlaceEnd) → is_port s p e ≡ true → e ≡ Switch s p
port_is s p (Node m) is = absurd (false≢true is)
port_is s p (Switch t q) is =
    elim (cases_Bool (eqb t s)) [
      | inl here ↦ ap₂ Switch (eqb-true t s here) (eqb-true q p (rw here at is))
      | inr not ↦ absurd (false≢true (rw not at is))
    ]

is_port_yes : (s p : ℕ) → is_port s p (Switch s p) ≡ true
is_port_yes s p = rw (eq-eqb s s refl, eq-eqb p p refl) refl

-- the end c is a port of the switch
pub record AtSwitch (s : ℕ) (e : PlaceEnd) : Type 0 where
  pub port : ℕ
  pub is : e ≡ Switch s port

pub switch_is : (s : ℕ) (e : PlaceEnd) → is_at_switch s e ≡ true → AtSwitch s e
switch_is s (Node m) is = absurd (false≢true is)
switch_is s (Switch t q) is = record { port = q; is = ap (λ t. Switch t q) (eqb-true t s is) }

pub node_passes : (w : Wiring) (n c : ℕ) → StartsAt w c (Node n) → Passes (is_node n) w.ends c
node_passes w n c starts = record { element = Node n; at = starts; passes = eq-eqb n n refl }

pub port_passes : (w : Wiring) (s p c : ℕ) → StartsAt w c (Switch s p) → Passes (is_port s p) w.ends c
port_passes w s p c starts = record { element = Switch s p; at = starts; passes = is_port_yes s p }

pub node_starts : (w : Wiring) (n c : ℕ) → out w.ends n ≡ Some c → StartsAt w c (Node n)
node_starts w n c e = let here = place_passes (is_node n) w.ends (Node 0) c e in here.at ∙ ap Some (node_is n here.element here.passes)

pub port_starts : (w : Wiring) (s p c : ℕ) → out_of w.ends s p ≡ Some c → StartsAt w c (Switch s p)
port_starts w s p c e = let here = place_passes (is_port s p) w.ends (Node 0) c e in here.at ∙ ap Some (port_is s p here.element here.passes)

-- ---- partners

pub partner_back : (c : ℕ) → partner (partner c) ≡ c
partner_back c = grind arith

-- where one end is at a node, one channel starts there
pub node_once : (w : Wiring) (n : ℕ) → count_by (is_node n) w.ends ≡ 1 → (c : ℕ) × IsLinkedBy w n c
node_once w n one =
    let first = position_at (is_node n) w.ends (position_some (is_node n) w.ends one) in
    let starts = node_starts w n first.0 first.1 in
    let alone : (d : ℕ) → StartsAt w d (Node n) → d ≡ first.0 = λ d at_d. one_place (is_node n) w.ends one d first.0 (node_passes w n d at_d) (node_passes w n first.0 starts) in
    let back = partner_back first.0 in (
      first.0,
      record {
        first = first.1;
        starts = record { here = starts; alone = alone };
        ends = record { here = rw back starts; alone = λ d at_d. sym (partner_back d) ∙ ap partner (alone (partner d) at_d) };
      },
    )

-- ---- ports

neither_yes : (a b : Bool) → a || b ≡ false → (a ≡ false) × (b ≡ false)
neither_yes true b e = absurd (false≢true (sym e))
neither_yes false b e = (refl, e)

-- a port at which a channel starts is one of 0 to 31
pub port_within : (w : Wiring) → IsWiring w.nodes w.switches w.ends → (s p : ℕ) → IsSome (out_of w.ends s p) → p < 32
port_within w wiring s p some =
    let first = position_at (is_port s p) w.ends some in
    port_in w.nodes w.switches w.ends first.0 s p wiring.inside (port_starts w s p first.0 first.1)

module _ (w : Wiring) (sound : IsSound w) where
  whole : length w.ends ≡ 2 * (length w.ends / 2)
  whole = sound.wiring.paired

  not_taken : (c : ℕ) → c < length w.ends → is_taken w.ends c ≡ false
  not_taken c lt =
      let both = neither_yes (is_taken w.ends (2 * (c / 2))) (is_taken w.ends (2 * (c / 2) + 1)) ((kept w sound.faultless).free (c / 2) (omega (arith, whole))) in
      elim (cases_eq (c % 2) 0) [
        | inl even ↦ let e : c ≡ 2 * (c / 2) = omega arith in rw (← e) at both.0
        | inr odd ↦ let e : c ≡ 2 * (c / 2) + 1 = omega arith in rw (← e) at both.1
      ]

  one_before : (s p c d : ℕ) → StartsAt w c (Switch s p) → StartsAt w d (Switch s p) → d < c → ⊥
  one_before s p c d at_c at_d lt =
      false≢true (sym (rw at_c at (not_taken c (slice_get_within w.ends c _ at_c))) ∙ found_before (is_port s p) w.ends c d lt (port_passes w s p d at_d))

  pub one_port : (s p c d : ℕ) → StartsAt w c (Switch s p) → StartsAt w d (Switch s p) → c ≡ d
  one_port s p c d at_c at_d =
      elim (cases_lt c d) [
        | inl before ↦ absurd (one_before s p d c at_d at_c before)
        | inr past ↦ elim (cases_lt d c) [ inl after ↦ absurd (one_before s p c d at_c at_d after) | inr same ↦ omega arith ]
      ]

  pub port_only : (s p c : ℕ) → out_of w.ends s p ≡ Some c → IsOnly (λ d. StartsAt w d (Switch s p)) c
  port_only s p c e = record { here = port_starts w s p c e; alone = λ d at_d. one_port s p d c at_d (port_starts w s p c e) }

  pub port_found : (s p c : ℕ) → StartsAt w c (Switch s p) → out_of w.ends s p ≡ Some c
  port_found s p c starts =
      let first = position_at (is_port s p) w.ends (place_some (is_port s p) w.ends (counted (is_port s p) w.ends c (port_passes w s p c starts))) in
      first.1 ∙ ap Some (one_port s p first.0 c (port_starts w s p first.0 first.1) starts)

  pub switch_linked : (s : ℕ) → s < w.switches → (p c : ℕ) × (p < 32) × StartsAt w c (Switch s p)
  switch_linked s lt =
      let some = any_place (is_at_switch s) w.ends ((kept w sound.faultless).linked s lt) in
      let here = switch_is s (some.1).element (some.1).passes in
      let starts : StartsAt w some.0 (Switch s here.port) = (some.1).at ∙ ap Some here.is in
      (here.port, some.0, port_in w.nodes w.switches w.ends some.0 s here.port sound.wiring.inside starts, starts)

  pub node_only : (n : ℕ) → n < w.nodes → (c : ℕ) × IsLinkedBy w n c
  node_only n lt = node_once w n ((kept w sound.faultless).once n lt)
