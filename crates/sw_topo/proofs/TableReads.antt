-- What the tables of a topology answer.
use Rattle.std.proofs.Common.{◌≡◌, ℕ, ◌+◌, ◌*◌, ◌/◌, ◌%◌, ◌<◌, Bool, List, [], ◌∷◌, length, get_or, Option, Some, None, refl, sym, subst, ◌∙◌, inl, inr, arith, ne_eqb, All}
use Rattle.std.specs.Prelude.{position, slice_get, IfSome}
use Rattle.std.proofs.lemmas.Bool.{cases_eq}
use Rattle.std.proofs.lemmas.Option.{slice_get_read, get_or_from_slice_get}
use Rattle.std.proofs.lemmas.List.Elements.{All-get_or}
use Rattle.std.proofs.lemmas.List.Quantifiers.{position-Some}
use Rattle.sw_topo.specs.declared.place.PlaceEnd.{PlaceEnd}
use Rattle.sw_topo.specs.Wiring.{is_node, is_port, out, out_of, partner}
use Rattle.sw_topo.specs.Checked.{IsIn}
use Rattle.sw_topo.specs.Tables.{IsNodeTable, IsPortTable}

-- a place that is found is one of the list's
place_below : {X : Type 0} (p : X → Bool) (xs : List X) (c : ℕ) → position p xs ≡ Some c → c < length xs
place_below p [] c at = absurd cc
place_below p (x ∷ xs) c at = (position-Some p (x ∷ xs) c x at).0

-- the channel that the table has for a node starts there
pub node_at : (nodes : ℕ) (table : List ℕ) (ends : List PlaceEnd) → IsNodeTable nodes table ends → (n c : ℕ) → n < nodes → c ≡ get_or table n c → out ends n ≡ Some c
node_at nodes table ends is n c lt at = sym (is.entries n lt) ∙ slice_get_read table nodes n c (sym is.size) lt at

pub node_below : (ends : List PlaceEnd) (n c : ℕ) → out ends n ≡ Some c → c < length ends
node_below ends n c at = place_below (is_node n) ends c at

-- the channel that the table has for a port, if any, starts there
pub port_at : (switches : ℕ) (table : List (Option ℕ)) (ends : List PlaceEnd) → IsPortTable switches table ends → (s p : ℕ) (found : Option ℕ) → s < switches → p < 32 → found ≡ get_or table (32 * s + p) found
    → found ≡ out_of ends s p
port_at switches table ends is s p found s_in p_in at = at ∙ get_or_from_slice_get table (32 * s + p) (out_of ends s p) found (is.entries s p s_in p_in)

pub port_below : (ends : List PlaceEnd) (s p : ℕ) (found : Option ℕ) → found ≡ out_of ends s p → IfSome found (λ c. c < length ends)
port_below ends s p None is = tt
port_below ends s p (Some c) is = place_below (is_port s p) ends c (sym is)

-- a port's place in the table
pub slot_within : (switches size s p : ℕ) → size ≡ 32 * switches → s < switches → p < 32 → 32 * s + p < size
slot_within switches size s p is s_in p_in = omega arith

-- what a link end that is read stands at
pub end_at : (nodes switches : ℕ) (ends : List PlaceEnd) → All (IsIn nodes switches) ends → (c : ℕ) (e : PlaceEnd) → c < length ends → e ≡ get_or ends c e → (slice_get ends c ≡ Some e) × IsIn nodes switches e
end_at nodes switches ends inside c e lt at = (slice_get_read ends (length ends) c e refl lt at, subst (IsIn nodes switches) (sym at) (All-get_or (IsIn nodes switches) ends c e lt inside))

-- the other channel of a link is one of the wiring's
pub partner_below : (n c : ℕ) → n ≡ 2 * (n / 2) → c < n → partner c < n
partner_below n c paired lt =
    elim (cases_eq (c % 2) 0) [
      | inl even ↦ rw even (omega arith)
      | inr odd ↦ rw (ne_eqb (c % 2) 0 odd) (omega arith)
    ]
