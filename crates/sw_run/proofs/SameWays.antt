-- Flows that start at one node and have one address end at one node.
use Rattle.std.proofs.Common.{Contains, List, [], ap, arith, get_or, refl, subst, suc, sym, zero, ℕ, ◌+◌, ◌<◌, ◌∙◌, ◌∷◌, ◌≡◌, ◌≤◌}
use Rattle.std.specs.Prelude.{if◌then◌else◌, slice_index}
use Rattle.sw_machine.proofs.Faults.{at_node, at_switch}
use Rattle.sw_machine.specs.Certificate.{Certificate, IsAccepted, IsListed, number}
use Rattle.sw_machine.specs.Network.{AtNode, AtSwitch, Cell, Network}
use Rattle.sw_machine.specs.Places.{Follows, deleted_after, header}
use Rattle.sw_machine.proofs.Progress.{head_contained}

-- the sum of a list, which none of its numbers exceeds
abbrev most : List ℕ → ℕ
most [] = 0
most (x ∷ xs) = x + most xs

no_more : (xs : List ℕ) (c : ℕ) → get_or xs c 0 ≤ most xs
no_more [] c = omega arith
no_more (x ∷ xs) zero = omega arith
no_more (x ∷ xs) (suc c) = let rest = no_more xs c in omega arith

module _ (net : Network) (cert : Certificate) (acc : IsAccepted net cert) (i j : ℕ) (li : i < net.flows) (lj : j < net.flows) (same : (net.flow i).address ≡ (net.flow j).address) where
  -- from a place of both there is one end
  abbrev OneEnd : ℕ → Type 0
  OneEnd fuel = (c k : ℕ) → IsListed cert i c k → IsListed cert j c k → most cert.numbers < fuel + number cert c → (net.flow i).to ≡ (net.flow j).to

  same_header : (k : ℕ) → header net i k ≡ header net j k
  same_header k = ap (λ (a : List ℕ). slice_index a k) same

  by_cell : (fuel : ℕ) → OneEnd fuel → (c k : ℕ) → IsListed cert i c k → IsListed cert j c k → most cert.numbers < suc fuel + number cert c → (cell : Cell) → net.end_of c ≡ cell → (net.flow i).to ≡ (net.flow j).to
  by_cell fuel later c k p q enough (AtNode n) at = sym (at_node net cert acc i c k n li p at).0 ∙ (at_node net cert acc j c k n lj q at).0
  by_cell fuel later c k p q enough (AtSwitch w) at =
      let here = at_switch net cert acc i c k w li p at in
      let d = head_contained (net.look w (header net i k)) here.1 in
      let m = deleted_after net i w k in
      let f : Follows net i c k d.0 m = record { switch = w; at = at; within = here.0; named = d.1; deleted = refl } in
      let named : Contains (net.look w (header net j k)) d.0 = subst (λ (h : ℕ). Contains (net.look w h) d.0) (same_header k) d.1 in
      let g : Follows net j c k d.0 m = record { switch = w; at = at; within = (at_switch net cert acc j c k w lj q at).0; named = named; deleted = ap (λ (a : List ℕ). if net.deletes w (slice_index a k) then k + 1 else k) same } in
      let rises : number cert c < number cert d.0 = acc.rising i c k d.0 m li p f in
      later d.0 m (acc.closed i c k d.0 m li p f) (acc.closed j c k d.0 m lj q g) (omega (arith, rises, enough))

  one_end : (fuel : ℕ) → OneEnd fuel
  one_end zero c k p q enough = let within : number cert c ≤ most cert.numbers = no_more cert.numbers c in absurd (omega (arith, within, enough))
  one_end (suc fuel) c k p q enough = by_cell fuel (one_end fuel) c k p q enough (net.end_of c) refl

  pub same_end : (net.flow i).from ≡ (net.flow j).from → (net.flow i).to ≡ (net.flow j).to
  same_end from =
      let start : IsListed cert j (net.out (net.flow i).from) 0 = subst (λ (n : ℕ). IsListed cert j (net.out n) 0) (sym from) (acc.starts j lj) in
      one_end (suc (most cert.numbers)) (net.out (net.flow i).from) 0 (acc.starts i li) start (omega arith)
