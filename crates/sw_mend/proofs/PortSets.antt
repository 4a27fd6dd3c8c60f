-- A set of ports without one of them.
use Rattle.std.proofs.Common.{◌≡◌, ◌≢◌, ℕ, ◌^◌, ◌<◌, ◌↔◌, Bool, true, false, List, inl, inr, refl, sym, ◌∙◌, filter}
use Rattle.std.specs.Prelude.{IsBitSet, Contains, not, ◌==◌}
use Rattle.std.specs.Int.{bit_at}
use Rattle.std.proofs.lemmas.Bool.{cases_eq, ne_eqb, eq-eqb, false≢true}
use Rattle.std.proofs.lemmas.Nat.Bits.{same_from_bits}
use Rattle.std.proofs.lemmas.List.Elements.{All-contains, All-filter, All-contains_itself, filter_passes}
use Rattle.sw_topo.specs.Ports.{port_set, ports_of}
use Rattle.sw_topo.proofs.PortBits.{clear_zero, one_set, port_set_members, set_below, set_one}
use Rattle.sw_topo.proofs.PortWalk.{ports_listed}
use Rattle.sw_mend.specs.Changes.{ports_but}
use Rattle.sw_topo.proofs.Lists.{kept}

-- sets with the same ports are the same
pub same_ports : (s t : ℕ) → ((p : ℕ) → IsBitSet s p ↔ IsBitSet t p) → s ≡ t
same_ports s t same =
    same_from_bits s t (λ p. elim (cases_eq (bit_at s p) 1) [
      | inl one ↦ one ∙ sym (set_one t p ((same p).0 (one_set s p one)))
      | inr none ↦ clear_zero s p (λ set. none (set_one s p set)) ∙ sym (clear_zero t p (λ set. none (set_one s p ((same p).1 set))))
    ])

other_than : ℕ → ℕ → Bool
other_than port p = not (p == port)

-- what is kept was there, and is not the port
was_there : (port : ℕ) (xs : List ℕ) (x : ℕ) → Contains (filter (other_than port) xs) x → Contains xs x
was_there port xs x here = All-contains (λ y. Contains xs y) (filter (other_than port) xs) x (All-filter (other_than port) (λ y. Contains xs y) xs (All-contains_itself xs)) here

is_other : (port : ℕ) (xs : List ℕ) (x : ℕ) → Contains (filter (other_than port) xs) x → x ≢ port
unfolding other_than
is_other port xs x here same =
    let passes : other_than port x ≡ true = All-contains (λ y. other_than port y ≡ true) (filter (other_than port) xs) x (filter_passes (other_than port) xs) here in
    let fails : other_than port x ≡ false = rw (eq-eqb x port same) refl in
    false≢true (sym fails ∙ passes)

passes_other : (port x : ℕ) → x ≢ port → other_than port x ≡ true
unfolding other_than
passes_other port x other = rw (ne_eqb x port other) refl

-- a set that lacks the port and has the others is the set of the others
pub without_one : (set port r : ℕ) → set < 2 ^ 32 → ¬ IsBitSet r port → ((p : ℕ) → p ≢ port → (IsBitSet r p ↔ IsBitSet set p)) → r ≡ ports_but port set
unfolding other_than
without_one set port r small gone others =
    let left : List ℕ = filter (other_than port) (ports_of set) in
    same_ports r (port_set left) (λ p. (
      λ here.
          let other : p ≢ port = λ same. gone (rw same at here) in
          let was : IsBitSet set p = (others p other).0 here in
          (port_set_members left p).1 (kept (other_than port) (ports_of set) p (((ports_listed set).members p).1 (set_below set p small was, was)) (passes_other port p other)),
      λ here.
          let listed : Contains left p = (port_set_members left p).0 here in
          (others p (is_other port (ports_of set) p listed)).1 (((ports_listed set).members p).0 (was_there port (ports_of set) p listed)).1,
    ))
