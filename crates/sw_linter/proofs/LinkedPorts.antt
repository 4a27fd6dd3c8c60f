-- The ports of a set that have a link.
use Rattle.std.proofs.Common.{◌≡◌, ℕ, Bool, true, false, not, ◌&&◌, List, [], ◌∷◌, filter, refl, sym, ap, ◌∙◌, eq-eqb}
use Rattle.std.specs.Prelude.{◌↔◌, ◌^◌, IsBitSet, bit_and, if◌then◌else◌}
use Rattle.std.specs.List.{range_with_len}
use Rattle.std.proofs.lemmas.Bool.{and_from, and_parts, false≢true}
use Rattle.std.proofs.lemmas.List.Elements.{filter_agree}
use Rattle.sw_topo.specs.Ports.{has_port, ports_of}
use Rattle.sw_topo.proofs.Lists.{same_bool}
use Rattle.sw_topo.proofs.PortWalk.{has_set}

filter_both : (p q : ℕ → Bool) (xs : List ℕ) → filter q (filter p xs) ≡ filter (λ x. p x && q x) xs
filter_both p q [] = refl
filter_both p q (x ∷ xs) = by (p x) (filter_both p q xs)
  where
    by : (b : Bool) → filter q (filter p xs) ≡ filter (λ y. p y && q y) xs → filter q (if b then x ∷ filter p xs else filter p xs) ≡ (if b && q x then x ∷ filter (λ y. p y && q y) xs else filter (λ y. p y && q y) xs)
    by true on = ap (λ l. if q x then x ∷ l else l) on
    by false on = on

set_has : (set p : ℕ) → has_port set p ≡ true → IsBitSet set p
set_has set p is = λ gone. false≢true (sym (ap not (eq-eqb (bit_and set (2 ^ p)) 0 gone)) ∙ is)

-- the set has those of the ports that pass
pub meets : (set ports : ℕ) (test : ℕ → Bool) → ((p : ℕ) → IsBitSet set p ↔ (IsBitSet ports p × (test p ≡ true))) → ports_of set ≡ filter test (ports_of ports)
unfolding ports_of
meets set ports test is = filter_agree (has_port set) (λ p. has_port ports p && test p) each (range_with_len 0 32) ∙ sym (filter_both (has_port ports) test (range_with_len 0 32))
  where
    each : (p : ℕ) → has_port set p ≡ (has_port ports p && test p)
    each p = same_bool (has_port set p) (has_port ports p && test p) (λ here.
        let both = (is p).0 (set_has set p here) in
        and_from (has_port ports p) (test p) (has_set ports p both.0) both.1) (λ here.
        let both = and_parts (has_port ports p) (test p) here in
        has_set set p ((is p).1 (set_has ports p both.0, both.1)))
