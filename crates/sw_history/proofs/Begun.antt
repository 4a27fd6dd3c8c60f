-- The packets of a load that a node is to begin.
use Rattle.std.proofs.Common.{Bool, List, Some, [], cond, false, filter, length, refl, subst, suc, sym, true, zero, ⊎_elim, ℕ, ◌++◌, ◌<◌, ◌∙◌, ◌∷◌, ◌≡◌, ◌≤◌, arith}
use Rattle.std.proofs.lemmas.Bool.{cases_eq, false≢true, ne_eqb}
use Rattle.std.proofs.lemmas.List.Concat.{flat_map-cons}
use Rattle.std.proofs.lemmas.Option.{get_or_from_slice_get, same_Some, slice_get_within}
use Rattle.std.specs.Prelude.{nat_eq, replicate, slice_get}
use Rattle.sw_net.specs.Makes.{IsDeclaredAt}
use Rattle.sw_load.proofs.Packets.{length-packets}
use Rattle.sw_load.specs.History.{packet_of, packets_at, packets_of}
use Rattle.sw_load.specs.Laws.{AreDeclared}
use Rattle.sw_load.specs.Load.{LoadEntry, packet_count}
use Rattle.sw_machine.specs.DeclaredPackets.{IsDeclaredPacket}
use Rattle.sw_machine.specs.Begun.{Begun}
use Rattle.sw_machine.specs.Model.{network_of}
use Rattle.sw_config.specs.Entries.{Declaration}

module _ {X : Type 0} where
  -- each element of the list is such
  abbrev pub Holds : (X → Type 0) → List X → Type 0
  Holds P xs = (k : ℕ) (x : X) → slice_get xs k ≡ Some x → P x

  cons_holds : (P : X → Type 0) (y : X) (xs : List X) → P y → Holds P xs → Holds P (y ∷ xs)
  cons_holds P y xs here later zero x e = subst P (same_Some y x e) here
  cons_holds P y xs here later (suc k) x e = later k x e

  holds_append : (P : X → Type 0) (xs ys : List X) → Holds P xs → Holds P ys → Holds P (xs ++ ys)
  holds_append P [] ys h g = g
  holds_append P (x ∷ xs) ys h g = cons_holds P x (xs ++ ys) (h 0 x refl) (holds_append P xs ys (λ k z e. h (suc k) z e) g)

  holds_replicate : (P : X → Type 0) (n : ℕ) (b : X) → P b → Holds P (replicate n b)
  holds_replicate P zero b h k x e = absurd cc
  holds_replicate P (suc n) b h k x e = cons_holds P b (replicate n b) h (holds_replicate P n b h) k x e

  chosen : (P : X → Type 0) (p : X → Bool) (y : X) (xs : List X) (b : Bool) → p y ≡ b → P y → Holds (λ x. P x × (p x ≡ true)) xs → Holds (λ x. P x × (p x ≡ true)) (cond b (y ∷ xs) xs)
  chosen P p y xs true e here later = cons_holds (λ x. P x × (p x ≡ true)) y xs (here, e) later
  chosen P p y xs false e here later = later

  holds_filter : (P : X → Type 0) (p : X → Bool) (xs : List X) → Holds P xs → Holds (λ x. P x × (p x ≡ true)) (filter p xs)
  holds_filter P p [] h k x e = absurd cc
  holds_filter P p (y ∷ xs) h k x e = chosen P p y (filter p xs) (p y) refl (h 0 y refl) (holds_filter P p xs (λ k x e. h (suc k) x e)) k x e

  shorter : (p : X → Bool) (y : X) (xs : List X) (b : Bool) (n : ℕ) → length xs ≤ n → length (cond b (y ∷ xs) xs) ≤ suc n
  shorter p y xs true n le = omega arith
  shorter p y xs false n le = omega arith

  filter_short : (p : X → Bool) (xs : List X) → length (filter p xs) ≤ length xs
  filter_short p [] = omega arith
  filter_short p (y ∷ xs) = shorter p y (filter p xs) (p y) (length xs) (filter_short p xs)

holds_packets : (P : Begun → Type 0) (load : List LoadEntry) → Holds (λ p. P (packet_of p)) load → Holds P (packets_of load)
holds_packets P [] h k x e = absurd cc
holds_packets P (p ∷ load) h k x e =
    (subst (Holds P) (sym (flat_map-cons (λ (q : LoadEntry). replicate q.count (packet_of q)) p load))
    (holds_append P (replicate p.count (packet_of p)) (packets_of load) (holds_replicate P p.count (packet_of p) (h 0 p refl)) (holds_packets P load (λ k x e. h (suc k) x e)))) k x e

same_number : (a n : ℕ) → nat_eq a n ≡ true → a ≡ n
same_number a n e = ⊎_elim (λ same. same) (λ ne. absurd (false≢true (sym (ne_eqb a n ne) ∙ e))) (cases_eq a n)

-- each packet that node n is to begin is declared there
pub declared_at : (d : Declaration) (load : List LoadEntry) → AreDeclared d load → (n k : ℕ) (b : Begun) → slice_get (packets_at (network_of d) n (packets_of load)) k ≡ Some b → IsDeclaredAt d n b.flow b.cargo
declared_at d load all n k b e =
    let net = network_of d in
    let P : Begun → Type 0 = λ b. IsDeclaredPacket d b.flow b.cargo in
    let listed : Holds (λ p. P (packet_of p)) load = λ i p at. subst (λ (q : LoadEntry). IsDeclaredPacket d q.flow q.cargo) (get_or_from_slice_get load i p p at) (all i p (slice_get_within load i p at)) in
    let is = holds_filter P (λ b. nat_eq (net.flow b.flow).from n) (packets_of load) (holds_packets P load listed) k b e in
    record { packet = is.0; from = same_number (net.flow b.flow).from n is.1 }

-- a node has no more packets than the load
pub few_packets : (d : Declaration) (load : List LoadEntry) (n k : ℕ) (b : Begun) → slice_get (packets_at (network_of d) n (packets_of load)) k ≡ Some b → k < packet_count load
few_packets d load n k b e =
    let net = network_of d in
    let within = slice_get_within (packets_at net n (packets_of load)) k b e in
    let short = filter_short (λ (b : Begun). nat_eq (net.flow b.flow).from n) (packets_of load) in
    let all = length-packets load in
    omega arith
