-- Places that a certificate lists, here and in the machine.
use Rattle.std.proofs.Common.{◌≡◌, ℕ, List, [], ◌∷◌, zero, suc, map, Option, Some, None, Contains, ap, sym, subst}
use Rattle.std.specs.Prelude.{slice_get, unwrap_or}
use Rattle.sw_flow.specs.declared.place.Place.{Place}
use Rattle.sw_flow.proofs.Listed.{Contains-map, Contains-from_map}
use Rattle.sw_cert.specs.Text.{Contents}
use Rattle.sw_machine.specs.Network as machine_network
use Rattle.sw_machine.specs.Certificate.{IsListed}
use Rattle.sw_cert.specs.Contents.{place_of, certificate_of}

pub mapped_at : {X Y : Type 0} (g : X → Y) (xs : List X) (i : ℕ) (x : X) → slice_get xs i ≡ Some x → slice_get (map g xs) i ≡ Some (g x)
mapped_at g [] i x h = absurd (let bad : None ≡ Some x = h in cc)
mapped_at g (y ∷ ys) zero x h = let same : y ≡ x = cc in ap (λ z. Some (g z)) same
mapped_at g (y ∷ ys) (suc i) x h = mapped_at g ys i x h

place_back : (ps : List Place) (c k : ℕ) → Contains (map place_of ps) (record { channel = c; deleted = k }) → Contains ps (record { channel = c; deleted = k })
place_back ps c k h =
    let m = Contains-from_map place_of ps (record { channel = c; deleted = k }) h in
    let channel : m.0.channel ≡ c = ap (λ (p : machine_network.Place). p.channel) m.2 in
    let deleted : m.0.deleted ≡ k = ap (λ (p : machine_network.Place). p.deleted) m.2 in
    let same : m.0 ≡ record { channel = c; deleted = k } = λ i. record { channel = channel i; deleted = deleted i } in
    subst (λ (p : Place). Contains ps p) same m.1

module _ (c : Contents) (i : ℕ) (ps : List Place) (there : slice_get c.places i ≡ Some ps) where
  pub lists : unwrap_or (slice_get (map (map place_of) c.places) i) [] ≡ map place_of ps
  lists = ap (λ (o : Option (List machine_network.Place)). unwrap_or o []) (mapped_at (map place_of) c.places i ps there)

  pub to_machine : (p : Place) → Contains ps p → IsListed (certificate_of c) i p.channel p.deleted
  to_machine p m = subst (λ (l : List machine_network.Place). Contains l (place_of p)) (sym lists) (Contains-map place_of ps p m)

  pub from_machine : (e k : ℕ) → IsListed (certificate_of c) i e k → Contains ps (record { channel = e; deleted = k })
  from_machine e k h = place_back ps e k (subst (λ (l : List machine_network.Place). Contains l (record { channel = e; deleted = k })) lists h)
