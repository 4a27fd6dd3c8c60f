-- The cargo of a load that was read.
use Rattle.std.proofs.Common.{arith, zero, suc, ◌≡◌, ◌+◌, ◌-◌, ◌*◌, ◌<◌, ◌∷◌, [], ℕ, ◌&&◌, List, All, length, replicate, take, refl, sym, ap, subst, ◌⊎◌, inl, inr}
use Rattle.std.specs.Prelude.{Ok, Option, Some, None, slice_get, option_and_then, option_map, nat_le}
use Rattle.std.proofs.lemmas.Bool.{and_parts, cases_Bool, leb-true}
use Rattle.std.proofs.lemmas.List.Elements.{All-nil, All-cons, All-replicate}
use Rattle.toml.specs.Data.{Members}
use Rattle.sw_config.specs.Entries.{Declaration}
use Rattle.sw_load.specs.Cargo.{ArePairs, CargoIsRead, IsPairs, IsRepeated, cargo_of, hex_pair, hex_value, without_spaces}
use Rattle.sw_load.specs.Laws.{IsListedBy, ReadsEachEntry}
use Rattle.sw_load.proofs.Listed.{one_is_read}
use Rattle.sw_load.specs.Load.{LoadEntry, cargo_at, load_of, packet_of}
use Rattle.sw_schedule.specs.TextLaws.{IsShort, ListedAreShort}
use Rattle.sw_text.specs.Document.{document_of}
use Rattle.sw_text.specs.Gives.{ok_or}
use Rattle.sw_text.specs.Table.{text_at}
use Rattle.sw_text.specs.declared.fault.KeyFault.TheVariants.{OutOfRange}
use Rattle.sw_text.specs.declared.fault.TextFault.{TextFault}
use Rattle.sw_text.specs.declared.fault.TextFault.TheVariants as fault
use Rattle.sw_text.specs.declared.keys.Key.TheVariants.{Cargo}
use Rattle.sw_text.specs.declared.keys.Section.TheVariants as section
use Rattle.sw_topo.proofs.Lists.{none_some}
use Rattle.sw_text.proofs.Results.{bind_ok}

-- ---- a byte that is read is a byte

some_is : (x y : ℕ) → Some x ≡ Some y → x ≡ y
some_is x y e = cc

digit_small : (c v : ℕ) → hex_value c ≡ Some v → v < 16
digit_small c v h = elim (cases_Bool (nat_le 48 c && nat_le c 57)) [
  | inl t ↦
      let parts = and_parts (nat_le 48 c) (nat_le c 57) t in
      let is : Some (c - 48) ≡ Some v = rw t at h in
      let same = some_is (c - 48) v is in
      let low = leb-true 48 c parts.0 in let high = leb-true c 57 parts.1 in omega (arith, same, low, high)
  | inr f ↦ elim (cases_Bool (nat_le 65 c && nat_le c 70)) [
    | inl t ↦
        let parts = and_parts (nat_le 65 c) (nat_le c 70) t in
        let is : Some (c - 55) ≡ Some v = rw (f, t) at h in
        let same = some_is (c - 55) v is in
        let low = leb-true 65 c parts.0 in let high = leb-true c 70 parts.1 in omega (arith, same, low, high)
    | inr g ↦ elim (cases_Bool (nat_le 97 c && nat_le c 102)) [
      | inl t ↦
          let parts = and_parts (nat_le 97 c) (nat_le c 102) t in
          let is : Some (c - 87) ≡ Some v = rw (f, g, t) at h in
          let same = some_is (c - 87) v is in
          let low = leb-true 97 c parts.0 in let high = leb-true c 102 parts.1 in omega (arith, same, low, high)
      | inr k ↦ let is : ◌≡◌ {A = Option ℕ} None (Some v) = rw (f, g, k) at h in absurd (none_some v is)
    ]
  ]
]

pair_small : (h l b : ℕ) → hex_pair h l ≡ Some b → b < 256
pair_small h l b e = by_digits (hex_value h) (hex_value l) refl refl e
  where
    by_digits : (x y : Option ℕ) → hex_value h ≡ x → hex_value l ≡ y → option_and_then (λ h. option_map (λ l. 16 * h + l) y) x ≡ Some b → b < 256
    by_digits None y high low e = absurd (none_some b e)
    by_digits (Some x) None high low e = absurd (none_some b e)
    by_digits (Some x) (Some y) high low e =
        let same = some_is (16 * x + y) b e in
        let small = digit_small h x high in let less = digit_small l y low in omega (arith, same, small, less)

pairs_bytes : (text bytes : List ℕ) → ArePairs text bytes → All (λ b. b < 256) bytes
pairs_bytes [] [] p = All-nil (λ b. b < 256)
pairs_bytes [] (b ∷ bytes) p = absurd p
pairs_bytes (h ∷ []) bytes p = absurd p
pairs_bytes (h ∷ l ∷ text) [] p = absurd p
pairs_bytes (h ∷ l ∷ text) (b ∷ bytes) p = All-cons (λ b. b < 256) b bytes (pair_small h l b p.0) (pairs_bytes text bytes p.1)

spelled_short : (text bytes : List ℕ) → IsPairs text bytes ⊎ IsRepeated text bytes → IsShort bytes
spelled_short text bytes (inl p) = record { bytes = pairs_bytes text bytes p.pairs; few = p.few }
spelled_short text bytes (inr r) =
    let few = r.counted.few in
    subst IsShort (sym r.repeated) (record {
      bytes = All-replicate (λ b. b < 256) r.count r.byte (pair_small r.high r.low r.byte r.pair);
      few = rw (length-replicate r.count r.byte) few;
    })
  where
    length-replicate : (n b : ℕ) → length (replicate n b) ≡ n
    length-replicate zero b = refl
    length-replicate (suc n) b = ap suc (length-replicate n b)

-- ---- the cargo of an entry

is_there : (o : Option (List ℕ)) (e : TextFault) (x : List ℕ) → ok_or o e ≡ Ok x → o ≡ Some x
is_there None e x h = absurd cc
is_there (Some y) e x h = cc

module _ (is_read : CargoIsRead) (d : Declaration) where
  cargo_short : (i : ℕ) (ms : Members) (cargo : List ℕ) → cargo_at i ms ≡ Ok cargo → IsShort cargo
  unfolding cargo_at
  cargo_short i ms cargo h =
      let text = bind_ok (text_at (section.Packet i) Cargo ms) (λ text. ok_or (cargo_of text) (fault.Key OutOfRange (section.Packet i) Cargo)) cargo h in
      let read = is_there (cargo_of text.0) (fault.Key OutOfRange (section.Packet i) Cargo) cargo text.2 in
      spelled_short (without_spaces text.0) cargo ((is_read text.0 cargo).0 read)

  one_is_short : (i : ℕ) (load : List LoadEntry) (ms : Members) (p : LoadEntry) → packet_of i d load ms ≡ Ok p → IsShort p.cargo
  one_is_short i load ms p h = cargo_short i ms p.cargo (one_is_read d i load ms p h).0

  each_is_short : (ms : Members) (load : List LoadEntry) → IsListedBy d ms load → (i : ℕ) (p : LoadEntry) → slice_get load i ≡ Some p → IsShort p.cargo
  each_is_short ms load listed i p at =
      let table = some_at listed.tables i (subst (λ n. i < n) listed.as_many (within load i p at)) in
      one_is_short i (take i load) table.0 p (listed.each i table.0 p table.1 at)
    where
      within : (load : List LoadEntry) (i : ℕ) (p : LoadEntry) → slice_get load i ≡ Some p → i < length load
      within [] i p e = absurd cc
      within (q ∷ load) zero p e = omega arith
      within (q ∷ load) (suc i) p e = let lt = within load i p e in omega (arith, lt)

      some_at : (tables : List Members) (i : ℕ) → i < length tables → (ms : Members) × (slice_get tables i ≡ Some ms)
      some_at [] i lt = absurd (omega (arith, lt))
      some_at (ms ∷ tables) zero lt = (ms, refl)
      some_at (ms ∷ tables) (suc i) lt = some_at tables i (omega (arith, lt))

all_from_each : (load : List LoadEntry) → ((i : ℕ) (p : LoadEntry) → slice_get load i ≡ Some p → IsShort p.cargo) → All (λ (p : LoadEntry). IsShort p.cargo) load
all_from_each [] h = All-nil (λ (p : LoadEntry). IsShort p.cargo)
all_from_each (p ∷ load) h = All-cons (λ (p : LoadEntry). IsShort p.cargo) p load (h zero p refl) (all_from_each load (λ i q at. h (suc i) q at))

pub listed_are_short : CargoIsRead → ReadsEachEntry → ListedAreShort
listed_are_short is_read each d bytes load h =
    let ms = bind_ok (document_of bytes) (λ ms. load_of d ms) load h in
    all_from_each load (each_is_short is_read d ms.0 load (each d ms.0 load ms.2))
