-- A link by its two ends and the capacities of its channels.
use Rattle.std.proofs.Common.{◌≡◌, ℕ, zero, suc, ◌+◌, ◌*◌, ◌<◌, List, [], ◌∷◌, ◌++◌, length, take, get_or, Some, inl, inr, refl, sym, ap, ◌∙◌, arith}
use Rattle.std.specs.Prelude.{slice_get}
use Rattle.std.proofs.lemmas.List.{take_more}
use Rattle.std.proofs.lemmas.Option.{get_or_from_slice_get, same_Some, slice_get_cases}
use Rattle.sw_topo.specs.declared.place.PlaceEnd.{PlaceEnd}
use Rattle.sw_config.specs.Entries.{Declaration, LinkEntry, capacities, link_ends}
use Rattle.sw_config.proofs.Flows.{capacity_even, capacity_odd}

end_even : (links : List LinkEntry) (i c : ℕ) (l : LinkEntry) → c ≡ 2 * i → slice_get links i ≡ Some l → slice_get (link_ends links) c ≡ Some l.a
end_even [] i c l even at = absurd cc
end_even (k ∷ links) zero c l even at = let e : c ≡ 0 = omega arith in let same : k ≡ l = cc in rw (e, same) refl
end_even (k ∷ links) (suc i) c l even at = let e : c ≡ suc (suc (2 * i)) = omega arith in rw e (end_even links i (2 * i) l refl at)

end_odd : (links : List LinkEntry) (i c : ℕ) (l : LinkEntry) → c ≡ 2 * i + 1 → slice_get links i ≡ Some l → slice_get (link_ends links) c ≡ Some l.b
end_odd [] i c l odd at = absurd cc
end_odd (k ∷ links) zero c l odd at = let e : c ≡ suc 0 = omega arith in let same : k ≡ l = cc in rw (e, same) refl
end_odd (k ∷ links) (suc i) c l odd at = let e : c ≡ suc (suc (2 * i + 1)) = omega arith in rw e (end_odd links i (2 * i + 1) l refl at)

-- one link more
pub link_more : (links : List LinkEntry) (i c e : ℕ) (a b : PlaceEnd) (x y : ℕ) → i < length links → c ≡ 2 * i → e ≡ 2 * i + 1
    → slice_get (link_ends links) c ≡ Some a → slice_get (link_ends links) e ≡ Some b
    → slice_get (capacities links) e ≡ Some x → slice_get (capacities links) c ≡ Some y
    → take (i + 1) links ≡ take i links ++ record { a = a; b = b; buffer_a = x; buffer_b = y } ∷ []
link_more links i c e a b x y lt even odd at_a at_b at_x at_y =
    elim (slice_get_cases links i).1 [
      | inl found ↦
          let l : LinkEntry = found.0 in
          let here : slice_get links i ≡ Some l = found.2 in
          let is_a : l.a ≡ a = same_Some l.a a (sym (end_even links i c l even here) ∙ at_a) in
          let is_b : l.b ≡ b = same_Some l.b b (sym (end_odd links i e l odd here) ∙ at_b) in
          let is_x : l.buffer_a ≡ x = same_Some l.buffer_a x (sym (capacity_odd links i e l odd here) ∙ at_x) in
          let is_y : l.buffer_b ≡ y = same_Some l.buffer_b y (sym (capacity_even links i c l even here) ∙ at_y) in
          let same : get_or links i l ≡ record { a = a; b = b; buffer_a = x; buffer_b = y } =
          get_or_from_slice_get links i l l here ∙ (λ k. record { a = is_a k; b = is_b k; buffer_a = is_x k; buffer_b = is_y k }) in
          take_more links i l lt ∙ ap (λ z. take i links ++ z ∷ []) same
      | inr past ↦ absurd (omega (arith, past.0, lt))
    ]

-- the declaration after it
pub link_built : (links : List LinkEntry) (i c e : ℕ) (a b : PlaceEnd) (x y : ℕ) (old new : Declaration) → i < length links → c ≡ 2 * i → e ≡ 2 * i + 1
    → slice_get (link_ends links) c ≡ Some a → slice_get (link_ends links) e ≡ Some b
    → slice_get (capacities links) e ≡ Some x → slice_get (capacities links) c ≡ Some y → old.links ≡ take i links
    → new ≡ record old { links = old.links ++ record { a = a; b = b; buffer_a = x; buffer_b = y } ∷ [] } → new ≡ record old { links = take (i + 1) links }
link_built links i c e a b x y old new lt even odd at_a at_b at_x at_y before more =
    more ∙ ap (λ (l : List LinkEntry). record old { links = l ++ record { a = a; b = b; buffer_a = x; buffer_b = y } ∷ [] }) before
    ∙ ap (λ (l : List LinkEntry). record old { links = l }) (sym (link_more links i c e a b x y lt even odd at_a at_b at_x at_y))
