-- The laws of what is told.
use Rattle.std.proofs.Common.{◌≡◌, ℕ, suc, ◌<◌, List, [], ◌∷◌, length, map, refl, sym, ◌∙◌, inl, arith}
use Rattle.std.specs.Prelude.{Vec}
use Rattle.std.specs.declared.alloc.Global.{Global}
use Rattle.std.proofs.lemmas.List.Kept.{AllPairs-from_increasing}
use Rattle.sw_config.specs.Entries.{Declaration}
use Rattle.sw_graph.specs.Reached.{IsListing}
use Rattle.sw_graph.specs.Rows.{row}
use Rattle.sw_search.specs.Verdicts.{depends}
use Rattle.sw_flow.proofs.Sorted.{same_sorted}
use Rattle.sw_search.proofs.Zips.{zip_determined}
use Rattle.sw_margin.specs.declared.bend.Bend.{Bend}
use Rattle.sw_margin.specs.Bends.{IsAnswer, IsBend, IsStall, answerable, answering_at, quiet_nodes, stall}
use Rattle.sw_margin.specs.Laws.{AnswersAreDetermined, FreeBefore, LossesAreDetermined, StallsAreDetermined}
use Rattle.sw_margin.specs.Losses.{IsLost}
use Rattle.sw_margin.specs.Waits.{WaitsWith}
use Rattle.sw_topo.proofs.Lists.{same_answer}
use Rattle.sw_graph.proofs.Transfers.{cycle_map}

same_bend : (d : Declaration) (more : List (ℕ × ℕ)) (n : ℕ) (a b : Bend) → IsBend d more n a → IsBend d more n b → a ≡ b
same_bend d more n a b h k =
    let number : a.number ≡ b.number = h.0 ∙ sym k.0 in
    let free : a.stays_free ≡ b.stays_free = same_answer _ a.stays_free b.stays_free h.1 k.1 in
    λ i. record { number = number i; stays_free = free i }

pub stalls_are_determined : StallsAreDetermined
stalls_are_determined d told other h k = zip_determined (IsStall d) (λ n a b. same_bend d (stall d n) n a b) (quiet_nodes d) told other h k

pub answers_are_determined : AnswersAreDetermined
answers_are_determined d told other h k = zip_determined (IsAnswer d) (λ i a b. same_bend d (answering_at d i) i a b) (answerable d) told other h k

-- a set has one listing
pub same_listing : (P : ℕ → Type 0) (xs ys : List ℕ) → IsListing P xs → IsListing P ys → xs ≡ ys
same_listing P xs ys h k =
    same_sorted (λ x y. x < y) (λ x y a b. omega arith) xs ys (AllPairs-from_increasing xs h.rising) (AllPairs-from_increasing ys k.rising)
    (λ p m. (k.member p).1 ((h.member p).0 m)) (λ p m. (h.member p).1 ((k.member p).0 m))

-- lists of as many rows with the same items in each
same_rows : (g h : List (Vec ℕ Global)) → length g ≡ length h → ((l : ℕ) → l < length g → row g l ≡ row h l) → map (λ (v : Vec ℕ Global). v.items) g ≡ map (λ (v : Vec ℕ Global). v.items) h
same_rows [] [] size each = refl
same_rows [] (y ∷ h) size each = absurd (omega arith)
same_rows (x ∷ g) [] size each = absurd (omega arith)
same_rows (x ∷ g) (y ∷ h) size each =
    let first : x.items ≡ y.items = each 0 (omega arith) in
    let rest = same_rows g h (omega arith) (λ l lt. each (suc l) (omega arith)) in
    λ i. first i ∷ rest i

pub losses_are_determined : LossesAreDetermined
losses_are_determined d told other h k =
    same_rows told other (h.size ∙ sym k.size) (λ l lt. let size = h.size in let within : l < length d.links = omega arith in same_listing (IsLost d l) (row told l) (row other l) (h.each l within) (k.each l within))

pub free_before : FreeBefore
free_before d more stays cycle = stays (cycle_map (depends d) (WaitsWith d more) (λ c e x. inl x) cycle)
