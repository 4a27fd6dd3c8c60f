-- Items that are the same, by their parts and by their order.
use Rattle.std.proofs.Common.{Decides, List, ap, arith, refl, true, ℕ, ◌+◌, ◌∷◌, ◌≡◌}
use Rattle.std.proofs.lemmas.Bool.{and_from, and_parts}
use Rattle.std.proofs.lemmas.List.Sums.{sum_by-cons}
use Rattle.std.proofs.lemmas.Slice.Eq.{bytes_eq-Decides}
use Rattle.std.specs.Cmp.{both_tied, unsigned_Decides, unsigned_ties}
use Rattle.std.specs.Cmp.Lexicographic.{texts_ties}
use Rattle.std.specs.Ordering.{is_eq}
use Rattle.std.specs.Prelude.{if◌then◌else◌, ◌==◌}
use Rattle.sw_char.specs.declared.nchar.End.{End}
use Rattle.sw_char.specs.declared.nchar.End.TheVariants.{Eep, Eop}
use Rattle.sw_output.specs.Tallies.{end_rank}
use Rattle.sw_summary.specs.Items.{Item, is_same, times}
use Rattle.sw_summary.specs.KeyCounts.{item_order}

same_end : (a b : End) → end_rank a ≡ end_rank b → a ≡ b
same_end Eop Eop is = refl
same_end Eop Eep is = absurd (omega (arith, is))
same_end Eep Eop is = absurd (omega (arith, is))
same_end Eep Eep is = refl

-- one and the same item
pub same_is : (p q : Item) → Decides (is_same p q) (p ≡ q)
same_is p q = (λ same. one same, λ is. both is)
  where
    one : is_same p q ≡ true → p ≡ q
    one same =
        let parts = and_parts _ _ same in
        let inner = and_parts _ _ parts.1 in
        let node = (unsigned_Decides p.node q.node).0 parts.0 in
        let bytes = (bytes_eq-Decides p.packet.bytes q.packet.bytes).0 inner.0 in
        let end = same_end p.packet.end q.packet.end ((unsigned_Decides (end_rank p.packet.end) (end_rank q.packet.end)).0 inner.1) in
        (λ i. record { node = node i; packet = record { bytes = bytes i; end = end i } })

    both : p ≡ q → is_same p q ≡ true
    both is =
        and_from _ _ ((unsigned_Decides p.node q.node).1 (ap (λ (r : Item). r.node) is))
        (and_from _ _ ((bytes_eq-Decides p.packet.bytes q.packet.bytes).1 (ap (λ (r : Item). r.packet.bytes) is))
        ((unsigned_Decides (end_rank p.packet.end) (end_rank q.packet.end)).1 (ap (λ (r : Item). end_rank r.packet.end) is)))

pub same_itself : (p : Item) → is_same p p ≡ true
same_itself p = (same_is p p).1 refl

-- the order does not tell them apart
pub same_tied : (p q : Item) → is_same p q ≡ is_eq (item_order p q)
same_tied p q =
    both_tied (p.node == q.node) _ _ _ (unsigned_ties p.node q.node)
    (both_tied _ (end_rank p.packet.end == end_rank q.packet.end) _ _ (texts_ties p.packet.bytes q.packet.bytes) (unsigned_ties (end_rank p.packet.end) (end_rank q.packet.end)))

abbrev pub one : Item → Item → ℕ
one p q = if is_same p q then 1 else 0

-- one item more
pub times_cons : (p q : Item) (qs : List Item) → times p (q ∷ qs) ≡ one p q + times p qs
times_cons p q qs = sum_by-cons (λ r. one p r) q qs
