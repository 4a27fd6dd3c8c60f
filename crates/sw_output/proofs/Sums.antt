-- What tallies tell of a list.
use Rattle.std.proofs.Common.{◌≡◌, ◌∙◌, ◌≤◌, ◌+◌, ℕ, suc, Bool, true, false, List, [], ◌∷◌, ap, arith, refl, sym}
use Rattle.std.specs.Prelude.{if◌then◌else◌}
use Rattle.std.proofs.lemmas.List.Elements.{All-cons, All-nil}
use Rattle.std.specs.Cmp.{alike_right}
use Rattle.std.specs.List.{All, fold}
use Rattle.std.specs.Ordering.{is_eq}
use Rattle.std.specs.declared.cmp.Ordering.{Ordering}
use Rattle.std.specs.declared.cmp.Ordering.TheVariants.{Less, Equal, Greater}
use Rattle.sw_char.specs.PacketView.{PacketView}
use Rattle.sw_output.specs.Counting.{counted_at}
use Rattle.sw_output.specs.Tallies.{TalliesCount, TallyView, counted, packet_order, tallied, tallies, times}
use Rattle.sw_output.proofs.Counts.{tallies_rise}
use Rattle.sw_output.proofs.Order.{packet_order_total}

abbrev one : PacketView → PacketView → ℕ
one p q = if is_eq (packet_order p q) then 1 else 0

-- one more at a tally that counts p, or does not
at_tally : (b : Bool) (count rest : ℕ) → (if b then count + 1 else 0) + rest ≡ (if b then 1 else 0) + ((if b then count else 0) + rest)
at_tally true count rest = omega arith
at_tally false count rest = omega arith

tallied_counted : (p q : PacketView) (ts : List TallyView) → tallied p (counted q ts) ≡ one p q + tallied p ts
tallied_counted p q [] = refl
tallied_counted p q (t ∷ ts) = go (packet_order q t.item) refl (tallied_counted p q ts)
  where
    go : (r : Ordering) → packet_order q t.item ≡ r → tallied p (counted q ts) ≡ one p q + tallied p ts
        → tallied p (counted_at q r t ts (counted q ts)) ≡ one p q + tallied p (t ∷ ts)
    go Less is rest = refl
    go Equal is rest =
        let same : packet_order p q ≡ packet_order p t.item = alike_right packet_order_total q t.item p is in
        at_tally (is_eq (packet_order p t.item)) t.count (tallied p ts)
        ∙ ap (λ (r : Ordering). (if is_eq r then 1 else 0) + tallied p (t ∷ ts)) (sym same)
    go Greater is rest = omega (arith, rest)

tallied_from : (p : PacketView) (ts : List TallyView) (packets : List PacketView) → tallied p (fold (λ us q. counted q us) ts packets) ≡ tallied p ts + times p packets
tallied_from p ts [] = omega arith
tallied_from p ts (q ∷ qs) =
    let rest = tallied_from p (counted q ts) qs in
    let here = tallied_counted p q ts in
    omega (arith, rest, here)

abbrev AreListed : List TallyView → Type 0
AreListed ts = All (λ (t : TallyView). 1 ≤ t.count) ts

counted_listed : (q : PacketView) (ts : List TallyView) → AreListed ts → AreListed (counted q ts)
counted_listed q [] h = All-cons (λ (t : TallyView). 1 ≤ t.count) (record { item = q; count = 1 }) [] (omega arith) (All-nil _)
counted_listed q (t ∷ ts) h = go (packet_order q t.item) (counted_listed q ts rest)
  where
    rest : AreListed ts
    rest k d within = h (suc k) d (omega (arith, within))

    first : 1 ≤ t.count
    first = h 0 t (omega arith)

    go : (r : Ordering) → AreListed (counted q ts) → AreListed (counted_at q r t ts (counted q ts))
    go Less later = All-cons (λ (u : TallyView). 1 ≤ u.count) (record { item = q; count = 1 }) (t ∷ ts) (omega arith) h
    go Equal later = All-cons (λ (u : TallyView). 1 ≤ u.count) (record t { count = t.count + 1 }) ts (omega arith) rest
    go Greater later = All-cons (λ (u : TallyView). 1 ≤ u.count) t (counted q ts) first later

listed_from : (ts : List TallyView) (packets : List PacketView) → AreListed ts → AreListed (fold (λ us q. counted q us) ts packets)
listed_from ts [] h = h
listed_from ts (q ∷ qs) h = listed_from (counted q ts) qs (counted_listed q ts h)

pub tallies_count : TalliesCount
tallies_count packets = record {
  rising = tallies_rise packet_order_total packets;
  listed = listed_from [] packets (All-nil _);
  counts = λ p. (let sum : tallied p (tallies packets) ≡ 0 + times p packets = tallied_from p [] packets in omega (arith, sum));
}
