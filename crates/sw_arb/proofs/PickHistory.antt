-- The ranks of a `LeastRecent` are in the order of the last picks.
use Rattle.std.specs.Prelude.{IsBitSet, count_ones, nat_lt, if◌then◌else◌}
use Rattle.std.proofs.Common.{◌≡◌, ◌≢◌, inl, inr, ℕ, ◌-◌, ◌<◌, ◌≤◌, List, [], ◌∷◌, length, refl, sym, ap, arith, eq-eqb, ne_eqb}
use Rattle.std.proofs.lemmas.Bool.{cases_eq, cases_lt, lt-ltb, le-ltb}
use Rattle.sw_arb.specs.PortCounts.{ports_below-rises}
use Rattle.sw_arb.specs.LeastRecent.{rank, last_picked, IsLongerAgo, HasPicked, nothing, more, LongestAgoIsPicked, least_recent_below}
use Rattle.sw_arb.specs.declared.least_recent.LeastRecent.{LeastRecent}

last_picked-le : (picks : List ℕ) (port : ℕ) → last_picked picks port ≤ length picks
last_picked-le [] port = omega arith
last_picked-le (newest ∷ older) port = elim (cases_eq newest port) [
  | inl same ↦ rw (eq-eqb newest port same) (omega arith)
  | inr other ↦ rw (ne_eqb newest port other) (omega (arith, last_picked-le older port))
]

-- to move down keeps the order
fallen_order : (left p q : ℕ) → (if nat_lt left p then p - 1 else p) < (if nat_lt left q then q - 1 else q) → p < q
fallen_order left p q lt = elim (cases_lt left p) [
  | inl p_above ↦ elim (cases_lt left q) [
    | inl q_above ↦ let lt' = rw (lt-ltb left p p_above, lt-ltb left q q_above) at lt in omega arith
    | inr q_below ↦ let lt' = rw (lt-ltb left p p_above, le-ltb left q q_below) at lt in omega arith
  ]
  | inr p_below ↦ elim (cases_lt left q) [
    | inl q_above ↦ let lt' = rw (le-ltb left p p_below, lt-ltb left q q_above) at lt in omega arith
    | inr q_below ↦ let lt' = rw (le-ltb left p p_below, le-ltb left q q_below) at lt in omega arith
  ]
]

keeps_ports : (ports : ℕ) (picks : List ℕ) (a : LeastRecent) → HasPicked ports picks a → a.ports ≡ ports
keeps_ports ports _ _ (nothing a new) = new.same_ports
keeps_ports ports _ _ (more a b picks asking pick before within picked) = rw picked.ports (keeps_ports ports picks a before)

in_order : (ports : ℕ) (picks : List ℕ) (a : LeastRecent) → HasPicked ports picks a →
    (p q : ℕ) → p < 32 → q < 32 → IsBitSet ports p → IsBitSet ports q → rank a p < rank a q → IsLongerAgo picks p q
in_order ports _ _ (nothing a new) p q is_p is_q has_p has_q lt = elim (cases_lt p q) [
  | inl below ↦ inr (refl, below)
  | inr above ↦ absurd (omega (arith, new.rising p is_p, new.rising q is_q, ports_below-rises ports q p above))
]
in_order ports _ _ (more a b picks asking pick before within picked) p q is_p is_q has_p has_q lt =
    let same = keeps_ports ports picks a before in
    let same_b = keeps_ports ports (pick ∷ picks) b (more a b picks asking pick before within picked) in
    elim (cases_eq pick p) [
      | inl is_pick ↦ absurd (omega (arith, ap (rank b) is_pick, picked.last, least_recent_below b q is_q (rw same_b has_q), ap count_ones same, ap count_ones same_b))
      | inr p_other ↦ elim (cases_eq pick q) [
        | inl is_pick ↦ rw (ne_eqb pick p p_other, eq-eqb pick q is_pick) (inl (omega (arith, last_picked-le picks p)))
        | inr q_other ↦
            let p_not_pick : p ≢ pick = λ e. p_other (sym e) in
            let q_not_pick : q ≢ pick = λ e. q_other (sym e) in
            rw (ne_eqb pick p p_other, ne_eqb pick q q_other)
            (in_order ports picks a before p q is_p is_q has_p has_q
            (fallen_order (rank a pick) (rank a p) (rank a q) (rw (picked.others p is_p p_not_pick, picked.others q is_q q_not_pick) at lt)))
      ]
    ]

pub longest_ago_is_picked : LongestAgoIsPicked
longest_ago_is_picked ports asking pick port a b picks before within picked is_port asks other =
    let same = keeps_ports ports picks a before in
    let has_pick = within pick picked.asks in
    let has_port = within port asks in
    let low : rank a pick ≤ rank a port = picked.longest port is_port asks in
    let apart : rank a pick ≢ rank a port = λ e. other (sym (a.distinct pick port picked.is_port is_port (rw same has_pick) (rw same has_port) e)) in
    in_order ports picks a before pick port picked.is_port is_port has_pick has_port (omega arith)
