-- Words of links: of one that the network does not have, and of one between two targets.
use Rattle.std.specs.List.{join_by}
use Rattle.std.proofs.Common.{refl, ◌≡◌, ℕ, ◌*◌, ◌≤◌, List, [], ◌∷◌, ◌++◌, length, ap, ap₂, append-nil, append_assoc, arith}
use Rattle.std.specs.Prelude.{codes}
use Rattle.std.specs.Option.{option_map_or}
use Rattle.std.proofs.lemmas.Option.{slice_get_past}
use Rattle.sw_topo.specs.Wiring.{partner}
use Rattle.sw_config.specs.Entries.{Declaration}
use Rattle.sw_config.proofs.Steps.{length-link_ends}
use Rattle.sw_flow.specs.Places.{ends_of}
use Rattle.sw_output.specs.Lines.{spaced}
use Rattle.sw_output.specs.ChannelTexts.{channel_text, end_text, start_text}

no_start : (d : Declaration) (c : ℕ) → length (ends_of d) ≤ c → start_text d c ≡ []
no_start d c past = ap (λ o. option_map_or (end_text d) o []) (slice_get_past (ends_of d) c past)

partner_past : (n c : ℕ) → 2 * n ≤ c → 2 * n ≤ partner c
partner_past n c past = grind arith

pub past_link : (d : Declaration) (link : ℕ) → length d.links ≤ link → channel_text d (2 * link) ≡ codes ">"
past_link d link past =
    let even = length-link_ends d.links in
    let low : 2 * length d.links ≤ 2 * link = omega arith in
    let next = partner_past (length d.links) (2 * link) low in
    ap₂ (λ k l. k ++ (codes ">" ++ l)) (no_start d (2 * link) (omega arith)) (no_start d (partner (2 * link)) (omega arith))

-- the line of two flows whose commands go over a link both ways
pub opposed_is : (f e c g h p q r s t : List ℕ) → f ≡ p → e ≡ q → c ≡ r → g ≡ s → h ≡ t
    → codes "commands of " ++ (f ++ (codes " to " ++ (e ++ (codes " go over " ++ (c ++ (codes " and of " ++ (g ++ (codes " to " ++ (h ++ codes " the other way: while both targets answer, each can wait for the other")))))))))
    ≡ spaced (codes "commands of" ∷ spaced (p ∷ codes "to" ∷ q ∷ []) ∷ codes "go over" ∷ r ∷ codes "and of" ∷ spaced (s ∷ codes "to" ∷ t ∷ [])
    ∷ codes "the other way: while both targets answer, each can wait for the other" ∷ [])
opposed_is f e c g h p q r s t one one_end channel other other_end = rw (one, one_end, channel, other, other_end) (simp append_assoc)

pub initiator_is : (i f s p q : List ℕ) → f ≡ p → s ≡ q
    → codes "the initiator logical address " ++ (i ++ (codes " of " ++ (f ++ (codes " is no known address of " ++ s))))
    ≡ spaced (codes "the initiator logical address" ∷ i ∷ codes "of" ∷ p ∷ codes "is no known address of" ∷ q ∷ [])
initiator_is i f s p q name start = rw (name, start) refl

pub initiators_are : (f g s e m n p q t h a b : List ℕ) → f ≡ p → g ≡ q → s ≡ t → e ≡ h → m ≡ a → n ≡ b
    → join_by (λ (x : List ℕ). x) (codes " ") (f ∷ codes "and" ∷ g ∷ codes "go from" ∷ s ∷ codes "to" ∷ e ∷ codes "with different initiator logical addresses:" ∷ m ∷ codes "and" ∷ n ∷ [])
    ≡ spaced (p ∷ codes "and" ∷ q ∷ codes "go from" ∷ t ∷ codes "to" ∷ h ∷ codes "with different initiator logical addresses:" ∷ a ∷ codes "and" ∷ b ∷ [])
initiators_are f g s e m n p q t h a b one other start end first second = rw (one, other, start, end, first, second, append-nil b) refl
