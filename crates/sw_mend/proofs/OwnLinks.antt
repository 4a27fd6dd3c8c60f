-- The link that a target can have of its own, and whether one is tried.
use Rattle.std.proofs.Common.{◌≡◌, ℕ, ◌<◌, ◌&&◌, Bool, true, false, List, [], Option, length, ap, arith, inl, inr, refl, sym, ◌∙◌, Some}
use Rattle.std.specs.Prelude.{is_some, option_and_then, option_map, slice_get, if◌then◌else◌}
use Rattle.std.specs.Option.{option_map_or, option_to_list}
use Rattle.std.proofs.lemmas.Option.{get_or_from_slice_get, slice_get_cases}
use Rattle.sw_topo.specs.Wiring.{Wiring, out, partner}
use Rattle.sw_topo.specs.declared.place.PlaceEnd.{PlaceEnd}
use Rattle.sw_topo.specs.declared.place.PlaceEnd.TheVariants.{Switch}
use Rattle.sw_config.specs.Entries.{LinkEntry, NodeEntry, Declaration, capacities, is_answering, link_ends, target_of, wiring_of}
use Rattle.sw_mend.specs.Changes.{made_at}
use Rattle.sw_mend.specs.Splits.{buffer_of, free_port_below, link_beside, own_links, target_link}
use Rattle.sw_mend.specs.declared.change.TargetLink.{TargetLink}

own_at : (d : Declaration) (n : ℕ) → n < length d.nodes
    → made_at (own_links d) d.nodes n ≡ (if is_some (target_of d.nodes n) && is_answering d n then option_to_list (target_link d n) else [])
own_at d n lt =
    elim (slice_get_cases d.nodes n).1 [
      | inl found ↦
          ap (λ o. option_map_or (own_links d n) o []) found.2
          ∙ sym (ap (λ o. if is_some (option_and_then (λ (e : NodeEntry). e.target) o) && is_answering d n then option_to_list (target_link d n) else []) found.2)
      | inr past ↦ absurd (omega (arith, past.0, lt))
    ]

if_both : {A : Type 0} (a b : Bool) (xs : List A) (c e : Bool) → a ≡ c → b ≡ e → (if a && b then xs else []) ≡ (if c && e then xs else [])
if_both a b xs c e is also = λ t. if is t && also t then xs else []

either_false : {A : Type 0} (a : Bool) (xs : List A) → (if a && false then xs else []) ≡ []
either_false true xs = refl
either_false false xs = refl

pub no_target : (d : Declaration) (n : ℕ) (b : Bool) → n < length d.nodes → b ≡ is_some (target_of d.nodes n) → b ≡ false → [] ≡ made_at (own_links d) d.nodes n
no_target d n b lt is fails =
    sym (own_at d n lt ∙ if_both (is_some (target_of d.nodes n)) (is_answering d n) (option_to_list (target_link d n)) false _ (sym is ∙ fails) refl)

pub not_answering : (d : Declaration) (n : ℕ) (b : Bool) → n < length d.nodes → b ≡ is_answering d n → b ≡ false → [] ≡ made_at (own_links d) d.nodes n
not_answering d n b lt is fails =
    sym (own_at d n lt ∙ if_both (is_some (target_of d.nodes n)) (is_answering d n) (option_to_list (target_link d n)) _ false refl (sym is ∙ fails)
    ∙ either_false (is_some (target_of d.nodes n)) (option_to_list (target_link d n)))

pub own_link_at : (d : Declaration) (n : ℕ) (a b : Bool) (link : Option TargetLink) → n < length d.nodes → a ≡ is_some (target_of d.nodes n) → a ≡ true
    → b ≡ is_answering d n → b ≡ true → link ≡ target_link d n → option_to_list link ≡ made_at (own_links d) d.nodes n
own_link_at d n a b link lt is passes also too same =
    ap option_to_list same
    ∙ sym (own_at d n lt ∙ if_both (is_some (target_of d.nodes n)) (is_answering d n) (option_to_list (target_link d n)) true true (sym is ∙ passes) (sym also ∙ too))

-- ---- the link beside that of the node

-- what a buffer holds, where it is looked up
buffer_is : (links : List LinkEntry) (channel n : ℕ) → slice_get (capacities links) channel ≡ Some n → n ≡ buffer_of links channel
buffer_is links channel n here = sym (get_or_from_slice_get (capacities links) channel n 0 here)

abbrev pub link_with : ℕ → ℕ → ℕ → ℕ → ℕ → ℕ → TargetLink
link_with node s p port near far = record { node = node; switch = s; beside = p; port = port; near = near; far = far }

pub beside_at : (d : Declaration) (node channel s p port near far : ℕ) → Some port ≡ free_port_below 32 (link_ends d.links) s
    → slice_get (capacities d.links) (partner channel) ≡ Some near → slice_get (capacities d.links) channel ≡ Some far
    → Some (link_with node s p port near far) ≡ link_beside d node channel (Switch s p)
beside_at d node channel s p port near far found at_near at_far =
    (λ t. Some (link_with node s p port (buffer_is d.links (partner channel) near at_near t) (buffer_is d.links channel far at_far t)))
    ∙ ap (option_map (λ (q : ℕ). link_with node s p q (buffer_of d.links (partner channel)) (buffer_of d.links channel))) found

-- the channel out of the node leads there
pub target_link_is : (d : Declaration) (w : Wiring) (n channel : ℕ) (end : PlaceEnd) (link : Option TargetLink) → w ≡ wiring_of d → out w.ends n ≡ Some channel
    → slice_get w.ends (partner channel) ≡ Some end → link ≡ link_beside d n channel end → link ≡ target_link d n
target_link_is d w n channel end link is leads there same =
    let from : out (link_ends d.links) n ≡ Some channel = sym (ap (λ (w : Wiring). out w.ends n) is) ∙ leads in
    let at : slice_get (link_ends d.links) (partner channel) ≡ Some end = sym (ap (λ (w : Wiring). slice_get w.ends (partner channel)) is) ∙ there in
    same ∙ sym (ap (option_and_then (λ (c : ℕ). option_and_then (link_beside d n c) (slice_get (link_ends d.links) (partner c)))) from ∙ ap (option_and_then (link_beside d n channel)) at)
