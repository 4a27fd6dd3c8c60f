-- Why a certificate is refused for a network: the first reason, in the order of this file (the order is this project's choice).
use Rattle.std.specs.Prelude.{ℕ, suc, ◌==◌, ◌&&◌, nat_le, nat_lt, Bool, true, false, List, [], ◌∷◌, map, filter, length, slice_index, Option, Some, None, option_map, unwrap_or, if◌then◌else◌}
use Rattle.std.specs.List.{list_all, list_any, range_with_len}
use Rattle.sw_topo.specs.Wiring.{out, partner}
use Rattle.sw_topo.specs.Checked.{first_of}
use Rattle.sw_config.specs.Entries.{FlowEntry, Declaration, all_flows}
use Rattle.sw_config.specs.Limits.{may_make_wait}
use Rattle.sw_flow.specs.declared.place.Place.{Place}
use Rattle.sw_flow.specs.Places.{ends_of, flow_start, out_at}
use Rattle.sw_flow.specs.Faults.{fault_of}
use Rattle.sw_flow.specs.Followers.{followers_of}
use Rattle.sw_cert.specs.Text.{Contents}
use Rattle.sw_cert.specs.declared.refusal.Refusal.{Refusal}
use Rattle.sw_cert.specs.declared.refusal.Refusal.TheVariants.{WrongCount, NoStart, Faulty, NotClosed, NotRising}
use Rattle.sw_cert.specs.Least.{least}

-- the first refusal of the list's elements
abbrev pub first_refusal : {A : Type 0} → (A → Option Refusal) → List A → Option Refusal
first_refusal refusal [] = None
first_refusal refusal (x ∷ xs) = first_of (refusal x) (first_refusal refusal xs)

-- the first refusal, flow by flow, by the flow's number, the flow and its list; the flows are numbered from i on
abbrev pub by_flow : (ℕ → FlowEntry → List Place → Option Refusal) → ℕ → List FlowEntry → List (List Place) → Option Refusal
by_flow refusal i [] lists = None
by_flow refusal i (f ∷ flows) [] = None
by_flow refusal i (f ∷ flows) (listed ∷ lists) = first_of (refusal i f listed) (by_flow refusal (suc i) flows lists)

-- ---- wrong counts

-- the place's channel is one of the network's, and no more address bytes are deleted there than the flow has
abbrev pub is_in_range : Declaration → FlowEntry → Place → Bool
is_in_range d f p = nat_lt p.channel (length (ends_of d)) && nat_le p.deleted (length f.address)

-- there are as many lists as flows, each of places in range
abbrev pub are_in_range : Declaration → List FlowEntry → List (List Place) → Bool
are_in_range d [] [] = true
are_in_range d [] (listed ∷ lists) = false
are_in_range d (f ∷ flows) [] = false
are_in_range d (f ∷ flows) (listed ∷ lists) = list_all (is_in_range d f) listed && are_in_range d flows lists

-- there are as many numbers as channels, and as many lists as flows, each of places in range
abbrev pub is_of_the_network : Declaration → Contents → Bool
is_of_the_network d c = (length c.numbers == length (ends_of d)) && are_in_range d (all_flows d) c.places

-- ---- flow by flow: its start, and then place by place

abbrev pub is_same : Place → Place → Bool
is_same p q = (p.channel == q.channel) && (p.deleted == q.deleted)

abbrev pub is_listed : List Place → Place → Bool
is_listed listed p = list_any (is_same p) listed

-- the channel that ends at node n
abbrev pub into_at : Declaration → ℕ → ℕ
into_at d n = unwrap_or (option_map partner (out (ends_of d) n)) 0

-- each place that follows p is listed
abbrev pub is_closed_at : Declaration → FlowEntry → List Place → Place → Bool
is_closed_at d f listed p = list_all (is_listed listed) (followers_of d f p.channel p.deleted)

-- the place has a fault, or what follows it is not all listed
abbrev pub refusal_of_place : Declaration → ℕ → FlowEntry → List Place → Place → Option Refusal
refusal_of_place d i f listed p =
    first_of (option_map (Faulty i p) (fault_of d f p.channel p.deleted)) (if is_closed_at d f listed p then None else Some (NotClosed i p))

abbrev pub refusal_of_flow : Declaration → ℕ → FlowEntry → List Place → Option Refusal
refusal_of_flow d i f listed =
    first_of (if is_listed listed (flow_start d f) then None else Some (NoStart i)) (first_refusal (refusal_of_place d i f listed) listed)

-- ---- numbers that don't rise

-- the number of channel e is not above that of channel c
abbrev pub is_not_above : List ℕ → ℕ → ℕ → Bool
is_not_above numbers c e = nat_le (slice_index numbers e) (slice_index numbers c)

-- along the steps from p: told by the least channel that has no greater number than the channel of p
abbrev pub not_rising_from : Declaration → List ℕ → FlowEntry → Place → Option Refusal
not_rising_from d numbers f p =
    option_map (NotRising p.channel) (least (is_not_above numbers p.channel) (map (λ q. q.channel) (followers_of d f p.channel p.deleted)))

abbrev pub not_rising_along : Declaration → List ℕ → ℕ → FlowEntry → List Place → Option Refusal
not_rising_along d numbers i f listed = first_refusal (not_rising_from d numbers f) listed

-- the number of the channel out of node n is not above that of the channel into it
abbrev pub is_falling_at : Declaration → List ℕ → ℕ → Bool
is_falling_at d numbers n = is_not_above numbers (into_at d n) (out_at d n)

-- the least node at which what comes may have to wait for a reply and the numbers do not rise
abbrev pub least_falling : Declaration → List ℕ → Option ℕ
least_falling d numbers = least (is_falling_at d numbers) (filter (may_make_wait d) (range_with_len 0 (length d.nodes)))

-- at a node where what comes may have to wait for a reply, from the channel into it to the one out of it: told by the least such node
abbrev pub not_rising_at_targets : Declaration → List ℕ → Option Refusal
not_rising_at_targets d numbers = option_map (λ n. NotRising (into_at d n) (out_at d n)) (least_falling d numbers)

-- ---- the first reason

unfoldable pub refusal_of : Declaration → Contents → Option Refusal
refusal_of d c =
    first_of (if is_of_the_network d c then None else Some WrongCount)
    (first_of (by_flow (refusal_of_flow d) 0 (all_flows d) c.places)
    (first_of (by_flow (not_rising_along d c.numbers) 0 (all_flows d) c.places)
    (not_rising_at_targets d c.numbers)))
