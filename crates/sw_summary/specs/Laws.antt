-- What holds of the counts of a summary.
use Rattle.std.specs.List.{range_with_len}
use Rattle.std.specs.Prelude.{List, Some, [], count_by, length, min, nat_lt, slice_get, slice_index_or, sum_by, ℕ, ◌<◌, ◌≡◌, ◌≤◌}
use Rattle.sw_char.specs.PacketView.{PacketView}
use Rattle.sw_config.specs.Entries.{Declaration, FlowEntry}
use Rattle.sw_config.specs.Valid.{IsValid}
use Rattle.sw_machine.specs.Begun.{AllComesOut, Begun, ComesOutWhole, RunOf, beginnings}
use Rattle.sw_machine.specs.Model.{network_of}
use Rattle.sw_machine.specs.Runs.{CameOut, undelivered}
use Rattle.sw_machine.specs.State.{State, empty}
use Rattle.sw_machine.specs.Steps.{Step}
use Rattle.sw_summary.specs.Counts.{all_items, all_replies, answered, asked_before, delivered, forms, handled_as, items_before, of_flow}
use Rattle.sw_summary.specs.Items.{Item, different, times}
use Rattle.sw_summary.specs.declared.handling.Handling.TheVariants.{Answered}

-- how many of two lists are in both: of each item as many as the list has that has fewer
abbrev pub common : List Item → List Item → ℕ
common xs ys = sum_by (λ p. min (times p xs) (times p ys)) (different xs)

-- all packets of declared flows that were begun, where their flows end, and all replies that they ask for
abbrev pub all_begun : Declaration → List Begun → List Item
all_begun d begun = items_before d begun (length d.flows)

abbrev pub all_asked : Declaration → List Begun → List Item
all_asked d begun = asked_before d begun (length d.flows)

abbrev pub delivered_in_all : Declaration → List Begun → List (List PacketView) → ℕ
delivered_in_all d begun out = sum_by (delivered d begun out) (range_with_len 0 (length d.flows))

abbrev pub answered_in_all : Declaration → List Begun → List (List PacketView) → ℕ
answered_in_all d begun out = sum_by (answered d begun out) (range_with_len 0 (length d.flows))

-- no flow has more delivered than begun
abbrev pub DeliveredIsAtMostBegun : Type 0
DeliveredIsAtMostBegun = (d : Declaration) (begun : List Begun) (out : List (List PacketView)) (i : ℕ) → delivered d begun out i ≤ length (of_flow i begun)

-- nor more answered than it has commands that are answered
abbrev pub AnsweredIsAtMostAsked : Type 0
AnsweredIsAtMostAsked =
    (d : Declaration) (begun : List Begun) (out : List (List PacketView)) (i : ℕ) (f : FlowEntry) → slice_get d.flows i ≡ Some f → answered d begun out i ≤ handled_as Answered (forms f i begun)

-- each packet that came out counts for one that was begun, and each of these is counted for at most once
abbrev pub EachPacketCountsOnce : Type 0
EachPacketCountsOnce = (d : Declaration) (begun : List Begun) (out : List (List PacketView)) → delivered_in_all d begun out ≡ common (all_begun d begun) (all_items out)

abbrev pub EachReplyCountsOnce : Type 0
EachReplyCountsOnce = (d : Declaration) (begun : List Begun) (out : List (List PacketView)) → answered_in_all d begun out ≡ common (all_asked d begun) (all_replies out)

-- where no packet that was begun came out oftener than begun, all that came out and were begun are delivered
abbrev pub AllThatCameOutIsDelivered : Type 0
AllThatCameOutIsDelivered =
    (d : Declaration) (begun : List Begun) (out : List (List PacketView)) → ((p : Item) → 1 ≤ times p (all_begun d begun) → times p (all_items out) ≤ times p (all_begun d begun))
    → delivered_in_all d begun out ≡ count_by (λ p. nat_lt 0 (times p (all_begun d begun))) (all_items out)

-- where each came out at least as often as begun, all that each flow began is delivered
abbrev pub AllBegunIsDelivered : Type 0
AllBegunIsDelivered =
    (d : Declaration) (begun : List Begun) (out : List (List PacketView)) → ((p : Item) → times p (all_begun d begun) ≤ times p (all_items out))
    → (i : ℕ) → i < length d.flows → delivered d begun out i ≡ length (of_flow i begun)

-- the packets that came out at each node
pub record AreOut (d : Declaration) (s : State) (out : List (List PacketView)) : Type 0 where
  pub each_node : length out ≡ length d.nodes
  pub came_out : (n : ℕ) → n < length d.nodes → CameOut s n (slice_index_or out n [])

-- where a run ends with nothing undelivered, in a network from which all comes out as from each accepted one, all that each flow began is delivered
abbrev pub DrainedIsDelivered : Type 0
DrainedIsDelivered =
    (d : Declaration) → IsValid d → AllComesOut (network_of d) → (steps : List Step) (begun : List Begun) (s : State) → RunOf (network_of d) (empty (network_of d)) steps begun s
    → undelivered (network_of d) s ≡ 0 → (out : List (List PacketView)) → AreOut d s out → (i : ℕ) → i < length d.flows → delivered d (beginnings steps) out i ≡ length (of_flow i (beginnings steps))

-- where a run begins no replies, in a network from which nothing else comes out than was begun, as from each accepted one, all that came out is delivered
abbrev pub WholeIsDelivered : Type 0
WholeIsDelivered =
    (d : Declaration) → IsValid d → ComesOutWhole (network_of d) → (steps : List Step) (s : State) → RunOf (network_of d) (empty (network_of d)) steps (beginnings steps) s
    → (out : List (List PacketView)) → AreOut d s out → delivered_in_all d (beginnings steps) out ≡ length (all_items out)
