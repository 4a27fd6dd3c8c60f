-- What a run did with the packets of its load (this project's choice).
use Rattle.std.specs.Prelude.{List, None, Option, Some, [], ◌∷◌, ◌++◌, count_by, filter, flat_map, if◌then◌else◌, length, map, nat_eq, replicate, slice_get, slice_index_or, sum_by, take, ℕ, ◌==◌}
use Rattle.std.specs.List.{range_with_len}
use Rattle.std.specs.Option.{option_map_or}
use Rattle.sw_char.specs.PacketView.{PacketView}
use Rattle.sw_char.specs.declared.nchar.End.TheVariants.{Eop}
use Rattle.sw_config.specs.Entries.{Declaration, FlowEntry, ReplyEntry}
use Rattle.sw_load.specs.Load.{LoadEntry}
use Rattle.sw_machine.specs.Begun.{Begun}
use Rattle.sw_machine.specs.DeclaredPackets.{left_bytes}
use Rattle.sw_summary.specs.Handlings.{handling_index, handling_of}
use Rattle.sw_summary.specs.Replies.{is_reply, status_of}
use Rattle.sw_summary.specs.Items.{Item, shares}
use Rattle.sw_summary.specs.declared.handling.Handling.{Handling}
use Rattle.sw_summary.specs.declared.handling.Handling.TheVariants.{Answered}

-- the packets of flow i
abbrev pub of_flow : ℕ → List Begun → List Begun
of_flow i begun = filter (λ b. nat_eq b.flow i) begun

-- how many packets of flow i an entry of a load has
abbrev pub of_entry : ℕ → LoadEntry → ℕ
of_entry i p = if nat_eq p.flow i then p.count else 0

-- how many a load has
abbrev pub loaded : ℕ → List LoadEntry → ℕ
loaded i load = sum_by (of_entry i) load

-- a packet of a flow, as the node at its end gets it: the address bytes that are left, the cargo, and the end
abbrev pub form_of : FlowEntry → Begun → PacketView
form_of f b = record { bytes = left_bytes f ++ b.cargo; end = b.end }

-- the packets of flow i that were begun, so
abbrev pub forms : FlowEntry → ℕ → List Begun → List PacketView
forms f i begun = map (form_of f) (of_flow i begun)

-- packets at a node
abbrev pub item_at : ℕ → PacketView → Item
item_at n p = record { node = n; packet = p }

abbrev pub items_at : ℕ → List PacketView → List Item
items_at n packets = map (item_at n) packets

-- the packets of flow i that were begun, at the node where the flow ends
abbrev pub items_of : Declaration → List Begun → ℕ → List Item
items_of d begun i = option_map_or (λ f. items_at f.to (forms f i begun)) (slice_get d.flows i) []

-- those of the flows before flow i
abbrev pub items_before : Declaration → List Begun → ℕ → List Item
items_before d begun i = flat_map (items_of d begun) (range_with_len 0 i)

-- what came out, node by node
abbrev pub all_items : List (List PacketView) → List Item
all_items out = flat_map (λ n. items_at n (slice_index_or out n [])) (range_with_len 0 (length out))

-- how many packets of flow i came out where it ends: each that came out counts for one that was begun, first for those of the first flow
abbrev pub delivered : Declaration → List Begun → List (List PacketView) → ℕ → ℕ
delivered d begun out i = shares (all_items out) (items_before d begun i) (items_of d begun i)

-- how many of these packets a target handles so
abbrev pub handled_as : Handling → List PacketView → ℕ
handled_as handling packets = count_by (λ p. handling_index (handling_of p.bytes) == handling_index handling) packets

-- a reply by the initiator's logical address alone
abbrev pub by_initiator : ℕ → PacketView
by_initiator initiator = record { bytes = initiator ∷ []; end = Eop }

-- the replies that these packets of a flow ask for
abbrev pub asked_by : FlowEntry → List PacketView → Option ReplyEntry → List Item
asked_by f packets None = []
asked_by f packets (Some r) = replicate (handled_as Answered packets) (record { node = f.from; packet = by_initiator r.initiator })

abbrev pub asked_of : Declaration → List Begun → ℕ → List Item
asked_of d begun i = option_map_or (λ f. asked_by f (forms f i begun) f.reply) (slice_get d.flows i) []

abbrev pub asked_before : Declaration → List Begun → ℕ → List Item
asked_before d begun i = flat_map (asked_of d begun) (range_with_len 0 i)

-- the replies among packets
abbrev pub replies_of : List PacketView → List PacketView
replies_of packets = filter (λ p. is_reply p.bytes) packets

-- the replies at a node, each by its first byte, which is that address
abbrev pub reply_at : ℕ → PacketView → Item
reply_at n p = record { node = n; packet = record { bytes = take 1 p.bytes; end = Eop } }

abbrev pub replies_at : ℕ → List PacketView → List Item
replies_at n packets = map (reply_at n) (replies_of packets)

abbrev pub all_replies : List (List PacketView) → List Item
all_replies out = flat_map (λ n. replies_at n (slice_index_or out n [])) (range_with_len 0 (length out))

-- how many commands of flow i were answered: each reply that came out counts for one that asked for it, first for those of the first flow
abbrev pub answered : Declaration → List Begun → List (List PacketView) → ℕ → ℕ
answered d begun out i = shares (all_replies out) (asked_before d begun i) (asked_of d begun i)

-- the statuses of the replies among packets
abbrev pub statuses_of : List PacketView → List ℕ
statuses_of packets = map (λ p. status_of p.bytes) (replies_of packets)

-- those of all that came out, node by node
abbrev pub statuses : List (List PacketView) → List ℕ
statuses out = flat_map statuses_of out

-- how many replies with this status came out
abbrev pub with_status : List (List PacketView) → ℕ → ℕ
with_status out status = count_by (λ s. s == status) (statuses out)
