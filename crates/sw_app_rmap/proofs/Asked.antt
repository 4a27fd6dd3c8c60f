-- A packet that is made is one that its flow declares, and its target does what is asked for.
use Rattle.std.proofs.Common.{◌≡◌, ℕ, ◌<◌, ◌≤◌, Bool, true, false, not, ◌&&◌, List, [], ◌∷◌, ◌++◌, length, take, drop, get_or, Option, Some, None, refl, sym, ap, ◌∙◌, subst, inl, inr, arith, length-drop, take-append-drop}
use Rattle.std.specs.Prelude.{is_some, nat_lt, option_and_then, position, slice_get, Ok, zero, suc, if◌then◌else◌}
use Rattle.std.specs.Str.{bytes_eq}
use Rattle.std.proofs.lemmas.Bool.{and_parts, ltb-true, ltb-false}
use Rattle.std.proofs.lemmas.List.Quantifiers.{position-Some}
use Rattle.std.proofs.lemmas.Slice.Eq.{bytes_eq-Decides}
use Rattle.sw_config.specs.Entries.{Declaration, FlowEntry, NodeEntry, ReplyEntry, flow_names, target_of}
use Rattle.sw_config.specs.Limits.{is_limited}
use Rattle.sw_config.specs.Valid.{IsFlow, IsValid}
use Rattle.sw_config.proofs.Flows.{All-at}
use Rattle.sw_machine.specs.DeclaredPackets.{IsAnsweredRightly, IsCommandIfLimited, IsDeclaredPacket, IsRightWay, left_bytes, reply_from}
use Rattle.sw_rmap.specs.declared.config.TargetConfig.{TargetConfig}
use Rattle.sw_rmap.specs.CommandView.{CommandView}
use Rattle.sw_rmap.specs.Commands.{read}
use Rattle.sw_rmap.specs.Replies.{reply_to, way_back}
use Rattle.sw_rmap.proofs.Parts.{written_is_read}
use Rattle.sw_app_rmap.specs.declared.request.Request.{Request}
use Rattle.sw_app_rmap.specs.FlowCommands.{bytes_to, command_to, initiator_of, path_back}
use Rattle.sw_app_rmap.specs.Laws.{PacketsAreAsked}
use Rattle.sw_app_rmap.specs.Orders.{IsSmall, RmapOrder, data_of, wants_reply}
use Rattle.sw_app_rmap.specs.Packets.{FlowPacket, packet_of}
use Rattle.sw_app_rmap.proofs.Bounds.{is_small}
use Rattle.sw_app_rmap.proofs.Built.{IsPath, answered_where_wanted, is_command, is_path, path_of_command}
use Rattle.sw_app_rmap.proofs.Answered.{carries_out}
use Rattle.sw_app_rmap.proofs.Parts.{IsCarried, has_target, is_made}

-- the address bytes that are left and the cargo are the command
pub whole_command : (t : TargetConfig) (f : FlowEntry) (o : RmapOrder) (cargo : List ℕ) → IsCarried t f o cargo → left_bytes f ++ cargo ≡ bytes_to t f.reply o
whole_command t f o cargo is =
    let left = left_bytes f in
    let bytes = bytes_to t f.reply o in
    let parts = and_parts (bytes_eq (take (length left) bytes) left) (nat_lt (length left) (length bytes)) is.begins in
    let front : take (length left) bytes ≡ left = (bytes_eq-Decides (take (length left) bytes) left).0 parts.0 in
    ap (λ (x : List ℕ). left ++ x) is.is ∙ ap (λ (x : List ℕ). x ++ drop (length left) bytes) (sym front) ∙ take-append-drop (length left) bytes

-- 1 to 4,096 bytes
sized : (t : TargetConfig) (f : FlowEntry) (o : RmapOrder) (cargo : List ℕ) → IsCarried t f o cargo → (1 ≤ length cargo) × (length cargo ≤ 4096)
sized t f o cargo is =
    let left = left_bytes f in
    let bytes = bytes_to t f.reply o in
    let parts = and_parts (bytes_eq (take (length left) bytes) left) (nat_lt (length left) (length bytes)) is.begins in
    let longer : length left < length bytes = ltb-true _ _ parts.1 in
    let few : length (drop (length left) bytes) ≤ 4096 = ltb-false 4096 (length (drop (length left) bytes)) is.few in
    let rest = length-drop (length left) bytes in
    rw is.is ((omega (arith, longer, rest), few))

-- where the reply goes, if there is one
right_way : (answered : Bool) (path : List ℕ) (initiator : ℕ) (reply : Option ReplyEntry) → (answered && not (is_some reply)) ≡ false → path ≡ path_back reply → initiator ≡ initiator_of reply
    → IsRightWay (if answered then Some (path ++ initiator ∷ []) else None) reply
right_way false path initiator reply h p i = inl refl
right_way true path initiator None h p i = absurd cc
right_way true path initiator (Some r) h p i = inr (rw (p, i) refl)

answered_rightly : (t : TargetConfig) (nodes : List NodeEntry) (f : FlowEntry) (o : RmapOrder) (cargo : List ℕ) → target_of nodes f.to ≡ Some t → IsPath (path_back f.reply) → IsSmall o → IsCarried t f o cargo
    → IsAnsweredRightly nodes f cargo
unfolding reply_to
answered_rightly t nodes f o cargo at path small is =
    let c : CommandView = command_to t f.reply o in
    let again : read (bytes_to t f.reply o) ≡ Some c = (written_is_read c (data_of o.action) (is_command t f.reply o path small)).0 in
    let way : reply_to (bytes_to t f.reply o) ≡ way_back c = ap (option_and_then way_back) again in
    let from : reply_from nodes f.to (left_bytes f ++ cargo) ≡ way_back c = rw (at, whole_command t f o cargo is) way in
    let right : IsRightWay (way_back c) f.reply = rw (answered_where_wanted t f.reply o path, path_of_command t f.reply o path) (right_way (wants_reply o.action) (path_back f.reply) (initiator_of f.reply) f.reply is.answerable refl refl) in
    subst (λ (w : Option (List ℕ)). IsRightWay w f.reply) (sym from) right

some_way : (answered : Bool) (path : List ℕ) (initiator : ℕ) → answered ≡ true → is_some (if answered then Some (path ++ initiator ∷ []) else None) ≡ true
some_way false path initiator e = absurd cc
some_way true path initiator e = refl

asks : (limited wants : Bool) → (limited && not wants) ≡ false → limited ≡ true → wants ≡ true
asks limited true h e = refl
asks true false h e = absurd cc
asks false false h e = absurd cc

-- where the flow is limited, there is one
command_where_limited : (t : TargetConfig) (nodes : List NodeEntry) (f : FlowEntry) (o : RmapOrder) (cargo : List ℕ) → target_of nodes f.to ≡ Some t → IsPath (path_back f.reply) → IsSmall o → IsCarried t f o cargo
    → (is_limited nodes f && not (wants_reply o.action)) ≡ false → IsCommandIfLimited nodes f cargo
unfolding reply_to
command_where_limited t nodes f o cargo at path small is free limited =
    let c : CommandView = command_to t f.reply o in
    let again : read (bytes_to t f.reply o) ≡ Some c = (written_is_read c (data_of o.action) (is_command t f.reply o path small)).0 in
    let way : reply_to (bytes_to t f.reply o) ≡ way_back c = ap (option_and_then way_back) again in
    let from : reply_from nodes f.to (left_bytes f ++ cargo) ≡ way_back c = rw (at, whole_command t f o cargo is) way in
    let some : is_some (way_back c) ≡ true = rw (answered_where_wanted t f.reply o path, path_of_command t f.reply o path)
    (some_way (wants_reply o.action) (path_back f.reply) (initiator_of f.reply) (asks (is_limited nodes f) (wants_reply o.action) free limited)) in
    subst (λ (w : Option (List ℕ)). is_some w ≡ true) (sym from) some

is_valid_flow : (d : Declaration) (i : ℕ) (f : FlowEntry) → IsValid d → slice_get d.flows i ≡ Some f → IsFlow d.nodes f
is_valid_flow d i f valid at = All-at (IsFlow d.nodes) d.flows i f at valid.flows

-- the flow of that place has that name
named_at : (flows : List FlowEntry) (name : List ℕ) (i : ℕ) (f : FlowEntry) → position (bytes_eq name) (flow_names flows) ≡ Some i → slice_get flows i ≡ Some f → f.name ≡ name
named_at flows name i f found at =
    let p = position-Some (bytes_eq name) (flow_names flows) i [] found in
    let same : name ≡ get_or (flow_names flows) i [] = (bytes_eq-Decides name (get_or (flow_names flows) i [])).0 p.1 in
    sym (same ∙ name_at flows i f at)
  where
    name_at : (flows : List FlowEntry) (i : ℕ) (f : FlowEntry) → slice_get flows i ≡ Some f → get_or (flow_names flows) i [] ≡ f.name
    name_at [] i f at = absurd cc
    name_at (g ∷ flows) zero f at = let same : g ≡ f = cc in ap (λ (x : FlowEntry). x.name) same
    name_at (g ∷ flows) (suc i) f at = name_at flows i f at

pub packets_are_asked : PacketsAreAsked
packets_are_asked d r p valid h =
    let made = is_made d r p h in
    let f = made.flow in
    let o = made.order in
    let target = has_target d.nodes f o p.cargo made.carried in
    let t = target.0 in
    let is = target.2 in
    let flow = is_valid_flow d p.flow f valid made.numbered in
    let path = is_path d.nodes f.to f.reply flow.reply in
    let small = is_small r o made.asked in
    let size = sized t f o p.cargo is in
    record {
      flow = f;
      numbered = made.numbered;
      named = named_at d.flows r.flow.now p.flow f made.named made.numbered;
      declared = record {
        entry = f;
        declared = made.numbered;
        some = size.0;
        few = omega (arith, size.1);
        answered = answered_rightly t d.nodes f o p.cargo target.1 path small is;
        command = command_where_limited t d.nodes f o p.cargo target.1 path small is target.3;
      };
      order = o;
      asked = made.asked;
      target = t;
      at_end = target.1;
      answered = λ memory held. rw (whole_command t f o p.cargo is) (carries_out t f.reply o memory path small is.within);
    }

-- a packet can stand in a load
pub record IsLoadable (d : Declaration) (name : List ℕ) (p : FlowPacket) : Type 0 where
  pub named : position (bytes_eq name) (flow_names d.flows) ≡ Some p.flow
  pub declared : IsDeclaredPacket d p.flow p.cargo
  pub few : length p.cargo ≤ 4096

pub is_loadable : (d : Declaration) (r : Request) (p : FlowPacket) → IsValid d → packet_of d r ≡ Ok p → IsLoadable d r.flow.now p
is_loadable d r p valid h =
    let made = is_made d r p h in
    let target = has_target d.nodes made.flow made.order p.cargo made.carried in
    record {
      named = made.named;
      declared = (packets_are_asked d r p valid h).declared;
      few = (sized target.0 made.flow made.order p.cargo target.2).1;
    }
