-- The parts of a packet that is made.
use Rattle.std.proofs.Common.{◌≡◌, ◌<◌, ℕ, Bool, true, false, not, ◌&&◌, List, length, drop, Option, Some, None, Result, Ok, Err, refl, sym}
use Rattle.std.specs.Prelude.{IsErr, IsErrAnd, is_some, nat_lt, position, slice_get, option_map, if◌then◌else◌}
use Rattle.std.specs.Str.{bytes_eq}
use Rattle.sw_config.specs.Entries.{Declaration, FlowEntry, NodeEntry, all_flows, flow_names, reply_flows, target_of}
use Rattle.sw_config.specs.Limits.{is_limited}
use Rattle.sw_machine.specs.DeclaredPackets.{left_bytes}
use Rattle.sw_rmap.specs.declared.config.TargetConfig.{TargetConfig}
use Rattle.sw_text.specs.declared.fault.OrMemory.{OrMemory}
use Rattle.sw_text.specs.declared.fault.OrMemory.TheVariants.{Fault, Memory}
use Rattle.sw_app_rmap.specs.declared.fault.RmapFault.{RmapFault}
use Rattle.sw_app_rmap.specs.declared.fault.RmapFault.TheVariants.{UnknownFlow, BadAddress, BadTransaction, NoTarget, NotAnswered, NoReply, OutsideWindow, WrongLeft, TooLong}
use Rattle.sw_app_rmap.specs.declared.request.Request.{Request}
use Rattle.sw_app_rmap.specs.FlowCommands.{bytes_to}
use Rattle.sw_app_rmap.specs.Orders.{Action, RmapOrder, action_of, order_of, transaction_of, wants_reply}
use Rattle.sw_app_rmap.specs.Packets.{FlowPacket, begins_with, behind_left, cargo_of, cargo_to, cargo_where, is_in_window, packet_of}
use Rattle.sw_text.specs.Gives.{◌>>=◌, Fails, Gives, ok_or}
use Rattle.sw_app_rmap.specs.Words.{number_of}
use Rattle.sw_config.proofs.Lists.{in_front}

-- what went well went well in its first part, and then in the others
pub goes_on : {A B : Type 0} (r : Result A RmapFault) (f : A → Result B RmapFault) (b : B) → (r >>= f) ≡ Ok b → (a : A) × (r ≡ Ok a) × (f a ≡ Ok b)
goes_on (Ok a) f b h = (a, refl, h)
goes_on (Err e) f b h = absurd cc

pub is_there : {A : Type 0} (o : Option A) (fault : RmapFault) (a : A) → ok_or o fault ≡ Ok a → o ≡ Some a
is_there (Some x) fault a h = let same : x ≡ a = cc in cc
is_there None fault a h = absurd cc

not_refused : {A : Type 0} (test : Bool) (fault : RmapFault) (r : Result A RmapFault) (a : A) → (if test then Err fault else r) ≡ Ok a → (test ≡ false) × (r ≡ Ok a)
not_refused true fault r a h = absurd cc
not_refused false fault r a h = (refl, h)

-- what is known of the words of an order
pub record IsRead (r : Request) (o : RmapOrder) : Type 0 where
  pub address : number_of 1099511627775 r.address.now ≡ Some o.address
  pub action : action_of r.access ≡ Ok o.action
  pub transaction : transaction_of (option_map (λ w. w.now) r.transaction) ≡ Some o.transaction

module _ (r : Request) where
  abbrev whole : ℕ → Action → ℕ → RmapOrder
  whole address action transaction = record { address = address; action = action; transaction = transaction }

  abbrev from_action : ℕ → Action → Result RmapOrder RmapFault
  from_action address action = ok_or (transaction_of (option_map (λ w. w.now) r.transaction)) BadTransaction >>= λ transaction. Ok (whole address action transaction)

  abbrev from_address : ℕ → Result RmapOrder RmapFault
  from_address address = action_of r.access >>= λ action. from_action address action

  pub is_read : (o : RmapOrder) → order_of r ≡ Ok o → IsRead r o
  unfolding order_of
  is_read o h =
      let address = goes_on (ok_or (number_of 1099511627775 r.address.now) BadAddress) (λ a. from_address a) o h in
      let action = goes_on (action_of r.access) (λ a. from_action address.0 a) o address.2 in
      let transaction = goes_on (ok_or (transaction_of (option_map (λ w. w.now) r.transaction)) BadTransaction) (λ n. Ok (whole address.0 action.0 n)) o action.2 in
      let same : whole address.0 action.0 transaction.0 ≡ o = cc in
      rw (← same) (record {
        address = is_there (number_of 1099511627775 r.address.now) BadAddress address.0 address.1;
        action = action.1;
        transaction = is_there (transaction_of (option_map (λ w. w.now) r.transaction)) BadTransaction transaction.0 transaction.1;
      })

-- what is known of the cargo to a target
pub record IsCarried (t : TargetConfig) (f : FlowEntry) (o : RmapOrder) (cargo : List ℕ) : Type 0 where
  pub answerable : (wants_reply o.action && not (is_some f.reply)) ≡ false
  pub within : is_in_window t o ≡ true
  pub begins : begins_with (left_bytes f) (bytes_to t f.reply o) ≡ true
  pub few : nat_lt 4096 (length (drop (length (left_bytes f)) (bytes_to t f.reply o))) ≡ false
  pub is : cargo ≡ drop (length (left_bytes f)) (bytes_to t f.reply o)

not_false : (b : Bool) → not b ≡ false → b ≡ true
not_false true e = refl
not_false false e = absurd cc

pub is_carried : (t : TargetConfig) (f : FlowEntry) (o : RmapOrder) (cargo : List ℕ) → cargo_to t f o ≡ Ok cargo → IsCarried t f o cargo
is_carried t f o cargo h =
    let left = left_bytes f in
    let bytes = bytes_to t f.reply o in
    let answerable = not_refused (wants_reply o.action && not (is_some f.reply)) NoReply (if not (is_in_window t o) then Err OutsideWindow else behind_left left bytes) cargo h in
    let within = not_refused (not (is_in_window t o)) OutsideWindow (behind_left left bytes) cargo answerable.1 in
    let begins = not_refused (not (begins_with left bytes)) WrongLeft (if nat_lt 4096 (length (drop (length left) bytes)) then Err TooLong else Ok (drop (length left) bytes)) cargo within.1 in
    let few = not_refused (nat_lt 4096 (length (drop (length left) bytes))) TooLong (Ok (drop (length left) bytes)) cargo begins.1 in
    let same : drop (length left) bytes ≡ cargo = cc in
    record {
      answerable = answerable.0;
      within = not_false (is_in_window t o) within.0;
      begins = not_false (begins_with left bytes) begins.0;
      few = few.0;
      is = sym same;
    }

pub has_target : (nodes : List NodeEntry) (f : FlowEntry) (o : RmapOrder) (cargo : List ℕ) → cargo_of nodes f o ≡ Ok cargo
    → (t : TargetConfig) × (target_of nodes f.to ≡ Some t) × IsCarried t f o cargo × ((is_limited nodes f && not (wants_reply o.action)) ≡ false)
unfolding cargo_of
has_target nodes f o cargo h =
    let target = goes_on (ok_or (target_of nodes f.to) NoTarget) (λ t. cargo_where (is_limited nodes f) t f o) cargo h in
    let asks = not_refused (is_limited nodes f && not (wants_reply o.action)) NotAnswered (cargo_to target.0 f o) cargo target.2 in
    (target.0, is_there (target_of nodes f.to) NoTarget target.0 target.1, is_carried target.0 f o cargo asks.1, asks.0)

-- what is known of a packet
pub record IsMade (d : Declaration) (r : Request) (p : FlowPacket) : Type 0 where
  pub named : position (bytes_eq r.flow.now) (flow_names d.flows) ≡ Some p.flow
  pub flow : FlowEntry
  pub numbered : slice_get d.flows p.flow ≡ Some flow
  pub order : RmapOrder
  pub asked : order_of r ≡ Ok order
  pub carried : cargo_of d.nodes flow order ≡ Ok p.cargo

module _ (d : Declaration) (r : Request) where
  abbrev packet : ℕ → List ℕ → FlowPacket
  packet number cargo = record { flow = number; cargo = cargo }

  abbrev from_order : ℕ → FlowEntry → RmapOrder → Result FlowPacket RmapFault
  from_order number flow order = cargo_of d.nodes flow order >>= λ cargo. Ok (packet number cargo)

  abbrev from_flow : ℕ → FlowEntry → Result FlowPacket RmapFault
  from_flow number flow = order_of r >>= λ order. from_order number flow order

  abbrev from_number : ℕ → Result FlowPacket RmapFault
  from_number number = ok_or (slice_get d.flows number) UnknownFlow >>= λ flow. from_flow number flow

  pub is_made : (p : FlowPacket) → packet_of d r ≡ Ok p → IsMade d r p
  unfolding packet_of
  is_made p h =
      let number = goes_on (ok_or (position (bytes_eq r.flow.now) (flow_names d.flows)) UnknownFlow) (λ n. from_number n) p h in
      let flow = goes_on (ok_or (slice_get d.flows number.0) UnknownFlow) (λ f. from_flow number.0 f) p number.2 in
      let order = goes_on (order_of r) (λ o. from_order number.0 flow.0 o) p flow.2 in
      let cargo = goes_on (cargo_of d.nodes flow.0 order.0) (λ c. Ok (packet number.0 c)) p order.2 in
      let same : packet number.0 cargo.0 ≡ p = cc in
      rw (← same) (record {
        named = is_there (position (bytes_eq r.flow.now) (flow_names d.flows)) UnknownFlow number.0 number.1;
        flow = flow.0;
        numbered = is_there (slice_get d.flows number.0) UnknownFlow flow.0 flow.1;
        order = order.0;
        asked = order.1;
        carried = cargo.1;
      })

-- an error that is handed on
pub handed_on : (r : Result FlowPacket (OrMemory RmapFault)) (e : OrMemory RmapFault) (made : Result FlowPacket RmapFault) → IsErr r × IsErrAnd r (λ x. x ≡ e) → Fails e made → Gives (λ p. p) r made
handed_on (Ok p) e made is failed = absurd cc
handed_on (Err x) e made is failed = rw is.1 failed

-- what fails first is why there is no packet
module _ (d : Declaration) (r : Request) (number : ℕ) (flow : FlowEntry) (named : Some number ≡ position (bytes_eq r.flow.now) (flow_names d.flows)) (low : number < length d.flows)
    (there : slice_get (all_flows d) number ≡ Some flow) where
  declared : slice_get d.flows number ≡ Some flow
  declared = in_front d.flows (reply_flows d.flows) number flow low there

  pub order_refused : (e : OrMemory RmapFault) → Fails e (order_of r) → Fails e (packet_of d r)
  unfolding packet_of
  order_refused Memory failed = tt
  order_refused (Fault fault) failed = rw (sym named, declared, failed) refl

  pub cargo_refused : (e : OrMemory RmapFault) (order : RmapOrder) → order_of r ≡ Ok order → Fails e (cargo_of d.nodes flow order) → Fails e (packet_of d r)
  unfolding packet_of
  cargo_refused Memory order asked failed = tt
  cargo_refused (Fault fault) order asked failed = rw (sym named, declared, asked, failed) refl

  pub is_packet : (order : RmapOrder) (cargo : List ℕ) → order_of r ≡ Ok order → cargo_of d.nodes flow order ≡ Ok cargo → packet_of d r ≡ Ok (packet d r number cargo)
  unfolding packet_of
  is_packet order cargo asked carried = rw (sym named, declared, asked, carried) refl
