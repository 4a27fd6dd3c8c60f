-- The flows of a network in which a node is split: each by its number, with its places.
use Rattle.std.proofs.Common.{◌≡◌, ◌⊎◌, ℕ, ◌+◌, ◌-◌, ◌<◌, ◌≤◌, ◌&&◌, Bool, true, false, List, [], ◌∷◌, ◌++◌, length, map, Option, Some, None, option_map, ap, arith, inl, inr, refl, subst, sym, ◌∙◌, eq-eqb}
use Rattle.std.specs.Prelude.{◌==◌, nat_le, nat_lt, slice_get, slice_index_or, slice_set, if◌then◌else◌}
use Rattle.std.specs.Option.{option_map_or}
use Rattle.std.proofs.lemmas.Bool.{cases_lt, le-leb, lt-ltb, or_parts}
use Rattle.std.proofs.lemmas.List.{length-map, map-append}
use Rattle.std.proofs.lemmas.Option.{get_or_from_slice_get, slice_get-map, slice_get_cases}
use Rattle.sw_topo.specs.Wiring.{out_of, partner}
use Rattle.sw_topo.proofs.Lists.{at_front, in_front}
use Rattle.sw_config.specs.Entries.{FlowEntry, ReplyEntry, Declaration, all_flows, is_answered_at, replies_of, reply_flow, reply_flows}
use Rattle.sw_config.specs.Valid.{IsFlow, IsValid}
use Rattle.sw_config.proofs.Flows.{All-at, slice_get-append_right}
use Rattle.sw_config.proofs.FlowLaws.{valid_flows}
use Rattle.sw_flow.specs.Places.{IsPlace, end_of, ends_of}
use Rattle.sw_flow.proofs.Partners.{partner_within}
use Rattle.sw_mend.specs.Splits.{flow_moved, flow_split, last_deleted, renamed, split}
use Rattle.sw_mend.specs.SplitLaws.{ComesByPort, HasOwnLink, IsKept, SplitsKeepChannels, SplitsKeepOtherFlows, SplitsMoveCommands, SplitsMoveReplies, is_of_target, own_node, to_own_node}
use Rattle.sw_mend.specs.declared.change.TargetLink.{TargetLink}
use Rattle.sw_mend.proofs.SplitLinks.{IsFound, found_in}
use Rattle.sw_mend.proofs.SplitsTried.{least_free}
use Rattle.sw_mend.proofs.OneLinkMore.{back_end, end_kept, own_end, own_in, own_out, start_kept}
use Rattle.sw_mend.proofs.SplitPlaces.{commands_instead, kept, others, replies_instead, same}

-- ---- entries

module _ (own : ℕ) (link : TargetLink) where
  -- a flow of replies from the node comes from the own node
  pub redirected : FlowEntry → FlowEntry
  redirected f = if f.from == link.node then record f { from = own } else f

  reply_moved : (f : FlowEntry) (r : ReplyEntry) (b : Bool) → (f.to == link.node) ≡ b
      → let g = record f { reply = Some r } in replies_of (flow_split own link g) (flow_split own link g).reply ≡ redirected (reply_flow f r) ∷ []
  unfolding redirected
  reply_moved f r true is =
      (λ t. replies_of (if is t then flow_moved own link (record f { reply = Some r }) else record f { reply = Some r }) (if is t then flow_moved own link (record f { reply = Some r }) else record f { reply = Some r }).reply)
      ∙ (λ t. (if sym is t then record (reply_flow f r) { from = own } else reply_flow f r) ∷ [])
  reply_moved f r false is =
      (λ t. replies_of (if is t then flow_moved own link (record f { reply = Some r }) else record f { reply = Some r }) (if is t then flow_moved own link (record f { reply = Some r }) else record f { reply = Some r }).reply)
      ∙ (λ t. (if sym is t then record (reply_flow f r) { from = own } else reply_flow f r) ∷ [])

  replies_split : (f : FlowEntry) (o : Option ReplyEntry) → let g = record f { reply = o } in replies_of (flow_split own link g) (flow_split own link g).reply ≡ map redirected (replies_of f o)
  replies_split f None = refl
  replies_split f (Some r) = reply_moved f r (f.to == link.node) refl

  pub all_replies_split : (flows : List FlowEntry) → reply_flows (map (flow_split own link) flows) ≡ map redirected (reply_flows flows)
  all_replies_split [] = refl
  all_replies_split (f ∷ flows) =
      (λ t. replies_split f f.reply t ++ all_replies_split flows t)
      ∙ sym (map-append redirected (replies_of f f.reply) (reply_flows flows))

  pub redirected_yes : (f : FlowEntry) → f.from ≡ link.node → redirected f ≡ record f { from = own }
  unfolding redirected
  redirected_yes f same = ap (λ (b : Bool). if b then record f { from = own } else f) (eq-eqb f.from link.node same)

  pub redirected_no : (f : FlowEntry) → (f.from == link.node) ≡ false → redirected f ≡ f
  unfolding redirected
  redirected_no f other = ap (λ (b : Bool). if b then record f { from = own } else f) other

-- lists are alike where what the one has the other has
there : {A : Type 0} (xs ys : List A) (i : ℕ) → i < length xs → ((x : A) → slice_get xs i ≡ Some x → slice_get ys i ≡ Some x) → slice_get ys i ≡ slice_get xs i
there xs ys i lt keeps =
    elim (slice_get_cases xs i).1 [
      | inl found ↦ keeps found.0 found.2 ∙ sym found.2
      | inr past ↦ absurd (omega (arith, past.0, lt))
    ]

module _ (d : Declaration) (link : TargetLink) where
  abbrev left : Declaration
  left = split d link

  -- a declared flow, by its number
  pub declared_at : (number : ℕ) (f : FlowEntry) → slice_get d.flows number ≡ Some f → slice_get (all_flows left) number ≡ Some (flow_split (own_node d) link f)
  declared_at number f at =
      at_front left.flows (reply_flows left.flows) number (flow_split (own_node d) link f)
      (slice_get-map (flow_split (own_node d) link) d.flows number ∙ ap (option_map (flow_split (own_node d) link)) at)

  -- a flow of replies
  pub reply_at : (number : ℕ) (f : FlowEntry) → length d.flows ≤ number → slice_get (all_flows d) number ≡ Some f → slice_get (all_flows left) number ≡ Some (redirected (own_node d) link f)
  reply_at number f past at =
      let k : ℕ = number - length d.flows in
      let split_at : number ≡ length d.flows + k = omega (arith, past) in
      let size : length left.flows ≡ length d.flows = length-map d.flows (flow_split (own_node d) link) in
      let now : number ≡ length left.flows + k = omega (arith, past, size) in
      let was : slice_get (reply_flows d.flows) k ≡ Some f = sym (slice_get-append_right d.flows (reply_flows d.flows) k) ∙ ap (slice_get (all_flows d)) (sym split_at) ∙ at in
      ap (slice_get (all_flows left)) now ∙ slice_get-append_right left.flows (reply_flows left.flows) k
      ∙ ap (λ l. slice_get l k) (all_replies_split (own_node d) link d.flows) ∙ slice_get-map (redirected (own_node d) link) (reply_flows d.flows) k
      ∙ ap (option_map (redirected (own_node d) link)) was

  module _ (valid : IsValid d) (found : IsFound d link) where
    pub free : out_of (ends_of d) link.switch link.port ≡ None
    free = (least_free (ends_of d) link.switch link.port found.port).free

    pub low : link.port < 32
    low = (least_free (ends_of d) link.switch link.port found.port).high

    pub flow_in : (number : ℕ) (f : FlowEntry) → slice_get (all_flows d) number ≡ Some f → IsFlow d.nodes f
    flow_in number f at = All-at (IsFlow d.nodes) (all_flows d) number f at (valid_flows d valid).0

    -- ---- channels

    pub keep_channels : HasOwnLink d link left
    keep_channels = record {
      starts = λ c lt. there (ends_of d) (ends_of left) c lt (λ e at. start_kept d link valid found c e at);
      ends = λ c lt. there (ends_of d) (ends_of left) (partner c) (partner_within d c lt) (λ e at. end_kept d link valid found c e at);
      behind = own_out d link valid found;
      to_switch = ap (end_of left) (own_out d link valid found) ∙ own_end d link valid found;
      to_node = ap (end_of left) (own_in d link valid found) ∙ back_end d link valid found;
    }

    -- ---- flows that stay

    keep_entry : (number : ℕ) (f : FlowEntry) → slice_get (all_flows d) number ≡ Some f → is_of_target d link.node number f ≡ false → slice_get (all_flows left) number ≡ Some f
    keep_entry number f at other =
        let parts = or_parts (is_answered_at link.node f) (nat_le (length d.flows) number && f.from == link.node) other in
        elim (cases_lt number (length d.flows)) [
          | inl lt ↦
              declared_at number f (in_front d.flows (reply_flows d.flows) number f lt at)
              ∙ ap (λ (b : Bool). Some (if b then flow_moved (own_node d) link f else f)) parts.0
          | inr past ↦
              let from : (f.from == link.node) ≡ false = ap (λ b. b && f.from == link.node) (sym (le-leb (length d.flows) number past)) ∙ parts.1 in
              reply_at number f past at ∙ ap Some (redirected_no (own_node d) link f from)
        ]

    pub keep_flow : (number : ℕ) (f : FlowEntry) → slice_get (all_flows d) number ≡ Some f → is_of_target d link.node number f ≡ false → IsKept d left number f
    keep_flow number f at other =
        let flow = flow_in number f at in
        record {
          entry = keep_entry number f at other;
          before = kept d link valid found free low f;
          others = λ c k p. subst (λ x. IsPlace d f c k ⊎ (c ≡ x)) (sym (own_in d link valid found)) (others d link valid found free low f flow.from c k p);
          same = same d link valid found free low f flow.from flow.to;
        }

    -- ---- flows of the target's commands

    moved : (f : FlowEntry) (last : ℕ) → is_answered_at link.node f ≡ true → ComesByPort d link f last → flow_split (own_node d) link f ≡ to_own_node d link f last
    moved f last answered comes =
        let fewer : nat_lt f.left (length f.address) ≡ true = lt-ltb f.left (length f.address) (omega (arith, comes.deleted)) in
        let place : length f.address - f.left - 1 ≡ last = omega (arith, comes.deleted) in
        let deleted : last_deleted f ≡ Some last = (λ t. if fewer t then Some (place t) else None) in
        let byte : (slice_index_or f.address last 0 == link.beside) ≡ true = eq-eqb (slice_index_or f.address last 0) link.beside (get_or_from_slice_get f.address last link.beside 0 comes.named) in
        ap (λ (b : Bool). if b then flow_moved (own_node d) link f else f) answered
        ∙ (λ t. record f { to = own_node d; address = option_map_or (renamed link.beside link.port f.address) (deleted t) f.address })
        ∙ (λ t. record f { to = own_node d; address = if byte t then slice_set f.address last link.port else f.address })

pub splits_keep_other_flows : SplitsKeepOtherFlows
splits_keep_other_flows d link valid here = keep_flow d link valid (found_in d link here)

pub splits_keep_channels : SplitsKeepChannels
splits_keep_channels d link valid here = keep_channels d link valid (found_in d link here)

pub splits_move_commands : SplitsMoveCommands
splits_move_commands d link valid here number f last at answered comes =
    let found = found_in d link here in
    let flow = flow_in d link valid found number f (at_front d.flows (reply_flows d.flows) number f at) in (
      declared_at d link number f at ∙ ap Some (moved d link valid found f last answered comes),
      commands_instead d link valid found (free d link valid found) (low d link valid found) f last flow.from comes,
    )

pub splits_move_replies : SplitsMoveReplies
splits_move_replies d link valid here number f past at from =
    let found = found_in d link here in
    let flow = flow_in d link valid found number f at in (
      reply_at d link number f past at ∙ ap Some (redirected_yes (own_node d) link f from),
      replies_instead d link valid found (free d link valid found) (low d link valid found) f from flow.to,
    )
