-- A network without replies that can't happen, and the network itself.
use Rattle.std.proofs.Common.{◌≡◌, ℕ, zero, suc, ◌+◌, Bool, true, false, List, [], ◌∷◌, ◌++◌, length, Option, Some, None, inl, inr, refl, sym, ap, ◌∙◌, subst, arith}
use Rattle.std.specs.Prelude.{◌==◌, slice_get, if◌then◌else◌}
use Rattle.std.specs.List.{All, AllByRecursion}
use Rattle.std.specs.Option.{option_map_or}
use Rattle.std.proofs.lemmas.List.Elements.{All-cons, All-head, All-tail}
use Rattle.std.proofs.lemmas.Bool.{cases_Bool, eqb-true}
use Rattle.std.proofs.lemmas.Option.{same_Some}
use Rattle.sw_route.specs.declared.look.Route.{Route}
use Rattle.sw_config.proofs.Limits.{no_limit_at}
use Rattle.sw_config.specs.Entries.{Declaration, FlowEntry, NodeEntry, ReplyEntry, SwitchEntry, all_flows, reply_flows}
use Rattle.sw_config.specs.Limits.{HasNoLimits, flow_outstanding, is_limited, limit_at}
use Rattle.sw_config.specs.Valid.{IsValid}
use Rattle.sw_machine.specs.Limits as machine
use Rattle.sw_machine.specs.Network.{IsDeclared}
use Rattle.sw_machine.proofs.Free.{is_deadlock_free}
use Rattle.sw_mend.specs.Changes.{by_number, changed, flow_after, flow_kept, route_after, switch_after}
use Rattle.sw_mend.specs.Laws.{ChangesKeepValid}
use Rattle.sw_mend.specs.declared.change.Change.TheVariants.{WithoutReply}
use Rattle.sw_machine.specs.Model.{flow_of, network_of, reply_number}
use Rattle.sw_machine.specs.DeclaredPackets.{IsAnsweredRightly, IsCommandIfLimited, IsDeclaredPacket, IsRightWay, left_bytes, reply_from}
use Rattle.sw_machine.proofs.Declares.{declared_are_declared}
use Rattle.sw_machine.proofs.Flows.{flow_at}
use Rattle.sw_machine.proofs.DeclaredNetworks.{are_networks}
use Rattle.sw_search.specs.Contents.{certificate_of}
use Rattle.sw_search.proofs.Accepted.{accepted}
use Rattle.sw_search.proofs.Listings.{certificate_exists}
use Rattle.sw_witness.specs.Laws.{FreeWithoutNeverLocksUp}
use Rattle.sw_witness.specs.OtherFlows.{DeclaresAll, NeverLocksUp}
use Rattle.sw_witness.specs.Unanswered.{can_not_be_answered, never_answered, number_if, without_replies}
use Rattle.sw_witness.proofs.NoReply.{none_is_answered}
use Rattle.sw_witness.proofs.SameRuns.{freedom}
use Rattle.sw_topo.proofs.Lists.{at_front}

-- ---- what stays when a reply is taken away

same_routes : (gone switch n : ℕ) (routes : List Route) → by_number (route_after (WithoutReply gone) switch) n routes ≡ routes
same_routes gone switch n [] = refl
same_routes gone switch n (r ∷ routes) = ap (λ l. r ∷ l) (same_routes gone switch (n + 1) routes)

same_switches : (gone n : ℕ) (switches : List SwitchEntry) → by_number (switch_after (WithoutReply gone)) n switches ≡ switches
same_switches gone n [] = refl
same_switches gone n (s ∷ switches) =
    ap (λ (l : List Route). record s { routes = l } ∷ by_number (switch_after (WithoutReply gone)) (n + 1) switches) (same_routes gone n 0 s.routes)
    ∙ ap (λ (l : List SwitchEntry). s ∷ l) (same_switches gone (n + 1) switches)

is_changed : (d : Declaration) (gone : ℕ) → changed d (WithoutReply gone) ≡ record d { flows = by_number (flow_after (WithoutReply gone)) 0 d.flows }
is_changed d gone = ap (λ (l : List SwitchEntry). record d { switches = l; flows = by_number (flow_after (WithoutReply gone)) 0 d.flows }) (same_switches gone 0 d.switches)

-- the flow of that number, with its reply or without
kept_at : (gone n m i : ℕ) (flows : List FlowEntry) (f : FlowEntry) → n + i ≡ m → slice_get flows i ≡ Some f
    → slice_get (by_number (flow_after (WithoutReply gone)) n flows) i ≡ Some (flow_kept (WithoutReply gone) m f)
kept_at gone n m i [] f is here = absurd cc
kept_at gone n m zero (g ∷ flows) f is here =
    let same : g ≡ f = cc in
    let number : n ≡ m = omega arith in
    ap (λ (x : FlowEntry). Some (flow_kept (WithoutReply gone) n x)) same ∙ ap (λ (k : ℕ). Some (flow_kept (WithoutReply gone) k f)) number
kept_at gone n m (suc i) (g ∷ flows) f is here = kept_at gone (n + 1) m i flows f (omega arith) here

-- ---- a flow whose reply can't happen

-- no packet that flow i declares is answered
abbrev NoReplyAt : Declaration → ℕ → Type 0
NoReplyAt d i = (f : FlowEntry) (cargo : List ℕ) → slice_get d.flows i ≡ Some f → IsAnsweredRightly d.nodes f cargo → reply_from d.nodes f.to (left_bytes f ++ cargo) ≡ None

none_way : (way : Option (List ℕ)) → IsRightWay way None → way ≡ None
none_way way (inl is) = is
none_way way (inr is) = is

-- a packet that is not answered, though its flow has a reply, is one that the flow declares without it; and where it has none, none is
right_without : (gone : Bool) (way : Option (List ℕ)) (reply : Option ReplyEntry) → (gone ≡ true → IsRightWay way reply → way ≡ None)
    → IsRightWay way reply → IsRightWay way (if gone then None else reply)
right_without true way reply none right = inl (none refl right)
right_without false way reply none right = right

none_without : (gone : Bool) (way : Option (List ℕ)) (reply : Option ReplyEntry) → (IsRightWay way reply → way ≡ None)
    → IsRightWay way (if gone then None else reply) → way ≡ None
none_without true way reply none right = none_way way right
none_without false way reply none right = none right

-- where a flow is limited without its reply, it was so with it
command_kept : (nodes : List NodeEntry) (gone : Bool) (f : FlowEntry) (cargo : List ℕ) → IsCommandIfLimited nodes f cargo → IsCommandIfLimited nodes (record f { reply = if gone then None else f.reply }) cargo
command_kept nodes true f cargo command limited = absurd cc
command_kept nodes false f cargo command limited = command limited

kept_from : (gone n i : ℕ) (flows : List FlowEntry) (g : FlowEntry) → slice_get (by_number (flow_after (WithoutReply gone)) n flows) i ≡ Some g
    → (f : FlowEntry) × (slice_get flows i ≡ Some f) × (m : ℕ) × (flow_kept (WithoutReply gone) m f ≡ g)
kept_from gone n i [] g here = absurd cc
kept_from gone n zero (f ∷ flows) g here = (f, refl, n, same_Some (flow_kept (WithoutReply gone) n f) g here)
kept_from gone n (suc i) (f ∷ flows) g here = kept_from gone (n + 1) i flows g here

-- ---- one reply taken away

module _ (d : Declaration) (gone : ℕ) where
  abbrev Left : Declaration
  Left = record d { flows = by_number (flow_after (WithoutReply gone)) 0 d.flows }

  -- what is not answered before is not answered after
  still : (i : ℕ) → NoReplyAt d i → NoReplyAt Left i
  still i none g cargo here right =
      let old = kept_from gone 0 i d.flows g here in
      let f : FlowEntry = old.0 in
      let m : ℕ = old.2 in
      let same : flow_kept (WithoutReply gone) m f ≡ g = old.3 in
      let way : Option (List ℕ) = reply_from d.nodes f.to (left_bytes f ++ cargo) in
      let kept : IsAnsweredRightly d.nodes (flow_kept (WithoutReply gone) m f) cargo → way ≡ None = none_without (m == gone) way f.reply (none f cargo old.1) in
      subst (λ (x : FlowEntry). IsAnsweredRightly d.nodes x cargo → reply_from d.nodes x.to (left_bytes x ++ cargo) ≡ None) same kept right

  module _ (none : NoReplyAt d gone) where
    packet : (i : ℕ) (cargo : List ℕ) → IsDeclaredPacket d i cargo → IsDeclaredPacket Left i cargo
    packet i cargo p = record {
      entry = flow_kept (WithoutReply gone) i p.entry;
      declared = kept_at gone 0 i i d.flows p.entry (omega arith) p.declared;
      some = p.some;
      few = p.few;
      command = command_kept d.nodes (i == gone) p.entry cargo p.command;
      answered = right_without (i == gone) (reply_from d.nodes p.entry.to (left_bytes p.entry ++ cargo)) p.entry.reply
          (λ same right. none p.entry cargo (subst (λ (k : ℕ). slice_get d.flows k ≡ Some p.entry) (eqb-true i gone same) p.declared) right) p.answered;
    }

    packet_of : (i : ℕ) (cargo : List ℕ) → IsDeclared (network_of d) i cargo → IsDeclaredPacket d i cargo
    packet_of i cargo h = (declared_are_declared d i cargo).1 h

    here : (i : ℕ) (f : FlowEntry) → slice_get d.flows i ≡ Some f → slice_get (all_flows d) i ≡ Some f
    here i f at = at_front d.flows (reply_flows d.flows) i f at

    there : (i : ℕ) (f : FlowEntry) → slice_get d.flows i ≡ Some f → slice_get (all_flows Left) i ≡ Some (flow_kept (WithoutReply gone) i f)
    there i f at = at_front Left.flows (reply_flows Left.flows) i (flow_kept (WithoutReply gone) i f) (kept_at gone 0 i i d.flows f (omega arith) at)

    same_from : (i : ℕ) (f : FlowEntry) → slice_get d.flows i ≡ Some f → (flow_at Left i).from ≡ (flow_at d i).from
    same_from i f at =
        ap (λ (o : Option FlowEntry). (flow_of (reply_number Left i) o).from) (there i f at)
        ∙ sym (ap (λ (o : Option FlowEntry). (flow_of (reply_number d i) o).from) (here i f at))

    same_address : (i : ℕ) (f : FlowEntry) → slice_get d.flows i ≡ Some f → (flow_at Left i).address ≡ (flow_at d i).address
    same_address i f at =
        ap (λ (o : Option FlowEntry). (flow_of (reply_number Left i) o).address) (there i f at)
        ∙ sym (ap (λ (o : Option FlowEntry). (flow_of (reply_number d i) o).address) (here i f at))

    declares_all : DeclaresAll (network_of d) (network_of Left)
    unfolding network_of
    declares_all = record {
      packets = λ i cargo h. (declared_are_declared Left i cargo).0 (packet i cargo (packet_of i cargo h));
      from = λ i cargo h. let p = packet_of i cargo h in same_from i p.entry p.declared;
      address = λ i cargo h. let p = packet_of i cargo h in same_address i p.entry p.declared;
    }

    left_freedom : NeverLocksUp (network_of Left) → NeverLocksUp (network_of d)
    unfolding network_of
    left_freedom n =
        freedom (network_of d) (length (all_flows Left)) (length Left.flows) (flow_at Left) (λ i. option_map_or (is_limited Left.nodes) (slice_get (all_flows Left) i) false) (limit_at Left) declares_all n

    one_away : NeverLocksUp (network_of (changed d (WithoutReply gone))) → NeverLocksUp (network_of d)
    one_away n = left_freedom (subst (λ (x : Declaration). NeverLocksUp (network_of x)) (is_changed d gone) n)

-- ---- all of them taken away

still_none : (d : Declaration) (gone : ℕ) (flows : List ℕ) → AllByRecursion (NoReplyAt d) flows → AllByRecursion (NoReplyAt (changed d (WithoutReply gone))) flows
still_none d gone [] all = tt
still_none d gone (i ∷ flows) all = (subst (λ (x : Declaration). NoReplyAt x i) (sym (is_changed d gone)) (still d gone i all.0), still_none d gone flows all.1)

all_away : (flows : List ℕ) (d : Declaration) → AllByRecursion (NoReplyAt d) flows → NeverLocksUp (network_of (without_replies d flows)) → NeverLocksUp (network_of d)
all_away [] d all n = n
all_away (i ∷ flows) d all n = one_away d i all.0 (all_away flows (changed d (WithoutReply i)) (still_none d i flows all.1) n)

valid_away : ChangesKeepValid → (flows : List ℕ) (d : Declaration) → IsValid d → IsValid (without_replies d flows)
valid_away keep [] d valid = valid
valid_away keep (i ∷ flows) d valid = valid_away keep flows (changed d (WithoutReply i)) (keep d (WithoutReply i) valid)

never : (d : Declaration) (n : ℕ) (f : FlowEntry) → slice_get d.flows n ≡ Some f → can_not_be_answered f ≡ true → NoReplyAt d n
never d n f here can g cargo there right =
    let same : f ≡ g = same_Some f g (sym here ∙ there) in
    subst (λ (x : FlowEntry). IsAnsweredRightly d.nodes x cargo → reply_from d.nodes x.to (left_bytes x ++ cargo) ≡ None) same (none_is_answered d.nodes f cargo can) right

all_never : (d : Declaration) (n : ℕ) (flows : List FlowEntry) → ((i : ℕ) (f : FlowEntry) → slice_get flows i ≡ Some f → slice_get d.flows (n + i) ≡ Some f)
    → AllByRecursion (NoReplyAt d) (by_number number_if n flows)
all_never d n [] at = tt
all_never d n (f ∷ flows) at =
    let later = all_never d (n + 1) flows (λ i g here. let next : n + suc i ≡ n + 1 + i = omega arith in subst (λ (k : ℕ). slice_get d.flows k ≡ Some g) next (at (suc i) g here)) in
    let zero_more : n + 0 ≡ n = omega arith in
    let first : slice_get d.flows n ≡ Some f = subst (λ (k : ℕ). slice_get d.flows k ≡ Some f) zero_more (at 0 f refl) in
    elim (cases_Bool (can_not_be_answered f)) [
      | inl can ↦ rw can (never d n f first can, later)
      | inr may ↦ rw may later
    ]

-- ---- limits

flows_unlimited : (gone n : ℕ) (flows : List FlowEntry) → All (λ (f : FlowEntry). flow_outstanding f ≡ None) flows → All (λ (f : FlowEntry). flow_outstanding f ≡ None) (by_number (flow_after (WithoutReply gone)) n flows)
flows_unlimited gone n [] all = all
flows_unlimited gone n (f ∷ flows) all =
    All-cons (λ (f : FlowEntry). flow_outstanding f ≡ None) (flow_kept (WithoutReply gone) n f) (by_number (flow_after (WithoutReply gone)) (n + 1) flows)
    (kept_unlimited (n == gone) (All-head (λ (f : FlowEntry). flow_outstanding f ≡ None) f flows all))
    (flows_unlimited gone (n + 1) flows (All-tail (λ (f : FlowEntry). flow_outstanding f ≡ None) f flows all))
  where
    kept_unlimited : (t : Bool) → flow_outstanding f ≡ None → flow_outstanding (record f { reply = if t then None else f.reply }) ≡ None
    kept_unlimited true none = refl
    kept_unlimited false none = none

one_unlimited : (d : Declaration) (gone : ℕ) → HasNoLimits d → HasNoLimits (changed d (WithoutReply gone))
one_unlimited d gone none = subst HasNoLimits (sym (is_changed d gone)) (record { nodes = none.nodes; flows = flows_unlimited gone 0 d.flows none.flows })

all_unlimited : (flows : List ℕ) (d : Declaration) → HasNoLimits d → HasNoLimits (without_replies d flows)
all_unlimited [] d none = none
all_unlimited (i ∷ flows) d none = all_unlimited flows (changed d (WithoutReply i)) (one_unlimited d i none)

no_limits : (d : Declaration) → IsValid d → HasNoLimits d → machine.HasNoLimits (network_of d)
unfolding network_of
no_limits d valid none n = no_limit_at d none valid.flows n

pub free_without_never_locks_up : ChangesKeepValid → FreeWithoutNeverLocksUp
free_without_never_locks_up keep d valid free =
    let e : Declaration = without_replies d (never_answered d) in
    let sound : IsValid e = valid_away keep (never_answered d) d valid in
    let made = certificate_exists e sound free.free in
    let all = is_deadlock_free (network_of e) (certificate_of made.0) (are_networks e sound) (accepted e made.0 sound made.1) (no_limits e sound (all_unlimited (never_answered d) d free.unlimited)) in
    all_away (never_answered d) d (all_never d 0 d.flows (λ i f here. let same : i ≡ 0 + i = omega arith in subst (λ (k : ℕ). slice_get d.flows k ≡ Some f) same here))
    (record { always_goes_on = all.always_goes_on; never_locked_up = all.never_locked_up; quiet_is_empty = all.quiet_is_empty; nothing_is_dropped = all.nothing_is_dropped })
