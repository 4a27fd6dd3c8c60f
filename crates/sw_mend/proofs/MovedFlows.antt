-- The flows of a network in which a node is split, and what they keep.
use Rattle.std.proofs.Common.{◌≡◌, ◌≢◌, ℕ, ◌+◌, ◌<◌, ◌≤◌, Bool, true, false, List, [], ◌∷◌, ◌++◌, AllPairs, Option, Some, None, IfSome, IsSome, length, map, take, set, ap, arith, inl, inr, refl, subst, sym, ◌∙◌, eqb, get_or}
use Rattle.std.specs.Prelude.{is_some, option_and_then, slice_get, if◌then◌else◌}
use Rattle.std.specs.List.{list_any}
use Rattle.std.specs.Option.{option_map_or}
use Rattle.std.specs.Str.{bytes_eq}
use Rattle.std.proofs.lemmas.Bool.{eqb-true, and_parts}
use Rattle.std.proofs.lemmas.List.{length-map, length-set, length-take-le, map-append, take-map, take_more}
use Rattle.std.proofs.lemmas.Option.{get_or_from_slice_get, slice_get_cases, slice_get_within}
use Rattle.sw_config.specs.Entries.{NodeEntry, ReplyEntry, FlowEntry, Declaration, flow_names, is_answered_at, target_of}
use Rattle.sw_config.specs.Valid.{IsFlow, IsReply, IsTarget}
use Rattle.sw_mend.specs.Changes.{made_at}
use Rattle.sw_mend.specs.Splits.{flow_moved, flow_split, last_deleted, renamed, target_part}
use Rattle.sw_mend.specs.declared.change.TargetLink.{TargetLink}
use Rattle.sw_mend.proofs.Fresh.{fresh, named_at}
use Rattle.sw_mend.proofs.Named.{one_node_more}
use Rattle.sw_mend.proofs.OneMore.{at_back}
use Rattle.sw_topo.proofs.Lists.{at_front}

-- ---- its name

by_test : (node : ℕ) (link : TargetLink) (f : FlowEntry) (b : Bool) → FlowEntry
by_test node link f b = if b then flow_moved node link f else f

same_name : (node : ℕ) (link : TargetLink) (f : FlowEntry) (b : Bool) → (if b then flow_moved node link f else f).name ≡ f.name
same_name node link f true = refl
same_name node link f false = refl

same_names : (node : ℕ) (link : TargetLink) (flows : List FlowEntry) → flow_names (map (flow_split node link) flows) ≡ flow_names flows
same_names node link [] = refl
same_names node link (f ∷ flows) = λ t. same_name node link f (is_answered_at link.node f) t ∷ same_names node link flows t

pub fresh_moved : (node : ℕ) (link : TargetLink) (flows : List FlowEntry) (i : ℕ) (f : FlowEntry) (now : List FlowEntry) → AllPairs (λ x y. x ≢ y) (flow_names flows)
    → slice_get flows i ≡ Some f → now ≡ map (flow_split node link) (take i flows) → list_any (bytes_eq (flow_split node link f).name) (flow_names now) ≡ false
fresh_moved node link flows i f now apart here is =
    let names : flow_names now ≡ take i (flow_names flows) =
    ap flow_names is ∙ same_names node link (take i flows) ∙ sym (take-map (λ (g : FlowEntry). g.name) i flows) in
    (λ t. list_any (bytes_eq (same_name node link f (is_answered_at link.node f) t)) (names t))
    ∙ fresh (flow_names flows) i f.name apart (named_at (λ (g : FlowEntry). g.name) flows i f here)

-- ---- as many

pub few_moved : (node : ℕ) (link : TargetLink) (flows now : List FlowEntry) (i : ℕ) → i < length flows → length flows ≤ 4096 → now ≡ map (flow_split node link) (take i flows) → length now < 4096
few_moved node link flows now i lt few is =
    let size : length now ≡ length (take i flows) = ap length is ∙ length-map (take i flows) (flow_split node link) in
    omega (arith, size, length-take-le i flows (omega arith))

-- one more
pub moved_more : (node : ℕ) (link : TargetLink) (flows : List FlowEntry) (i : ℕ) (f moved : FlowEntry) (old after : Declaration) → slice_get flows i ≡ Some f
    → moved ≡ flow_split node link f → old.flows ≡ map (flow_split node link) (take i flows) → after ≡ record old { flows = old.flows ++ moved ∷ [] }
    → after ≡ record old { flows = map (flow_split node link) (take (i + 1) flows) }
moved_more node link flows i f moved old after here is before more =
    let at : get_or flows i f ≡ f = get_or_from_slice_get flows i f f here in
    let cut : take (i + 1) flows ≡ take i flows ++ f ∷ [] = take_more flows i f (slice_get_within flows i f here) ∙ ap (λ g. take i flows ++ g ∷ []) at in
    let grown : map (flow_split node link) (take (i + 1) flows) ≡ map (flow_split node link) (take i flows) ++ flow_split node link f ∷ [] =
    ap (map (flow_split node link)) cut ∙ map-append (flow_split node link) (take i flows) (f ∷ []) in
    more ∙ (λ t. record old { flows = before t ++ is t ∷ [] }) ∙ ap (λ (l : List FlowEntry). record old { flows = l }) (sym grown)

-- ---- valid

same_length : (p q : ℕ) (bytes : List ℕ) (place : ℕ) (b : Bool) → length (if b then set bytes place q else bytes) ≡ length bytes
same_length p q bytes place true = length-set bytes place q
same_length p q bytes place false = refl

renamed_length : (p q : ℕ) (bytes : List ℕ) (place : Option ℕ) → length (option_map_or (renamed p q bytes) place bytes) ≡ length bytes
renamed_length p q bytes None = refl
renamed_length p q bytes (Some place) = same_length p q bytes place (eqb (get_or bytes place 0) p)

each_reply : (P Q : ReplyEntry → Type 0) (o : Option ReplyEntry) → ((r : ReplyEntry) → P r → Q r) → IfSome o P → IfSome o Q
each_reply P Q None turn is = tt
each_reply P Q (Some r) turn is = turn r is

-- a target among more nodes
still_target : (nodes more : List NodeEntry) (n : ℕ) → n < length nodes → IsTarget nodes n → IsTarget (nodes ++ more) n
still_target nodes more n lt target =
    elim (slice_get_cases nodes n).1 [
      | inl found ↦
          let there : slice_get (nodes ++ more) n ≡ Some found.0 = at_front nodes more n found.0 found.2 in
          let same : target_of nodes n ≡ target_of (nodes ++ more) n = ap (option_and_then (λ (e : NodeEntry). e.target)) (found.2 ∙ sym there) in
          subst IsSome same target
      | inr past ↦ absurd (omega (arith, past.0, lt))
    ]

-- the own node is one
own_target : (nodes : List NodeEntry) (n : ℕ) → n < length nodes → IsTarget nodes n → IsTarget (nodes ++ made_at target_part nodes n) (length nodes)
own_target nodes n lt target =
    elim (slice_get_cases nodes n).1 [
      | inl found ↦
          let e : NodeEntry = found.0 in
          let own : made_at target_part nodes n ≡ target_part n e = ap (λ o. option_map_or (target_part n) o []) found.2 in
          let there : slice_get (nodes ++ target_part n e) (length nodes) ≡ Some _ = at_back nodes (target_part n e) 0 (length nodes) _ (omega arith) refl in
          let same : target_of nodes n ≡ target_of (nodes ++ made_at target_part nodes n) (length nodes) =
          ap (option_and_then (λ (e : NodeEntry). e.target)) found.2 ∙ sym (ap (λ l. target_of (nodes ++ l) (length nodes)) own ∙ ap (option_and_then (λ (e : NodeEntry). e.target)) there) in
          subst IsSome same target
      | inr past ↦ absurd (omega (arith, past.0, lt))
    ]

module _ (nodes : List NodeEntry) (link : TargetLink) (f : FlowEntry) (lt : link.node < length nodes) (is : IsFlow nodes f) where
  after : List NodeEntry
  after = nodes ++ made_at target_part nodes link.node

  stays : IsFlow after f
  unfolding after
  stays =
      let size : length after ≡ length nodes + 1 = one_node_more nodes link.node lt in
      record {
        from = omega (arith, size, is.from);
        to = omega (arith, size, is.to);
        address = is.address;
        left = is.left;
        reply = each_reply (IsReply nodes f.to) (IsReply after f.to) f.reply
            (λ r ok. record {
              path = ok.path;
              leading = ok.leading;
              low_initiator = ok.low_initiator;
              high_initiator = ok.high_initiator;
              outstanding = ok.outstanding;
              target = still_target nodes (made_at target_part nodes link.node) f.to is.to ok.target;
            }) is.reply;
      }

  moves : is_answered_at link.node f ≡ true → IsFlow after (flow_moved (length nodes) link f)
  unfolding after
  moves answered =
      let size : length after ≡ length nodes + 1 = one_node_more nodes link.node lt in
      let same : f.to ≡ link.node = eqb-true f.to link.node (and_parts (is_some f.reply) (eqb f.to link.node) answered).1 in
      let long : length (flow_moved (length nodes) link f).address ≡ length f.address = renamed_length link.beside link.port f.address (last_deleted f) in
      record {
        from = omega (arith, size, is.from);
        to = omega (arith, size);
        address = omega (arith, long, is.address);
        left = omega (arith, long, is.left);
        reply = each_reply (IsReply nodes f.to) (IsReply after (length nodes)) f.reply
            (λ r ok. record {
              path = ok.path;
              leading = ok.leading;
              low_initiator = ok.low_initiator;
              high_initiator = ok.high_initiator;
              outstanding = ok.outstanding;
              target = own_target nodes link.node lt (subst (IsTarget nodes) same ok.target);
            }) is.reply;
      }

  either : (b : Bool) → is_answered_at link.node f ≡ b → IsFlow after (if b then flow_moved (length nodes) link f else f)
  either true answered = moves answered
  either false unanswered = stays

  pub valid_moved : (now : List NodeEntry) (moved : FlowEntry) → now ≡ nodes ++ made_at target_part nodes link.node → moved ≡ flow_split (length nodes) link f → IsFlow now moved
  unfolding after
  valid_moved now moved there same = rw (there, same) (either (is_answered_at link.node f) refl)
