-- Flows that get a limit on unanswered commands, and what they keep.
use Rattle.std.proofs.Common.{◌≡◌, ◌≢◌, ℕ, ◌+◌, ◌<◌, ◌≤◌, Bool, true, false, List, [], ◌∷◌, ◌++◌, AllPairs, IfSome, length, map, take, get_or, Some, None, Option, option_map, refl, sym, ap, ◌∙◌, arith}
use Rattle.std.specs.Prelude.{slice_get, if◌then◌else◌}
use Rattle.std.specs.List.{list_any}
use Rattle.std.specs.Option.{option_map_or}
use Rattle.std.specs.Str.{bytes_eq}
use Rattle.std.proofs.lemmas.List.{length-map, length-take-le, map-append, take-map, take_more}
use Rattle.std.proofs.lemmas.Option.{get_or_from_slice_get, slice_get_within}
use Rattle.sw_config.specs.Entries.{NodeEntry, ReplyEntry, FlowEntry, Declaration, flow_names}
use Rattle.sw_config.specs.Limits.{is_limited}
use Rattle.sw_config.specs.Valid.{IsFlow, IsOutstanding, IsReply, IsTarget}
use Rattle.sw_mend.specs.Limitings.{flow_limited}
use Rattle.sw_mend.proofs.Fresh.{fresh, named_at}

-- ---- the reply and the flow

reply_with : Bool → Option ℕ → ReplyEntry → ReplyEntry
reply_with b most r = if b then r else record r { outstanding = most }

same_reply : (most : Option ℕ) (reply : Option ReplyEntry) → option_map (λ (r : ReplyEntry). r) reply ≡ reply
same_reply most None = refl
same_reply most (Some r) = refl

pub by_case : (most : Option ℕ) (f : FlowEntry) (b : Bool)
    → record f { reply = option_map (λ (r : ReplyEntry). if b then r else record r { outstanding = most }) f.reply }
    ≡ (if b then f else record f { reply = option_map (λ (r : ReplyEntry). record r { outstanding = most }) f.reply })
by_case most f true = ap (λ o. record f { reply = o }) (same_reply most f.reply)
by_case most f false = refl

pub same_flow : (nodes : List NodeEntry) (most : Option ℕ) (flows : List FlowEntry) (i : ℕ) (f made : FlowEntry) (b : Bool) → slice_get flows i ≡ Some f
    → b ≡ option_map_or (is_limited nodes) (slice_get flows i) false
    → made ≡ record f { reply = option_map (λ (r : ReplyEntry). if b then r else record r { outstanding = most }) f.reply } → made ≡ flow_limited nodes most f
same_flow nodes most flows i f made b here is same =
    let test : b ≡ is_limited nodes f = is ∙ ap (λ o. option_map_or (is_limited nodes) o false) here in
    same ∙ by_case most f b ∙ ap (λ (c : Bool). if c then f else record f { reply = option_map (λ (r : ReplyEntry). record r { outstanding = most }) f.reply }) test

-- ---- names

name_kept : (nodes : List NodeEntry) (most : Option ℕ) (f : FlowEntry) (b : Bool)
    → (if b then f else record f { reply = option_map (λ (r : ReplyEntry). record r { outstanding = most }) f.reply }).name ≡ f.name
name_kept nodes most f true = refl
name_kept nodes most f false = refl

pub names_kept : (nodes : List NodeEntry) (most : Option ℕ) (flows : List FlowEntry) → flow_names (map (flow_limited nodes most) flows) ≡ flow_names flows
names_kept nodes most [] = refl
names_kept nodes most (f ∷ flows) = λ t. name_kept nodes most f (is_limited nodes f) t ∷ names_kept nodes most flows t

pub fresh_limited : (nodes : List NodeEntry) (most : Option ℕ) (flows : List FlowEntry) (i : ℕ) (f : FlowEntry) (now : List FlowEntry) → AllPairs (λ x y. x ≢ y) (flow_names flows)
    → slice_get flows i ≡ Some f → now ≡ map (flow_limited nodes most) (take i flows) → list_any (bytes_eq (flow_limited nodes most f).name) (flow_names now) ≡ false
fresh_limited nodes most flows i f now apart here is =
    let names : flow_names now ≡ take i (flow_names flows) =
    ap flow_names is ∙ names_kept nodes most (take i flows) ∙ sym (take-map (λ (g : FlowEntry). g.name) i flows) in
    (λ t. list_any (bytes_eq (name_kept nodes most f (is_limited nodes f) t)) (names t))
    ∙ fresh (flow_names flows) i f.name apart (named_at (λ (g : FlowEntry). g.name) flows i f here)

-- ---- as many

pub few_limited : (nodes : List NodeEntry) (most : Option ℕ) (flows now : List FlowEntry) (i : ℕ) → i < length flows → length flows ≤ 4096 → now ≡ map (flow_limited nodes most) (take i flows) → length now < 4096
few_limited nodes most flows now i lt few is =
    let size : length now ≡ length (take i flows) = ap length is ∙ length-map (take i flows) (flow_limited nodes most) in
    omega (arith, size, length-take-le i flows (omega arith))

-- one more
pub limited_more : (nodes : List NodeEntry) (most : Option ℕ) (flows : List FlowEntry) (i : ℕ) (f made : FlowEntry) (old after : Declaration) → slice_get flows i ≡ Some f
    → made ≡ flow_limited nodes most f → old.flows ≡ map (flow_limited nodes most) (take i flows) → after ≡ record old { flows = old.flows ++ made ∷ [] }
    → after ≡ record old { flows = map (flow_limited nodes most) (take (i + 1) flows) }
limited_more nodes most flows i f made old after here is before more =
    let at : get_or flows i f ≡ f = get_or_from_slice_get flows i f f here in
    let cut : take (i + 1) flows ≡ take i flows ++ f ∷ [] = take_more flows i f (slice_get_within flows i f here) ∙ ap (λ g. take i flows ++ g ∷ []) at in
    let grown : map (flow_limited nodes most) (take (i + 1) flows) ≡ map (flow_limited nodes most) (take i flows) ++ flow_limited nodes most f ∷ [] =
    ap (map (flow_limited nodes most)) cut ∙ map-append (flow_limited nodes most) (take i flows) (f ∷ []) in
    more ∙ (λ t. record old { flows = before t ++ is t ∷ [] }) ∙ ap (λ (l : List FlowEntry). record old { flows = l }) (sym grown)

-- ---- valid

valid_reply : (nodes built : List NodeEntry) (most : Option ℕ) (to : ℕ) (b : Bool) (reply : Option ReplyEntry) → IfSome most IsOutstanding → ((n : ℕ) → IsTarget nodes n → IsTarget built n)
    → IfSome reply (IsReply nodes to) → IfSome (option_map (λ (r : ReplyEntry). if b then r else record r { outstanding = most }) reply) (IsReply built to)
valid_reply nodes built most to b None limit targets is = tt
valid_reply nodes built most to true (Some r) limit targets is = record {
  path = is.path;
  leading = is.leading;
  low_initiator = is.low_initiator;
  high_initiator = is.high_initiator;
  outstanding = is.outstanding;
  target = targets to is.target;
}
valid_reply nodes built most to false (Some r) limit targets is = record {
  path = is.path;
  leading = is.leading;
  low_initiator = is.low_initiator;
  high_initiator = is.high_initiator;
  outstanding = limit;
  target = targets to is.target;
}

pub valid_limited : (nodes built : List NodeEntry) (most : Option ℕ) (f made : FlowEntry) (b : Bool) → IfSome most IsOutstanding → ((n : ℕ) → IsTarget nodes n → IsTarget built n)
    → length built ≡ length nodes → IsFlow nodes f → made ≡ record f { reply = option_map (λ (r : ReplyEntry). if b then r else record r { outstanding = most }) f.reply } → IsFlow built made
valid_limited nodes built most f made b limit targets size is same =
    let valid : IsFlow built (record f { reply = option_map (λ (r : ReplyEntry). if b then r else record r { outstanding = most }) f.reply }) = record {
      from = omega (arith, is.from, size);
      to = omega (arith, is.to, size);
      address = is.address;
      left = is.left;
      reply = valid_reply nodes built most f.to b f.reply limit targets is.reply;
    } in
    rw same valid
