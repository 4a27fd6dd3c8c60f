-- The laws of the counts.
use Rattle.std.proofs.Common.{List, None, Option, Some, [], ap, arith, get_or, length, refl, suc, sym, zero, ℕ, ◌+◌, ◌-◌, ◌<◌, ◌∙◌, ◌≡◌, ◌≤◌}
use Rattle.std.proofs.lemmas.List.{flat_map_more, length-map, length-replicate}
use Rattle.std.proofs.lemmas.List.Sums.{sum_by-append}
use Rattle.std.proofs.lemmas.Option.{slice_get-get_or}
use Rattle.std.specs.List.{flat_map, range_with_len}
use Rattle.std.specs.Option.{option_map_or}
use Rattle.std.specs.Prelude.{slice_get}
use Rattle.sw_char.specs.PacketView.{PacketView}
use Rattle.sw_config.specs.Entries.{FlowEntry, ReplyEntry}
use Rattle.sw_graph.proofs.Ranges.{range_more}
use Rattle.sw_machine.specs.Begun.{Begun}
use Rattle.sw_summary.specs.Counts.{all_items, all_replies, asked_before, asked_by, asked_of, by_initiator, form_of, forms, handled_as, item_at, items_at, items_before, items_of, of_flow}
use Rattle.sw_summary.specs.Items.{Item, times}
use Rattle.sw_summary.specs.Laws.{AllBegunIsDelivered, AllThatCameOutIsDelivered, AnsweredIsAtMostAsked, DeliveredIsAtMostBegun, EachPacketCountsOnce, EachReplyCountsOnce, all_asked, all_begun}
use Rattle.sw_summary.specs.declared.handling.Handling.TheVariants.{Answered}
use Rattle.sw_summary.proofs.Same.{one}
use Rattle.sw_summary.proofs.Shares.{all_shares, common_came, few_shares, shares_common, shares_sum}

-- a flow has as many items as packets
items_long : (begun : List Begun) (i : ℕ) (f : FlowEntry) → length (items_at f.to (forms f i begun)) ≡ length (of_flow i begun)
items_long begun i f = length-map (forms f i begun) (item_at f.to) ∙ length-map (of_flow i begun) (form_of f)

items_few : (begun : List Begun) (i : ℕ) (o : Option FlowEntry) → length (option_map_or (λ f. items_at f.to (forms f i begun)) o []) ≤ length (of_flow i begun)
items_few begun i None = omega arith
items_few begun i (Some f) = let long = items_long begun i f in omega (arith, long)

pub delivered_is_at_most_begun : DeliveredIsAtMostBegun
delivered_is_at_most_begun d begun out i =
    let few = few_shares (all_items out) (items_before d begun i) (items_of d begun i) in
    let items = items_few begun i (slice_get d.flows i) in
    omega (arith, few, items)

asked_few : (f : FlowEntry) (packets : List PacketView) (reply : Option ReplyEntry) → length (asked_by f packets reply) ≤ handled_as Answered packets
asked_few f packets None = omega arith
asked_few f packets (Some r) = let long = length-replicate (handled_as Answered packets) (item_at f.from (by_initiator r.initiator)) in omega (arith, long)

pub answered_is_at_most_asked : AnsweredIsAtMostAsked
answered_is_at_most_asked d begun out i f at =
    let few = few_shares (all_replies out) (asked_before d begun i) (asked_of d begun i) in
    let is : length (asked_of d begun i) ≡ length (asked_by f (forms f i begun) f.reply) =
    ap (λ (o : Option FlowEntry). length (option_map_or (λ g. asked_by g (forms g i begun) g.reply) o [])) at in
    let items = asked_few f (forms f i begun) f.reply in
    omega (arith, few, is, items)

pub each_packet_counts_once : EachPacketCountsOnce
each_packet_counts_once d begun out = shares_sum (all_items out) (items_of d begun) (length d.flows) ∙ shares_common (all_items out) (all_begun d begun)

pub each_reply_counts_once : EachReplyCountsOnce
each_reply_counts_once d begun out = shares_sum (all_replies out) (asked_of d begun) (length d.flows) ∙ shares_common (all_replies out) (all_asked d begun)

pub all_that_came_out_is_delivered : AllThatCameOutIsDelivered
all_that_came_out_is_delivered d begun out few = each_packet_counts_once d begun out ∙ common_came (all_begun d begun) (all_items out) few

-- what the first lists have is in more of them
module _ (p : Item) (f : ℕ → List Item) where
  pub next_has : (n : ℕ) → times p (flat_map f (range_with_len 0 (n + 1))) ≡ times p (flat_map f (range_with_len 0 n)) + times p (f n)
  next_has n =
      ap (λ l. times p (flat_map f l)) (range_more n) ∙ ap (times p) (sym (flat_map_more f [] (range_with_len 0 n) n))
      ∙ sum_by-append (λ q. one p q) (flat_map f (range_with_len 0 n)) (f n)

  more_have : (n k m : ℕ) → n + k ≡ m → times p (flat_map f (range_with_len 0 n)) ≤ times p (flat_map f (range_with_len 0 m))
  more_have n zero m is = let same : n ≡ m = omega (arith, is) in let both = ap (λ j. times p (flat_map f (range_with_len 0 j))) same in omega (arith, both)
  more_have n (suc k) m is =
      let rest = more_have n k (n + k) refl in
      let next = next_has (n + k) in
      let last : n + k + 1 ≡ m = omega (arith, is) in
      let both = ap (λ j. times p (flat_map f (range_with_len 0 j))) last in
      omega (arith, rest, next, both)

  pub within_all : (i n : ℕ) → i < n → times p (flat_map f (range_with_len 0 i)) + times p (f i) ≤ times p (flat_map f (range_with_len 0 n))
  within_all i n within =
      let next = next_has i in
      let more = more_have (i + 1) (n - (i + 1)) n (omega (arith, within)) in
      omega (arith, next, more)

pub all_begun_is_delivered : AllBegunIsDelivered
all_begun_is_delivered d begun out came i within =
    let f : FlowEntry = get_or d.flows i (record { name = []; from = 0; to = 0; address = []; left = 0; reply = None }) in
    all_shares (all_items out) (items_before d begun i) (items_of d begun i)
    (λ p. (let enough = came p in let part = within_all p (items_of d begun) i (length d.flows) within in omega (arith, enough, part)))
    ∙ ap (λ (o : Option FlowEntry). length (option_map_or (λ g. items_at g.to (forms g i begun)) o [])) (slice_get-get_or d.flows i f within)
    ∙ items_long begun i (get_or d.flows i f)
