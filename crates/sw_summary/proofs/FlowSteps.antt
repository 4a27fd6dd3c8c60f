-- The steps of the loop over the flows.
use Rattle.std.proofs.Common.{◌≡◌, ◌∙◌, ◌+◌, ◌++◌, ℕ, List, Option, Some, [], ap, drop, length, subst, sym, take}
use Rattle.std.proofs.lemmas.List.{length-map, take_at}
use Rattle.std.specs.Option.{option_map_or}
use Rattle.std.specs.Prelude.{slice_get}
use Rattle.std.specs.List.{flat_map, range_with_len}
use Rattle.sw_char.specs.PacketView.{PacketView}
use Rattle.sw_config.specs.Entries.{Declaration, FlowEntry}
use Rattle.sw_load.specs.Load.{LoadEntry}
use Rattle.sw_machine.specs.Begun.{Begun}
use Rattle.sw_output.proofs.Counts.{tallies_rise}
use Rattle.sw_output.proofs.EachLine.{number_added}
use Rattle.sw_summary.specs.Counts.{all_items, all_replies, answered, asked_before, asked_by, asked_of, delivered, form_of, forms, items_at, items_before, items_of, of_flow}
use Rattle.sw_summary.specs.Items.{Item}
use Rattle.sw_summary.specs.KeyCounts.{IsRising, KeyCountView, found, key_counts, taken_all}
use Rattle.sw_summary.specs.Texts.{flow_text}
use Rattle.sw_summary.proofs.Lists.{flow_more}
use Rattle.sw_summary.proofs.Order.{item_order_total}
use Rattle.sw_summary.proofs.Taken.{taken_all_long, taken_all_rises}
use Rattle.sw_summary.proofs.Walk.{walk_is}

-- the line of flow i
abbrev pub told_of : Declaration → List LoadEntry → List Begun → List (List PacketView) → ℕ → List ℕ
told_of d load begun out i = option_map_or (λ f. flow_text load i f (length (of_flow i begun)) (delivered d begun out i) (answered d begun out i)) (slice_get d.flows i) []

-- what the loop has made and left before flow i, of the text that it began with and of what came out
pub record IsSoFar (d : Declaration) (load : List LoadEntry) (begun : List Begun) (out : List (List PacketView)) (i : ℕ) (start text : List ℕ) (ps rs : List KeyCountView) : Type 0 where
  pub told : text ≡ start ++ flat_map (told_of d load begun out) (range_with_len 0 i)
  pub packets_left : ps ≡ taken_all (key_counts (all_items out)) (items_before d begun i)
  pub replies_left : rs ≡ taken_all (key_counts (all_replies out)) (asked_before d begun i)

-- what is lent of the rest
pub rest_rises : (items before : List Item) (ts lent : List KeyCountView) → ts ≡ taken_all (key_counts items) before → lent ≡ ts → IsRising lent
rest_rises items before ts lent is lends = subst IsRising (sym (lends ∙ is)) (taken_all_rises before (key_counts items) (tallies_rise item_order_total items))

pub written_back : (ts lent new : List KeyCountView) (n : ℕ) (all : List Item) → lent ≡ ts → new ≡ taken_all lent all → n ≡ length ts → take n (new ++ drop (length new) ts) ≡ taken_all ts all
written_back ts lent new n all lends is size =
    let made : new ≡ taken_all ts all = is ∙ ap (λ (l : List KeyCountView). taken_all l all) lends in
    take_at new (drop (length new) ts) n (ap length made ∙ taken_all_long all ts ∙ sym size) ∙ made

-- what is told and taken of one flow, where all are its packets
pub flow_counted : (d : Declaration) (load : List LoadEntry) (begun : List Begun) (out : List (List PacketView)) (i : ℕ) (start before after : List ℕ) (f : FlowEntry) (all : List PacketView)
    (ps rs qs ss : List KeyCountView) (to many came_out told : ℕ) → IsSoFar d load begun out i start before ps rs → slice_get d.flows i ≡ Some f → all ≡ forms f i begun → to ≡ f.to
    → many ≡ length all → came_out ≡ found ps (items_at to all) → qs ≡ taken_all ps (items_at to all) → told ≡ found rs (asked_by f all f.reply) → ss ≡ taken_all rs (asked_by f all f.reply)
    → after ≡ before ++ flow_text load i f many came_out told → IsSoFar d load begun out (i + 1) start after qs ss
flow_counted d load begun out i start before after f all ps rs qs ss to many came_out told h at all_is to_is size came left answers rest more =
    let items : items_at to all ≡ items_of d begun i =
    ap (λ n. items_at n all) to_is ∙ ap (items_at f.to) all_is ∙ sym (ap (λ (o : Option FlowEntry). option_map_or (λ g. items_at g.to (forms g i begun)) o []) at) in
    let asked : asked_by f all f.reply ≡ asked_of d begun i =
    ap (λ (l : List PacketView). asked_by f l f.reply) all_is ∙ sym (ap (λ (o : Option FlowEntry). option_map_or (λ g. asked_by g (forms g i begun) g.reply) o []) at) in
    let count : many ≡ length (of_flow i begun) = size ∙ ap length all_is ∙ length-map (of_flow i begun) (form_of f) in
    let delivers : came_out ≡ delivered d begun out i =
    came ∙ ap (found ps) items ∙ ap (λ (ts : List KeyCountView). found ts (items_of d begun i)) h.packets_left ∙ walk_is (all_items out) (items_before d begun i) (items_of d begun i) in
    let replied : told ≡ answered d begun out i =
    answers ∙ ap (found rs) asked ∙ ap (λ (ts : List KeyCountView). found ts (asked_of d begun i)) h.replies_left ∙ walk_is (all_replies out) (asked_before d begun i) (asked_of d begun i) in
    let line : flow_text load i f many came_out told ≡ told_of d load begun out i =
    (λ k. flow_text load i f (count k) (delivers k) (replied k))
    ∙ sym (ap (λ (o : Option FlowEntry). option_map_or (λ g. flow_text load i g (length (of_flow i begun)) (delivered d begun out i) (answered d begun out i)) o []) at) in
    record {
      told = number_added (told_of d load begun out) i start before after h.told (more ∙ ap (λ l. before ++ l) line);
      packets_left = flow_more (items_of d begun) i (key_counts (all_items out)) ps qs h.packets_left (left ∙ ap (taken_all ps) items);
      replies_left = flow_more (asked_of d begun) i (key_counts (all_replies out)) rs ss h.replies_left (rest ∙ ap (taken_all rs) asked);
    }
