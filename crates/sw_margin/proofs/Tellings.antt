-- What the lines on nodes and flows tell.
use Rattle.std.proofs.Common.{◌≡◌, Bool, true, false, not, ℕ, ◌<◌, length, Contains, Option, Some, filter, sym, ap, ◌∙◌, subst}
use Rattle.std.specs.List.{range_with_len}
use Rattle.std.specs.Option.{option_map_or}
use Rattle.std.specs.Prelude.{is_some, slice_get, ◌==◌}
use Rattle.std.proofs.lemmas.Bool.{and_parts}
use Rattle.std.proofs.lemmas.List.Elements.{All-contains, All-contains_itself, All-filter, Contains-append_left, filter_passes}
use Rattle.std.proofs.lemmas.Option.{get_or_from_slice_get, slice_get_within}
use Rattle.sw_config.specs.Entries.{FlowEntry, all_flows, reply_flows}
use Rattle.sw_config.specs.Limits.{may_make_wait}
use Rattle.sw_graph.proofs.Marked.{from_range}
use Rattle.sw_machine.specs.Model.{network_of}
use Rattle.sw_machine.specs.Stalling.{IsNeverLockedUpUnder, StallingGuard}
use Rattle.sw_search.proofs.Zips.{zip_back}
use Rattle.sw_margin.specs.Bends.{IsAnswer, IsStall, answerable, answering_at, goes_one_way, is_answerable, quiet_nodes}
use Rattle.sw_margin.specs.Laws.{AnswersTell, OneWayIsOneWay, StallsTell}
use Rattle.sw_margin.specs.Waits.{StaysFree}
use Rattle.sw_margin.proofs.Replied.{answered_along_its_way_is_free}
use Rattle.sw_margin.proofs.Stalled.{stalls_never_lock_up}
use Rattle.sw_margin.proofs.Whole.{one_way, place_in}

-- a number below n that passes the test
record Picked (test : ℕ → Bool) (n x : ℕ) : Type 0 where
  passes : test x ≡ true
  low : x < n

picked : (test : ℕ → Bool) (n x i : ℕ) → slice_get (filter test (range_with_len 0 n)) i ≡ Some x → Picked test n x
picked test n x i here =
    let xs = filter test (range_with_len 0 n) in
    let there : Contains xs x = (i, slice_get_within xs i x here, get_or_from_slice_get xs i x x here) in
    record {
      passes = All-contains (λ y. test y ≡ true) xs x (filter_passes test (range_with_len 0 n)) there;
      low = from_range n x (All-contains (Contains (range_with_len 0 n)) xs x (All-filter test (Contains (range_with_len 0 n)) (range_with_len 0 n) (All-contains_itself (range_with_len 0 n))) there);
    }

pub one_way_is_one_way : OneWayIsOneWay
one_way_is_one_way d f valid free among = one_way d f valid free.1 among

pub stalls_tell : StallsTell
stalls_tell d told b valid free are has stays =
    let at = place_in told b has in
    let of = zip_back (IsStall d) (quiet_nodes d) told are at.0 b at.2 in
    let n : ℕ = of.0 in
    let low = (picked (λ n. not (may_make_wait d n)) (length d.nodes) n at.0 of.1).low in
    subst (λ (k : ℕ). IsNeverLockedUpUnder (StallingGuard (λ m. m == k)) (network_of d)) (sym of.2.0) (stalls_never_lock_up d n valid free.0 low (of.2.1.0 stays))

pub answers_tell : AnswersTell
answers_tell d told b f r valid free are has stays here sound routed back =
    let at = place_in told b has in
    let of = zip_back (IsAnswer d) (answerable d) told are at.0 b at.2 in
    let i : ℕ = of.0 in
    let passes : option_map_or (is_answerable d) (slice_get d.flows i) false ≡ true = (picked (λ i. option_map_or (is_answerable d) (slice_get d.flows i) false) (length d.flows) i at.0 of.1).passes in
    let flow : slice_get d.flows i ≡ Some f = ap (slice_get d.flows) (sym of.2.0) ∙ here in
    let single : goes_one_way d f ≡ true = (and_parts (not (is_some f.reply)) (goes_one_way d f) (sym (ap (λ (o : Option FlowEntry). option_map_or (is_answerable d) o false) flow) ∙ passes)).1 in
    let among : Contains (all_flows d) f = Contains-append_left d.flows (reply_flows d.flows) f (b.number, slice_get_within d.flows b.number f here, get_or_from_slice_get d.flows b.number f f here) in
    answered_along_its_way_is_free d b.number f r valid here (one_way d f valid free.1 among single) sound routed back
    (subst (λ (k : ℕ). StaysFree d (answering_at d k)) (sym of.2.0) (of.2.1.0 stays))
