use Rattle.sw_net.proofs.New as new
use Rattle.std.proofs.Common.{Err, IsSome, List, Option, Some, ap, arith, drop, length, rules, set, subst, sym, ℕ, ◌++◌, ◌+◌, ◌<◌, ◌∙◌, ◌∷◌, ◌≡◌}
use Rattle.std.proofs.lemmas.List.{length-set, map-set}
use Rattle.std.proofs.lemmas.Option.{same_Some, slice_get-get_or, slice_get-map}
use Rattle.std.specs.Global.{Vec}
use Rattle.std.specs.Option.{option_to_list}
use Rattle.std.specs.Prelude.{option_map, slice_get}
use Rattle.std.specs.Vec.{with_item}
use Rattle.std.specs.Vec.Iter.{into_iter_items}
use Rattle.sw_cell.proofs.Switches.{port_small}
use Rattle.sw_config.specs.Entries.{Declaration}
use Rattle.sw_config.specs.Valid.{IsValid}
use Rattle.sw_flow.specs.Places.{ends_of}
use Rattle.sw_net.proofs.New.{if_err}
use Rattle.sw_net.proofs.Outputs.{all_placed, node_placed, none_placed, switch_placed}
use Rattle.sw_net.proofs.Steps.{each_set}
use Rattle.sw_net.specs.New.{AreArbiters, ArePlaced, IsRow, rows_of}
use Rattle.sw_topo.specs.Wiring.{Wiring}
use Rattle.sw_topo.specs.declared.place.PlaceEnd.TheVariants.{Node, Switch}
use Rattle.sw_net.proofs.make.place_arbiters.Goals as goal
use Rattle.sw_cell.proofs.Passing.{some_of}

-- the next arbiter is that of the output where channel c starts, and goes to its row
module _ {A : Type 0} (ports : A → ℕ) (d : Declaration) (c w port : ℕ) (starts : slice_get (ends_of d) c ≡ Some (Switch w port)) (before after : List A) (next : Option A) (items : before ≡ option_to_list next ++ after)
    (some : 0 < length before → IsSome next) (left : AreArbiters ports d (drop c (ends_of d)) before) where
  next_is : (a : A) × (next ≡ Some a)
  next_is = some_of next (some (new.some_left ports d c w port before starts left))

  begins : (a : A) → next ≡ Some a → before ≡ a ∷ after
  begins a is = items ∙ ap (λ k. option_to_list k ++ after) is

  next_left : AreArbiters ports d (drop (c + 1) (ends_of d)) after
  next_left = (new.switch_next ports d c w port next_is.0 before after starts (begins next_is.0 next_is.1) left).1

  module _ (valid : IsValid d) (rows : List (Vec (Option A))) (row : Vec (Option A)) (lt : w < length rows) (at : slice_get rows w ≡ Some row) (each : (v : ℕ) (r : Vec (Option A)) → slice_get rows v ≡ Some r → IsRow ports d c v r.items) where
    set_is : (a : A) → next ≡ Some a → IsRow ports d (c + 1) w (set row.items port next)
    set_is a is = subst (λ k. IsRow ports d (c + 1) w (set row.items port k)) (sym is)
        (new.row_set ports d valid c w port row.items a starts (new.switch_next ports d c w port a before after starts (begins a is) left).0 (each w row at))

    next_rows : (v : ℕ) (r : Vec (Option A)) → slice_get (set rows w (with_item row port next)) v ≡ Some r → IsRow ports d (c + 1) v r.items
    next_rows = each_set (λ v (r : Vec (Option A)). IsRow ports d (c + 1) v r.items) rows w (with_item row port next) lt (set_is next_is.0 next_is.1)
        (λ v r ne at_v. new.row_stays ports d c v r.items (λ q e. let same : Switch v q ≡ Switch w port = same_Some (Switch v q) (Switch w port) (sym e ∙ starts) in ne (cc)) (each v r at_v))

    set_placed : (all : List A) → ArePlaced d c all before (rows_of rows) → (a : A) → next ≡ Some a → ArePlaced d (c + 1) all after (rows_of (set rows w (with_item row port next)))
    set_placed all h a is =
        let items_of = λ (r : Vec (Option A)). r.items in
        let whole = (each w row at).whole in
        let small = port_small d valid c w port starts in
        let within : port < length row.items = omega arith in
        subst (λ k. ArePlaced d (c + 1) all after (rows_of (set rows w (with_item row port k)))) (sym is)
        (subst (ArePlaced d (c + 1) all after) (sym (map-set items_of rows w (with_item row port (Some a))))
        (switch_placed d valid c w port all before after a (rows_of rows) row.items starts (begins a is) (slice_get-map items_of rows w ∙ ap (option_map items_of) at) within h))

    next_placed : (all : List A) → ArePlaced d c all before (rows_of rows) → ArePlaced d (c + 1) all after (rows_of (set rows w (with_item row port next)))
    next_placed all h = set_placed all h next_is.0 next_is.1

pub loop-number-init : goal.loop-number-init
loop-number-init g c =
    let d = c.args.network.now in
    record {
      all = c.in_ok-rows.ensures.all;
      arbiters = subst (AreArbiters g.A.Arbiter.ports d (ends_of d)) (sym c.into_iter-rest.ensures.rest) c.requires;
      each = c.in_ok-rows.ensures.each;
      placed = none_placed d _ _ _ c.into_iter-rest.ensures.rest;
    }

pub start_of-requires : goal.start_of-requires
start_of-requires g c =
    let is = c.new.ensures in
    let within = c.loop-number-test.true in
    let count : c.channels-number-end.result ≡ length (ends_of c.args.network.now) = c.channels-number-end.ensures.ends in
    subst (λ (k : Wiring). c.new.result < length k.ends) (sym c.topology.ensures.wiring) (omega arith)

pub index_mut-row-requires : goal.index_mut-row-requires
index_mut-row-requires g c = subst (λ n. c.in-Switch.w < n) (sym (c.loop-number.rows.ok.0 ∙ c.loop-number.invariant.all)) (subst (λ (k : Wiring). c.in-Switch.w < k.switches) c.topology.ensures.wiring (c.in-Switch.ensures.inside).0)

pub index_mut-requires : goal.index_mut-requires
index_mut-requires g c =
    let rows = c.loop-number.rows.items in
    let lt = subst (λ n. c.in-Switch.w < n) (sym c.loop-number.invariant.all) (subst (λ (k : Wiring). c.in-Switch.w < k.switches) c.topology.ensures.wiring (c.in-Switch.ensures.inside).0) in
    let at = slice_get-get_or rows c.in-Switch.w c.index_mut-row.result.now lt ∙ ap Some (sym c.index_mut-row.ensures.value) in
    subst (λ n. c.number.result < n) (sym (c.index_mut-row.result.now.ok.0 ∙ (c.loop-number.invariant.each c.in-Switch.w c.index_mut-row.result.now at).whole)) c.number.ensures.within

pub loop-number-preserved-in-Node : goal.loop-number-preserved-in-Node
loop-number-preserved-in-Node g c =
    let d = c.args.network.now in
    let k = c.loop-number.number in
    let n = c.in-Node.field-0 in
    let starts = subst (λ i. slice_get (ends_of d) i ≡ Some (Node n)) c.new.ensures (subst (λ (j : Wiring). slice_get j.ends c.new.result ≡ Some (Node n)) c.topology.ensures.wiring (c.in-Node.ensures.place)) in
    record {
      all = c.loop-number.invariant.all;
      arbiters = new.node_skipped g.A.Arbiter.ports d k n (into_iter_items c.loop-number.rest) starts c.loop-number.invariant.arbiters;
      each = λ w row at. new.row_stays g.A.Arbiter.ports d k w row.items (λ q e. let same : Switch w q ≡ Node n = same_Some (Switch w q) (Node n) (sym e ∙ starts) in absurd cc) (c.loop-number.invariant.each w row at);
      placed = node_placed d k n c.args.arbiters.items (into_iter_items c.loop-number.rest) (rows_of c.loop-number.rows.items) starts c.loop-number.invariant.placed;
    }

pub loop-number-preserved : goal.loop-number-preserved
loop-number-preserved g c =
    let d = c.args.network.now in
    let k = c.loop-number.number in
    let w = c.in-Switch.w in
    let port = c.number.result in
    let rows = c.loop-number.rows.items in
    let row = c.index_mut-row.result.now in
    let starts = subst (λ i. slice_get (ends_of d) i ≡ Some (Switch w port)) c.new.ensures (subst (λ (j : Wiring). slice_get j.ends c.new.result ≡ Some (Switch w port)) c.topology.ensures.wiring (c.in-Switch.ensures.place ∙ ap (λ q. Some (Switch w q)) (sym c.number.ensures.value))) in
    let inside = subst (λ (j : Wiring). w < j.switches) c.topology.ensures.wiring ((c.in-Switch.ensures.inside).0) in
    let all = c.loop-number.invariant.all in
    let lt : w < length rows = omega arith in
    let at = slice_get-get_or rows w row lt ∙ ap Some (sym c.index_mut-row.ensures.value) in
    let some = λ (h : 0 < length (into_iter_items c.loop-number.rest)). c.next.ensures.variant.1 (subst (λ k. 0 < k) (sym c.loop-number.rest.rest.ok.0) h) in
    let ports = g.A.Arbiter.ports in
    let before = into_iter_items c.loop-number.rest in
    let after = into_iter_items c.next.new.self in
    record {
      all = length-set rows w _ ∙ all;
      arbiters = next_left ports d k w port starts before after c.next.result c.next.ensures.items some c.loop-number.invariant.arbiters;
      each = next_rows ports d k w port starts before after c.next.result c.next.ensures.items some c.loop-number.invariant.arbiters c.topology.ensures.valid rows row lt at c.loop-number.invariant.each;
      placed = next_placed ports d k w port starts before after c.next.result c.next.ensures.items some c.loop-number.invariant.arbiters c.topology.ensures.valid rows row lt at c.loop-number.invariant.each c.args.arbiters.items c.loop-number.invariant.placed;
    }

pub returns-clause-all : goal.returns-clause-all
returns-clause-all g c = c.loop-number.invariant.all

pub returns-clause-each : goal.returns-clause-each
returns-clause-each g c =
    let d = c.args.network.now in
    let low = c.loop-number.auto.number-end in
    let high = c.loop-number-test.false in
    let count : c.channels-number-end.result ≡ length (ends_of c.args.network.now) = c.channels-number-end.ensures.ends in
    let all : c.loop-number.number ≡ length (ends_of d) = omega arith in
    subst (λ k. (w : ℕ) (row : Vec (Option g.row.A.Denot)) → slice_get c.loop-number.rows.items w ≡ Some row → IsRow g.A.Arbiter.ports d k w row.items) all c.loop-number.invariant.each

pub returns-clause-stand : goal.returns-clause-stand
returns-clause-stand g c =
    let d = c.args.network.now in
    let low = c.loop-number.auto.number-end in
    let high = c.loop-number-test.false in
    let count : c.channels-number-end.result ≡ length (ends_of c.args.network.now) = c.channels-number-end.ensures.ends in
    let all : c.loop-number.number ≡ length (ends_of d) = omega arith in
    all_placed d g.A.Arbiter.ports c.loop-number.number c.args.arbiters.items (into_iter_items c.loop-number.rest) (rows_of c.loop-number.rows.items) all c.loop-number.invariant.arbiters c.loop-number.invariant.placed

pub returns-in_err-rows-clause-all : goal.returns-in_err-rows-clause-all
returns-in_err-rows-clause-all g c =
    let same : c.from_residual.result ≡ Err c.in_err-rows.field-0.0 = search rules in
    if_err _ c.from_residual.result c.in_err-rows.field-0.0 same

pub returns-in_err-rows-clause-each : goal.returns-in_err-rows-clause-each
returns-in_err-rows-clause-each g c =
    let same : c.from_residual.result ≡ Err c.in_err-rows.field-0.0 = search rules in
    if_err _ c.from_residual.result c.in_err-rows.field-0.0 same

pub returns-in_err-rows-clause-stand : goal.returns-in_err-rows-clause-stand
returns-in_err-rows-clause-stand g c =
    let same : c.from_residual.result ≡ Err c.in_err-rows.field-0.0 = search rules in
    if_err _ c.from_residual.result c.in_err-rows.field-0.0 same
