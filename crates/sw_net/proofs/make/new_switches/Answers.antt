use Rattle.std.proofs.Common.{All, IsBitSet, IsSome, Some, ap, arith, length, rules, subst, sym, ℕ, ◌++◌, ◌<◌, ◌^◌, ◌↔◌, ◌∙◌, ◌≡◌}
use Rattle.std.specs.Option.{option_to_list}
use Rattle.std.specs.Prelude.{slice_get}
use Rattle.std.specs.Vec.Iter.{into_iter_items}
use Rattle.sw_link.specs.Ends.{IsCapacity}
use Rattle.sw_net.proofs.New.{have_arbiters, if_is, if_ok, new_switch_is, next_made, none_made, row_is, table_is}
use Rattle.sw_net.proofs.Outputs.{all_rows, one_more_row}
use Rattle.sw_net.specs.Net.{arbiters_of}
use Rattle.sw_net.specs.New.{AreLeft, IsNewSwitch, port_capacity, rows_of}
use Rattle.sw_net.proofs.make.new_switches.Goals as goal
use Rattle.sw_switch.specs.Cell.{Cell}
use Rattle.sw_topo.specs.Wiring.{Wiring, out_of}

pub loop-w-init : goal.loop-w-init
loop-w-init g c =
    let d = c.args.network.now in
    let answer = g.R.Routing.answer in
    let ports = g.A.Arbiter.ports in
    record {
      left = subst (λ t. AreLeft answer ports d 0 t (into_iter_items c.into_iter-arbiters.result) c.new-switches.result.items) (sym c.into_iter-tables.ensures.rest)
          (subst (λ r. AreLeft answer ports d 0 c.args.routes.items r c.new-switches.result.items) (sym c.into_iter-arbiters.ensures.rest)
          (subst (λ l. AreLeft answer ports d 0 c.args.routes.items c.args.rows.items l) (sym c.new-switches.ensures.items)
          (none_made answer ports d c.args.routes.items c.args.rows.items c.requires.routes c.requires.all c.requires.each)));
      rows = ap (λ l. arbiters_of l ++ rows_of (into_iter_items c.into_iter-arbiters.result)) c.new-switches.ensures.items ∙ ap rows_of c.into_iter-arbiters.ensures.rest;
    }

pub capacities-requires : goal.capacities-requires
capacities-requires g c = subst (λ n. c.loop-w.w < n) c.switches-w-end.ensures.count c.loop-w-test.true

pub unwrap-table-requires : goal.unwrap-table-requires
unwrap-table-requires g c =
    let all = c.loop-w.invariant.left.all_tables in
    let lt = (subst (λ n. c.loop-w.w < n) c.switches-w-end.ensures.count c.loop-w-test.true) in
    let some : 0 < length (into_iter_items c.loop-w.tables) = omega arith in
    c.next.ensures.variant.1 (subst (λ k. 0 < k) (sym c.loop-w.tables.rest.ok.0) some)

pub unwrap-row-requires : goal.unwrap-row-requires
unwrap-row-requires g c =
    let all = c.loop-w.invariant.left.all_rows in
    let lt = (subst (λ n. c.loop-w.w < n) c.switches-w-end.ensures.count c.loop-w-test.true) in
    let some : 0 < length (into_iter_items c.loop-w.arbiters) = omega arith in
    c.next-in-loop-w.ensures.variant.1 (subst (λ k. 0 < k) (sym c.loop-w.arbiters.rest.ok.0) some)

pub new-switch-requires-clause-ports : goal.new-switch-requires-clause-ports
new-switch-requires-clause-ports g c = subst (λ l. length l ≡ 32) (sym c.deref.ensures.value) c.in_ok-capacities.ensures.whole

pub new-switch-requires-clause-capacities : goal.new-switch-requires-clause-capacities
new-switch-requires-clause-capacities g c = subst (λ l. All IsCapacity l) (sym c.deref.ensures.value) c.in_ok-capacities.ensures.capacities

pub new-switch-requires-clause-arbiters : goal.new-switch-requires-clause-arbiters
new-switch-requires-clause-arbiters g c =
    let next = c.next-in-loop-w.ensures.items ∙ ap (λ o. option_to_list o ++ into_iter_items c.next-in-loop-w.new.self) c.unwrap-row.ensures in
    c.unwrap-row.result.ok.0 ∙ (row_is g.R.Routing.answer g.A.Arbiter.ports c.args.network.now c.loop-w.w _ _ _ _ c.unwrap-row.result next c.loop-w.invariant.left).whole

pub new-switch-requires-clause-arbiter_ports : goal.new-switch-requires-clause-arbiter_ports
new-switch-requires-clause-arbiter_ports g c =
    let d = c.args.network.now in
    let small : c.linked-linked.result < 2 ^ 32 = search rules in
    let is_linked = subst (λ (k : Wiring). (p : ℕ) → IsBitSet c.linked-linked.result p ↔ IsSome (out_of k.ends c.loop-w.w p)) c.topology.ensures.wiring c.linked-linked.ensures in
    let next = c.next-in-loop-w.ensures.items ∙ ap (λ o. option_to_list o ++ into_iter_items c.next-in-loop-w.new.self) c.unwrap-row.ensures in
    have_arbiters g.R.Routing.answer g.A.Arbiter.ports d c.topology.ensures.valid c.loop-w.w c.linked-linked.result small is_linked c.unwrap-row.result.items
    (row_is g.R.Routing.answer g.A.Arbiter.ports d c.loop-w.w _ _ _ _ c.unwrap-row.result next c.loop-w.invariant.left)

pub loop-w-preserved : goal.loop-w-preserved
loop-w-preserved g c =
    let tables = c.next.ensures.items ∙ ap (λ o. option_to_list o ++ into_iter_items c.next.new.self) c.unwrap-table.ensures in
    let rows = c.next-in-loop-w.ensures.items ∙ ap (λ o. option_to_list o ++ into_iter_items c.next-in-loop-w.new.self) c.unwrap-row.ensures in
    let d = c.args.network.now in
    let small : c.linked-linked.result < 2 ^ 32 = search rules in
    let is_linked = subst (λ (k : Wiring). (p : ℕ) → IsBitSet c.linked-linked.result p ↔ IsSome (out_of k.ends c.loop-w.w p)) c.topology.ensures.wiring c.linked-linked.ensures in
    let each = subst (λ l. (port k : ℕ) → slice_get l port ≡ Some k → k ≡ port_capacity d c.loop-w.w port) (sym c.deref.ensures.value) c.in_ok-capacities.ensures.each in
    let is = new_switch_is g.R.Routing.answer g.A.Arbiter.ports d c.topology.ensures.valid c.loop-w.w c.linked-linked.result small is_linked c.unwrap-table.result c.deref.result.now c.unwrap-row.result.items (subst (λ n. c.loop-w.w < n) c.switches-w-end.ensures.count c.loop-w-test.true)
    (table_is g.R.Routing.answer g.A.Arbiter.ports d c.loop-w.w _ _ _ _ c.unwrap-table.result tables c.loop-w.invariant.left)
    (subst (λ l. length l ≡ 32) (sym c.deref.ensures.value) c.in_ok-capacities.ensures.whole) each
    (row_is g.R.Routing.answer g.A.Arbiter.ports d c.loop-w.w _ _ _ _ c.unwrap-row.result rows c.loop-w.invariant.left) in
    let made = if_ok c.new-switch.result (λ cell e. subst (IsNewSwitch g.R.Routing.answer g.A.Arbiter.ports d c.loop-w.w) (sym e) is) c.new-switch.ensures in
    let one = c.in_ok-push_made.ensures in
    record {
      left = next_made g.R.Routing.answer g.A.Arbiter.ports c.args.network.now c.loop-w.w (into_iter_items c.loop-w.tables) (into_iter_items c.next.new.self) (into_iter_items c.loop-w.arbiters) (into_iter_items c.next-in-loop-w.new.self) c.loop-w.switches.items c.push_made.new.all.items c.unwrap-table.result c.unwrap-row.result c.new-switch.result tables rows made one c.loop-w.invariant.left;
      rows = one_more_row c.loop-w.switches.items c.push_made.new.all.items one.0 (into_iter_items c.loop-w.arbiters) (into_iter_items c.next-in-loop-w.new.self) c.unwrap-row.result one.2 rows
          (ap (λ (k : Cell g.row.R.Denot g.row.A.Denot). k.arbiters) (if_is _ c.new-switch.result one.0 one.1 c.new-switch.ensures))
          ∙ c.loop-w.invariant.rows;
    }

pub returns : goal.returns
returns g c =
    let d = c.args.network.now in
    let low = c.loop-w.auto.w-end in
    let high = c.loop-w-test.false in
    let count : c.switches-w-end.result ≡ length d.switches = c.switches-w-end.ensures.count in
    let all : c.loop-w.w ≡ length d.switches = omega arith in
    let rest = c.loop-w.invariant.left.all_rows in
    let none : length (into_iter_items c.loop-w.arbiters) ≡ 0 = omega arith in
    record {
      all = c.loop-w.invariant.left.all_made ∙ all;
      each = c.loop-w.invariant.left.each_made;
      rows = all_rows c.loop-w.switches.items (into_iter_items c.loop-w.arbiters) c.args.rows.items none c.loop-w.invariant.rows;
    }
