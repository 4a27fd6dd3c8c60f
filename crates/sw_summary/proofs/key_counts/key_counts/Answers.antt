use Rattle.std.proofs.Common.{List, ap, length, rules, ◌+◌, ◌<◌, ◌∙◌}
use Rattle.std.proofs.lemmas.List.{take_all}
use Rattle.sw_summary.specs.Items.{Item}
use Rattle.sw_summary.specs.KeyCounts.{KeyCountView, key_counts}
use Rattle.sw_summary.proofs.KeysCounted.{count_fits, counted_new, counted_old}
use Rattle.sw_summary.proofs.key_counts.key_counts.Goals.{in-Ok, in-Err+in_ok-insert-in-Err}
use Rattle.sw_summary.proofs.key_counts.key_counts.Goals as goal

pub overflow_add-index_mut : goal.overflow_add-index_mut
overflow_add-index_mut c =
    let fits : length c.args.keys.now < 18446744073709551616 = search rules in
    count_fits c.args.keys.now c.loop-key.key-index c.key-item.result c.loop-key.all.items c.loop-key-test.true c.key-item.is c.loop-key.invariant c.deref.result.now c.in-Ok.i
    c.behind-all.inside.count c.index_mut.result.now fits c.deref.ensures.value c.in-Ok.ensures.bound c.index_mut.ensures.value (ap (λ (t : KeyCountView). t.count) c.behind-all.view_is)

pub loop-key-preserved : goal.loop-key-preserved
loop-key-preserved c = elim c.match-index_of.branch [
  | in-Ok w ↦
      counted_old c.args.keys.now c.loop-key.key-index c.key-item.result c.loop-key.all.items c.loop-key-test.true c.key-item.is c.loop-key.invariant c.deref.result.now
      c.match-index_of.all.items w.in-Ok.i w.index_mut.result.now _ c.deref.ensures.value w.in-Ok.ensures.bound w.in-Ok.ensures.position w.index_mut.ensures.value
      (ap (λ (t : KeyCountView). record t { count = t.count + 1 }) w.behind-all.view_is) (ap (λ v. v.items) w.all-is)
  | in-Err+in_ok-insert-in-Err w ↦
      counted_new c.args.keys.now c.loop-key.key-index c.key-item.result c.loop-key.all.items c.loop-key-test.true c.key-item.is c.loop-key.invariant c.deref.result.now
      c.match-index_of.all.items w.in-Err.i _ c.deref.ensures.value w.in-Err.ensures.bound w.in-Err.ensures.position c.key.view_is
      (ap (λ v. v.items) w.all-is ∙ w.in_ok-insert-in-Err.ensures.items)
]

pub returns : goal.returns
returns c =
    c.loop-key.invariant
    ∙ ap (λ (l : List Item). key_counts l)
    (take_all c.loop-key.key-index c.args.keys.now c.loop-key-test.false)
