use Rattle.std.proofs.Common.{◌≤◌, ◌∙◌, ap, arith, length, sym}
use Rattle.std.specs.Option.{option_to_list}
use Rattle.std.proofs.lemmas.List.{take_all}
use Rattle.sw_mend.specs.Changes.{by_number}
use Rattle.sw_mend.specs.Mends.{Frees}
use Rattle.sw_mend.specs.Splits.{own_links}
use Rattle.sw_mend.specs.declared.change.Trial.TheVariants.{Split}
use Rattle.sw_mend.proofs.Told.{added_as, made_added, none_added, one_added}
use Rattle.sw_mend.proofs.trials.add_splits.Goals as goal

pub loop-node-init : goal.loop-node-init
loop-node-init g c = (c.requires, none_added (Frees c.args.network.now) _)

pub loop-node-preserved-in_default : goal.loop-node-preserved-in_default
loop-node-preserved-in_default g c =
    let d = c.args.network.now in
    let is = sym (ap option_to_list c.in_default.is) ∙ c.own_link_of.ensures.link in
    (c.loop-node.invariant.0, made_added (Frees d) Split (own_links d) d.nodes c.loop-node.node _ _ _ c.loop-node.invariant.1 (added_as (Frees d) Split _ _ _ _ is (none_added (Frees d) _)))

pub loop-node-preserved : goal.loop-node-preserved
loop-node-preserved g c =
    let d = c.args.network.now in
    let is = sym (ap option_to_list c.in-Some.is) ∙ c.own_link_of.ensures.link in (
      c.in_ok-freed.ensures.known,
      made_added (Frees d) Split (own_links d) d.nodes c.loop-node.node _ _ _ c.loop-node.invariant.1
          (added_as (Frees d) Split _ _ _ _ is (one_added (Frees d) (Split c.in-Some.link) _ _ c.in_ok-freed.freed c.in_ok-freed.ensures.decided c.in_ok-add_if.ensures)),
    )

pub returns : goal.returns
returns g c =
    let d = c.args.network.now in
    let past : length d.nodes ≤ c.loop-node.node = omega (arith, c.loop-node-test.false, c.nodes-node-end.ensures.count) in
    added_as (Frees d) Split _ _ c.args.mends.now.items c.loop-node.mends.items (ap (by_number (own_links d) 0) (take_all c.loop-node.node d.nodes past)) c.loop-node.invariant.1
