use Rattle.std.proofs.Common.{List, ap, arith, length, refl, subst, ◌≡◌}
use Rattle.sw_config.specs.Entries.{Declaration}
use Rattle.sw_machine.specs.Steps.{Step}
use Rattle.sw_schedule.proofs.NetSteps.{replayed}
use Rattle.sw_schedule.proofs.Outputs.{all_outputs, pushed}
use Rattle.sw_schedule.specs.Nets.{EndsFromEmpty}
use Rattle.sw_schedule.proofs.replaying.replay_on.Goals as goal

pub loop-n-preserved : goal.loop-n-preserved
loop-n-preserved c =
    pushed c.make_from_empty.new.net c.loop-n.came_out.items c.loop-n.n c.in_ok-came_out.field-0 c.push.new.self.items c.in_ok-push.ensures.items c.loop-n.invariant c.in_ok-came_out.ensures

pub returns : goal.returns
returns c =
    let v = c.args.net.now in
    let w = c.make_from_empty.new.net in
    let o = c.in_ok-outcome.outcome in
    let ends = subst (λ (l : List Step). EndsFromEmpty v.declared l o w) c.entries.ensures c.in_ok-outcome.ensures.ends in
    let same = ap (λ (d : Declaration). length d.nodes) c.network.ensures.network in
    let is : c.loop-n.n ≡ length w.declared.nodes = omega (arith, same, c.loop-n-test.false, c.loop-n.auto.n-end, c.nodes-n-end.ensures.count) in
    record {
      replayed = replayed v.declared w c.args.schedule.now o _ c.in_ok-outcome.ensures.network ends refl (λ s at.
          record {
            counted = c.undelivered-undelivered.ensures s at;
            locked_up = c.is_locked_up.ensures s at;
            outputs = all_outputs w c.loop-n.n c.loop-n.came_out.items is c.loop-n.invariant s at;
          });
      network = c.in_ok-outcome.ensures.network;
      ends = ends;
    }
