use Rattle.std.proofs.Common.{◌≡◌, length, ap, ◌∙◌, arith}
use Rattle.sw_topo.specs.Wiring.{Wiring}
use Rattle.sw_config.proofs.AnsweringNodes.{answering_within}
use Rattle.sw_config.proofs.Limits.{waiting_answers}
use Rattle.sw_cycle.proofs.check.is_target_cause.Goals as goal

pub returns-then-node-nodes : goal.returns-then-node-nodes
returns-then-node-nodes c = (
  λ bad. absurd cc,
  λ cause.
      let within = answering_within c.args.network.now c.topology-topology.ensures.valid c.args.node (waiting_answers c.args.network.now c.args.node cause.waits) in
      let count : c.nodes.result ≡ length c.args.network.now.nodes = c.nodes.ensures.nodes ∙ ap (λ (w : Wiring). w.nodes) c.topology-topology.ensures.wiring in
      absurd (omega arith),
)
