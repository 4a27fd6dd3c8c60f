use Rattle.std.proofs.Common.{length, ℕ, ◌≡◌, Some}
use Rattle.std.specs.Prelude.{slice_get}
use Rattle.sw_net.specs.New.{IsNewNode}
use Rattle.sw_node.specs.Node.{Node}
use Rattle.sw_net.proofs.make.new_nodes.Given as goal

abbrev pub invariant-loop-n : goal.invariant-loop-n
invariant-loop-n l = (length l.nodes.items ≡ l.n) × ((n : ℕ) (node : Node) → slice_get l.nodes.items n ≡ Some node → IsNewNode l.network n node)
