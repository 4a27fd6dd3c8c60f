use Rattle.sw_machine.proofs.laws.nodes_owe_replies.Goals as goal
use Rattle.sw_machine.proofs.Owed.{owes, settles}

pub returns : goal.returns
returns c = record { owed = λ net ok steps s r n ln. owes net n steps s r; settled = λ net ok steps s r n t h. settles net n steps s r t h }
