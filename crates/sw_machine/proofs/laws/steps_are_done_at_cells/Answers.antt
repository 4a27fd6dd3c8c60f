use Rattle.sw_machine.proofs.laws.steps_are_done_at_cells.Goals as goal
use Rattle.sw_machine.proofs.Parts.{changes, link_ends, local}
use Rattle.sw_machine.proofs.Wormhole.{held_once}

pub returns : goal.returns
returns c = record { link_end = λ net ok s step p. link_ends net ok s step p; changes = λ net ok s r step t h cell ne. changes net ok s (held_once net ok s r) step t h cell ne; local = λ net ok s u r q step same between p. local net ok s u (held_once net ok s r) (held_once net ok u q) between step same p }
