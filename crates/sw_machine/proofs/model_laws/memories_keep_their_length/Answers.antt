use Rattle.sw_machine.proofs.Memories.{memories_keep_their_length}
use Rattle.sw_machine.proofs.model_laws.memories_keep_their_length.Goals as goal

pub returns : goal.returns
returns c = memories_keep_their_length
