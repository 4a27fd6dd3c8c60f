use Rattle.sw_route.proofs.Entries as entries
use Rattle.sw_route.proofs.laws.entries_answer.Goals as goal

pub returns : goal.returns
returns c = entries.entries_answer
