use Rattle.sw_file.proofs.LongestRows.{rows_are_longest}
use Rattle.sw_file.proofs.laws.rows_are_longest.Goals as goal

pub returns : goal.returns
returns c = rows_are_longest
