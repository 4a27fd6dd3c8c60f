use Rattle.sw_json_verdicts.proofs.StatusesOfTexts.{statuses_are_those_of_texts}
use Rattle.sw_json_verdicts.proofs.laws.statuses_are_those_of_texts.Goals as goal

pub returns : goal.returns
returns c = statuses_are_those_of_texts
