use Rattle.sw_summary.proofs.CountLaws.{all_begun_is_delivered}
use Rattle.sw_summary.proofs.RunsCounted.{drained_is_delivered}
use Rattle.sw_summary.proofs.laws.all_begun_is_delivered.Goals as goal

pub returns : goal.returns
returns c = record { all = all_begun_is_delivered; drained = drained_is_delivered }
