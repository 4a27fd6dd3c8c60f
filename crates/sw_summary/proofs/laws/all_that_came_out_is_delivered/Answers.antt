use Rattle.sw_summary.proofs.CountLaws.{all_that_came_out_is_delivered}
use Rattle.sw_summary.proofs.RunsCounted.{whole_is_delivered}
use Rattle.sw_summary.proofs.laws.all_that_came_out_is_delivered.Goals as goal

pub returns : goal.returns
returns c = record { all = all_that_came_out_is_delivered; whole = whole_is_delivered }
