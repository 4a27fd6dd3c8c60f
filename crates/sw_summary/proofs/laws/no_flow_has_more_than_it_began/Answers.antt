use Rattle.sw_summary.proofs.CountLaws.{answered_is_at_most_asked, delivered_is_at_most_begun}
use Rattle.sw_summary.proofs.laws.no_flow_has_more_than_it_began.Goals as goal

pub returns : goal.returns
returns c = record { delivered = delivered_is_at_most_begun; answered = answered_is_at_most_asked }
