use Rattle.sw_schedule.specs.Reports.{report_of}
use Rattle.sw_witness.proofs.Confirmed.{made_leads, refused_leads_nowhere}
use Rattle.sw_witness.proofs.confirm.leads_to_lock_up.Goals as goal

pub returns-in-Made : goal.returns-in-Made
returns-in-Made c = made_leads c.args.network.now c.args.schedule.now (report_of c.in_ok-replayed.replayed) _ c.in_ok-replayed.ensures c.in-Made.is

pub returns : goal.returns
returns c = refused_leads_nowhere c.args.network.now c.args.schedule.now (report_of c.in_ok-replayed.replayed) _ _ c.in_ok-replayed.ensures c.in-Refused.is
