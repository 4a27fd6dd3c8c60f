use Rattle.sw_mend.proofs.SplitArrivals.{delivered_come_by_port}
use Rattle.sw_mend.proofs.split_laws.delivered_come_by_port.Goals as goal

pub returns : goal.returns
returns c = delivered_come_by_port
