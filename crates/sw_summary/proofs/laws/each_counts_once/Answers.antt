use Rattle.sw_summary.proofs.CountLaws.{each_packet_counts_once, each_reply_counts_once}
use Rattle.sw_summary.proofs.laws.each_counts_once.Goals as goal

pub returns : goal.returns
returns c = record { packets = each_packet_counts_once; replies = each_reply_counts_once }
