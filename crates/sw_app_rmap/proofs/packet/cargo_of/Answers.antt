use Rattle.sw_app_rmap.proofs.Built.{is_path}
use Rattle.sw_app_rmap.proofs.packet.cargo_of.Goals as goal

pub cargo_where-requires-clause-path : goal.cargo_where-requires-clause-path
cargo_where-requires-clause-path c = (is_path c.args.network.now.nodes c.args.flow.now.to c.args.flow.now.reply c.requires.flow.reply).few
