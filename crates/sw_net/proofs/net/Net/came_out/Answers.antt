use Rattle.std.proofs.Common.{ap, map, sym, ◌++◌, ◌∙◌}
use Rattle.sw_char.specs.Packets.{chars}
use Rattle.sw_char.specs.declared.nchar.NChar.TheVariants.{Data}
use Rattle.sw_net.proofs.New.{if_ok}
use Rattle.sw_net.proofs.net.Net.came_out.Goals as goal

pub returns : goal.returns
returns g c =
    let node = c.node.result.now in
    if_ok c.came_out.result (λ packets e s is. (node.bytes, (is.nodes c.args.node node c.node.ensures).taken ∙ ap (λ l. chars l ++ map Data node.bytes) (sym e))) c.came_out.ensures
