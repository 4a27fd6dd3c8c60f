use Rattle.std.proofs.Common.{◌≡◌, ◌∙◌, ◌++◌, ◌∷◌, [], ap, append_assoc, append-nil, map}
use Rattle.std.proofs.lemmas.List.{map-append}
use Rattle.std.proofs.lemmas.List.Elements.{same_from_all_zip}
use Rattle.sw_char.specs.Packets.{marker_of}
use Rattle.sw_char.specs.declared.nchar.NChar.TheVariants.{Data}
use Rattle.sw_node.proofs.cell.NodeCell.begin.Goals as goal
use Rattle.sw_node.specs.Changes.{begun}
use Rattle.sw_node.specs.Node.{node_of, packet_chars}

pub returns-clause-ok : goal.returns-clause-ok
returns-clause-ok c =
    let address = c.args.address.now in
    let cargo = c.args.cargo.now in
    let bytes = c.in_ok-bytes.bytes.items in
    let joined : bytes ≡ address ++ cargo = same_from_all_zip _ (address ++ (cargo ++ [])) bytes c.in_ok-bytes.ensures.ok (λ x y same. same) ∙ ap (λ l. address ++ l) (append-nil cargo) in
    let end = marker_of c.args.end ∷ [] in
    let chars =
    c.packet.ensures
    ∙ ap (λ x. packet_chars x c.args.end) joined
    ∙ ap (λ x. x ++ end) (map-append Data address cargo)
    ∙ append_assoc (map Data address) (map Data cargo) end
    in
    let p = c.self.inside in
    ap (λ x. node_of p.target p.credit p.received x p.pending.items p.owed p.packets.items p.bytes.items) chars ∙ ap (λ n. begun n address cargo c.args.end) c.self.view_is
