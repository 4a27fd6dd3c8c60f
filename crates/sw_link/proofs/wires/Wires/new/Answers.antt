use Rattle.std.proofs.Common.{ap, ap₂, ◌∙◌, map}
use Rattle.sw_char.specs.declared.nchar.NChar.{NChar}
use Rattle.sw_link.proofs.Rings.{rings_empty}
use Rattle.sw_link.proofs.wires.Wires.new.Goals as goal
use Rattle.sw_link.specs.Between.{between_of}

pub returns : goal.returns
returns c =
    let e = ap (λ l. map (λ q. q.items) l) c.in_ok-rings.ensures ∙ rings_empty {X = NChar} c.args.channels 56 in
    let f = c.in_ok-vec.ensures.items_if_clones_equal (λ y h. h) in
    ap₂ between_of e f
