use Rattle.std.proofs.Common.{rules}
use Rattle.sw_cert.proofs.Fields.{no_place, place_cut}
use Rattle.sw_cert.proofs.lines.place_of.Goals as goal

pub returns-in_default : goal.returns-in_default
returns-in_default c =
    let none = no_place c.args.bytes.now c.in_default.ensures.whole in
    rw none (search rules)

pub returns-in_default-number : goal.returns-in_default-number
returns-in_default-number c =
    let cut = place_cut c.args.bytes.now c.in-Some.channel.now c.in-Some.deleted.now c.in-Some.ensures.cut in
    rw cut (search rules)

pub returns-in_default-number-2 : goal.returns-in_default-number-2
returns-in_default-number-2 c =
    let cut = place_cut c.args.bytes.now c.in-Some.channel.now c.in-Some.deleted.now c.in-Some.ensures.cut in
    rw cut (search rules)

pub returns : goal.returns
returns c =
    let cut = place_cut c.args.bytes.now c.in-Some.channel.now c.in-Some.deleted.now c.in-Some.ensures.cut in
    rw cut (search rules)
