use Rattle.std.proofs.Common.{◌≡◌, ◌++◌, ◌∷◌, [], ◌∙◌, ap, append_assoc, get_or, map, sym, take}
use Rattle.std.proofs.lemmas.List.{map_more, take_all}
use Rattle.sw_char.specs.declared.nchar.NChar.TheVariants.{Data}
use Rattle.sw_node.proofs.sending.push_data.Goals as goal

pub loop-byte-preserved : goal.loop-byte-preserved
loop-byte-preserved c =
    let before = c.args.chars.now.items in
    let bytes = c.args.bytes.now in
    let i = c.loop-byte.byte-index in
    let next = Data (get_or bytes i 0) ∷ [] in
    let pushed : c.push.new.self.items ≡ c.loop-byte.chars.items ++ next = c.in_ok-push.ensures.items in
    pushed
    ∙ ap (λ chars. chars ++ next) c.loop-byte.invariant
    ∙ append_assoc before (map Data (take i bytes)) next
    ∙ ap (λ chars. before ++ chars) (sym (map_more Data bytes i 0 c.loop-byte-test.true))

pub returns : goal.returns
returns c = c.loop-byte.invariant ∙ ap (λ bytes. c.args.chars.now.items ++ map Data bytes) (take_all c.loop-byte.byte-index c.args.bytes.now c.loop-byte-test.false)
