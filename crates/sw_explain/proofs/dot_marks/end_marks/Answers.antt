use Rattle.std.proofs.Common.{◌∙◌, ap, codes, refl, string_bytes, sym}
use Rattle.std.proofs.lemmas.Result.{on_ok_weaker}
use Rattle.sw_cert.proofs.Numbered.{pushed}
use Rattle.sw_explain.specs.Dot.{closing}
use Rattle.sw_explain.proofs.Lists.{no_number_ended, number_ended}
use Rattle.sw_explain.proofs.dot_marks.end_marks.Goals as goal

pub returns-in-Some : goal.returns-in-Some
returns-in-Some c =
    let lookup = c.in-Some.ensures.lookup.3 in
    on_ok_weaker c.write.result
    (λ new_is start list is. number_ended c.args.numbers.now c.args.channel c.from.result c.in-Some.number.now start (string_bytes c.args.text.now) (string_bytes c.write.new.self) list c.args.begun
    c.opening-between.result.now (c.from.ensures ∙ c.number.ensures) lookup.0 (lookup.1 c.in-Some.number.now) is c.opening-between.ensures new_is)
    c.write.ensures.bytes

pub returns-then-begun : goal.returns-then-begun
returns-then-begun c =
    let old = string_bytes c.args.text.now in
    let new = string_bytes c.push_str.new.self in
    on_ok_weaker c.push_str.result
    (λ new_is start list is. no_number_ended c.args.numbers.now c.args.channel c.from.result start old new list c.args.begun (codes "];\n") (c.from.ensures ∙ c.number.ensures) c.in-None.ensures.lookup.3
    (sym (ap closing c.if-begun.true)) is new_is)
    (pushed c.push_str.result old new (codes "];\n") (codes "];\n") refl c.push_str.ensures.bytes)

pub returns-else-begun : goal.returns-else-begun
returns-else-begun c =
    let old = string_bytes c.args.text.now in
    let new = string_bytes c.push_str-in-None.new.self in
    on_ok_weaker c.push_str-in-None.result
    (λ new_is start list is. no_number_ended c.args.numbers.now c.args.channel c.from.result start old new list c.args.begun (codes ";\n") (c.from.ensures ∙ c.number.ensures) c.in-None.ensures.lookup.3
    (sym (ap closing c.if-begun.false)) is new_is)
    (pushed c.push_str-in-None.result old new (codes ";\n") (codes ";\n") refl c.push_str-in-None.ensures.bytes)
