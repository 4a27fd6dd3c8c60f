use Rattle.std.proofs.Common.{◌≡◌, ◌+◌, ◌-◌, length, take, drop, arith, rules, sym, ◌∙◌}
use Rattle.std.proofs.lemmas.Slice.{between_to_end}
use Rattle.sw_rmap.specs.Commands.{body_of}
use Rattle.sw_rmap.proofs.Reading.{read_long, body-read}
use Rattle.sw_rmap.proofs.Answering.{answer-read}
use Rattle.sw_rmap.proofs.target.Target.answer.Goals as goal

pub slice_bounds-body-start : goal.slice_bounds-body-start
slice_bounds-body-start c =
    let long = read_long c.args.bytes.now c.in-Some.command (sym c.in-Some.ensures) in
    search rules

pub slice_bounds-body-count : goal.slice_bounds-body-count
slice_bounds-body-count c =
    let long = read_long c.args.bytes.now c.in-Some.command (sym c.in-Some.ensures) in
    search rules

pub returns-clause-answer : goal.returns-clause-answer
returns-clause-answer c =
    let bytes = c.args.bytes.now in
    let from = 16 + c.reply_address_len.result in
    let body : drop from bytes ≡ body_of bytes = rw (c.reply_address_len.ensures.value, c.bits.ensures.value) (body-read bytes c.in-Some.command (sym c.in-Some.ensures)) in
    let part : take (length bytes - from) (drop from bytes) ≡ body_of bytes = between_to_end bytes from (length bytes) (omega arith) ∙ body in
    rw (answer-read c.args.self.now.config c.args.self.now.memory bytes c.args.end c.in-Some.command (sym c.in-Some.ensures), ← part) c.answer_to.ensures.answer
