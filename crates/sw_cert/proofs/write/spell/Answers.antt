use Rattle.std.proofs.Common.{◌∙◌, ap, string_bytes}
use Rattle.sw_cert.proofs.Written.{spelled_on}
use Rattle.sw_cert.proofs.write.spell.Goals as goal

pub returns : goal.returns
returns c =
    ap (λ v. v.items) c.into_bytes.ensures.value
    ∙ spelled_on c.args.numbers.now c.args.flows.now (string_bytes c.in_ok-text.text) (string_bytes c.add_lists.new.text) (string_bytes c.push_str.new.self)
    c.in_ok-text.ensures c.in_ok-add_lists.ensures c.in_ok-push_str.ensures.bytes
