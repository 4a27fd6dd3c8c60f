use Rattle.std.proofs.Common.{◌∙◌, ap}
use Rattle.sw_cert.proofs.Written.{spelled_in_parts}
use Rattle.sw_cert.proofs.write.spell_by.Goals as goal

pub returns : goal.returns
returns g c =
    c.new.ensures
    ∙ spelled_in_parts c.args.numbers.now c.args.flows.now c.into_bytes-2.result.items c.in_ok-more.more.items c.push.new.self.items c.into_bytes.result
    (ap (λ v. v.items) c.into_bytes-2.ensures.value ∙ c.in_ok-first.ensures) c.in_ok-more.ensures c.in_ok-push.ensures.items
    (ap (λ v. v.items) c.into_bytes.ensures.value ∙ c.in_ok-end.ensures.ok)
