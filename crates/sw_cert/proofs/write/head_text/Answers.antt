use Rattle.std.proofs.Common.{◌∙◌, ◌++◌, ap, sym, length, append-nil}
use Rattle.std.specs.Prelude.{codes}
use Rattle.std.specs.List.{flat_map}
use Rattle.std.specs.Fmt.{decimal}
use Rattle.std.proofs.lemmas.List.{take_all}
use Rattle.sw_cert.specs.Grammar.{with_lf}
use Rattle.sw_cert.proofs.Written.{first_lines, head_parts}
use Rattle.sw_cert.proofs.write.head_text.Goals as goal

pub loop-number-init : goal.loop-number-init
loop-number-init c = c.in_ok-text.ensures.ok ∙ sym (append-nil (first_lines (length c.args.numbers.now)))

pub returns : goal.returns
returns c =
    let ns = c.args.numbers.now in
    c.in_ok-add_field-2.ensures
    ∙ ap (λ x. x ++ with_lf (codes "flows " ++ decimal c.args.flows))
    (c.loop-number.invariant ∙ ap (λ l. first_lines (length ns) ++ flat_map (λ v. with_lf (codes "number " ++ decimal v)) l) (take_all c.loop-number.number-index ns c.loop-number-test.false))
    ∙ head_parts ns c.args.flows
