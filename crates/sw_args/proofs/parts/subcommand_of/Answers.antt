use Rattle.std.proofs.Common.{subst}
use Rattle.std.proofs.lemmas.List.{take_all}
use Rattle.std.proofs.lemmas.Result.{IfOk-weaker}
use Rattle.clap.specs.Words.{new_app, with_rule}
use Rattle.sw_args.specs.CommandLine.{IsMade, all_faults_rule, hints_rule, notes_rule}
use Rattle.sw_args.specs.Parts.{with_parts}
use Rattle.sw_args.proofs.CommandLines.{described, shown, with_argument, with_one_part}
use Rattle.sw_args.proofs.parts.subcommand_of.Goals as goal

pub loop-part-init : goal.loop-part-init
loop-part-init c =
    let row = c.args.subcommand.now in
    shown c.about.result c.after_help-command.result (new_app row.name.now) row.example c.after_help-command.ensures
    (described c.new.result c.about.result (new_app row.name.now) row.about c.new.ensures.app c.new.ensures.local c.about.ensures)

pub loop-part-preserved : goal.loop-part-preserved
loop-part-preserved c =
    let row = c.args.subcommand.now in
    with_one_part (new_app row.name.now) row.parts.now c.loop-part.part-index _ _ _ _ c.loop-part-test.true c.loop-part.invariant c.arg_of.ensures
    c.in_ok-command.ensures

pub returns : goal.returns
returns c =
    let row = c.args.subcommand.now in
    let made = subst (λ parts. IsMade (with_parts (new_app row.name.now) parts) c.loop-part.command) (take_all _ row.parts.now c.loop-part-test.false) c.loop-part.invariant in
    let parted = with_parts (new_app row.name.now) row.parts.now in
    let hinting = with_argument c.loop-part.command c.arg_of-2.result c.in_ok-hinting.hinting parted hints_rule made c.arg_of-2.ensures c.in_ok-hinting.ensures in
    let noting = with_argument c.in_ok-hinting.hinting c.arg_of-3.result c.in_ok-noting.noting (with_rule parted hints_rule) notes_rule hinting c.arg_of-3.ensures c.in_ok-noting.ensures in
    IfOk-weaker c.arg-4.result _ _
    (λ new adds. with_argument c.in_ok-noting.noting c.arg_of-4.result new (with_rule (with_rule parted hints_rule) notes_rule) all_faults_rule noting c.arg_of-4.ensures adds)
    c.arg-4.ensures
