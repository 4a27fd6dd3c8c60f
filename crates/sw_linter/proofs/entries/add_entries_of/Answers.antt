use Rattle.std.proofs.Common.{◌∙◌, ◌++◌, ap, append-nil, sym}
use Rattle.std.proofs.lemmas.List.{take_all}
use Rattle.sw_linter.specs.Lints.{made_of}
use Rattle.sw_linter.specs.Marks.{entry_lint_by}
use Rattle.sw_linter.proofs.Ranges.{grown_entry}
use Rattle.sw_linter.proofs.entries.add_entries_of.Goals as goal

pub loop-entry-preserved : goal.loop-entry-preserved
loop-entry-preserved c =
    grown_entry (entry_lint_by c.args.network.now c.args.marks.now c.args.slip c.args.switch) _ _ _ _ c.loop-entry.entry c.args.routes.now c.index-routes-entry.result c.loop-entry-test.true c.index-routes-entry.is
    c.loop-entry.invariant c.entry_lint.ensures c.in_ok-add.ensures

pub loop-entry-init : goal.loop-entry-init
loop-entry-init c = sym (append-nil c.args.lints.now.items)

pub returns : goal.returns
returns c =
    let make = entry_lint_by c.args.network.now c.args.marks.now c.args.slip c.args.switch in
    c.loop-entry.invariant ∙ ap (λ routes. c.args.lints.now.items ++ made_of make routes) (take_all c.loop-entry.entry c.args.routes.now c.loop-entry-test.false)
