use Rattle.std.proofs.Common.{◌≡◌, true, false, get_or, map, length, ◌<◌, ◌≤◌, sym, ◌∙◌, ap, [], ◌∷◌}
use Rattle.std.proofs.lemmas.List.{map_push, get_or-map, length-map}
use Rattle.sw_file.specs.Rows.{goes_on}
use Rattle.sw_file.specs.Seen.{entry_view, row_view}
use Rattle.sw_file.proofs.RowSteps.{row_grows, row_ends, rows_done}
use Rattle.sw_file.proofs.rows.rows.Goals as goal
use Rattle.sw_file.proofs.rows.rows.Goals.{then-goes_on, else-goes_on+in_ok-push}

pub loop-entry-preserved : goal.loop-entry-preserved
loop-entry-preserved c =
    let es = map entry_view c.in-Some.rest.now in
    let i = c.loop-entry.entry-index in
    let start = row_view c.single_row-row.result ∷ [] in
    let rs = map row_view c.loop-entry.done.items in
    let r = row_view c.loop-entry.row in
    let e = entry_view c.entry-item.result in
    let within : i < length es = rw (length-map c.in-Some.rest.now entry_view) c.loop-entry-test.true in
    let at : get_or es i e ≡ e = get_or-map entry_view c.in-Some.rest.now i c.entry-item.result e c.loop-entry-test.true ∙ ap entry_view (sym c.entry-item.is) in
    elim c.if-goes_on.branch [
      | then-goes_on w ↦
          let on : goes_on r e ≡ true = sym c.goes_on.ensures ∙ w.if-goes_on.true in
          rw (w.done-is, w.row-is) (row_grows es i start rs r e c.loop-entry.invariant within at on)
      | else-goes_on+in_ok-push w ↦
          let off : goes_on r e ≡ false = sym c.goes_on.ensures ∙ w.if-goes_on.false in
          rw (w.done-is, w.row-is, w.in_ok-push.ensures.items, map_push, w.single_row-row-else-goes_on.ensures) (row_ends es i start rs r e c.loop-entry.invariant within at off)
    ]

pub returns : goal.returns
returns c =
    let rest = map entry_view c.in-Some.rest.now in
    let past : length rest ≤ c.loop-entry.entry-index = rw (length-map c.in-Some.rest.now entry_view) c.loop-entry-test.false in
    rows_done (map entry_view c.args.entries.now) rest (entry_view c.in-Some.first.now) c.loop-entry.entry-index (row_view c.single_row-row.result) c.loop-entry.done.items c.push-2.new.self.items c.loop-entry.row
    (ap (map entry_view) c.in-Some.ensures.cases.0) c.single_row-row.ensures past c.loop-entry.invariant c.in_ok-push-2.ensures.items
