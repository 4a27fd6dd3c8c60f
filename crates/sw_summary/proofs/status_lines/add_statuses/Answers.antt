use Rattle.std.proofs.Common.{List, ap, append-nil, count_by, map, refl, rules, string_bytes, sym, ◌==◌, ◌∙◌, ◌≡◌, ◌≤◌, ℕ}
use Rattle.std.proofs.lemmas.List.{take_all}
use Rattle.sw_char.specs.PacketView.{PacketView}
use Rattle.sw_summary.specs.Counts.{with_status}
use Rattle.sw_summary.specs.Texts.{first_status_lines, status_line}
use Rattle.sw_summary.proofs.Counted.{none_more, one_more}
use Rattle.sw_summary.proofs.Lists.{items_in, status_more}
use Rattle.sw_summary.proofs.Written.{told_status, untold_status}
use Rattle.sw_summary.proofs.status_lines.add_statuses.Goals as goal

pub loop-number-init : goal.loop-number-init
unfolding first_status_lines
loop-number-init c = sym (append-nil (string_bytes c.args.text.now))

pub loop-other-preserved-then-other-status : goal.loop-other-preserved-then-other-status
loop-other-preserved-then-other-status c =
    none_more (λ (s : ℕ). s) c.loop-number.number c.deref-other-items.result.now c.loop-other.other-index _ c.loop-other.count _ c.loop-number.number c.loop-other-test.true
    c.loop-other.invariant refl refl c.if-other-status.true

pub loop-other-preserved : goal.loop-other-preserved
loop-other-preserved c =
    one_more (λ (s : ℕ). s) c.loop-number.number c.deref-other-items.result.now c.loop-other.other-index _ c.loop-other.count _ c.loop-number.number c.loop-other-test.true
    c.loop-other.invariant refl refl c.if-other-status.false

pub loop-number-preserved-then-count-eq0 : goal.loop-number-preserved-then-count-eq0
loop-number-preserved-then-count-eq0 c =
    let out : List (List PacketView) = map items_in c.args.out.now in
    let s = c.loop-number.number in
    let count = c.loop-other.count in
    let text = string_bytes c.loop-number.text in
    let some : 1 ≤ s = search rules in
    let line : status_line s count ≡ status_line s (with_status out s) =
    ap (status_line s)
    (c.loop-other.invariant.count
    ∙ ap (count_by (λ (x : ℕ). x == s)) (take_all c.loop-other.other-index c.deref-other-items.result.now c.loop-other-test.false ∙ c.deref-other-items.ensures.value ∙ c.in_ok-all.ensures))
    in
    status_more out s (string_bytes c.args.text.now) text (status_line s count) text some c.loop-number.invariant line (untold_status text s count c.if-count-eq0.true)

pub loop-number-preserved : goal.loop-number-preserved
loop-number-preserved c =
    let out : List (List PacketView) = map items_in c.args.out.now in
    let s = c.loop-number.number in
    let count = c.loop-other.count in
    let some : 1 ≤ s = search rules in
    let before = string_bytes c.loop-number.text in
    let after = string_bytes c.write.new.self in
    let line : status_line s count ≡ status_line s (with_status out s) =
    ap (status_line s)
    (c.loop-other.invariant.count
    ∙ ap (count_by (λ (x : ℕ). x == s)) (take_all c.loop-other.other-index c.deref-other-items.result.now c.loop-other-test.false ∙ c.deref-other-items.ensures.value ∙ c.in_ok-all.ensures))
    in
    status_more out s (string_bytes c.args.text.now) before (status_line s count) after some c.loop-number.invariant line
    (told_status before after s count c.status_name-name.result.now _ c.if-count-eq0.false c.status_name-name.ensures c.in_ok-write.ensures.bytes)
