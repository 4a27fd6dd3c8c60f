use Rattle.std.proofs.Common.{[], append-nil, refl, string_bytes, sym, ℕ}
use Rattle.std.proofs.lemmas.Option.{get_or_from_slice_get}
use Rattle.std.specs.Prelude.{slice_index}
use Rattle.sw_config.specs.Entries.{capacities}
use Rattle.sw_summary.specs.BufferLines.{fill_line}
use Rattle.sw_summary.proofs.Lists.{text_more}
use Rattle.sw_summary.proofs.Written.{no_fill, told_fill_of}
use Rattle.sw_summary.proofs.buffer_lines.fill_lines.Goals as goal

pub loop-c-preserved-then-fill-eq0 : goal.loop-c-preserved-then-fill-eq0
loop-c-preserved-then-fill-eq0 c =
    let d = c.args.network.now in
    let fills = c.args.fills.now in
    let before = string_bytes c.loop-c.text in
    text_more (λ (k : ℕ). fill_line d k (slice_index fills k)) c.loop-c.c before [] before c.loop-c.invariant (no_fill d fills c.loop-c.c c.from.result c.from.ensures c.if-fill-eq0.true)
    (sym (append-nil before))

pub loop-c-preserved : goal.loop-c-preserved
loop-c-preserved c =
    let d = c.args.network.now in
    let fills = c.args.fills.now in
    let n = c.loop-c.c in
    let before = string_bytes c.loop-c.text in
    let after = string_bytes c.write.new.self in
    let holds =
    sym (get_or_from_slice_get (capacities d.links) c.new-channel.result c.capacity-capacity.result 0 c.capacity-capacity.ensures.capacity) in
    text_more (λ (k : ℕ). fill_line d k (slice_index fills k)) n before (fill_line d n (slice_index fills n)) after c.loop-c.invariant refl
    (told_fill_of d fills n c.from.result c.new-channel.result (string_bytes c.in_ok-name.name) c.capacity-capacity.result before after c.from.ensures c.new-channel.ensures c.if-fill-eq0.false
    c.in_ok-name.ensures holds c.in_ok-write.ensures.bytes)
