use Rattle.std.proofs.Common.{◌≤◌, [], refl, subst, length, ◌∙◌}
use Rattle.std.proofs.KnownBytes.{Consumes-all}
use Rattle.std.proofs.lemmas.Result.{err_from_is_err_and}
use Rattle.sw_text.proofs.Rests.{takes_more, at_any_error, fits_on, read_on, room_fits, room_some, less_left, short_on, one_past}
use Rattle.sw_text.proofs.read_stream.read_whole.Goals as goal

pub loop-chunk-preserved : goal.loop-chunk-preserved
loop-chunk-preserved g c = record {
  read = read_on _ _ _ c.loop-chunk.text.items _ c.read_more.new.text.items c.loop-chunk.invariant.read c.in_ok-read_more.ensures.read c.in_ok-read_more.ensures.more;
  within = fits_on _ _ _ _ _ _ c.in_ok-read_more.ensures.more c.in_ok-read_more.ensures.within (room_fits c.loop-chunk.text.items c.loop-chunk.chunk c.len-in-loop-chunk.result c.saturating_add.result c.min-most.result c.args.limit (c.len-in-loop-chunk.ensures ∙ c.loop-chunk.text.ok.0) c.saturating_add.ensures c.min-most.ensures (subst (λ n. n ≤ c.args.limit) (c.len.ensures ∙ c.loop-chunk.text.ok.0) c.loop-chunk-test.true));
}

pub returns-in_err-read_more-clause-failed : goal.returns-in_err-read_more-clause-failed
returns-in_err-read_more-clause-failed g c =
    at_any_error _ (takes_more _ _ _ _ _ _ c.loop-chunk.invariant.read (room_fits c.loop-chunk.text.items c.loop-chunk.chunk c.len-in-loop-chunk.result c.saturating_add.result c.min-most.result c.args.limit (c.len-in-loop-chunk.ensures ∙ c.loop-chunk.text.ok.0) c.saturating_add.ensures c.min-most.ensures (subst (λ n. n ≤ c.args.limit) (c.len.ensures ∙ c.loop-chunk.text.ok.0) c.loop-chunk-test.true)) c.in_err-read_more.ensures.failed)

pub returns-then-branch-eq0-clause-given : goal.returns-then-branch-eq0-clause-given
returns-then-branch-eq0-clause-given g c =
    read_on _ _ _ c.loop-chunk.text.items _ c.read_more.new.text.items c.loop-chunk.invariant.read c.in_ok-read_more.ensures.read c.in_ok-read_more.ensures.more

pub returns-clause-failed : goal.returns-clause-failed
returns-clause-failed g c = (length c.loop-chunk.text.items, c.loop-chunk.invariant.within, (c.loop-chunk.text.items, refl, c.loop-chunk.invariant.read))

pub loop-chunk-smaller : goal.loop-chunk-smaller
loop-chunk-smaller g c =
    less_left c.loop-chunk.text.items c.read_more.new.text.items c.read_more.new.room c.in_ok-read_more.field-0 _ c.args.limit c.in_ok-read_more.ensures.more c.read_more.auto.room c.in_ok-read_more.ensures.within c.if-branch-eq0.false
    (subst (λ n. n ≤ c.args.limit) (c.len.ensures ∙ c.loop-chunk.text.ok.0) c.loop-chunk-test.true)

pub returns-in_err-read_more-clause-short : goal.returns-in_err-read_more-clause-short
returns-in_err-read_more-clause-short g c =
    let p = err_from_is_err_and c.from_residual-in_err-read_more.result c.from_residual-in_err-read_more.ensures.1 in
    short_on c.from_residual-in_err-read_more.result p.0 c.in_err-read_more.field-0.0 _ _ _ c.loop-chunk.text.items c.args.limit p.1 p.2 c.in_err-read_more.ensures.kept c.loop-chunk.invariant.read
    (subst (λ n. n ≤ c.args.limit) (c.len.ensures ∙ c.loop-chunk.text.ok.0) c.loop-chunk-test.true)

pub returns-clause-long : goal.returns-clause-long
returns-clause-long g c = λ _. (
  c.loop-chunk.text.items,
  one_past c.len.result (length c.loop-chunk.text.items) c.args.limit (c.len.ensures ∙ c.loop-chunk.text.ok.0) c.loop-chunk.invariant.within c.loop-chunk-test.false,
  c.loop-chunk.invariant.read,
)

pub returns-then-branch-eq0-clause-end : goal.returns-then-branch-eq0-clause-end
returns-then-branch-eq0-clause-end g c =
    c.in_ok-read_more.ensures.end c.if-branch-eq0.true
    (room_some c.loop-chunk.text.items c.loop-chunk.chunk c.len-in-loop-chunk.result c.saturating_add.result c.min-most.result c.args.limit (c.len-in-loop-chunk.ensures ∙ c.loop-chunk.text.ok.0) c.saturating_add.ensures c.min-most.ensures (c.loop-chunk.auto.chunk ∙ c.as_mut_slice-chunk.ensures.len ∙ c.in_ok-buffer.buffer.ok.0 ∙ c.in_ok-buffer.ensures))

pub returns-then-branch-eq0-clause-whole : goal.returns-then-branch-eq0-clause-whole
returns-then-branch-eq0-clause-whole g c =
    Consumes-all _ _ c.read_more.new.text.items [] c.read_more.new.text.items
    (read_on _ _ _ c.loop-chunk.text.items _ c.read_more.new.text.items c.loop-chunk.invariant.read c.in_ok-read_more.ensures.read c.in_ok-read_more.ensures.more)
    (c.in_ok-read_more.ensures.end c.if-branch-eq0.true
    (room_some c.loop-chunk.text.items c.loop-chunk.chunk c.len-in-loop-chunk.result c.saturating_add.result c.min-most.result c.args.limit (c.len-in-loop-chunk.ensures ∙ c.loop-chunk.text.ok.0) c.saturating_add.ensures c.min-most.ensures (c.loop-chunk.auto.chunk ∙ c.as_mut_slice-chunk.ensures.len ∙ c.in_ok-buffer.buffer.ok.0 ∙ c.in_ok-buffer.ensures))) refl
