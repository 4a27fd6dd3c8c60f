use Rattle.std.proofs.Common.{◌+◌, ◌==◌, refl, string_bytes}
use Rattle.sw_explain.specs.Dot.{IsBegun}
use Rattle.std.proofs.Common.{List, ℕ, subst, sym}
use Rattle.sw_explain.proofs.First.{first_at, no_first, still_none}
use Rattle.sw_explain.proofs.Lists.{no_step, step_added}
use Rattle.sw_explain.proofs.dot_marks.add_step_mark.Goals as goal

pub loop-before-preserved : goal.loop-before-preserved
loop-before-preserved c = (
  c.loop-before.invariant.0,
  still_none (λ e. e == c.args.channel) c.args.cycle.now c.index-cycle-before.result c.loop-before.before c.eq.result c.loop-before-test.true c.index-cycle-before.is c.eq.ensures c.loop-before.invariant.1 c.if-eq.false,
)

pub returns-then-eq : goal.returns-then-eq
returns-then-eq c = λ start list is.
    let before = c.loop-before.before in
    let found = first_at (λ e. e == c.args.channel) c.args.cycle.now c.index-cycle-before.result before c.eq.result c.loop-before-test.true c.index-cycle-before.is c.eq.ensures c.loop-before.invariant.1 c.if-eq.true in
    let here = subst (λ (l : List ℕ). IsBegun start l list c.args.begun) (sym c.loop-before.invariant.0) is in
    step_added c.args.cycle.now c.args.channel before (before + 1) start (string_bytes c.loop-before.text) (string_bytes c.write.new.self) list c.args.begun c.opening-between.result.now found refl here
    c.opening-between.ensures c.in_ok-write.ensures.bytes

pub returns : goal.returns
returns c = λ start list is.
    let here = subst (λ (l : List ℕ). IsBegun start l list c.args.begun) (sym c.loop-before.invariant.0) is in
    no_step c.args.cycle.now c.args.channel start (string_bytes c.loop-before.text) list c.args.begun
    (no_first (λ e. e == c.args.channel) c.args.cycle.now c.loop-before.before c.loop-before-test.false c.loop-before.invariant.1 0) here
