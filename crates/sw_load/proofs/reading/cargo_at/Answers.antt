use Rattle.std.proofs.Common.{Option, ap, sym, ℕ, ◌∙◌}
use Rattle.std.specs.Prelude.{Vec, option_map}
use Rattle.std.specs.declared.alloc.Global.{Global}
use Rattle.sw_load.proofs.Spelled.{bare_kept, bare_left}
use Rattle.sw_load.proofs.Tables.{cargo_found}
use Rattle.sw_load.proofs.reading.cargo_at.Goals as goal

pub loop-c-preserved : goal.loop-c-preserved
loop-c-preserved c = c.in_ok-push.ensures.items ∙ bare_kept _ _ c.loop-c.c-index c.loop-c.invariant c.loop-c-test.true c.if-c-eq32.false

pub loop-c-preserved-then-c-eq32 : goal.loop-c-preserved-then-c-eq32
loop-c-preserved-then-c-eq32 c = bare_left _ _ c.loop-c.c-index c.loop-c.invariant c.loop-c-test.true c.if-c-eq32.true

pub returns-in-Some : goal.returns-in-Some
returns-in-Some c =
    let read = ap (λ (o : Option (Vec ℕ Global)). option_map (λ v. v.items) o) (sym c.in-Some.is) ∙ c.in_ok-bytes.ensures in
    cargo_found c.args.index _ _ _ c.as_bytes-spelled.result.now c.loop-c.bare.items c.deref.result.now c.loop-c.c-index c.in-Some.bytes.items c.requires c.in_ok-text.ensures c.as_bytes-spelled.ensures.value c.loop-c.invariant c.loop-c-test.false c.deref.ensures.value read
