use Rattle.std.proofs.Common.{sym, ◌∙◌, refl, subst}
use Rattle.std.proofs.lemmas.Bool.{false≢true}
use Rattle.sw_cert.specs.Grammar.{IsBlock}
use Rattle.sw_cert.specs.Reading.{items_of}
use Rattle.sw_cert.proofs.Blocks.{all_at}
use Rattle.sw_cert.proofs.Made.{all_so_far, one_more}
use Rattle.sw_cert.proofs.make.are_blocks.Goals as goal

pub returns-then-not-is_block : goal.returns-then-not-is_block
returns-then-not-is_block c = (
  λ bad. absurd (false≢true bad),
  λ all.
      let block = all_at items_of IsBlock c.args.flows.now c.loop-places.places-index c.places-item.result all c.loop-places-test.true c.places-item.is in
      sym c.if-not-is_block.true ∙ c.is_block.ensures.1 (subst IsBlock (sym c.deref.ensures.value) block),
)

pub loop-places-preserved : goal.loop-places-preserved
loop-places-preserved c =
    let block = subst IsBlock c.deref.ensures.value (c.is_block.ensures.0 c.if-not-is_block.false) in
    one_more IsBlock c.args.flows.now c.loop-places.places-index c.places-item.result c.loop-places.invariant c.loop-places-test.true c.places-item.is block

pub returns : goal.returns
returns c = (λ yes. all_so_far IsBlock c.args.flows.now c.loop-places.places-index c.loop-places.invariant c.loop-places-test.false, λ all. refl)
