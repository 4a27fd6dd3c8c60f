use Rattle.sw_text.proofs.Rests.{appends_more, fits_more}
use Rattle.sw_text.proofs.write_stream.write_whole.Goals as goal

pub loop-written-preserved : goal.loop-written-preserved
loop-written-preserved g c = record {
  beginning = appends_more _ _ _ c.args.text.now c.loop-written.written c.in-Ok.count c.loop-written.invariant.beginning c.in-Ok.ensures.bytes;
  within = fits_more c.args.text.now c.loop-written.written c.in-Ok.count c.loop-written.invariant.within c.in-Ok.ensures.bound;
}
