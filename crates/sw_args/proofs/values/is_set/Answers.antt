use Rattle.std.specs.Str.Parse.{ParsesBool}
use Rattle.clap.specs.Words.{found_of}
use Rattle.sw_args.proofs.Flags.{says_set}
use Rattle.sw_args.proofs.values.is_set.Goals as goal

pub returns : goal.returns
returns c = rw c.unwrap_or.ensures (says_set _ ParsesBool (found_of c.args.values.now) c.args.name.now c.get_one.result (λ t r g. g) c.get_one.ensures.none c.get_one.ensures.value)
