use Rattle.std.specs.Str.Parse.{ExplainsUnsignedError, HasUnsignedDigitsIfOk, ParsesUnsigned}
use Rattle.clap.specs.Words.{found_of, rows_of}
use Rattle.sw_args.specs.CommandLine.{SaysNumber}
use Rattle.sw_args.proofs.Numbers.{of_number, says_number, says_some}
use Rattle.sw_args.proofs.values.number_of.Goals as goal

pub unwrap-requires : goal.unwrap-requires
unwrap-requires c =
    says_some _ (λ bs r. ParsesUnsigned 32 10 bs r × ExplainsUnsignedError 10 bs r × HasUnsignedDigitsIfOk bs r) 32 (found_of c.args.values.now) c.args.name.now
    c.get_one.result (λ t r g. g.0) c.get_one.ensures.value c.requires

pub returns : goal.returns
returns c =
    let read =
    says_number _ (λ bs r. ParsesUnsigned 32 10 bs r × ExplainsUnsignedError 10 bs r × HasUnsignedDigitsIfOk bs r) 32 (found_of c.args.values.now) c.args.name.now
    c.get_one.result (λ t r g. g.0) c.get_one.ensures.none c.get_one.ensures.value
    in
    of_number (SaysNumber c.args.name.now (rows_of (found_of c.args.values.now))) c.get_one.result c.unwrap.result read c.unwrap.ensures
