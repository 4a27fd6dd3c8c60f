use Rattle.std.proofs.Common.{◌∙◌, ap, sym}
use Rattle.std.specs.Prelude.{option_map}
use Rattle.sw_args.proofs.Numbers.{is_there}
use Rattle.sw_args.proofs.values.first_value.Goals as goal

pub unwrap-requires : goal.unwrap-requires
unwrap-requires c = is_there _ _ _ c.value_of.ensures c.requires

pub returns : goal.returns
returns c = sym c.value_of.ensures ∙ ap (option_map (λ s. s.now)) c.unwrap.ensures
