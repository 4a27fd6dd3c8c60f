use Rattle.std.proofs.Common.{ap}
use Rattle.std.specs.Prelude.{option_map}
use Rattle.sw_search.proofs.Went.{goes_wrong, some_way, some_of_map}
use Rattle.sw_search.proofs.misrouted_way.misrouted.Goals as goal

pub unwrap-way-requires : goal.unwrap-way-requires
unwrap-way-requires c =
    some_of_map (λ v. v.items) c.in_ok-way_to.field-0 (some_way c.args.network.now c.args.flow c.args.place c.args.fault c.requires (option_map (λ v. v.items) c.in_ok-way_to.field-0) c.in_ok-way_to.ensures)

pub returns : goal.returns
returns c =
    goes_wrong c.args.network.now c.args.flow c.args.place c.args.fault c.requires (option_map (λ v. v.items) c.in_ok-way_to.field-0) c.unwrap-way.result.items c.in_ok-way_to.ensures (ap (option_map (λ v. v.items)) c.unwrap-way.ensures)
