use Rattle.std.proofs.Common.{rules, ltb}
use Rattle.std.proofs.lemmas.List.Sorted.{IsPartitionPoint-from_clause}
use Rattle.sw_route.proofs.Halving.{halved, rising_parted}
use Rattle.sw_route.proofs.intervals.place_of.Goals as goal

pub returns : goal.returns
returns c =
    let is = c.args.intervals.now in
    halved is c.args.address c.partition_point.result c.partition_point.ensures.bound
    (IsPartitionPoint-from_clause (λ i. ltb i.last c.args.address) is c.partition_point.result c.partition_point.ensures.partitioned (rising_parted is c.args.address c.requires) (search rules))
