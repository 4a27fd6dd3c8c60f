use Rattle.std.proofs.Common.{ltb, rules}
use Rattle.std.proofs.lemmas.List.Sorted.{IsPartitionPoint-from_clause, IsPartitionedBy-ltb}
use Rattle.sw_cycle.proofs.OnChannel.{from_tests, not_falling, rest_in_order, rest_members}
use Rattle.sw_cycle.proofs.goers.places_from.Goals as goal

pub returns-clause-order : goal.returns-clause-order
returns-clause-order c = rest_in_order c.args.places.now c.partition_point-first.result c.partition_point-first.ensures.bound c.requires

pub returns-clause-listed : goal.returns-clause-listed
returns-clause-listed c =
    let places = c.args.places.now in
    let first = c.partition_point-first.result in
    let parted = IsPartitionedBy-ltb (λ p. p.channel) places c.args.channel (not_falling places c.requires) in
    rest_members places first c.partition_point-first.ensures.bound c.args.channel
    (from_tests places c.args.channel first (IsPartitionPoint-from_clause (λ p. ltb p.channel c.args.channel) places first c.partition_point-first.ensures.partitioned parted (search rules)))
