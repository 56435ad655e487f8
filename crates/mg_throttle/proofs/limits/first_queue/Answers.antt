use Rattle.std.proofs.Common.{ltb, rules}
use Rattle.std.proofs.lemmas.Bool.{ltb-true, ltb-false}
use Rattle.std.proofs.lemmas.List.Sorted.{IsPartitionPoint-from_clause, IsPartitionedBy-ltb}
use Rattle.mg_throttle.proofs.limits.first_queue.Goals as goal

pub returns : goal.returns
returns c =
    let point = IsPartitionPoint-from_clause (λ q. ltb q.node c.args.node) c.args.queues.now c.partition_point.result c.partition_point.ensures.partitioned
    (IsPartitionedBy-ltb (λ q. q.node) c.args.queues.now c.args.node c.requires) (λ a r f h. search rules) in
    (λ k d low high. ltb-true _ _ (point.0 k d low high), λ k d low high. ltb-false _ _ (point.1 k d low high))
