-- Laying the parts that are left gives the same queues.
use Rattle.std.proofs.Common.{◌≡◌, List, vec_len}
use Rattle.mg_value.specs.Payload.{Plain}
use Rattle.mg_settled.specs.Prefix.{StreamPrefix}
use Rattle.mg_route.specs.Reasons.{laid_each, all_laid_on}
use Rattle.mg_node.specs.Code.QueueLaying.{Stand, with_part, MayBeLaid}
use Rattle.mg_node.proofs.LayingBehind.{ComesTo}
use Rattle.mg_node.proofs.laying.lay_parts.Given as goal

abbrev pub invariant-loop-laid : goal.invariant-loop-laid
invariant-loop-laid l = record {
  same : laid_each with_part l.outputs l.parts.items ≡ laid_each with_part l.fn.outputs l.fn.parts.items;
  may : MayBeLaid l.outputs l.parts.items;
  comes : (whole : List (StreamPrefix Plain)) → Stand l.fn.outputs whole → ComesTo l.outputs l.parts.items (all_laid_on whole l.fn.parts.items);
}

abbrev pub decreases-loop-laid : goal.decreases-loop-laid
decreases-loop-laid l = vec_len l.parts
