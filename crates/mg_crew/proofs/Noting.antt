-- There is a queue for each edge. If the length of a queue is noted, there are as many queues as before. Feeders come one after
-- the other.
use Rattle.std.proofs.Common.{◌≡◌, ℕ, ◌+◌, ◌<◌, ◌≤◌, zero, suc, List, [], ◌∷◌, ◌∙◌, length, map, refl, ap, sym, Option, Some, None, IfSome, arith}
use Rattle.std.proofs.lemmas.List.{length-map}
use Rattle.mg_calc.specs.declared.edge.Edge.{Edge}
use Rattle.mg_calc.specs.declared.plan.Plan.{Plan}
use Rattle.mg_throttle.specs.declared.queue.Queue.{Queue}
use Rattle.mg_throttle.specs.Throttle.{QueueLimits, AreLimitsOf, noted}

pub length_noted : (qs : List Queue) (edge packets : ℕ) → length (noted qs edge packets) ≡ length qs
length_noted [] edge packets = refl
length_noted (q ∷ qs) zero packets = refl
length_noted (q ∷ qs) (suc edge) packets = ap suc (length_noted qs edge packets)

pub length_made : (qs : List Queue) (edges : List Edge) (make : Edge → Queue) (count : ℕ) → qs ≡ map make edges → count ≡ length edges → count ≡ length qs
length_made qs edges make count made all = all ∙ sym (ap length made ∙ length-map edges make)

-- a feeder that is looked for from the place after another one stands after that other one
pub later_feeder : (next : Option ℕ) (feeder end : ℕ) → IfSome next (λ f. (feeder + 1 ≤ f) × (f < end)) → IfSome next (λ f. (feeder < f) × (f < end))
later_feeder None feeder end h = tt
later_feeder (Some f) feeder end h = (let above = h.0 in omega (arith, above), h.1)

-- the first one is below the end
pub first_feeder : (next : Option ℕ) (from end : ℕ) → IfSome next (λ f. (from ≤ f) × (f < end)) → IfSome next (λ f. f < end)
first_feeder None from end h = tt
first_feeder (Some f) from end h = h.1

pub length_reached : (plan : Plan) (limits : QueueLimits) (count : ℕ) → AreLimitsOf plan limits → count ≡ length plan.nodes → count ≡ length limits.reached
length_reached plan limits count of is = is ∙ sym of.marked_nodes
