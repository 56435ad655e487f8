-- Queues that stand for prefixes after some sets were claimed: what waits, arrivals and claims.
use Rattle.std.proofs.Common.{◌≡◌, ℕ, ◌+◌, ◌<◌, ◌≤◌, List, [], ◌∷◌, map, drop, length, length-drop, replicate, All, ap, ap₂, subst, sym, refl, ◌∙◌, arith}
use Rattle.std.specs.List.{AllZip, AllByRecursion}
use Rattle.std.proofs.lemmas.List.{length-replicate}
use Rattle.std.proofs.lemmas.List.Elements.{recursion_from_All, All-from_recursion}
use Rattle.mg_value.specs.Payload.{Plain}
use Rattle.mg_value.specs.declared.policy.Policy.{Policy}
use Rattle.mg_settled.specs.Prefix.{StreamPrefix, IsPrefix, empty_prefix}
use Rattle.mg_settled.specs.Extension.{AreExtendedBy}
use Rattle.mg_settled.specs.Settled.{settled_sets, reach}
use Rattle.mg_settled.specs.Left.{after_sets, without_first, AreGone}
use Rattle.mg_settled.proofs.PrefixSteps.{empty_is_prefix}
use Rattle.mg_settled.proofs.Extending.{same_prefix}
use Rattle.mg_settled.proofs.GonePackets.{sets-gone, reach-gone, none-gone, gone-extended}
use Rattle.mg_settled.proofs.ClaimedPackets.{gone-claimed}
use Rattle.mg_stream.specs.Queue.{Waiting, rest_of, StandsFor, IsLike, empty_queue}
use Rattle.mg_stream.proofs.QueueSteps.{stands_like}
use Rattle.mg_policy.specs.Inbox.{rests, StandAfter}

abbrev pub gone_of : {X : Type 0} → List (Waiting X) → List ℕ
gone_of qs = map (λ q. q.gone) qs

pub all_prefixes : {X : Type 0} (qs : List (Waiting X)) (ss : List (StreamPrefix X)) → AllZip StandsFor qs ss → All IsPrefix ss
all_prefixes {X} qs ss each = All-from_recursion IsPrefix ss (go qs ss each)
  where
    go : (rs : List (Waiting X)) (ts : List (StreamPrefix X)) → AllZip StandsFor rs ts → AllByRecursion IsPrefix ts
    go [] [] e = tt
    go [] (t ∷ ts) e = absurd e
    go (r ∷ rs) [] e = absurd e
    go (r ∷ rs) (t ∷ ts) e = (e.0.prefix, go rs ts e.1)

-- what waits is what is left of the prefixes without the packets that are gone
pub rests-left : {X : Type 0} (qs : List (Waiting X)) (ss : List (StreamPrefix X)) → AllZip StandsFor qs ss → rests qs ≡ without_first (gone_of qs) ss
rests-left [] [] e = refl
rests-left [] (s ∷ ss) e = absurd e
rests-left (q ∷ qs) [] e = absurd e
rests-left {X} (q ∷ qs) (s ∷ ss) e = ap₂ (λ (first : StreamPrefix X) (rest : List (StreamPrefix X)). first ∷ rest) (same_prefix (rest_of q) (record { packets = drop q.gone s.packets; bound = s.bound }) e.0.waiting e.0.bound) (rests-left qs ss e.1)

gone-few : {X : Type 0} (qs : List (Waiting X)) (ss : List (StreamPrefix X)) → AllZip StandsFor qs ss → AllZip (λ s n. n ≤ length s.packets) ss (gone_of qs)
gone-few [] [] e = tt
gone-few [] (s ∷ ss) e = absurd e
gone-few (q ∷ qs) [] e = absurd e
gone-few (q ∷ qs) (s ∷ ss) e = (e.0.gone, gone-few qs ss e.1)

pub what_is_next : (policy : Policy) (k : ℕ) (qs : List (Waiting Plain)) (ss : List (StreamPrefix Plain)) → StandAfter policy k qs ss → settled_sets policy (rests qs) ≡ drop k (settled_sets policy ss)
what_is_next policy k qs ss h = ap (λ (rs : List (StreamPrefix Plain)). settled_sets policy rs) (rests-left qs ss h.each) ∙ sets-gone policy k ss (gone_of qs) (all_prefixes qs ss h.each) h.gone

pub what_is_the_reach : (policy : Policy) (k : ℕ) (qs : List (Waiting Plain)) (ss : List (StreamPrefix Plain)) → StandAfter policy k qs ss → reach policy (rests qs) ≡ reach policy ss
what_is_the_reach policy k qs ss h = ap (λ (rs : List (StreamPrefix Plain)). reach policy rs) (rests-left qs ss h.each) ∙ reach-gone policy k ss (gone_of qs) (all_prefixes qs ss h.each) h.gone

pub arrivals_keep : (policy : Policy) (k : ℕ) (qs rs : List (Waiting Plain)) (ss us : List (StreamPrefix Plain)) → StandAfter policy k qs ss → AllZip StandsFor rs us → AreExtendedBy ss us → gone_of rs ≡ gone_of qs → StandAfter policy k rs us
arrivals_keep policy k qs rs ss us h each ext same = record {
  each = each;
  gone = rw same (gone-extended policy k ss us (gone_of qs) (all_prefixes qs ss h.each) ext h.gone);
}

pub claim_counts : (policy : Policy) (k : ℕ) (qs rs : List (Waiting Plain)) (ss : List (StreamPrefix Plain)) → StandAfter policy k qs ss → AllZip StandsFor rs ss → 0 < length (settled_sets policy (rests qs)) → rests rs ≡ after_sets policy 1 (rests qs) → StandAfter policy (k + 1) rs ss
claim_counts policy k qs rs ss h each some left =
    let below : k < length (settled_sets policy ss) = omega (arith, some, ap length (what_is_next policy k qs ss h), length-drop k (settled_sets policy ss)) in
    let same : without_first (gone_of rs) ss ≡ after_sets policy 1 (without_first (gone_of qs) ss) =
    sym (rests-left rs ss each) ∙ left ∙ ap (λ (ls : List (StreamPrefix Plain)). after_sets policy 1 ls) (rests-left qs ss h.each) in
    record {
      each = each;
      gone = gone-claimed policy k ss (gone_of qs) (gone_of rs) (all_prefixes qs ss h.each) h.gone below (gone-few rs ss each) same;
    }

-- queues to which nothing came stand for empty prefixes, and no set of these is claimed
empty_stands : {X : Type 0} → StandsFor (empty_queue {X = X}) empty_prefix
empty_stands = record { prefix = empty_is_prefix; gone = omega arith; waiting = refl; bound = refl }

each_empty : {X : Type 0} (qs : List (Waiting X)) → AllByRecursion (λ q. IsLike q empty_queue) qs → AllZip StandsFor qs (replicate (length qs) empty_prefix)
each_empty [] h = tt
each_empty (q ∷ qs) h = (stands_like empty_queue q empty_prefix h.0 empty_stands, each_empty qs h.1)

none_gone : {X : Type 0} (qs : List (Waiting X)) → AllByRecursion (λ q. IsLike q empty_queue) qs → gone_of qs ≡ replicate (length qs) 0
none_gone [] h = refl
none_gone (q ∷ qs) h = ap₂ (λ (n : ℕ) (ns : List ℕ). n ∷ ns) h.0.gone (none_gone qs h.1)

pub fresh_stands : (policy : Policy) (n : ℕ) (qs : List (Waiting Plain)) → length qs ≡ n → All (λ q. IsLike q empty_queue) qs → StandAfter policy 0 qs (replicate n empty_prefix)
fresh_stands policy n qs e h =
    let each = recursion_from_All (λ (q : Waiting Plain). IsLike q empty_queue) qs h in
    let none : AreGone policy 0 (replicate (length qs) empty_prefix) (replicate (length (replicate (length qs) (empty_prefix {X = Plain}))) 0) = none-gone policy (replicate (length qs) empty_prefix) in
    rw (← e) (record {
      each = each_empty qs each;
      gone = subst (λ (ns : List ℕ). AreGone policy 0 (replicate (length qs) empty_prefix) ns) (ap (λ (m : ℕ). replicate m 0) (length-replicate (length qs) (empty_prefix {X = Plain})) ∙ sym (none_gone qs each)) none;
    })
