-- A node's outputs follow its inputs, and are prefixes.
use Rattle.std.proofs.Common.{◌≡◌, ℕ, ℤ, ◌<◌, ◌≤◌, length, replicate, List, ◌++◌, drop, take-append-drop, All, Option, sym, ap, subst, ◌∙◌, arith}
use Rattle.std.proofs.Math.Seq.{drop-length}
use Rattle.std.specs.List.{AllByRecursion, fold}
use Rattle.std.proofs.lemmas.List.Elements.{All-weaker, recursion_from_All}
use Rattle.std.proofs.lemmas.List.Sums.{fold-append}
use Rattle.mg_time.specs.Time.{done}
use Rattle.mg_value.specs.Payload.{Plain}
use Rattle.mg_value.specs.declared.policy.Policy.{Policy}
use Rattle.mg_settled.specs.Prefix.{StreamPrefix, IsPrefix, empty_prefix}
use Rattle.mg_settled.specs.Settled.{TimedSet, settled_sets, reach}
use Rattle.mg_settled.specs.Extension.{AreExtendedBy}
use Rattle.mg_settled.proofs.Lemmas.{sets-stay, sets-further, sets-end, reach-rises, reach-most, below-reach}
use Rattle.mg_calc.specs.Rules.{Rules}
use Rattle.mg_calc.specs.Outcome.{Outcome, opened, shown, shown_all, ended, node_outcome}
use Rattle.mg_calc.proofs.Outcomes.{Further, opened_keeps, sets_keep, end_keeps, end_grows, node_outputs}

sets_are_times : (policy : Policy) (ss : List (StreamPrefix Plain)) → All IsPrefix ss → AllByRecursion (λ set. set.at ≤ done) (settled_sets policy ss)
sets_are_times policy ss h =
    let most = reach-most policy ss h in
    recursion_from_All (λ (set : TimedSet Plain). set.at ≤ done) (settled_sets policy ss)
    (All-weaker (λ (set : TimedSet Plain). set.at < reach policy ss) (λ (set : TimedSet Plain). set.at ≤ done) (λ set below. omega (arith, below, most)) (settled_sets policy ss) (below-reach policy ss h))

shown_keep : (rules : Rules) (offset : Option ℤ) (policy : Policy) (outputs : ℕ) (sides : List (Option Plain)) (ss : List (StreamPrefix Plain)) → All IsPrefix ss
    → AllByRecursion IsPrefix (shown_all rules offset outputs sides (settled_sets policy ss)).outputs
shown_keep rules offset policy outputs sides ss h =
    sets_keep rules offset (opened rules offset outputs sides) (settled_sets policy ss) (sets_are_times policy ss h) (opened_keeps rules offset outputs sides)

pub node_keeps : (rules : Rules) (offset : Option ℤ) (policy : Policy) (outputs : ℕ) (sides : List (Option Plain)) (ss : List (StreamPrefix Plain)) → All IsPrefix ss
    → AllByRecursion IsPrefix (node_outcome rules offset policy outputs sides ss).outputs
node_keeps rules offset policy outputs sides ss h =
    end_keeps rules offset (reach policy ss) (shown_all rules offset outputs sides (settled_sets policy ss)) (reach-most policy ss h) (shown_keep rules offset policy outputs sides ss h)

further_sets : (policy : Policy) (ss tt : List (StreamPrefix Plain)) → All IsPrefix tt → AreExtendedBy ss tt → Further (reach policy ss) (reach policy tt) (drop (length (settled_sets policy ss)) (settled_sets policy tt))
further_sets policy ss tt h e = record {
  rises = reach-rises policy ss tt h e;
  within = reach-most policy tt h;
  above = recursion_from_All (λ (set : TimedSet Plain). reach policy ss ≤ set.at) (drop (length (settled_sets policy ss)) (settled_sets policy tt)) (sets-further policy ss tt h e);
  none = (λ end. let same = sets-end policy ss tt h e end in
      ap (λ sets. drop (length (settled_sets policy ss)) sets) same ∙ drop-length (settled_sets policy ss));
}

more_sets : (policy : Policy) (ss tt : List (StreamPrefix Plain)) → AreExtendedBy ss tt → settled_sets policy tt ≡ settled_sets policy ss ++ drop (length (settled_sets policy ss)) (settled_sets policy tt)
more_sets policy ss tt e =
    sym (take-append-drop (length (settled_sets policy ss)) (settled_sets policy tt))
    ∙ ap (λ (first : List (TimedSet Plain)). first ++ drop (length (settled_sets policy ss)) (settled_sets policy tt)) (sets-stay policy ss tt e)

pub node_follows : (rules : Rules) (offset : Option ℤ) (policy : Policy) (outputs : ℕ) (sides : List (Option Plain)) (ss tt : List (StreamPrefix Plain)) → All IsPrefix ss → All IsPrefix tt → AreExtendedBy ss tt
    → AreExtendedBy (node_outcome rules offset policy outputs sides ss).outputs (node_outcome rules offset policy outputs sides tt).outputs
node_follows rules offset policy outputs sides ss tt hs ht e =
    let begun = opened rules offset outputs sides in
    let before = shown_all rules offset outputs sides (settled_sets policy ss) in
    let more = drop (length (settled_sets policy ss)) (settled_sets policy tt) in
    let same : shown_all rules offset outputs sides (settled_sets policy tt) ≡ fold (shown rules offset) before more =
    ap (λ sets. fold (shown rules offset) begun sets) (more_sets policy ss tt e) ∙ fold-append (shown rules offset) begun (settled_sets policy ss) more in
    let kept : AllByRecursion IsPrefix (fold (shown rules offset) before more).outputs =
    subst (λ (o : Outcome). AllByRecursion IsPrefix o.outputs) same (shown_keep rules offset policy outputs sides tt ht) in
    subst (λ (o : Outcome). AreExtendedBy (ended rules offset (reach policy ss) before).outputs (ended rules offset (reach policy tt) o).outputs) (sym same)
    (end_grows rules offset (reach policy ss) (reach policy tt) before more (further_sets policy ss tt ht e) (shown_keep rules offset policy outputs sides ss hs) kept)

-- a node has all its outputs
pub node_has_outputs : (rules : Rules) (offset : Option ℤ) (policy : Policy) (outputs : ℕ) (sides : List (Option Plain)) (ss : List (StreamPrefix Plain)) → All IsPrefix ss
    → AreExtendedBy (replicate outputs empty_prefix) (node_outcome rules offset policy outputs sides ss).outputs
node_has_outputs rules offset policy outputs sides ss h =
    node_outputs rules offset (reach policy ss) outputs sides (settled_sets policy ss) (reach-most policy ss h) (shown_keep rules offset policy outputs sides ss h)
