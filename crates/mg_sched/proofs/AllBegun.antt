-- One node after the other is begun.
use Rattle.std.proofs.Common.{◌≡◌, ℕ, zero, suc, ◌+◌, ◌-◌, ◌<◌, ◌≤◌, List, length, Option, Some, slice_get, inl, inr, ap, ap₂, sym, refl, subst, ◌∙◌, arith}
use Rattle.std.specs.Prelude.{option_map, unwrap_or}
use Rattle.std.proofs.lemmas.Bool.{cases_eq, cases_lt}
use Rattle.std.proofs.lemmas.Option.{same_Some, slice_get_within}
use Rattle.mg_value.specs.Payload.{Plain}
use Rattle.mg_calc.specs.Rules.{Laws}
use Rattle.mg_calc.specs.declared.plan_node.PlanNode.{PlanNode}
use Rattle.mg_calc.specs.Plan.{node_sides}
use Rattle.mg_node.specs.Begun.{IsUnbegun, HasBegun}
use Rattle.mg_node.specs.Job.{LoggedJob}
use Rattle.mg_node.specs.Outputs.{laid_at}
use Rattle.mg_node.specs.Standing.{EngineGrows}
use Rattle.mg_node.specs.Views.{EngineView}
use Rattle.mg_node.proofs.Lemmas.{grown_by_itself}
use Rattle.mg_throttle.specs.Throttle.{QueueLimits}
use Rattle.mg_sched.specs.Acts.{stopped_by}
use Rattle.mg_sched.specs.Begins.{BeginsEngine, StillUnbegun, stopped_at, stopped_from, BeginsNet}
use Rattle.mg_sched.specs.StandsFor.{StandsFor, StandsForSome, IsRunning}
use Rattle.mg_sched.specs.Views.{NetView}
use Rattle.mg_sched.proofs.Finding.{found}

-- what nets that stood for a job stand for it still
abbrev pub Keeps : Laws → NetView → NetView → Type 0
Keeps laws before now = (job : LoggedJob laws) → StandsFor job before → StandsFor job now

grows_on : (a b c : EngineView) → EngineGrows a b → EngineGrows b c → EngineGrows a c
grows_on a b c h k =
    let one = h.laid in
    let two = k.laid in
    let three = h.claimed in
    let four = k.claimed in
    record {
      laid = omega (arith, one, two);
      claimed = omega (arith, three, four);
      ended = λ e. k.ended (h.ended e);
      outputs = λ output.
          let x = (h.outputs output).count in
          let y = (k.outputs output).count in
          let z = (h.outputs output).bound in
          let w = (k.outputs output).bound in
          record { count = omega (arith, x, y); bound = omega (arith, z, w) };
    }

pub begins_none : {laws : Laws} (net : NetView) → BeginsNet laws net net
begins_none {laws} net = record {
  more = omega arith;
  parts = refl;
  places = refl;
  opens = λ number node engine now from below there at at_now. absurd (omega (arith, from, below));
  next = λ node engine now there at at_now told unbegun. subst (λ (v : EngineView). IsUnbegun laws node net.begun told (node_sides net.plan net.given node) v) (same_Some engine now (sym at ∙ at_now)) unbegun;
  others = λ place elsewhere. refl;
  stops = ap (λ (n : ℕ). stopped_from net.engines net.begun n net.limits) (let e : 0 ≡ net.begun - net.begun = omega arith in e);
  grow = λ place engine now at at_now. subst (λ (v : EngineView). EngineGrows engine v) (same_Some engine now (sym at ∙ at_now)) (record {
    laid = omega arith;
    claimed = omega arith;
    ended = λ e. e;
    outputs = λ output. grown_by_itself (laid_at engine output);
  });
  gone = λ place engine now at at_now output. subst (λ (v : EngineView). (laid_at v output).gone ≤ (laid_at engine output).gone) (same_Some engine now (sym at ∙ at_now)) (omega arith);
}

-- an engine of a node that wasn't reached still isn't begun
still_there : {laws : Laws} (a b : NetView) (number : ℕ) (node : PlanNode) (engine now : EngineView) → BeginsNet laws a b → b.begun ≤ number → slice_get a.plan.nodes number ≡ Some node → slice_get a.engines number ≡ Some engine → slice_get b.engines number ≡ Some now
    → StillUnbegun laws a number node engine now
still_there {laws} a b number node engine now h past there at at_now = elim (cases_eq number b.begun) [
  | inl here ↦ subst (λ (n : ℕ). StillUnbegun laws a n node engine now) (sym here)
      (h.next node engine now (ap (slice_get a.plan.nodes) (sym here) ∙ there) (ap (slice_get a.engines) (sym here) ∙ at) (ap (slice_get b.engines) (sym here) ∙ at_now))
  | inr other ↦
      (let less : b.begun < number = omega (arith, past, other) in
      let same : engine ≡ now = same_Some engine now (sym at ∙ sym (h.others number (inr (inl less))) ∙ at_now) in
      λ told unbegun. subst (λ (v : EngineView). IsUnbegun laws node number told (node_sides a.plan a.given node) v) same unbegun)
]

-- the same of a net that was begun further, told for the side packets of the net before
opens_on : {laws : Laws} (a b : NetView) (number : ℕ) (node : PlanNode) (engine now : EngineView) → BeginsNet laws a b → BeginsEngine laws b number node engine now → BeginsEngine laws a number node engine now
opens_on {laws} a b number node engine now h begins = λ told new unbegun.
    let same : node_sides b.plan b.given node ≡ node_sides a.plan a.given node = ap (λ (v : NetView). node_sides v.plan v.given node) h.parts in
    subst (λ (ss : List (Option Plain)). HasBegun laws node number told ss now) same (begins told new (subst (λ (ss : List (Option Plain)). IsUnbegun laws node number told ss engine) (sym same) unbegun))

still_on : {laws : Laws} (a b : NetView) (number : ℕ) (node : PlanNode) (engine now : EngineView) → BeginsNet laws a b → StillUnbegun laws b number node engine now → StillUnbegun laws a number node engine now
still_on {laws} a b number node engine now h still = λ told unbegun.
    let same : node_sides b.plan b.given node ≡ node_sides a.plan a.given node = ap (λ (v : NetView). node_sides v.plan v.given node) h.parts in
    subst (λ (ss : List (Option Plain)). IsUnbegun laws node number told ss now) same (still told (subst (λ (ss : List (Option Plain)). IsUnbegun laws node number told ss engine) (sym same) unbegun))

-- limits once further nodes are begun
stopped_add : (engines : List EngineView) (number m n : ℕ) (limits : QueueLimits) → stopped_from engines number (m + n) limits ≡ stopped_from engines (number + m) n (stopped_from engines number m limits)
stopped_add engines number zero n limits = ap₂ (λ (k j : ℕ). stopped_from engines k j limits) (let e : number ≡ number + 0 = omega arith in e) (let e : 0 + n ≡ n = omega arith in e)
stopped_add engines number (suc m) n limits =
    ap (λ (k : ℕ). stopped_from engines number k limits) (let e : suc m + n ≡ suc (m + n) = omega arith in e)
    ∙ stopped_add engines (number + 1) m n (stopped_at engines number limits)
    ∙ ap (λ (k : ℕ). stopped_from engines k n (stopped_from engines (number + 1) m (stopped_at engines number limits))) (let e : number + 1 + m ≡ number + suc m = omega arith in e)

stopped_same : (engines others : List EngineView) (number n : ℕ) (limits : QueueLimits) → ((place : ℕ) → number ≤ place → place < number + n → slice_get engines place ≡ slice_get others place) → stopped_from engines number n limits ≡ stopped_from others number n limits
stopped_same engines others number zero limits same = refl
stopped_same engines others number (suc n) limits same =
    ap (λ (o : Option EngineView). stopped_from engines (number + 1) n (unwrap_or (option_map (λ e. stopped_by number e limits) o) limits)) (same number (omega arith) (omega arith))
    ∙ stopped_same engines others (number + 1) n (stopped_at others number limits) (λ place from below. same place (omega (arith, from)) (omega (arith, below)))

stops_on : {laws : Laws} (a b c : NetView) → BeginsNet laws a b → BeginsNet laws b c → c.limits ≡ stopped_from c.engines a.begun (c.begun - a.begun) a.limits
stops_on {laws} a b c h k =
    let one = h.more in
    let two = k.more in
    let there : a.begun + (b.begun - a.begun) ≡ b.begun = omega (arith, one) in
    let all : (b.begun - a.begun) + (c.begun - b.begun) ≡ c.begun - a.begun = omega (arith, one, two) in
    let first : b.limits ≡ stopped_from c.engines a.begun (b.begun - a.begun) a.limits =
    h.stops ∙ stopped_same b.engines c.engines a.begun (b.begun - a.begun) a.limits (λ place from below. sym (k.others place (inl (omega (arith, below, one))))) in
    k.stops ∙ ap (λ (l : QueueLimits). stopped_from c.engines b.begun (c.begun - b.begun) l) first
    ∙ ap (λ (n : ℕ). stopped_from c.engines n (c.begun - b.begun) (stopped_from c.engines a.begun (b.begun - a.begun) a.limits)) (sym there)
    ∙ sym (stopped_add c.engines a.begun (b.begun - a.begun) (c.begun - b.begun) a.limits)
    ∙ ap (λ (n : ℕ). stopped_from c.engines a.begun n a.limits) all

pub begins_on : {laws : Laws} (a b c : NetView) → BeginsNet laws a b → BeginsNet laws b c → BeginsNet laws a c
begins_on {laws} a b c h k =
    let one = h.more in
    let two = k.more in
    record {
      more = omega (arith, one, two);
      parts = k.parts ∙ ap (λ (v : NetView). (let w : NetView = record v { engines = c.engines; limits = c.limits; begun = c.begun } in w)) h.parts;
      places = k.places ∙ h.places;
      opens = λ number node engine now from below there at at_now. elim (cases_lt number b.begun) [
        | inl less ↦ h.opens number node engine now from less there at (sym (k.others number (inl less)) ∙ at_now)
        | inr past ↦
            (let mid = middle number engine at in
            λ told new unbegun. opens_on a b number node mid.0 now h (k.opens number node mid.0 now past below (nodes number ∙ there) mid.1 at_now) told new
            (still_there a b number node engine mid.0 h past there at mid.1 told unbegun))
      ];
      next = λ node engine now there at at_now.
          let mid = middle c.begun engine at in
          λ told unbegun. still_on a b c.begun node mid.0 now h (k.next node mid.0 now (nodes c.begun ∙ there) mid.1 at_now) told
          (still_there a b c.begun node engine mid.0 h two there at mid.1 told unbegun);
      others = λ place elsewhere. elim elsewhere [
        | inl less ↦ k.others place (inl (omega (arith, less, one))) ∙ h.others place (inl less)
        | inr further ↦ elim further [
          | inl more ↦ k.others place (inr (inl more)) ∙ h.others place (inr (inl (omega (arith, more, two))))
          | inr past ↦ k.others place (inr (inr (subst (λ (n : ℕ). n ≤ place) (sym count) past))) ∙ h.others place (inr (inr past))
        ]
      ];
      stops = stops_on a b c h k;
      grow = λ place engine now at at_now.
          let mid = middle place engine at in
          grows_on engine mid.0 now (h.grow place engine mid.0 at mid.1) (k.grow place mid.0 now mid.1 at_now);
      gone = λ place engine now at at_now output.
          let mid = middle place engine at in
          let first = h.gone place engine mid.0 at mid.1 output in
          let second = k.gone place mid.0 now mid.1 at_now output in
          omega (arith, first, second);
    }
  where
    middle : (place : ℕ) (engine : EngineView) → slice_get a.engines place ≡ Some engine → (mid : EngineView) × (slice_get b.engines place ≡ Some mid)
    middle place engine at = (let within = slice_get_within a.engines place engine at in let long = h.places in found b.engines place (omega (arith, within, long)))

    nodes : (number : ℕ) → slice_get b.plan.nodes number ≡ slice_get a.plan.nodes number
    nodes number = ap (λ (v : NetView). slice_get v.plan.nodes number) h.parts

    count : length b.plan.nodes ≡ length a.plan.nodes
    count = ap (λ (v : NetView). length v.plan.nodes) h.parts

pub still_some : {laws : Laws} (before now : NetView) → StandsForSome laws before → Keeps laws before now → StandsForSome laws now
still_some {laws} before now h keeps = record { job = h.job; stands = keeps h.job h.stands }

upto : {laws : Laws} (net : NetView) → StandsForSome laws net → net.begun ≤ length net.plan.nodes
unfolding StandsFor
upto {laws} net h = h.stands.begun

pub all_begun : {laws : Laws} (shown net : NetView) (count : ℕ) → shown ≡ net → StandsForSome laws net → count ≡ length shown.plan.nodes → count ≤ shown.begun → IsRunning net
all_begun {laws} shown net count is h long past =
    (let le = upto net h in
    let begun = ap (λ (v : NetView). v.begun) is in
    let nodes = ap (λ (v : NetView). length v.plan.nodes) is in
    omega (arith, le, long, past, begun, nodes))

pub more_left : (shown net : NetView) (count : ℕ) → shown ≡ net → count ≡ length shown.plan.nodes → shown.begun < count → net.begun < length net.plan.nodes
more_left shown net count is long less =
    (let begun = ap (λ (v : NetView). v.begun) is in
    let nodes = ap (λ (v : NetView). length v.plan.nodes) is in
    omega (arith, long, less, begun, nodes))

pub fewer_left : {laws : Laws} (before now : NetView) → BeginsNet laws before now → now.begun ≡ before.begun + 1 → before.begun < length before.plan.nodes → length now.plan.nodes - now.begun < length before.plan.nodes - before.begun
fewer_left {laws} before now h next within = (let same = ap (λ (v : NetView). length v.plan.nodes) h.parts in omega (arith, same, next, within))
