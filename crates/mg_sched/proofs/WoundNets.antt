-- Nets that are wound up node by node.
use Rattle.mg_calc.specs.Rules.{Laws}
use Rattle.std.proofs.Common.{◌≡◌, ◌⊎◌, inl, inr, ℕ, ◌+◌, ◌<◌, ◌≤◌, nat_lt, length, set, Some, get_or, slice_get, slice_set, ap, sym, refl, subst, ◌∙◌, arith}
use Rattle.std.proofs.lemmas.Bool.{cases_Bool, ltb-true, ltb-false}
use Rattle.std.proofs.lemmas.Option.{same_Some}
use Rattle.mg_node.specs.Views.{EngineView}
use Rattle.mg_node.specs.WindingUp.{WindsUp}
use Rattle.mg_node.proofs.Lemmas.{get_other, put_there}
use Rattle.mg_sched.specs.Views.{NetView}
use Rattle.mg_sched.specs.StandsFor.{StandsFor, StandsForSome}
use Rattle.mg_sched.specs.WindsUp.{MayWindUp, WindsNext, WindsUpNet}
use Rattle.mg_sched.proofs.Finding.{read_at, put_long}

-- a net that stands for a job may be wound up
pub what_stands_may_wind_up : {laws : Laws} (net : NetView) → StandsForSome laws net → MayWindUp net
unfolding StandsFor
what_stands_may_wind_up {laws} net h = record {
  engines = (let long = h.stands.engines in omega (arith, long));
  wound = (let none = h.stands.not_wound in omega (arith, none));
}

-- the next node of a net, as it is kept
pub next_of : {laws : Laws} (shown net : NetView) (engine engine_now : EngineView) → shown ≡ net → MayWindUp net → net.wound < length net.plan.nodes → engine ≡ get_or shown.engines shown.wound engine → WindsUp laws engine engine_now
    → WindsNext laws net (record shown { engines = slice_set shown.engines shown.wound engine_now; wound = shown.wound + 1 })
next_of {laws} shown net engine engine_now is may less value winds =
    let within : net.wound < length net.engines = (let long = may.engines in omega (arith, long, less)) in
    subst (λ (v : NetView). WindsNext laws v (record shown { engines = slice_set shown.engines shown.wound engine_now; wound = shown.wound + 1 })) is (record {
      engine = engine;
      there = read_at shown.engines shown.wound engine (subst (λ (v : NetView). v.wound < length v.engines) (sym is) within) value;
      engine_now = engine_now;
      winds_up = winds;
      now_is = refl;
    })

-- one number is below another, or not
pub order_of : (a b : ℕ) → (a < b) ⊎ (b ≤ a)
order_of a b = elim (cases_Bool (nat_lt a b)) [ inl is ↦ inl (ltb-true a b is) | inr is_not ↦ inr (ltb-false a b is_not) ]

-- a further node is wound up
pub one_more_wound : {laws : Laws} (before mid now : NetView) → WindsUpNet laws before mid → WindsNext laws mid now → mid.wound < length mid.plan.nodes → WindsUpNet laws before now
one_more_wound {laws} before mid now w n less = subst (λ (v : NetView). WindsUpNet laws before v) (sym n.now_is) so_far
  where
    elsewhere : (place : ℕ) → ¬ (place ≡ mid.wound) → slice_get (set mid.engines mid.wound n.engine_now) place ≡ slice_get mid.engines place
    elsewhere place other = get_other mid.engines mid.wound place n.engine_now other

    here : (place : ℕ) (engine engine_now : EngineView) → place ≡ mid.wound → slice_get before.engines place ≡ Some engine → slice_get (set mid.engines mid.wound n.engine_now) place ≡ Some engine_now → WindsUp laws engine engine_now
    here place engine engine_now same at now_at =
        let there : slice_get mid.engines place ≡ Some n.engine = ap (λ (k : ℕ). slice_get mid.engines k) same ∙ n.there in
        let kept : slice_get mid.engines place ≡ slice_get before.engines place = w.others place (omega (arith, same)) in
        let is : engine ≡ n.engine = same_Some engine n.engine (sym at ∙ sym kept ∙ there) in
        let now_is : engine_now ≡ n.engine_now = put_there mid.engines mid.wound n.engine_now engine_now (subst (λ (k : ℕ). slice_get (set mid.engines mid.wound n.engine_now) k ≡ Some engine_now) same now_at) in
        subst (λ (e : EngineView). WindsUp laws e engine_now) (sym is) (subst (λ (e : EngineView). WindsUp laws n.engine e) (sym now_is) n.winds_up)

    each : (place : ℕ) (engine engine_now : EngineView) → (place < mid.wound) ⊎ (mid.wound ≤ place) → before.wound ≤ place → place < mid.wound + 1 → slice_get before.engines place ≡ Some engine
        → slice_get (set mid.engines mid.wound n.engine_now) place ≡ Some engine_now → WindsUp laws engine engine_now
    each place engine engine_now (inl below) from upto at now_at =
        w.wound_up place engine engine_now from below at (sym (elsewhere place (λ same. absurd (omega (arith, same, below)))) ∙ now_at)
    each place engine engine_now (inr past) from upto at now_at = here place engine engine_now (omega (arith, past, upto)) at now_at

    plan : length mid.plan.nodes ≡ length before.plan.nodes
    plan = ap (λ (v : NetView). length v.plan.nodes) w.parts

    so_far : WindsUpNet laws before (record mid { engines = set mid.engines mid.wound n.engine_now; wound = mid.wound + 1 })
    so_far = record {
      more = (let more = w.more in omega (arith, more));
      upto = (let same = plan in omega (arith, less, same));
      parts = ap (λ (v : NetView). record v { engines = set mid.engines mid.wound n.engine_now; wound = mid.wound + 1 }) w.parts;
      places = put_long mid.engines mid.wound n.engine_now ∙ w.places;
      wound_up = λ place engine engine_now from upto at now_at. each place engine engine_now (order_of place mid.wound) from upto at now_at;
      had_been = λ place below. (let more = w.more in elsewhere place (λ same. absurd (omega (arith, same, below, more)))) ∙ w.had_been place below;
      others = λ place past. elsewhere place (λ same. absurd (omega (arith, same, past))) ∙ w.others place (omega (arith, past));
    }
