-- The settled sets of each policy, one sentence for all.
use Rattle.std.proofs.Common.{◌≡◌, ℕ, ◌<◌, ◌≤◌, List, [], ◌∷◌, ◌++◌, take, drop, length, All, IsTrue, is_some, sym, refl, ◌∙◌, ap, arith, append-nil}
use Rattle.std.specs.List.{list_any}
use Rattle.std.proofs.lemmas.List.{take-append-drop, length-map}
use Rattle.std.proofs.lemmas.List.Elements.{recursion_from_All, All-from_recursion, All-head, All-drop}
use Rattle.mg_time.specs.Time.{pre_stream, done}
use Rattle.mg_value.specs.Payload.{Plain}
use Rattle.mg_value.specs.declared.policy.Policy.{Policy}
use Rattle.mg_value.specs.declared.policy.Policy.TheVariants.{Default, Mux}
use Rattle.mg_settled.specs.Prefix.{StreamPrefix, IsPrefix}
use Rattle.mg_settled.specs.Extension.{AreExtendedBy}
use Rattle.mg_settled.specs.Settled.{TimedSet, low, settled_sets, reach, IsBelowBounds}
use Rattle.mg_settled.specs.Left.{set_times}
use Rattle.mg_settled.proofs.Times.{Rises}
use Rattle.mg_settled.proofs.SettledTimes.{settled_from, settled_rises, low_rises, set_at-shows}
use Rattle.mg_settled.proofs.DefaultSets.{default_times, default_stays, default_further, All-default_sets, below_each, low_most, low_least}
use Rattle.mg_settled.proofs.MuxSets.{mux_stays, mux_further, mux_reach-rises, mux_reach-least, mux_reach-most, mux_times-rise, mux_below-reach, mux_bounds, mux_places, mux_shown}

pub sets-stay : (policy : Policy) (ss ts : List (StreamPrefix Plain)) → AreExtendedBy ss ts → take (length (settled_sets policy ss)) (settled_sets policy ts) ≡ settled_sets policy ss
sets-stay Default ss ts e = default_stays ss ts e
sets-stay Mux ss ts e = mux_stays ss ts e

pub sets-further : (policy : Policy) (ss ts : List (StreamPrefix Plain)) → All IsPrefix ts → AreExtendedBy ss ts → All (λ e. reach policy ss ≤ e.at) (drop (length (settled_sets policy ss)) (settled_sets policy ts))
sets-further Default ss ts h e = default_further ss ts e
sets-further Mux ss ts h e = mux_further ss ts h e

pub reach-rises : (policy : Policy) (ss ts : List (StreamPrefix Plain)) → All IsPrefix ts → AreExtendedBy ss ts → reach policy ss ≤ reach policy ts
reach-rises Default ss ts h e = low_rises ss ts e
reach-rises Mux ss ts h e = mux_reach-rises ss ts h e

pub reach-least : (policy : Policy) (ss : List (StreamPrefix Plain)) → All IsPrefix ss → pre_stream ≤ reach policy ss
reach-least Default ss h = low_least ss (recursion_from_All IsPrefix ss h)
reach-least Mux ss h = mux_reach-least ss h

pub reach-most : (policy : Policy) (ss : List (StreamPrefix Plain)) → All IsPrefix ss → reach policy ss ≤ done
reach-most Default ss h = low_most ss
reach-most Mux ss h = mux_reach-most ss h

pub times-rise : (policy : Policy) (ss : List (StreamPrefix Plain)) → All IsPrefix ss → Rises 0 (set_times policy ss)
times-rise Default ss h = rw (default_times ss) (settled_rises ss)
times-rise Mux ss h = mux_times-rise ss h

pub below-reach : (policy : Policy) (ss : List (StreamPrefix Plain)) → All IsPrefix ss → All (λ e. e.at < reach policy ss) (settled_sets policy ss)
below-reach Default ss h = All-default_sets (λ e. e.at < low ss) ss (λ t i. (settled_from ss t i).0)
below-reach Mux ss h = mux_below-reach ss h

pub below-bounds : (policy : Policy) (ss : List (StreamPrefix Plain)) → All IsPrefix ss → All (λ e. IsBelowBounds policy ss e.at) (settled_sets policy ss)
below-bounds Default ss h = All-default_sets (λ e. IsBelowBounds Default ss e.at) ss (λ t i. All-from_recursion (λ s. t < s.bound) ss (below_each t ss (settled_from ss t i).0))
below-bounds Mux ss h = mux_bounds ss h

pub sets-places : (policy : Policy) (ss : List (StreamPrefix Plain)) → All (λ e. length e.set ≡ length ss) (settled_sets policy ss)
sets-places Default ss = All-default_sets (λ e. length e.set ≡ length ss) ss (λ t i. length-map ss _)
sets-places Mux ss = mux_places ss

pub sets-shown : (policy : Policy) (ss : List (StreamPrefix Plain)) → All (λ e. IsTrue (list_any is_some e.set)) (settled_sets policy ss)
sets-shown Default ss = All-default_sets (λ e. IsTrue (list_any is_some e.set)) ss (λ t i. set_at-shows t ss (settled_from ss t i).1)
sets-shown Mux ss = mux_shown ss

-- if the reach is the end of all times, no set comes any more
no_more : {X : Type 0} (at : X → ℕ) (b : ℕ) (xs : List X) → All (λ x. b ≤ at x) xs → All (λ x. at x < b) xs → xs ≡ []
no_more at b [] above below = refl
no_more at b (x ∷ xs) above below = absurd (let a = All-head (λ y. b ≤ at y) x xs above in let l = All-head (λ y. at y < b) x xs below in omega (arith, a, l))

pub sets-end : (policy : Policy) (ss ts : List (StreamPrefix Plain)) → All IsPrefix ts → AreExtendedBy ss ts → reach policy ss ≡ done → settled_sets policy ts ≡ settled_sets policy ss
sets-end policy ss ts h e end =
    let n = length (settled_sets policy ss) in
    let rest = drop n (settled_sets policy ts) in
    let most = reach-most policy ts h in
    let rises = reach-rises policy ss ts h e in
    let same : reach policy ts ≡ reach policy ss = omega (arith, most, rises, end) in
    let below : All (λ f. f.at < reach policy ss) rest = rw same at (All-drop (λ f. f.at < reach policy ts) n (settled_sets policy ts) (below-reach policy ts h)) in
    let none : rest ≡ [] = no_more (λ f. f.at) (reach policy ss) rest (sets-further policy ss ts h e) below in
    sym (take-append-drop n (settled_sets policy ts))
    ∙ ap (λ (fs : List (TimedSet Plain)). take n (settled_sets policy ts) ++ fs) none
    ∙ append-nil (take n (settled_sets policy ts))
    ∙ sets-stay policy ss ts e
