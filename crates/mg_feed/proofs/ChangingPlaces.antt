-- Lines of different streams give the same in either order.
use Rattle.std.proofs.Common.{◌≡◌, ◌≢◌, ℕ, zero, suc, ◌+◌, ◌≤◌, true, false, cond, List, [], ◌∷◌, ◌++◌, map, fold, All, Option, Some, None, option_and_then, inl, inr, refl, sym, ap, subst, ◌∙◌, arith}
use Rattle.std.specs.List.{AllByRecursion, list_all}
use Rattle.std.specs.Str.{bytes_eq}
use Rattle.std.proofs.lemmas.Bool.{cases_Bool, false≢true}
use Rattle.std.proofs.lemmas.List.Elements.{recursion_from_All}
use Rattle.std.proofs.lemmas.Option.{none-some, same_Some}
use Rattle.std.proofs.lemmas.Slice.Eq.{bytes_eq-Decides}
use Rattle.mg_value.specs.Payload.{Plain}
use Rattle.mg_settled.specs.Prefix.{StreamPrefix, appended, raised, closed}
use Rattle.mg_calc.specs.declared.plan.Plan.{Plan}
use Rattle.mg_feed.specs.Graph.{GraphInputs, numbered, place_of, input_streams, inputs_of}
use Rattle.mg_feed.specs.declared.places.Placed.{Placed}
use Rattle.mg_feed.specs.Value.{plain_of}
use Rattle.mg_feed.specs.Form.{Named, Form, packets, bound, close, side, is_blank, form_of, json_value}
use Rattle.mg_feed.specs.Accepted.{State, stepped, stepped_at, with_packets, time_or_none, with_said, with_line, given_by, form_names, names_stream}
use Rattle.mg_feed.specs.Apart.{names_in, named_streams, AreApart}
use Rattle.mg_feed.proofs.Holding.{given_by-append}

-- ---- what a form does to streams, one after the other
record Step : Type 0 where
  name : List ℕ
  step : StreamPrefix Plain → StreamPrefix Plain

abbrev acted : List Placed → List Step → List (StreamPrefix Plain) → List (StreamPrefix Plain)
acted places [] ss = ss
acted places (s ∷ steps) ss = acted places steps (stepped_at (place_of places s.name) s.step ss)

abbrev packet_step : ℕ → Named → Step
packet_step time v = record { name = v.name; step = λ s. appended s (record { at = time; value = plain_of v.value }) }

abbrev steps_of : Option Form → List Step
steps_of None = []
steps_of (Some (packets t vs)) = map (packet_step (time_or_none t)) vs
steps_of (Some (bound name t)) = (let s : Step = record { name = name; step = λ p. raised p (time_or_none t) } in s ∷ [])
steps_of (Some (close name)) = (let s : Step = record { name = name; step = closed } in s ∷ [])
steps_of (Some (side name v)) = []

abbrev moved : GraphInputs → List Step → State → State
moved graph steps given = record { streams = acted graph.streams steps given.streams; sides = given.sides; named = true }

packets_act : (graph : GraphInputs) (time : ℕ) (vs : List Named) (ss : List (StreamPrefix Plain)) → with_packets graph time vs ss ≡ acted graph.streams (map (packet_step time) vs) ss
packets_act graph time [] ss = refl
packets_act graph time (v ∷ vs) ss = packets_act graph time vs (stepped_at (place_of graph.streams v.name) (packet_step time v).step ss)

form_acts : (graph : GraphInputs) (given : State) (form : Option Form) → form_names form ≡ true → with_said graph given form ≡ moved graph (steps_of form) given
form_acts graph given None named = absurd (false≢true named)
form_acts graph given (Some (packets t vs)) named = ap (λ ss. (let s : State = record { streams = ss; sides = given.sides; named = true } in s)) (packets_act graph (time_or_none t) vs given.streams)
form_acts graph given (Some (bound name t)) named = refl
form_acts graph given (Some (close name)) named = refl
form_acts graph given (Some (side name v)) named = absurd (false≢true named)

-- ---- steps of other streams may change places
stepped_apart : {X : Type 0} (p q : ℕ) (f g : X → X) (xs : List X) → (p ≡ q → ⊥) → stepped p f (stepped q g xs) ≡ stepped q g (stepped p f xs)
stepped_apart p q f g [] other = refl
stepped_apart zero zero f g (x ∷ xs) other = absurd (other refl)
stepped_apart zero (suc q) f g (x ∷ xs) other = refl
stepped_apart (suc p) zero f g (x ∷ xs) other = refl
stepped_apart {X} (suc p) (suc q) f g (x ∷ xs) other = ap (λ (rest : List X). x ∷ rest) (stepped_apart p q f g xs (λ e. other (ap suc e)))

at_apart : {X : Type 0} (o r : Option ℕ) (f g : X → X) (xs : List X) → ((p : ℕ) → o ≡ Some p → r ≡ Some p → ⊥) → stepped_at o f (stepped_at r g xs) ≡ stepped_at r g (stepped_at o f xs)
at_apart None r f g xs apart = refl
at_apart (Some p) None f g xs apart = refl
at_apart (Some p) (Some q) f g xs apart = stepped_apart p q f g xs (λ e. apart p refl (ap (λ k. Some k) (sym e)))

-- each name has a place of its own
place_above : (from : ℕ) (names : List (List ℕ)) (n : List ℕ) (p : ℕ) → place_of (numbered from names) n ≡ Some p → from ≤ p
place_above from [] n p at = absurd (none-some p at)
place_above from (x ∷ names) n p at = elim (cases_Bool (bytes_eq x n)) [
  | inl is ↦ (let same : from ≡ p = same_Some from p (sym (ap (λ b. cond b (Some from) (place_of (numbered (from + 1) names) n)) is) ∙ at) in omega (arith, same))
  | inr other ↦ (let le : from + 1 ≤ p = place_above (from + 1) names n p (sym (ap (λ b. cond b (Some from) (place_of (numbered (from + 1) names) n)) other) ∙ at) in omega (arith, le))
]

one_name : (from : ℕ) (names : List (List ℕ)) (n m : List ℕ) (p : ℕ) → place_of (numbered from names) n ≡ Some p → place_of (numbered from names) m ≡ Some p → n ≡ m
one_name from [] n m p at also = absurd (none-some p at)
one_name from (x ∷ names) n m p at also = elim (cases_Bool (bytes_eq x n)) [
  | inl is ↦ elim (cases_Bool (bytes_eq x m)) [
    | inl too ↦ sym ((bytes_eq-Decides x n).0 is) ∙ (bytes_eq-Decides x m).0 too
    | inr other ↦ absurd (
        let here : from ≡ p = same_Some from p (sym (ap (λ b. cond b (Some from) (place_of (numbered (from + 1) names) n)) is) ∙ at) in
        let later : from + 1 ≤ p = place_above (from + 1) names m p (sym (ap (λ b. cond b (Some from) (place_of (numbered (from + 1) names) m)) other) ∙ also) in
        omega (arith, here, later))
  ]
  | inr fails ↦
      let rest : place_of (numbered (from + 1) names) n ≡ Some p = sym (ap (λ b. cond b (Some from) (place_of (numbered (from + 1) names) n)) fails) ∙ at in
      elim (cases_Bool (bytes_eq x m)) [
        | inl too ↦ absurd (
            let here : from ≡ p = same_Some from p (sym (ap (λ b. cond b (Some from) (place_of (numbered (from + 1) names) m)) too) ∙ also) in
            let later : from + 1 ≤ p = place_above (from + 1) names n p rest in
            omega (arith, here, later))
        | inr other ↦ one_name (from + 1) names n m p rest (sym (ap (λ b. cond b (Some from) (place_of (numbered (from + 1) names) m)) other) ∙ also)
      ]
]

-- names are those of no step
abbrev Others : List ℕ → List Step → Type 0
Others n steps = AllByRecursion (λ t. n ≢ t.name) steps

one_past : (names : List (List ℕ)) (s : Step) (steps : List Step) (ss : List (StreamPrefix Plain)) → Others s.name steps
    → stepped_at (place_of (numbered 0 names) s.name) s.step (acted (numbered 0 names) steps ss) ≡ acted (numbered 0 names) steps (stepped_at (place_of (numbered 0 names) s.name) s.step ss)
one_past names s [] ss other = refl
one_past names s (t ∷ steps) ss other =
    one_past names s steps (stepped_at (place_of (numbered 0 names) t.name) t.step ss) other.1
    ∙ ap (acted (numbered 0 names) steps)
    (at_apart (place_of (numbered 0 names) s.name) (place_of (numbered 0 names) t.name) s.step t.step ss (λ p at also. other.0 (one_name 0 names s.name t.name p at also)))

all_past : (names : List (List ℕ)) (xs ys : List Step) (ss : List (StreamPrefix Plain)) → AllByRecursion (λ s. Others s.name ys) xs
    → acted (numbered 0 names) xs (acted (numbered 0 names) ys ss) ≡ acted (numbered 0 names) ys (acted (numbered 0 names) xs ss)
all_past names [] ys ss others = refl
all_past names (s ∷ xs) ys ss others =
    ap (acted (numbered 0 names) xs) (one_past names s ys ss others.0) ∙ all_past names xs ys (stepped_at (place_of (numbered 0 names) s.name) s.step ss) others.1

-- ---- from names to steps
step_names : (form : Option Form) → map (λ (s : Step). s.name) (steps_of form) ≡ names_in form
step_names None = refl
step_names (Some (packets t vs)) = go (time_or_none t) vs
  where
    go : (time : ℕ) (ws : List Named) → map (λ (s : Step). s.name) (map (packet_step time) ws) ≡ map (λ v. v.name) ws
    go time [] = refl
    go time (w ∷ ws) = ap (λ (rest : List (List ℕ)). w.name ∷ rest) (go time ws)
step_names (Some (bound name t)) = refl
step_names (Some (close name)) = refl
step_names (Some (side name v)) = refl

of_names : (P : List ℕ → Type 0) (steps : List Step) → AllByRecursion P (map (λ (s : Step). s.name) steps) → AllByRecursion (λ s. P s.name) steps
of_names P [] all = tt
of_names P (s ∷ steps) all = (all.0, of_names P steps all.1)

weaker : {X : Type 0} (P Q : X → Type 0) (xs : List X) → ((x : X) → P x → Q x) → AllByRecursion P xs → AllByRecursion Q xs
weaker P Q [] so all = tt
weaker P Q (x ∷ xs) so all = (so x all.0, weaker P Q xs so all.1)

apart_steps : (first second : Option Form) → All (λ n. All (λ m. n ≢ m) (names_in second)) (names_in first) → AllByRecursion (λ s. Others s.name (steps_of second)) (steps_of first)
apart_steps first second apart =
    of_names (λ n. Others n (steps_of second)) (steps_of first)
    (subst (AllByRecursion (λ n. Others n (steps_of second))) (sym (step_names first))
    (weaker (λ n. All (λ m. n ≢ m) (names_in second)) (λ n. Others n (steps_of second)) (names_in first)
    (λ n others. of_names (λ m. n ≢ m) (steps_of second) (subst (AllByRecursion (λ m. n ≢ m)) (sym (step_names second)) (recursion_from_All (λ m. n ≢ m) (names_in second) others)))
    (recursion_from_All (λ n. All (λ m. n ≢ m) (names_in second)) (names_in first) apart)))

-- ---- lines
record IsSaid (line : List ℕ) : Type 0 where
  form : Option Form
  names : form_names form ≡ true
  named : named_streams line ≡ names_in form
  said : (graph : GraphInputs) (given : State) → with_line graph given line ≡ with_said graph given form

said : (line : List ℕ) → names_stream line ≡ true → IsSaid line
said line names = elim (cases_Bool (list_all is_blank line)) [
  | inl blank ↦ absurd (false≢true (sym (ap (λ b. cond b false (form_names (option_and_then form_of (json_value line)))) blank) ∙ names))
  | inr full ↦ (let form : Option Form = option_and_then form_of (json_value line) in
      record {
        form = form;
        names = sym (ap (λ b. cond b false (form_names form)) full) ∙ names;
        named = ap (λ b. cond b [] (names_in form)) full;
        said = λ graph given. ap (λ b. cond b given (with_said graph given form)) full;
      })
]

both_ways : (plan : Plan) (given : State) (a b : List ℕ) → AreApart a b → with_line (inputs_of plan) (with_line (inputs_of plan) given a) b ≡ with_line (inputs_of plan) (with_line (inputs_of plan) given b) a
both_ways plan given a b apart =
    let graph = inputs_of plan in
    let first = said a apart.one in
    let second = said b apart.other in
    let xs = steps_of first.form in
    let ys = steps_of second.form in
    let names : List (List ℕ) = map (λ s. s.name) (input_streams plan) in
    let others = apart_steps first.form second.form
    (subst (λ ns. All (λ n. All (λ m. n ≢ m) ns) (names_in first.form)) second.named (subst (λ ns. All (λ n. All (λ m. n ≢ m) (named_streams b)) ns) first.named apart.apart)) in
    let acts_a : (s : State) → with_line graph s a ≡ moved graph xs s = λ s. first.said graph s ∙ form_acts graph s first.form first.names in
    let acts_b : (s : State) → with_line graph s b ≡ moved graph ys s = λ s. second.said graph s ∙ form_acts graph s second.form second.names in
    acts_b (with_line graph given a) ∙ (ap (moved graph ys) (acts_a given)
    ∙ (ap (λ ss. (let s : State = record { streams = ss; sides = given.sides; named = true } in s)) (sym (all_past names xs ys given.streams others))
    ∙ (sym (ap (moved graph xs) (acts_b given)) ∙ sym (acts_a (with_line graph given b)))))

pub places_changed : (plan : Plan) (front back : List (List ℕ)) (a b : List ℕ) → AreApart a b
    → given_by (inputs_of plan) (front ++ a ∷ b ∷ back) ≡ given_by (inputs_of plan) (front ++ b ∷ a ∷ back)
places_changed plan front back a b apart =
    let graph = inputs_of plan in
    given_by-append graph front (a ∷ b ∷ back)
    ∙ (ap (λ s. fold (λ given l. with_line graph given l) s back) (both_ways plan (given_by graph front) a b apart)
    ∙ sym (given_by-append graph front (b ∷ a ∷ back)))
