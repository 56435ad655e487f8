-- A node inside a loop over lists hands on the images of its packets.
use Rattle.std.proofs.Common.{◌≡◌, ℕ, ℤ, Bool, true, false, List, [], ◌∷◌, ◌++◌, map, Option, Some, None, option_map, Ok, Err, refl, sym, ap, ap₂, subst, ◌∙◌, if◌then◌else◌}
use Rattle.std.specs.List.{filter_map, cons_option}
use Rattle.std.specs.Option.{option_and_then, option_to_list}
use Rattle.mg_value.specs.Plain.{Plain, int}
use Rattle.mg_value.specs.Packet.{Stamped}
use Rattle.mg_settled.specs.Prefix.{StreamPrefix}
use Rattle.mg_settled.specs.Settled.{packet_at, set_at}
use Rattle.mg_calc.specs.declared.law.Law.{Law}
use Rattle.mg_calc.specs.declared.law.Law.TheVariants.{Pass, Compute, Filter}
use Rattle.mg_calc.specs.declared.emission.Laid.{Laid}
use Rattle.mg_calc.specs.declared.cause.Cause.TheVariants.{WrongKind, Overflow}
use Rattle.mg_calc.specs.declared.plan_node.PlanNode.{PlanNode}
use Rattle.mg_calc.specs.Answer.{Answer, emission_of}
use Rattle.mg_calc.specs.Values.{fits, number_of}
use Rattle.mg_calc.specs.Kinds.{has_wrong_kind}
use Rattle.mg_calc.specs.Row.{Row, each, sets, keeping, answer}
use Rattle.mg_calc.specs.Computations.{row_of}
use Rattle.mg_calc.specs.Law.{is_kept, filtered, emits_number, rule, step}
use Rattle.mg_batch.specs.Loop.{IsInner, IsMap, mapped_by, image, images}
use Rattle.mg_batch.proofs.Runs.{Runs, emitted}
use Rattle.mg_batch.proofs.SetsOf.{found_at}

-- the image of a packet, at its time
abbrev pub image_of : Law → Stamped Plain → Option (Stamped Plain)
image_of law p = option_map (λ v. record { at = p.at; value = v }) (image law p.value)

abbrev pub images_of : List PlanNode → Stamped Plain → Option (Stamped Plain)
images_of nodes p = option_map (λ v. record { at = p.at; value = v }) (images nodes p.value)

-- what an answer with an empty state emits at the first output
abbrev Gives : Option (Stamped Plain) → Answer → Type 0
Gives o (Err cause) = Unit {0}
Gives o (Ok given) = (given.0 ≡ []) × (emitted 0 given.1 ≡ option_to_list o)

wrong : (o : Option (Stamped Plain)) (b : Bool) (answer : Answer) → Gives o answer → Gives o (if b then Err WrongKind else answer)
wrong o true answer h = tt
wrong o false answer h = h

number_given : (t : ℕ) (n : ℤ) (b : Bool) → Gives (Some (record { at = t; value = int n })) (if b then Ok ([], emission_of (Some (record { at = t; value = int n }) ∷ [])) else Err Overflow)
number_given t n true = (refl, refl)
number_given t n false = tt

filter_given : (keeps raises : Bool) (t : ℕ) (p : Stamped Plain) → Gives (option_map (λ v. record { at = p.at; value = v }) (if keeps then Some p.value else None)) (Ok ([], filtered keeps raises t p))
filter_given true true t p = (refl, refl)
filter_given true false t p = (refl, refl)
filter_given false true t p = (refl, refl)
filter_given false false t p = (refl, refl)

-- a map
map_given : (row : Row) (t : ℕ) (o : Option (Stamped Plain)) → IsMap row → ((p : Stamped Plain) → o ≡ Some p → p.at ≡ t)
    → Gives (option_and_then (λ p. option_map (λ v. record { at = p.at; value = v }) (mapped_by row p.value)) o) (answer row [] t (o ∷ []))
map_given (each f) t None inner at = (refl, refl)
map_given (each f) t (Some p) inner at =
    subst (λ (u : ℕ). Gives (Some (record { at = u; value = int (f (number_of p.value)) })) (emits_number [] t (f (number_of p.value)))) (sym (at p refl))
    (number_given t (f (number_of p.value)) (fits (f (number_of p.value))))
map_given (sets f) t o inner at = absurd inner
map_given (keeping f) t o inner at = absurd inner

inner_given : (law : Law) (t : ℕ) (o : Option (Stamped Plain)) → IsInner law → ((p : Stamped Plain) → o ≡ Some p → p.at ≡ t) → Gives (option_and_then (image_of law) o) (step law [] t (o ∷ []))
inner_given Pass t None inner at = (refl, refl)
inner_given Pass t (Some p) inner at = (refl, refl)
inner_given (Compute computation) t o inner at =
    wrong (option_and_then (image_of (Compute computation)) o) (has_wrong_kind (Compute computation) (o ∷ [])) (rule (Compute computation) [] t (o ∷ []))
    (map_given (row_of computation.formula) t o inner at)
inner_given (Filter keep raises) t None inner at = (refl, refl)
inner_given (Filter keep raises) t (Some p) inner at =
    wrong (image_of (Filter keep raises) p) (has_wrong_kind (Filter keep raises) (Some p ∷ [])) (rule (Filter keep raises) [] t (Some p ∷ [])) (filter_given (is_kept keep (number_of p.value)) raises t p)
inner_given law t o inner at = absurd inner

given_is : (o : Option (Stamped Plain)) (answer : Answer) (given : List Plain × List Laid) → Gives o answer → answer ≡ Ok given → (given.0 ≡ []) × (emitted 0 given.1 ≡ option_to_list o)
given_is o answer given h e = subst (Gives o) e h

cons_image : (f : Stamped Plain → Option (Stamped Plain)) (o : Option (Stamped Plain)) (qs : List (Stamped Plain)) → option_to_list (option_and_then f o) ++ filter_map f qs ≡ filter_map f (cons_option o qs)
cons_image f None qs = refl
cons_image f (Some p) qs = by (f p)
  where
    by : (o : Option (Stamped Plain)) → option_to_list o ++ filter_map f qs ≡ cons_option o (filter_map f qs)
    by None = refl
    by (Some q) = refl

-- over all its sets
pub inner_runs : (law : Law) (s : StreamPrefix Plain) (us : List ℕ) (ps : List (Stamped Plain)) → IsInner law → Runs law [] (map (λ t. record { at = t; set = set_at t (s ∷ []) }) us) 0 ps
    → ps ≡ filter_map (image_of law) (filter_map (λ t. packet_at t s.packets) us)
inner_runs law s [] ps inner h = h
inner_runs law s (u ∷ us) ps inner h =
    let o = packet_at u s.packets in
    let is = given_is (option_and_then (image_of law) o) (step law [] u (o ∷ [])) h.0 (inner_given law u o inner (λ p e. found_at u s.packets p e)) h.2 in
    let rest = inner_runs law s us h.1 inner (subst (λ (state : List Plain). Runs law state (map (λ t. record { at = t; set = set_at t (s ∷ []) }) us) 0 h.1) is.0 h.4) in
    h.3 ∙ ap₂ (λ (xs ys : List (Stamped Plain)). xs ++ ys) is.1 rest ∙ cons_image (image_of law) o (filter_map (λ t. packet_at t s.packets) us)

-- one node after the other
chained : (f g : Stamped Plain → Option (Stamped Plain)) (ps : List (Stamped Plain)) → filter_map g (filter_map f ps) ≡ filter_map (λ p. option_and_then g (f p)) ps
chained f g [] = refl
chained f g (p ∷ ps) = by (f p) (chained f g ps)
  where
    by : (o : Option (Stamped Plain)) → filter_map g (filter_map f ps) ≡ filter_map (λ p. option_and_then g (f p)) ps
        → filter_map g (cons_option o (filter_map f ps)) ≡ cons_option (option_and_then g o) (filter_map (λ p. option_and_then g (f p)) ps)
    by None rest = rest
    by (Some q) rest = ap (cons_option (g q)) rest

same_images : (f g : Stamped Plain → Option (Stamped Plain)) → ((p : Stamped Plain) → f p ≡ g p) → (ps : List (Stamped Plain)) → filter_map f ps ≡ filter_map g ps
same_images f g same [] = refl
same_images f g same (p ∷ ps) = ap₂ (λ (o : Option (Stamped Plain)) (qs : List (Stamped Plain)). cons_option o qs) (same p) (same_images f g same ps)

pub images_chain : (node : PlanNode) (nodes : List PlanNode) (ps : List (Stamped Plain)) → filter_map (images_of nodes) (filter_map (image_of node.law) ps) ≡ filter_map (images_of (node ∷ nodes)) ps
images_chain node nodes ps = chained (image_of node.law) (images_of nodes) ps ∙ same_images (λ p. option_and_then (images_of nodes) (image_of node.law p)) (images_of (node ∷ nodes)) one ps
  where
    one : (p : Stamped Plain) → option_and_then (images_of nodes) (image_of node.law p) ≡ images_of (node ∷ nodes) p
    one p = by (image node.law p.value)
      where
        by : (o : Option Plain) → option_and_then (images_of nodes) (option_map (λ v. record { at = p.at; value = v }) o) ≡ option_map (λ v. record { at = p.at; value = v }) (option_and_then (images nodes) o)
        by None = refl
        by (Some v) = refl

pub no_nodes : (ps : List (Stamped Plain)) → filter_map (images_of []) ps ≡ ps
no_nodes [] = refl
no_nodes (p ∷ ps) = ap (λ (qs : List (Stamped Plain)). p ∷ qs) (no_nodes ps)
