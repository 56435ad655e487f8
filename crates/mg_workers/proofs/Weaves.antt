-- Parts in the order of their words, and the engines and the intakes in them.
use Rattle.std.proofs.Common.{◌≡◌, ℕ, zero, suc, ◌+◌, ◌-◌, ◌*◌, ◌/◌, ◌%◌, ◌<◌, ◌≤◌, true, false, nat_eq, List, [], ◌∷◌, ◌++◌, map, reverse, length, length-append, append_assoc, append-nil, slice_index_or, Some, inl, inr, refl, ap, sym, subst, ◌∙◌, arith}
use Rattle.std.proofs.lemmas.Bool.{cases_lt, eqb-true, eqb-false}
use Rattle.std.proofs.lemmas.List.{reverse-append, length-reverse, get_or_append_left}
use Rattle.std.proofs.lemmas.List.Elements.{filter_map-append}
use Rattle.std.proofs.Math.Seq.{get_or-append_seam}
use Rattle.mg_node.specs.Views.{IntakeView, EngineView}
use Rattle.mg_node.specs.Lawful.{Owner, of_node, of_input}
use Rattle.mg_node.proofs.Making.{some_same}
use Rattle.mg_turns.specs.Words.{Whose, intake_of, engine_of, whose}
use Rattle.mg_turns.specs.Parts.{PartView, blank_part, an_engine, an_intake, IsKind}
use Rattle.mg_turns.proofs.Words.{intake_at, engine_at, input_at}
use Rattle.mg_workers.specs.Woven.{woven}
use Rattle.mg_workers.specs.Code.Weaving.{engines_in, intakes_in, AreKinds, IsWovenFrom}

-- Words.

pub word_of_intake : (nodes word : ℕ) → word ≤ 2 * nodes → nat_eq (word % 2) 0 ≡ true → (n : ℕ) × (whose nodes word ≡ intake_of n)
word_of_intake nodes word few even =
    let e = eqb-true (word % 2) 0 even in
    (word / 2, subst (λ (k : ℕ). whose nodes k ≡ intake_of (word / 2)) (omega (arith, e)) (intake_at nodes (word / 2) (omega (arith, few, e))))

pub word_of_engine : (nodes word : ℕ) → word ≤ 2 * nodes → nat_eq (word % 2) 0 ≡ false → (o : Owner) × (whose nodes word ≡ engine_of o)
word_of_engine nodes word few odd =
    let e = eqb-false (word % 2) 0 odd in
    (of_node (word / 2), subst (λ (k : ℕ). whose nodes k ≡ engine_of (of_node (word / 2))) (omega (arith, e)) (engine_at nodes (word / 2) (omega (arith, few, e))))

pub word_of_input : (nodes word : ℕ) → 2 * nodes < word → (o : Owner) × (whose nodes word ≡ engine_of o)
word_of_input nodes word past = (of_input (word - (2 * nodes + 1)), subst (λ (k : ℕ). whose nodes k ≡ engine_of (of_input (word - (2 * nodes + 1)))) (omega (arith, past)) (input_at nodes (word - (2 * nodes + 1))))

-- Kinds.

pub kinds_more : (n : ℕ) (parts : List PartView) (p : PartView) → AreKinds n parts → IsKind (whose n (length parts)) p → AreKinds n (parts ++ p ∷ [])
kinds_more n parts p kinds kind = λ word within. elim (cases_lt word (length parts)) [
  | inl less ↦ subst (IsKind (whose n word)) (sym (get_or_append_left parts (p ∷ []) blank_part word less)) (kinds word less)
  | inr more ↦
      (let long = length-append parts (p ∷ []) in
      let last : length parts ≡ word = omega (arith, within, more, long) in
      subst (λ (k : ℕ). IsKind (whose n k) (slice_index_or (parts ++ p ∷ []) k blank_part)) last (subst (IsKind (whose n (length parts))) (sym (get_or-append_seam parts p [] blank_part)) kind))
]

pub kinds_fewer : (n : ℕ) (parts : List PartView) (p : PartView) → AreKinds n (parts ++ p ∷ []) → AreKinds n parts
kinds_fewer n parts p kinds = λ word within.
    let long = length-append parts (p ∷ []) in
    subst (IsKind (whose n word)) (get_or_append_left parts (p ∷ []) blank_part word within) (kinds word (omega (arith, within, long)))

pub kind_last : (n : ℕ) (parts : List PartView) (p : PartView) → AreKinds n (parts ++ p ∷ []) → IsKind (whose n (length parts)) p
kind_last n parts p kinds =
    let long = length-append parts (p ∷ []) in
    subst (IsKind (whose n (length parts))) (get_or-append_seam parts p [] blank_part) (kinds (length parts) (omega (arith, long)))

-- Steps of the weaving: the last engine or intake of a list becomes a part, or the last part goes back into its list.

pub with_intake : (parts : List PartView) (xs : List IntakeView) (i : IntakeView) → intakes_in (parts ++ an_intake i ∷ []) ++ reverse xs ≡ intakes_in parts ++ reverse (xs ++ i ∷ [])
with_intake parts xs i =
    ap (λ (ys : List IntakeView). ys ++ reverse xs) (filter_map-append (λ (p : PartView). p.intake) parts (an_intake i ∷ []))
    ∙ append_assoc (intakes_in parts) (i ∷ []) (reverse xs)
    ∙ ap (λ (ys : List IntakeView). intakes_in parts ++ ys) (sym (reverse-append xs (i ∷ [])))

pub with_engine : (parts : List PartView) (xs : List EngineView) (e : EngineView) → engines_in (parts ++ an_engine e ∷ []) ++ reverse xs ≡ engines_in parts ++ reverse (xs ++ e ∷ [])
with_engine parts xs e =
    ap (λ (ys : List EngineView). ys ++ reverse xs) (filter_map-append (λ (p : PartView). p.engine) parts (an_engine e ∷ []))
    ∙ append_assoc (engines_in parts) (e ∷ []) (reverse xs)
    ∙ ap (λ (ys : List EngineView). engines_in parts ++ ys) (sym (reverse-append xs (e ∷ [])))

pub no_engine : (parts : List PartView) (i : IntakeView) → engines_in (parts ++ an_intake i ∷ []) ≡ engines_in parts
no_engine parts i = filter_map-append (λ (p : PartView). p.engine) parts (an_intake i ∷ []) ∙ append-nil (engines_in parts)

pub no_intake : (parts : List PartView) (e : EngineView) → intakes_in (parts ++ an_engine e ∷ []) ≡ intakes_in parts
no_intake parts e = filter_map-append (λ (p : PartView). p.intake) parts (an_engine e ∷ []) ∙ append-nil (intakes_in parts)

intake_more : (n : ℕ) (es : List EngineView) (is : List IntakeView) (parts : List PartView) (engines : List EngineView) (intakes : List IntakeView) (i : IntakeView) (m : ℕ) → whose n (length parts) ≡ intake_of m
    → IsWovenFrom n es is parts engines (intakes ++ i ∷ []) → IsWovenFrom n es is (parts ++ an_intake i ∷ []) engines intakes
intake_more n es is parts engines intakes i m of h = record {
  engines_are = ap (λ (xs : List EngineView). xs ++ reverse engines) (no_engine parts i) ∙ h.engines_are;
  intakes_are = with_intake parts intakes i ∙ h.intakes_are;
  kinds = kinds_more n parts (an_intake i) h.kinds (subst (λ (w : Whose). IsKind w (an_intake i)) (sym of) (i, refl));
}

engine_more : (n : ℕ) (es : List EngineView) (is : List IntakeView) (parts : List PartView) (engines : List EngineView) (intakes : List IntakeView) (e : EngineView) (o : Owner) → whose n (length parts) ≡ engine_of o
    → IsWovenFrom n es is parts (engines ++ e ∷ []) intakes → IsWovenFrom n es is (parts ++ an_engine e ∷ []) engines intakes
engine_more n es is parts engines intakes e o of h = record {
  engines_are = with_engine parts engines e ∙ h.engines_are;
  intakes_are = ap (λ (xs : List IntakeView). xs ++ reverse intakes) (no_intake parts e) ∙ h.intakes_are;
  kinds = kinds_more n parts (an_engine e) h.kinds (subst (λ (w : Whose). IsKind w (an_engine e)) (sym of) (e, refl));
}

intake_fewer : (n : ℕ) (es : List EngineView) (is : List IntakeView) (parts : List PartView) (engines : List EngineView) (intakes : List IntakeView) (i : IntakeView)
    → IsWovenFrom n es is (parts ++ an_intake i ∷ []) engines intakes → IsWovenFrom n es is parts engines (intakes ++ i ∷ [])
intake_fewer n es is parts engines intakes i h = record {
  engines_are = ap (λ (xs : List EngineView). xs ++ reverse engines) (sym (no_engine parts i)) ∙ h.engines_are;
  intakes_are = sym (with_intake parts intakes i) ∙ h.intakes_are;
  kinds = kinds_fewer n parts (an_intake i) h.kinds;
}

engine_fewer : (n : ℕ) (es : List EngineView) (is : List IntakeView) (parts : List PartView) (engines : List EngineView) (intakes : List IntakeView) (e : EngineView)
    → IsWovenFrom n es is (parts ++ an_engine e ∷ []) engines intakes → IsWovenFrom n es is parts (engines ++ e ∷ []) intakes
engine_fewer n es is parts engines intakes e h = record {
  engines_are = sym (with_engine parts engines e) ∙ h.engines_are;
  intakes_are = ap (λ (xs : List IntakeView). xs ++ reverse intakes) (sym (no_intake parts e)) ∙ h.intakes_are;
  kinds = kinds_fewer n parts (an_engine e) h.kinds;
}

-- the same steps, told by the values that the code has before and after
pub put_intake_is : (n : ℕ) (es : List EngineView) (is : List IntakeView) (parts now : List PartView) (engines : List EngineView) (old new : List IntakeView) (m : ℕ) → whose n (length parts) ≡ intake_of m
    → (i : IntakeView) × (old ≡ new ++ i ∷ []) × (now ≡ parts ++ an_intake i ∷ []) → IsWovenFrom n es is parts engines old → IsWovenFrom n es is now engines new
put_intake_is n es is parts now engines old new m of put h =
    subst (λ (ps : List PartView). IsWovenFrom n es is ps engines new) (sym put.2) (intake_more n es is parts engines new put.0 m of (subst (IsWovenFrom n es is parts engines) put.1 h))

pub put_engine_is : (n : ℕ) (es : List EngineView) (is : List IntakeView) (parts now : List PartView) (old new : List EngineView) (intakes : List IntakeView) (o : Owner) → whose n (length parts) ≡ engine_of o
    → (e : EngineView) × (old ≡ new ++ e ∷ []) × (now ≡ parts ++ an_engine e ∷ []) → IsWovenFrom n es is parts old intakes → IsWovenFrom n es is now new intakes
put_engine_is n es is parts now old new intakes o of put h =
    subst (λ (ps : List PartView). IsWovenFrom n es is ps new intakes) (sym put.2) (engine_more n es is parts new intakes put.0 o of (subst (λ (es' : List EngineView). IsWovenFrom n es is parts es' intakes) put.1 h))

-- All.

record InPlace (n : ℕ) (parts : List PartView) : Type 0 where
  pub intakes : (m : ℕ) → m ≤ n → (i : IntakeView) × (slice_index_or parts (2 * m) blank_part ≡ an_intake i)
  pub engines : (m : ℕ) → m < n → (e : EngineView) × (slice_index_or parts (2 * m + 1) blank_part ≡ an_engine e)
  pub inputs : (j : ℕ) → 2 * n + 1 + j < length parts → (e : EngineView) × (slice_index_or parts (2 * n + 1 + j) blank_part ≡ an_engine e)

in_place : (n : ℕ) (parts : List PartView) → AreKinds n parts → 2 * n < length parts → InPlace n parts
in_place n parts kinds long = record {
  intakes = λ m few. subst (λ (w : Whose). IsKind w (slice_index_or parts (2 * m) blank_part)) (intake_at n m few) (kinds (2 * m) (omega (arith, few, long)));
  engines = λ m few. subst (λ (w : Whose). IsKind w (slice_index_or parts (2 * m + 1) blank_part)) (engine_at n m few) (kinds (2 * m + 1) (omega (arith, few, long)));
  inputs = λ j within. subst (λ (w : Whose). IsKind w (slice_index_or parts (2 * n + 1 + j) blank_part)) (input_at n j) (kinds (2 * n + 1 + j) within);
}

all_engines : (ps : List PartView) → ((j : ℕ) → j < length ps → (e : EngineView) × (slice_index_or ps j blank_part ≡ an_engine e)) → (ps ≡ map an_engine (engines_in ps)) × (intakes_in ps ≡ []) × (length (engines_in ps) ≡ length ps)
all_engines [] each = (refl, refl, refl)
all_engines (p ∷ ps) each =
    let first = each 0 (omega arith) in
    let later = all_engines ps (λ j less. each (suc j) (omega (arith, less))) in
    subst (λ (q : PartView). (q ∷ ps ≡ map an_engine (engines_in (q ∷ ps))) × (intakes_in (q ∷ ps) ≡ []) × (length (engines_in (q ∷ ps)) ≡ length (q ∷ ps))) (sym first.1)
    (ap (λ (xs : List PartView). an_engine first.0 ∷ xs) later.0, later.1, omega (arith, later.2))

-- the parts are those of their engines and their intakes, woven, and there are so many of them
pub record IsWoven (n : ℕ) (parts : List PartView) : Type 0 where
  pub woven_is : parts ≡ woven n (engines_in parts) (intakes_in parts)
  pub intakes : length (intakes_in parts) ≡ n + 1
  pub engines : length (engines_in parts) + (n + 1) ≡ length parts

woven_of : (n : ℕ) (parts : List PartView) → InPlace n parts → 2 * n < length parts → IsWoven n parts
woven_of zero [] h long = absurd (omega (arith, long))
woven_of zero (p ∷ ps) h long =
    let first = h.intakes 0 (omega arith) in
    let later = all_engines ps (λ j less. (let it = h.inputs j (omega (arith, less)) in let step : 2 * 0 + 1 + j ≡ suc j = omega arith in (it.0, subst (λ (k : ℕ). slice_index_or (p ∷ ps) k blank_part ≡ an_engine it.0) step it.1))) in
    subst (IsWoven zero) (ap (λ (q : PartView). q ∷ ps) (sym first.1)) (record {
      woven_is = ap (λ (xs : List PartView). an_intake first.0 ∷ xs) later.0 ∙ ap (λ (is : List IntakeView). map an_intake (first.0 ∷ is) ++ map an_engine (engines_in ps)) (sym later.1);
      intakes = (let none : length (intakes_in ps) ≡ 0 = ap (λ (is : List IntakeView). length is) later.1 in omega (arith, none));
      engines = (let l : length (engines_in ps) ≡ length ps = later.2 in omega (arith, l));
    })
woven_of (suc n) [] h long = absurd (omega (arith, long))
woven_of (suc n) (p ∷ []) h long = absurd (omega (arith, long))
woven_of (suc n) (p ∷ q ∷ ps) h long =
    let i = h.intakes 0 (omega arith) in
    let e = h.engines 0 (omega arith) in
    let later = woven_of n ps (record {
      intakes = λ m few. (let it = h.intakes (suc m) (omega (arith, few)) in let step : 2 * suc m ≡ suc (suc (2 * m)) = omega arith in (it.0, subst (λ (k : ℕ). slice_index_or (p ∷ q ∷ ps) k blank_part ≡ an_intake it.0) step it.1));
      engines = λ m few. (let it = h.engines (suc m) (omega (arith, few)) in let step : 2 * suc m + 1 ≡ suc (suc (2 * m + 1)) = omega arith in (it.0, subst (λ (k : ℕ). slice_index_or (p ∷ q ∷ ps) k blank_part ≡ an_engine it.0) step it.1));
      inputs = λ j less. (let it = h.inputs j (omega (arith, less)) in let step : 2 * suc n + 1 + j ≡ suc (suc (2 * n + 1 + j)) = omega arith in (it.0, subst (λ (k : ℕ). slice_index_or (p ∷ q ∷ ps) k blank_part ≡ an_engine it.0) step it.1));
    }) (omega (arith, long)) in
    subst (IsWoven (suc n)) (ap (λ (x : PartView). x ∷ an_engine e.0 ∷ ps) (sym i.1) ∙ ap (λ (x : PartView). p ∷ x ∷ ps) (sym e.1)) (record {
      woven_is = ap (λ (xs : List PartView). an_intake i.0 ∷ an_engine e.0 ∷ xs) later.woven_is;
      intakes = (let l : length (intakes_in ps) ≡ n + 1 = later.intakes in omega (arith, l));
      engines = (let l : length (engines_in ps) + (n + 1) ≡ length ps = later.engines in omega (arith, l));
    })

pub is_woven : (n : ℕ) (parts : List PartView) → AreKinds n parts → 2 * n < length parts → IsWoven n parts
is_woven n parts kinds long = woven_of n parts (in_place n parts kinds long) long

-- The last part goes back into its list.

pub engine_back : (n : ℕ) (es : List EngineView) (is : List IntakeView) (parts ps : List PartView) (engines : List EngineView) (intakes : List IntakeView) (p : PartView) (o : Owner) → parts ≡ ps ++ p ∷ [] → whose n (length ps) ≡ engine_of o
    → IsWovenFrom n es is parts engines intakes → (e : EngineView) × (p ≡ an_engine e) × IsWovenFrom n es is ps (engines ++ e ∷ []) intakes
engine_back n es is parts ps engines intakes p o last of h =
    let h' = subst (λ (xs : List PartView). IsWovenFrom n es is xs engines intakes) last h in
    let kind : IsKind (engine_of o) p = subst (λ (w : Whose). IsKind w p) of (kind_last n ps p h'.kinds) in
    (kind.0, kind.1, engine_fewer n es is ps engines intakes kind.0 (subst (λ (q : PartView). IsWovenFrom n es is (ps ++ q ∷ []) engines intakes) kind.1 h'))

pub intake_back : (n : ℕ) (es : List EngineView) (is : List IntakeView) (parts ps : List PartView) (engines : List EngineView) (intakes : List IntakeView) (p : PartView) (m : ℕ) → parts ≡ ps ++ p ∷ [] → whose n (length ps) ≡ intake_of m
    → IsWovenFrom n es is parts engines intakes → (i : IntakeView) × (p ≡ an_intake i) × IsWovenFrom n es is ps engines (intakes ++ i ∷ [])
intake_back n es is parts ps engines intakes p m last of h =
    let h' = subst (λ (xs : List PartView). IsWovenFrom n es is xs engines intakes) last h in
    let kind : IsKind (intake_of m) p = subst (λ (w : Whose). IsKind w p) of (kind_last n ps p h'.kinds) in
    (kind.0, kind.1, intake_fewer n es is ps engines intakes kind.0 (subst (λ (q : PartView). IsWovenFrom n es is (ps ++ q ∷ []) engines intakes) kind.1 h'))

-- the steps back, told by the values that the code has before and after
pub engine_back_is : (n : ℕ) (es : List EngineView) (is : List IntakeView) (parts ps : List PartView) (engines now : List EngineView) (intakes : List IntakeView) (p : PartView) (value : EngineView) (o : Owner) → parts ≡ ps ++ p ∷ [] → whose n (length ps) ≡ engine_of o
    → p.engine ≡ Some value → now ≡ engines ++ value ∷ [] → IsWovenFrom n es is parts engines intakes → IsWovenFrom n es is ps now intakes
engine_back_is n es is parts ps engines now intakes p value o last of taken put h =
    let b = engine_back n es is parts ps engines intakes p o last of h in
    let same : b.0 ≡ value = some_same p.engine b.0 value (ap (λ (q : PartView). q.engine) b.1) taken in
    subst (λ (xs : List EngineView). IsWovenFrom n es is ps xs intakes) (ap (λ (e : EngineView). engines ++ e ∷ []) same ∙ sym put) b.2

pub intake_back_is : (n : ℕ) (es : List EngineView) (is : List IntakeView) (parts ps : List PartView) (engines : List EngineView) (intakes now : List IntakeView) (p : PartView) (value : IntakeView) (m : ℕ) → parts ≡ ps ++ p ∷ [] → whose n (length ps) ≡ intake_of m
    → p.intake ≡ Some value → now ≡ intakes ++ value ∷ [] → IsWovenFrom n es is parts engines intakes → IsWovenFrom n es is ps engines now
intake_back_is n es is parts ps engines intakes now p value m last of taken put h =
    let b = intake_back n es is parts ps engines intakes p m last of h in
    let same : b.0 ≡ value = some_same p.intake b.0 value (ap (λ (q : PartView). q.intake) b.1) taken in
    subst (λ (xs : List IntakeView). IsWovenFrom n es is ps engines xs) (ap (λ (i : IntakeView). intakes ++ i ∷ []) same ∙ sym put) b.2

-- a list holds no more engines, or intakes, than the net has
pub few_engines : (n : ℕ) (es : List EngineView) (is : List IntakeView) (parts : List PartView) (engines : List EngineView) (intakes : List IntakeView) → IsWovenFrom n es is parts engines intakes → length engines ≤ length es
few_engines n es is parts engines intakes h =
    let all = ap (λ (xs : List EngineView). length xs) h.engines_are in
    omega (arith, all, length-append (engines_in parts) (reverse engines), length-reverse engines)

pub few_intakes : (n : ℕ) (es : List EngineView) (is : List IntakeView) (parts : List PartView) (engines : List EngineView) (intakes : List IntakeView) → IsWovenFrom n es is parts engines intakes → length intakes ≤ length is
few_intakes n es is parts engines intakes h =
    let all = ap (λ (xs : List IntakeView). length xs) h.intakes_are in
    omega (arith, all, length-append (intakes_in parts) (reverse intakes), length-reverse intakes)

-- with nothing left in the lists the parts are all
pub all_woven : (n : ℕ) (es : List EngineView) (is : List IntakeView) (parts : List PartView) (engines : List EngineView) (intakes : List IntakeView) → 2 * n < length parts → engines ≡ [] → intakes ≡ [] → IsWovenFrom n es is parts engines intakes → parts ≡ woven n es is
all_woven n es is parts engines intakes long no_engines no_intakes h =
    let w = is_woven n parts h.kinds long in
    let e : engines_in parts ≡ es = sym (append-nil (engines_in parts)) ∙ ap (λ (xs : List EngineView). engines_in parts ++ reverse xs) (sym no_engines) ∙ h.engines_are in
    let i : intakes_in parts ≡ is = sym (append-nil (intakes_in parts)) ∙ ap (λ (xs : List IntakeView). intakes_in parts ++ reverse xs) (sym no_intakes) ∙ h.intakes_are in
    w.woven_is ∙ ap (λ (xs : List EngineView). woven n xs (intakes_in parts)) e ∙ ap (λ (xs : List IntakeView). woven n es xs) i

-- a list has room for the engine, or the intake, that goes back into it
pub engine_room : (n : ℕ) (es : List EngineView) (is : List IntakeView) (parts ps : List PartView) (engines : List EngineView) (intakes : List IntakeView) (p : PartView) (o : Owner) → parts ≡ ps ++ p ∷ [] → whose n (length ps) ≡ engine_of o
    → IsWovenFrom n es is parts engines intakes → length engines + 1 ≤ length es
engine_room n es is parts ps engines intakes p o last of h =
    let b = engine_back n es is parts ps engines intakes p o last of h in
    omega (arith, few_engines n es is ps (engines ++ b.0 ∷ []) intakes b.2, length-append engines (b.0 ∷ []))

pub intake_room : (n : ℕ) (es : List EngineView) (is : List IntakeView) (parts ps : List PartView) (engines : List EngineView) (intakes : List IntakeView) (p : PartView) (m : ℕ) → parts ≡ ps ++ p ∷ [] → whose n (length ps) ≡ intake_of m
    → IsWovenFrom n es is parts engines intakes → length intakes + 1 ≤ length is
intake_room n es is parts ps engines intakes p m last of h =
    let b = intake_back n es is parts ps engines intakes p m last of h in
    omega (arith, few_intakes n es is ps engines (intakes ++ b.0 ∷ []) b.2, length-append intakes (b.0 ∷ []))

-- what holds of the parts and the lists, told by other values that are equal
pub stays_of : (n : ℕ) (es : List EngineView) (is : List IntakeView) (parts now : List PartView) (engines old : List EngineView) (intakes left : List IntakeView) → now ≡ parts → old ≡ engines → left ≡ intakes
    → IsWovenFrom n es is parts engines intakes → IsWovenFrom n es is now old left
stays_of n es is parts now engines old intakes left p e i h =
    subst (λ (xs : List PartView). IsWovenFrom n es is xs old left) (sym p) (subst (λ (xs : List EngineView). IsWovenFrom n es is parts xs left) (sym e) (subst (λ (xs : List IntakeView). IsWovenFrom n es is parts engines xs) (sym i) h))

turned_twice : {X : Type 0} (xs : List X) → reverse (reverse xs) ≡ xs
turned_twice [] = refl
turned_twice {X = X} (x ∷ xs) = ap (λ (ys : List X). reverse ys) (reverse-append (x ∷ []) xs) ∙ reverse-append (reverse xs) (x ∷ []) ∙ ap (λ (ys : List X). x ∷ ys) (turned_twice xs)

-- what holds of lists that were turned round, told of the lists themselves
pub turned_of : (n : ℕ) (es old_engines : List EngineView) (is old_intakes : List IntakeView) (parts : List PartView) (engines : List EngineView) (intakes : List IntakeView) → old_engines ≡ reverse es → old_intakes ≡ reverse is
    → IsWovenFrom n (reverse old_engines) (reverse old_intakes) parts engines intakes → IsWovenFrom n es is parts engines intakes
turned_of n es old_engines is old_intakes parts engines intakes e i h =
    subst (λ (xs : List EngineView). IsWovenFrom n xs is parts engines intakes) (ap (λ (xs : List EngineView). reverse xs) e ∙ turned_twice es)
    (subst (λ (xs : List IntakeView). IsWovenFrom n (reverse old_engines) xs parts engines intakes) (ap (λ (xs : List IntakeView). reverse xs) i ∙ turned_twice is) h)
