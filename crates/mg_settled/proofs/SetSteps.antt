-- Settled sets one after the other, each the first of what is left.
use Rattle.std.proofs.Common.{◌≡◌, ℕ, zero, suc, ◌+◌, ◌<◌, ◌^◌, Bool, false, ◌||◌, inl, inr, List, [], ◌∷◌, ◌++◌, map, take, drop, set, length, get_or, All, Option, Some, None, option_map, unwrap_or, slice_get, cond, ap, ap₂, sym, refl, ◌∙◌, subst, length-append, append_assoc, append-nil, arith, add-one, eqb, eq-eqb}
use Rattle.std.specs.Option.{option_and_then}
use Rattle.std.proofs.lemmas.Bool.{cases_lt}
use Rattle.std.proofs.lemmas.List.{length-map, same_lists, get_or_default, get_or-set_same, get_or-set_other}
use Rattle.std.proofs.lemmas.List.Elements.{All-head, All-map}
use Rattle.mg_value.specs.Payload.{Plain}
use Rattle.mg_value.specs.declared.policy.Policy.{Policy}
use Rattle.mg_value.specs.declared.policy.Policy.TheVariants.{Default, Mux}
use Rattle.mg_value.specs.Packet.{Stamped}
use Rattle.mg_settled.specs.Prefix.{StreamPrefix, IsPrefix}
use Rattle.mg_settled.specs.Settled.{TimedSet, settled_sets, packet_at, port_of, select_of, is_settled, selected, inputs_of, shows}
use Rattle.mg_settled.specs.FirstSet.{first_set_time, chosen_port, is_shown, behind}
use Rattle.mg_settled.proofs.AfterSets.{sets-after}
use Rattle.mg_settled.proofs.Behind.{all_behind}
use Rattle.mg_settled.specs.Left.{AreLeft}
use Rattle.mg_settled.proofs.LeftSets.{left-more}
use Rattle.mg_settled.proofs.Ports.{port-prefix}
use Rattle.mg_settled.proofs.PolicySets.{sets-places}
use Rattle.mg_settled.proofs.FirstSets.{first-time, mux_first, after-first}
use Rattle.mg_settled.proofs.ShownSets.{Shows, sets-show}

-- the first set, and those of what is left
first_and_rest : {Y : Type 0} (xs : List Y) (y : Y) → slice_get xs 0 ≡ Some y → xs ≡ y ∷ drop 1 xs
first_and_rest [] y is = absurd cc
first_and_rest {Y} (x ∷ xs) y is = (let same : x ≡ y = cc in ap (λ (z : Y). z ∷ xs) same)

pub sets-step : (policy : Policy) (ss rs : List (StreamPrefix Plain)) (t : ℕ) (e : TimedSet Plain) → All IsPrefix ss → first_set_time policy ss ≡ Some t → slice_get (settled_sets policy ss) 0 ≡ Some e → rs ≡ map (behind t) ss → settled_sets policy ss ≡ e ∷ settled_sets policy rs
sets-step policy ss rs t e h first is left =
    first_and_rest (settled_sets policy ss) e is
    ∙ ap (λ (es : List (TimedSet Plain)). e ∷ es)
    (sym (sets-after policy 1 ss h) ∙ ap (λ (us : List (StreamPrefix Plain)). settled_sets policy us) (after-first policy ss t h first ∙ sym left))

none_first : {Y : Type 0} (at : Y → ℕ) (xs : List Y) → option_map at (slice_get xs 0) ≡ None → xs ≡ []
none_first at [] is = refl
none_first at (x ∷ xs) is = absurd cc

pub sets-over : (policy : Policy) (ss : List (StreamPrefix Plain)) → All IsPrefix ss → first_set_time policy ss ≡ None → settled_sets policy ss ≡ []
sets-over policy ss h none = none_first (λ e. e.at) (settled_sets policy ss) (first-time policy ss h ∙ none)

some_first : {Y : Type 0} (xs : List Y) (y : Y) → slice_get xs 0 ≡ Some y → 0 < length xs
some_first [] y is = absurd cc
some_first (x ∷ xs) y is = omega arith

-- the set that shows at each port what the first set shows
first_shown : (policy : Policy) (ss : List (StreamPrefix Plain)) (t : ℕ) (ps : List (Option (Stamped Plain))) (es : List (TimedSet Plain)) → option_map (λ e. e.at) (slice_get es 0) ≡ Some t → All (Shows policy ss) es → All (λ e. length e.set ≡ length ss) es
    → length ps ≡ length ss → ((k : ℕ) → k < length ss → get_or ps k None ≡ cond (shows policy ss t k) (packet_at t (port_of ss k).packets) None) → slice_get es 0 ≡ Some (record { at = t; set = ps })
first_shown policy ss t ps [] is shown places many at = absurd cc
first_shown policy ss t ps (e ∷ es) is shown places many at =
    let same : e.at ≡ t = cc in
    let long = All-head (λ (f : TimedSet Plain). length f.set ≡ length ss) e es places in
    let first : (k : ℕ) → k < length ss → get_or e.set k None ≡ cond (shows policy ss t k) (packet_at t (port_of ss k).packets) None = rw same at (All-head (Shows policy ss) e es shown) in
    ap₂ (λ (u : ℕ) (qs : List (Option (Stamped Plain))). Some (let it : TimedSet Plain = record { at = u; set = qs } in it)) same
    (same_lists e.set ps (long ∙ sym many)
    (λ k d lt. (let there : k < length ss = omega (arith, lt, long) in
    get_or_default e.set k d None lt ∙ first k there ∙ sym (at k there) ∙ get_or_default ps k None d (omega (arith, there, many)))))

pub shown-set : (policy : Policy) (ss : List (StreamPrefix Plain)) (t : ℕ) (ps : List (Option (Stamped Plain))) → All IsPrefix ss → first_set_time policy ss ≡ Some t
    → length ps ≡ length ss → ((k : ℕ) → k < length ss → get_or ps k None ≡ cond (shows policy ss t k) (packet_at t (port_of ss k).packets) None) → slice_get (settled_sets policy ss) 0 ≡ Some (record { at = t; set = ps })
shown-set policy ss t ps h is many at = first_shown policy ss t ps (settled_sets policy ss) (first-time policy ss h ∙ is) (sets-show policy ss h) (sets-places policy ss) many at

-- what is shown, by the first packet of SELECT
chosen-selects : (f : Stamped Plain → Bool) (n : ℕ) (ps : List (Stamped Plain)) (t i : ℕ) → option_and_then (λ p. cond (f p) (Some p.at) None) (slice_get ps 0) ≡ Some t
    → unwrap_or (option_map (λ j. eqb j i) (option_and_then (λ p. selected n p.value) (slice_get ps 0))) false ≡ unwrap_or (option_map (λ p. unwrap_or (option_map (λ j. eqb j i) (selected n p.value)) false) (packet_at t ps)) false
chosen-selects f n [] t i is = absurd cc
chosen-selects f n (p ∷ ps) t i is = rw (eq-eqb p.at t (mux_first f (p ∷ ps) t 0 is)) refl

pub shown-is : (policy : Policy) (ss : List (StreamPrefix Plain)) (t i : ℕ) → first_set_time policy ss ≡ Some t → is_shown policy (length ss) (chosen_port policy ss) i ≡ shows policy ss t i
shown-is Default ss t i is = refl
shown-is Mux ss t i is = ap (λ (b : Bool). eqb (i + 1) (length ss) || b) (chosen-selects (is_settled ss) (length ss) (select_of ss).packets t i is)

-- what a set shows at the ports so far stays right with one port more; and so does a list that is mapped in place
pub place-more : {Y : Type 0} (ps : List (Option Y)) (want : ℕ → Option Y) (i : ℕ) (o : Option Y) → i < length ps → o ≡ want i → ((k : ℕ) → k < i → get_or ps k None ≡ want k) → (k : ℕ) → k < i + 1 → get_or (set ps i o) k None ≡ want k
place-more {Y} ps want i o there is before k lt = elim (cases_lt k i) [
  | inl early ↦ get_or-set_other ps i k o None (λ e. omega (arith, e, early)) ∙ before k early
  | inr late ↦
      (let here : k ≡ i = omega (arith, lt, late) in
      rw here (get_or-set_same ps i o None there ∙ is))
]

mapped_more : {X Y : Type 0} (f : X → Y) (xs : List X) (zs : List Y) (i : ℕ) (d : X) → i < length xs → i < length zs → set (map f (take i xs) ++ drop i zs) i (f (get_or xs i d)) ≡ map f (take (suc i) xs) ++ drop (suc i) zs
mapped_more f [] zs i d in_xs in_zs = absurd (omega (arith, in_xs))
mapped_more f (x ∷ xs) [] i d in_xs in_zs = absurd (omega (arith, in_zs))
mapped_more f (x ∷ xs) (z ∷ zs) zero d in_xs in_zs = refl
mapped_more {X} {Y} f (x ∷ xs) (z ∷ zs) (suc i) d in_xs in_zs = ap (λ (rest : List Y). f x ∷ rest) (mapped_more f xs zs i d (omega (arith, in_xs)) (omega (arith, in_zs)))

pub mapped-more : {X : Type 0} (f : X → X) (xs now : List X) (i : ℕ) (x : X) → i < length xs → x ≡ get_or xs i x → now ≡ map f (take i xs) ++ drop i xs → set now i (f x) ≡ map f (take (i + 1) xs) ++ drop (i + 1) xs
mapped-more {X} f xs now i x below is e =
    ap (λ (l : List X). set l i (f x)) e
    ∙ ap (λ (v : X). set (map f (take i xs) ++ drop i xs) i (f v)) is
    ∙ mapped_more f xs xs i x below below
    ∙ ap (λ (n : ℕ). map f (take n xs) ++ drop n xs) (sym (add-one i))

pub mapped-later : {X : Type 0} (f : X → X) (xs : List X) (i : ℕ) (d : X) → i < length xs → get_or (map f (take i xs) ++ drop i xs) i d ≡ get_or xs i d
mapped-later f [] i d below = absurd (omega (arith, below))
mapped-later f (x ∷ xs) zero d below = refl
mapped-later f (x ∷ xs) (suc i) d below = mapped-later f xs i d (omega (arith, below))

-- the settled sets so far are listed, and the others are the settled sets of what is left
pub record AreListed (policy : Policy) (ss : List (StreamPrefix Plain)) (es : List (TimedSet Plain)) (rs : List (StreamPrefix Plain)) : Type 0 where
  pub few : length rs < 2 ^ 32
  pub streams : All IsPrefix rs
  pub sets : settled_sets policy ss ≡ es ++ settled_sets policy rs
  pub whole : All IsPrefix ss
  pub left : AreLeft policy (length es) ss rs

-- the first set that is left, with its time, and what is left after it
pub record IsNext (policy : Policy) (rs us : List (StreamPrefix Plain)) (e : TimedSet Plain) : Type 0 where
  pub time : first_set_time policy rs ≡ Some e.at
  pub set : slice_get (settled_sets policy rs) 0 ≡ Some e
  pub left : us ≡ map (behind e.at) rs

pub listed-more : (policy : Policy) (ss rs us : List (StreamPrefix Plain)) (es : List (TimedSet Plain)) (e : TimedSet Plain) → AreListed policy ss es rs → IsNext policy rs us e → AreListed policy ss (es ++ e ∷ []) us
listed-more policy ss rs us es e h next = record {
  few = (let few = h.few in omega (arith, few, ap length next.left, length-map rs (behind e.at)));
  streams = rw next.left (all_behind e.at rs h.streams);
  sets =
      h.sets
      ∙ ap (λ (fs : List (TimedSet Plain)). es ++ fs) (sets-step policy rs us e.at e h.streams next.time next.set next.left)
      ∙ sym (append_assoc es (e ∷ []) (settled_sets policy us));
  whole = h.whole;
  left = subst (λ (k : ℕ). AreLeft policy k ss us) (sym (length-append es (e ∷ [])))
      (left-more policy (length es) ss rs us e.at h.whole h.streams h.left next.time (some_first (settled_sets policy rs) e next.set) next.left);
}

pub fewer-left : (policy : Policy) (ss rs us : List (StreamPrefix Plain)) (es : List (TimedSet Plain)) (e : TimedSet Plain) → AreListed policy ss es rs → IsNext policy rs us e → length (settled_sets policy us) < length (settled_sets policy rs)
fewer-left policy ss rs us es e h next = omega (arith, ap length (sets-step policy rs us e.at e h.streams next.time next.set next.left))

pub all-listed : (policy : Policy) (ss rs : List (StreamPrefix Plain)) (es : List (TimedSet Plain)) → AreListed policy ss es rs → first_set_time policy rs ≡ None → es ≡ settled_sets policy ss
all-listed policy ss rs es h none = sym (h.sets ∙ ap (λ (fs : List (TimedSet Plain)). es ++ fs) (sets-over policy rs h.streams none) ∙ append-nil es)

pub left-listed : (policy : Policy) (ss rs : List (StreamPrefix Plain)) (es : List (TimedSet Plain)) → AreListed policy ss es rs → first_set_time policy rs ≡ None → AreLeft policy (length (settled_sets policy ss)) ss rs
left-listed policy ss rs es h none = subst (λ (fs : List (TimedSet Plain)). AreLeft policy (length fs) ss rs) (all-listed policy ss rs es h none) h.left

-- the prefixes at some ports
pub all_inputs : {X : Type 0} (ss : List (StreamPrefix X)) (ports : List ℕ) → All IsPrefix ss → All IsPrefix (inputs_of ss ports)
all_inputs ss ports h = All-map IsPrefix (port_of ss) ports (λ k d lt. port-prefix ss h (get_or ports k d))
