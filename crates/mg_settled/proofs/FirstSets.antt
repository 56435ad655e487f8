-- The first settled set, by the first packets and the bounds.
use Rattle.std.proofs.Common.{◌≡◌, ℕ, zero, suc, ◌+◌, ◌-◌, ◌<◌, ◌≤◌, min, Bool, true, false, ◌||◌, inl, inr, List, [], ◌∷◌, map, take, drop, length, All, Option, Some, None, IsTrue, is_some, option_map, slice_get, cond, ap, ap₂, sym, refl, ◌∙◌, subst, arith, eqb, leb, ltb, eqb-true, eq-eqb, le-leb, ltb-true, lt-ltb}
use Rattle.std.specs.Option.{option_and_then}
use Rattle.std.specs.List.{AllByRecursion, prefix_len, take_while}
use Rattle.std.proofs.lemmas.Bool.{cases_Bool, cases_lt, cases_order, le-ltb, lt-leb, ne_eqb, eqb-false, ltb-false}
use Rattle.std.proofs.lemmas.List.Elements.{recursion_from_All, All-from_recursion}
use Rattle.mg_time.specs.Time.{done}
use Rattle.mg_value.specs.Payload.{Plain}
use Rattle.mg_value.specs.declared.policy.Policy.{Policy}
use Rattle.mg_value.specs.declared.policy.Policy.TheVariants.{Default, Mux}
use Rattle.mg_value.specs.Packet.{Stamped}
use Rattle.mg_settled.specs.Prefix.{StreamPrefix, IsPrefix, first_time}
use Rattle.mg_settled.specs.Settled.{TimedSet, low, times_of, all_times, settled_times, settled_sets, packet_at, port_of, select_of, is_settled}
use Rattle.mg_settled.specs.Left.{goes, without, after_sets, leads}
use Rattle.mg_settled.specs.FirstSet.{earliest, front_at, first_set_time, from, behind}
use Rattle.mg_settled.proofs.Times.{In, Rises, Rises-least, In-append_from, In-append_left, In-append_right}
use Rattle.mg_settled.proofs.Climbs.{Climbs, Climbs-from, prefix-climbs}
use Rattle.mg_settled.proofs.SettledTimes.{settled_from, settled_to, settled_rises, packet_at-none, not-In-above}
use Rattle.mg_settled.proofs.DefaultSets.{low_most, set_of}
use Rattle.mg_settled.proofs.MuxSets.{set_of as mux_set_of}
use Rattle.mg_settled.proofs.Fronts.{one_more}
use Rattle.mg_settled.proofs.Behind.{behind-left, left_of-same, above_all}

-- what a prefix has at a time
none_above : {X : Type 0} (t a b : ℕ) (ps : List (Stamped X)) → t < a → Climbs a ps b → packet_at t ps ≡ None
none_above {X} t a b ps lt h = packet_at-none t ps (not-In-above a t ps (All-from_recursion (λ (p : Stamped X). a ≤ p.at) ps (Climbs-from a b ps h)) lt)

none_passed : {X : Type 0} (f : X → Bool) (ps : List X) → AllByRecursion (λ p. f p ≡ false) ps → prefix_len f ps ≡ 0
none_passed f [] h = refl
none_passed f (p ∷ ps) h = rw h.0 refl

pub found-first : {X : Type 0} (t a b : ℕ) (ps : List (Stamped X)) → Climbs a ps b → packet_at t ps ≡ front_at t (drop (prefix_len (λ p. ltb p.at t) ps) ps)
found-first t a b [] h = refl
found-first {X} t a b (p ∷ ps) h = elim (cases_Bool (ltb p.at t)) [
  | inl before ↦
      (let lt = ltb-true p.at t before in
      rw (before, ne_eqb p.at t (λ e. omega (arith, lt, e)), one_more (prefix_len (λ (q : Stamped X). ltb q.at t) ps)) (found-first t (p.at + 1) b ps h.1))
  | inr from_there ↦ elim (cases_Bool (eqb p.at t)) [
    | inl here ↦ rw (from_there, here) refl
    | inr other ↦
        (let le = ltb-false p.at t from_there in
        let apart = eqb-false p.at t other in
        let lt : t < p.at + 1 = omega (arith, le) in
        rw (from_there, other) (none_above t (p.at + 1) b ps lt h.1))
  ]
]

pub left-first : {X : Type 0} (t a b : ℕ) (ps : List (Stamped X)) → Climbs a ps b
    → drop (prefix_len (λ p. leb p.at t) ps) ps ≡ cond (is_some (packet_at t ps)) (drop 1 (drop (prefix_len (λ p. ltb p.at t) ps) ps)) (drop (prefix_len (λ p. ltb p.at t) ps) ps)
left-first t a b [] h = refl
left-first {X} t a b (p ∷ ps) h = elim (cases_Bool (ltb p.at t)) [
  | inl before ↦
      (let lt = ltb-true p.at t before in
      rw (before, le-leb p.at t (omega (arith, lt)), ne_eqb p.at t (λ e. omega (arith, lt, e)), one_more (prefix_len (λ (q : Stamped X). ltb q.at t) ps), one_more (prefix_len (λ (q : Stamped X). leb q.at t) ps)) (left-first t (p.at + 1) b ps h.1))
  | inr from_there ↦
      (let le = ltb-false p.at t from_there in
      let lt : t < p.at + 1 = omega (arith, le) in
      elim (cases_Bool (eqb p.at t)) [
        | inl here ↦
            (let same = eqb-true p.at t here in
            rw (from_there, here, le-leb p.at t (omega (arith, same)), none_passed (λ (q : Stamped X). leb q.at t) ps (above_all t (p.at + 1) b ps lt h.1)) refl)
        | inr other ↦
            (let apart = eqb-false p.at t other in
            let above : t < p.at = elim (cases_order t p.at) [ inl e ↦ absurd (apart (sym e)) | inr o ↦ elim o [ inl l ↦ l | inr g ↦ absurd (omega (arith, g, le)) ] ] in
            rw (from_there, other, lt-leb p.at t above, none_above t (p.at + 1) b ps lt h.1) refl)
      ])
]

-- no packet's time is before the earliest
earliest_most : {X : Type 0} (ss : List (StreamPrefix X)) (i : ℕ) → i < length ss → earliest ss ≤ first_time (port_of ss i).packets done
earliest_most [] i lt = absurd (omega (arith, lt))
earliest_most (s ∷ ss) zero lt = omega arith
earliest_most (s ∷ ss) (suc i) lt = let later = earliest_most ss i (omega (arith, lt)) in omega (arith, later)

pub each_from : {X : Type 0} (t a b c : ℕ) (ps : List (Stamped X)) → Climbs a ps b → t ≤ first_time ps c → AllByRecursion (λ p. t ≤ p.at) ps
each_from t a b c [] h le = tt
each_from t a b c (p ∷ ps) h le = Climbs-from t b (p ∷ ps) (le, h.1)

time_from : {X : Type 0} (t u : ℕ) (ps : List (Stamped X)) → AllByRecursion (λ p. t ≤ p.at) ps → In u (times_of ps) → t ≤ u
time_from t u [] h i = absurd i
time_from t u (p ∷ ps) h i = elim i [ inl e ↦ omega (arith, e, h.0) | inr j ↦ time_from t u ps h.1 j ]

earliest_least : {X : Type 0} (ss : List (StreamPrefix X)) → AllByRecursion IsPrefix ss → (t : ℕ) → In t (all_times ss) → earliest ss ≤ t
earliest_least [] h t i = absurd i
earliest_least (s ∷ ss) h t i = elim (In-append_from t (times_of s.packets) (all_times ss) i) [
  | inl here ↦ time_from (earliest (s ∷ ss)) t s.packets (each_from (earliest (s ∷ ss)) 0 s.bound done s.packets (prefix-climbs s h.0) (omega arith)) here
  | inr there ↦ (let least = earliest_least ss h.1 t there in omega (arith, least))
]

-- the earliest is the time of a packet, if there is one
first_is : {X : Type 0} (ps : List (Stamped X)) → first_time ps done < done → In (first_time ps done) (times_of ps)
first_is [] below = absurd (omega (arith, below))
first_is (p ∷ ps) below = inl refl

earliest_is : {X : Type 0} (ss : List (StreamPrefix X)) → earliest ss < done → In (earliest ss) (all_times ss)
earliest_is [] below = absurd (omega (arith, below))
earliest_is (s ∷ ss) below = elim (cases_lt (earliest ss) (first_time s.packets done)) [
  | inl later ↦ (let is : min (first_time s.packets done) (earliest ss) ≡ earliest ss = omega (arith, later) in
      rw is (In-append_right (earliest ss) (times_of s.packets) (all_times ss) (earliest_is ss (omega (arith, below, is)))))
  | inr first ↦ (let is : min (first_time s.packets done) (earliest ss) ≡ first_time s.packets done = omega (arith, first) in
      rw is (In-append_left (first_time s.packets done) (times_of s.packets) (all_times ss) (first_is s.packets (omega (arith, below, is)))))
]

-- a rising list begins with its least member
begins : (a e : ℕ) (xs : List ℕ) → Rises a xs → In e xs → ((t : ℕ) → In t xs → e ≤ t) → xs ≡ e ∷ drop 1 xs
begins a e [] r i least = absurd i
begins a e (x ∷ xs) r i least =
    let up = Rises-least x e (x ∷ xs) (omega arith, r.1) i in
    let down = least x (inl refl) in
    let same : x ≡ e = omega (arith, up, down) in
    ap (λ (h : ℕ). h ∷ xs) same

no_members : (xs : List ℕ) → ((t : ℕ) → In t xs → ⊥) → xs ≡ []
no_members [] out = refl
no_members (x ∷ xs) out = absurd (out x (inl refl))

-- if the earliest time is settled, it is the first settled time, and otherwise there is none
settled_first : {X : Type 0} (ss : List (StreamPrefix X)) → AllByRecursion IsPrefix ss → earliest ss < low ss → settled_times ss ≡ earliest ss ∷ drop 1 (settled_times ss)
settled_first ss h below =
    let most = low_most ss in
    begins 0 (earliest ss) (settled_times ss) (settled_rises ss) (settled_to ss (earliest ss) below (earliest_is ss (omega (arith, below, most))))
    (λ t i. earliest_least ss h t (settled_from ss t i).1)

settled_none : {X : Type 0} (ss : List (StreamPrefix X)) → AllByRecursion IsPrefix ss → low ss ≤ earliest ss → settled_times ss ≡ []
settled_none ss h above = no_members (settled_times ss) (λ t i. (
    let is = settled_from ss t i in
    let least = earliest_least ss h t is.1 in
    omega (arith, least, is.0, above)))

abbrev first_at : List (TimedSet Plain) → Option ℕ
first_at es = option_map (λ e. e.at) (slice_get es 0)

first_while : (at : Stamped Plain → TimedSet Plain) → ((p : Stamped Plain) → (at p).at ≡ p.at) → (f : Stamped Plain → Bool) (ps : List (Stamped Plain)) → first_at (map at (take_while f ps)) ≡ option_and_then (λ p. cond (f p) (Some p.at) None) (slice_get ps 0)
first_while at same f [] = refl
first_while at same f (p ∷ ps) = elim (cases_Bool (f p)) [
  | inl passes ↦ rw (passes, one_more (prefix_len f ps)) (ap (λ (t : ℕ). Some t) (same p))
  | inr fails ↦ rw fails refl
]

pub first-time : (policy : Policy) (ss : List (StreamPrefix Plain)) → All IsPrefix ss → option_map (λ e. e.at) (slice_get (settled_sets policy ss) 0) ≡ first_set_time policy ss
first-time Default ss h =
    let all = recursion_from_All IsPrefix ss h in
    elim (cases_lt (earliest ss) (low ss)) [
      | inl below ↦ rw (lt-ltb (earliest ss) (low ss) below) (ap (λ (ts : List ℕ). first_at (map (set_of ss) ts)) (settled_first ss all below))
      | inr above ↦ rw (le-ltb (earliest ss) (low ss) above) (ap (λ (ts : List ℕ). first_at (map (set_of ss) ts)) (settled_none ss all above))
    ]
first-time Mux ss h = first_while (mux_set_of ss) (λ p. refl) (is_settled ss) (select_of ss).packets

-- what the first time says: by default it is the earliest, and under Mux that of SELECT's first packet
default_first : (e l t : ℕ) → cond (ltb e l) (Some e) None ≡ Some t → (e ≡ t) × (e < l)
default_first e l t is = elim (cases_Bool (ltb e l)) [
  | inl below ↦ ((let same : Some e ≡ Some t = rw below at is in cc), ltb-true e l below)
  | inr above ↦ absurd (let none : None ≡ Some t = rw above at is in cc)
]

pub mux_first : (f : Stamped Plain → Bool) (ps : List (Stamped Plain)) (t b : ℕ) → option_and_then (λ p. cond (f p) (Some p.at) None) (slice_get ps 0) ≡ Some t → first_time ps b ≡ t
mux_first f [] t b is = absurd cc
mux_first f (p ∷ ps) t b is = elim (cases_Bool (f p)) [
  | inl passes ↦ (let same : Some p.at ≡ Some t = rw passes at is in cc)
  | inr fails ↦ absurd (let none : None ≡ Some t = rw fails at is in cc)
]

-- at a port that leads nothing stands before
pub leading-from : (policy : Policy) (ss : List (StreamPrefix Plain)) (t i : ℕ) → first_set_time policy ss ≡ Some t → i < length ss → IsTrue (leads policy (length ss) i) → t ≤ first_time (port_of ss i).packets done
leading-from Default ss t i is there lead = (let first = (default_first (earliest ss) (low ss) t is).0 in let most = earliest_most ss i there in omega (arith, first, most))
leading-from Mux ss t i is there lead =
    let last : i + 1 ≡ length ss = eqb-true (i + 1) (length ss) lead in
    let same : length ss - 1 ≡ i = omega (arith, last) in
    let first = mux_first (is_settled ss) (select_of ss).packets t done is in
    subst (λ (j : ℕ). t ≤ first_time (port_of ss j).packets done) same (omega (arith, first))

nothing_before : {X : Type 0} (t c : ℕ) (ps : List (Stamped X)) → t ≤ first_time ps c → drop (prefix_len (λ p. ltb p.at t) ps) ps ≡ ps
nothing_before t c [] le = refl
nothing_before t c (p ∷ ps) le = rw (le-ltb p.at t le) refl

pub leading-stays : (policy : Policy) (ss : List (StreamPrefix Plain)) (t i : ℕ) → first_set_time policy ss ≡ Some t → i < length ss → IsTrue (leads policy (length ss) i) → from t (port_of ss i) ≡ port_of ss i
leading-stays policy ss t i is there lead =
    ap (λ (ps : List (Stamped Plain)). (let it : StreamPrefix Plain = record { packets = ps; bound = (port_of ss i).bound } in it))
    (nothing_before t done (port_of ss i).packets (leading-from policy ss t i is there lead))

-- what goes with the first set stands at its time or before
first_times : (es : List (TimedSet Plain)) (t : ℕ) → first_at es ≡ Some t → take 1 (map (λ e. e.at) es) ≡ t ∷ []
first_times [] t is = absurd cc
first_times (e ∷ es) t is = (let same : e.at ≡ t = cc in ap (λ (u : ℕ). u ∷ []) same)

or_nothing : (b : Bool) → (b || false) ≡ b
or_nothing true = refl
or_nothing false = refl

goes_default : (t u : ℕ) → t ≤ u → goes Default (t ∷ []) u ≡ leb u t
goes_default t u le = elim (cases_order t u) [
  | inl same ↦ rw (eq-eqb t u same, le-leb u t (omega (arith, same))) refl
  | inr o ↦ elim o [
    | inl below ↦ rw (ne_eqb t u (λ e. omega (arith, e, below)), lt-leb u t below) refl
    | inr above ↦ absurd (omega (arith, above, le))
  ]
]

each_goes : {X : Type 0} (t : ℕ) (ps : List (Stamped X)) → AllByRecursion (λ p. t ≤ p.at) ps → AllByRecursion (λ p. goes Default (t ∷ []) p.at ≡ leb p.at t) ps
each_goes t [] h = tt
each_goes t (p ∷ ps) h = (goes_default t p.at h.0, each_goes t ps h.1)

each_goes_mux : {X : Type 0} (t : ℕ) (ps : List (Stamped X)) → AllByRecursion (λ p. goes Mux (t ∷ []) p.at ≡ leb p.at t) ps
each_goes_mux t [] = tt
each_goes_mux t (p ∷ ps) = (or_nothing (leb p.at t), each_goes_mux t ps)

one_left : {X : Type 0} (policy : Policy) (t : ℕ) (s : StreamPrefix X) → IsPrefix s → AllByRecursion (λ p. goes policy (t ∷ []) p.at ≡ leb p.at t) s.packets → without (goes policy (t ∷ [])) s ≡ behind t s
one_left {X} policy t s h same =
    ap (λ (ps : List (Stamped X)). (let it : StreamPrefix X = record { packets = ps; bound = s.bound } in it))
    (left_of-same (goes policy (t ∷ [])) (λ u. leb u t) s.packets same ∙ sym (behind-left t 0 s.bound s.packets (prefix-climbs s h)))

left_default : (t : ℕ) (ss : List (StreamPrefix Plain)) → AllByRecursion IsPrefix ss → t ≤ earliest ss → map (without (goes Default (t ∷ []))) ss ≡ map (behind t) ss
left_default t [] h le = refl
left_default t (s ∷ ss) h le =
    ap₂ (λ (first : StreamPrefix Plain) (rest : List (StreamPrefix Plain)). first ∷ rest)
    (one_left Default t s h.0 (each_goes t s.packets (each_from t 0 s.bound done s.packets (prefix-climbs s h.0) (omega (arith, le)))))
    (left_default t ss h.1 (omega (arith, le)))

left_mux : (t : ℕ) (ss : List (StreamPrefix Plain)) → AllByRecursion IsPrefix ss → map (without (goes Mux (t ∷ []))) ss ≡ map (behind t) ss
left_mux t [] h = refl
left_mux t (s ∷ ss) h =
    ap₂ (λ (first : StreamPrefix Plain) (rest : List (StreamPrefix Plain)). first ∷ rest)
    (one_left Mux t s h.0 (each_goes_mux t s.packets))
    (left_mux t ss h.1)

left_of_first : (policy : Policy) (ss : List (StreamPrefix Plain)) (t : ℕ) → All IsPrefix ss → first_set_time policy ss ≡ Some t → map (without (goes policy (t ∷ []))) ss ≡ map (behind t) ss
left_of_first Default ss t h is = left_default t ss (recursion_from_All IsPrefix ss h) (let first = (default_first (earliest ss) (low ss) t is).0 in omega (arith, first))
left_of_first Mux ss t h is = left_mux t ss (recursion_from_All IsPrefix ss h)

pub after-first : (policy : Policy) (ss : List (StreamPrefix Plain)) (t : ℕ) → All IsPrefix ss → first_set_time policy ss ≡ Some t → after_sets policy 1 ss ≡ map (behind t) ss
after-first policy ss t h is =
    ap (λ (ts : List ℕ). map (without (goes policy ts)) ss) (first_times (settled_sets policy ss) t (first-time policy ss h ∙ is))
    ∙ left_of_first policy ss t h is
