-- The settled sets under Mux: where they stand, and that they stay if prefixes are extended.
use Rattle.std.proofs.Common.{◌≡◌, ℕ, zero, suc, ◌+◌, ◌-◌, ◌<◌, ◌≤◌, Bool, true, false, cond, inl, inr, List, [], ◌∷◌, ◌++◌, map, take, drop, length, replicate, All, Option, Some, None, IsTrue, IsSomeAnd, is_some, option_map, unwrap_or, set, get_or, pos, ap, refl, ◌∙◌, arith, ltb, ltb-true, lt-ltb}
use Rattle.std.specs.List.{prefix_len, take_while, list_any, AllByRecursion}
use Rattle.std.proofs.lemmas.Bool.{cases_Bool, cases_lt, or_left, or_right}
use Rattle.std.proofs.lemmas.List.{take-map, drop-map, length-map, length-set, length-replicate, get_or-set_same, get_or-set_other, get_or_past}
use Rattle.std.proofs.lemmas.List.Elements.{recursion_from_All, All-from_recursion, All-map, All-take, All-nil, All-weaker}
use Rattle.std.proofs.lemmas.List.Folds.{length-prefix_len}
use Rattle.mg_time.specs.Time.{pre_stream, done, IsAllowed}
use Rattle.mg_value.specs.Payload.{Plain, int}
use Rattle.mg_value.specs.declared.policy.Policy.TheVariants.{Mux}
use Rattle.mg_value.specs.Packet.{Stamped}
use Rattle.mg_settled.specs.Prefix.{StreamPrefix, IsPrefix, first_time, closed, empty_prefix}
use Rattle.mg_settled.specs.Extension.{IsExtendedBy, AreExtendedBy}
use Rattle.mg_settled.specs.Settled.{TimedSet, times_of, packet_at, port_of, select_of, selected, is_settled, settled_selects, select_alone, select_set, settled_sets, reach, IsBelowBounds}
use Rattle.mg_settled.specs.Left.{set_times}
use Rattle.mg_settled.proofs.Times.{Rises}
use Rattle.mg_settled.proofs.PrefixSteps.{packets_below}
use Rattle.mg_settled.proofs.Climbs.{Climbs, prefix-climbs, Climbs-first, Climbs-from, Climbs-drop, Climbs-take, Climbs-front, Climbs-finds, Climbs-most, above-first}
use Rattle.mg_settled.proofs.SettledTimes.{not-In-above, packet_at-append}
use Rattle.mg_settled.proofs.Fronts.{one_more, take_while_grows, map_while_agree}
use Rattle.mg_settled.proofs.Ports.{port-extended, select-prefix, select-extended, same_ports, passes_by, agree_by}

-- the set of a packet of SELECT, with its time
abbrev pub set_of : List (StreamPrefix Plain) → Stamped Plain → TimedSet Plain
set_of ss p = record { at = p.at; set = select_set ss p }

-- what is settled stays so, with the same set
pub settled_more : (ss ts : List (StreamPrefix Plain)) → AreExtendedBy ss ts → (p : Stamped Plain) → is_settled ss p ≡ true → is_settled ts p ≡ true
settled_more ss ts e p here = rw (← same_ports ss ts e)
    (passes_by (selected (length ss) p.value) (λ i. ltb p.at (port_of ss i).bound) (λ i. ltb p.at (port_of ts i).bound)
    (λ i below. (let le = (port-extended ss ts e i).bound in lt-ltb p.at (port_of ts i).bound (omega (arith, ltb-true p.at (port_of ss i).bound below, le)))) here)

pub packet_at-extended : {X : Type 0} (s t : StreamPrefix X) → IsExtendedBy s t → (u : ℕ) → u < s.bound → packet_at u t.packets ≡ packet_at u s.packets
packet_at-extended s t e u below = rw e.packets (packet_at-append u s.packets e.further (not-In-above s.bound u e.further e.above below))

pub same_set : (ss ts : List (StreamPrefix Plain)) → AreExtendedBy ss ts → (p : Stamped Plain) → is_settled ss p ≡ true → set_of ts p ≡ set_of ss p
same_set ss ts e p here = rw (← same_ports ss ts e)
    (ap (λ (ps : List (Option (Stamped Plain))). (let it : TimedSet Plain = record { at = p.at; set = ps } in it))
    (agree_by (selected (length ss) p.value) (λ i. ltb p.at (port_of ss i).bound)
    (λ i. set (select_alone ss p) i (packet_at p.at (port_of ts i).packets)) (λ i. set (select_alone ss p) i (packet_at p.at (port_of ss i).packets)) (select_alone ss p)
    (λ i below. ap (λ (o : Option (Stamped Plain)). set (select_alone ss p) i o) (packet_at-extended (port_of ss i) (port_of ts i) (port-extended ss ts e i) p.at (ltb-true p.at (port_of ss i).bound below))) here))

pub length-mux_sets : (ss : List (StreamPrefix Plain)) → length (settled_sets Mux ss) ≡ prefix_len (is_settled ss) (select_of ss).packets
length-mux_sets ss = length-map (settled_selects ss) (set_of ss) ∙ length-prefix_len (is_settled ss) (select_of ss).packets

pub mux_stays : (ss ts : List (StreamPrefix Plain)) → AreExtendedBy ss ts → take (length (settled_sets Mux ss)) (settled_sets Mux ts) ≡ settled_sets Mux ss
mux_stays ss ts e =
    let s = select_of ss in
    let t = select_of ts in
    let ext : IsExtendedBy s t = select-extended ss ts e in
    let n = prefix_len (is_settled ss) s.packets in
    let front : take n (settled_selects ts) ≡ settled_selects ss =
    ap (λ (ps : List (Stamped Plain)). take n (take_while (is_settled ts) ps)) ext.packets
    ∙ take_while_grows (is_settled ss) (is_settled ts) s.packets ext.further (settled_more ss ts e) in
    ap (λ (k : ℕ). take k (settled_sets Mux ts)) (length-mux_sets ss)
    ∙ take-map (set_of ts) n (settled_selects ts)
    ∙ ap (λ (ps : List (Stamped Plain)). map (set_of ts) ps) front
    ∙ map_while_agree (is_settled ss) (set_of ts) (set_of ss) s.packets (same_set ss ts e)

-- further packets of SELECT stand at the reach of before, or above
further-from : {X : Type 0} (f : Stamped X → Bool) (xs ys : List (Stamped X)) (a b c : ℕ) → Climbs a (xs ++ ys) c → All (λ p. b ≤ p.at) ys → AllByRecursion (λ p. first_time (drop (prefix_len f xs) xs) b ≤ p.at) (drop (prefix_len f xs) (xs ++ ys))
further-from {X} f [] ys a b c h above = recursion_from_All (λ (p : Stamped X). b ≤ p.at) ys above
further-from f (x ∷ xs) ys a b c h above = elim (cases_Bool (f x)) [
  | inl passes ↦ rw (passes, one_more (prefix_len f xs)) (further-from f xs ys (x.at + 1) b c h.1 above)
  | inr fails ↦ rw fails (Climbs-from x.at c (x ∷ (xs ++ ys)) (omega arith, h.1))
]

-- what holds of all elements after some first ones holds of those among any first ones
front-of-rest : {X : Type 0} (P : X → Type 0) (n m : ℕ) (xs : List X) → AllByRecursion P (drop n xs) → AllByRecursion P (drop n (take m xs))
front-of-rest P zero zero xs h = tt
front-of-rest P zero (suc m) [] h = tt
front-of-rest P zero (suc m) (x ∷ xs) h = (h.0, front-of-rest P zero m xs h.1)
front-of-rest P (suc n) zero xs h = tt
front-of-rest P (suc n) (suc m) [] h = tt
front-of-rest P (suc n) (suc m) (x ∷ xs) h = front-of-rest P n m xs h

pub mux_further : (ss ts : List (StreamPrefix Plain)) → All IsPrefix ts → AreExtendedBy ss ts → All (λ e. reach Mux ss ≤ e.at) (drop (length (settled_sets Mux ss)) (settled_sets Mux ts))
mux_further ss ts h e =
    let s = select_of ss in
    let t = select_of ts in
    let f = is_settled ss in
    let g = is_settled ts in
    let ext : IsExtendedBy s t = select-extended ss ts e in
    let n = prefix_len f s.packets in
    let Above : Stamped Plain → Type 0 = λ p. first_time (drop n s.packets) s.bound ≤ p.at in
    let climbs : Climbs 0 (s.packets ++ ext.further) t.bound = rw ext.packets at (prefix-climbs t (select-prefix ts h)) in
    let all : AllByRecursion Above (drop n t.packets) = rw ext.packets (further-from f s.packets ext.further 0 s.bound t.bound climbs ext.above) in
    rw (length-mux_sets ss, length-prefix_len f s.packets, drop-map (set_of ts) n (settled_selects ts))
    (All-map (λ (d : TimedSet Plain). first_time (drop n s.packets) s.bound ≤ d.at) (set_of ts) (drop n (settled_selects ts))
    (All-from_recursion Above (drop n (settled_selects ts)) (front-of-rest Above n (prefix_len g t.packets) t.packets all)))

-- the reach never falls
reach-from : {X : Type 0} (f g : Stamped X → Bool) (xs ys : List (Stamped X)) (a b c : ℕ) → ((p : Stamped X) → f p ≡ true → g p ≡ true) → Climbs a (xs ++ ys) c → All (λ p. b ≤ p.at) ys → b ≤ c
    → first_time (drop (prefix_len f xs) xs) b ≤ first_time (drop (prefix_len g (xs ++ ys)) (xs ++ ys)) c
reach-from f g [] ys a b c more h above le = above-first b c (prefix_len g ys) ys above le
reach-from f g (x ∷ xs) ys a b c more h above le = elim (cases_Bool (f x)) [
  | inl passes ↦ rw (passes, more x passes, one_more (prefix_len f xs), one_more (prefix_len g (xs ++ ys))) (reach-from f g xs ys (x.at + 1) b c more h.1 above le)
  | inr fails ↦ rw fails
      (let all : Climbs x.at (x ∷ (xs ++ ys)) c = (omega arith, h.1) in
      Climbs-first x.at c (drop (prefix_len g (x ∷ (xs ++ ys))) (x ∷ (xs ++ ys))) (Climbs-drop x.at c (prefix_len g (x ∷ (xs ++ ys))) (x ∷ (xs ++ ys)) all))
]

pub mux_reach-rises : (ss ts : List (StreamPrefix Plain)) → All IsPrefix ts → AreExtendedBy ss ts → reach Mux ss ≤ reach Mux ts
mux_reach-rises ss ts h e =
    let s = select_of ss in
    let t = select_of ts in
    let ext : IsExtendedBy s t = select-extended ss ts e in
    let climbs : Climbs 0 (s.packets ++ ext.further) t.bound = rw ext.packets at (prefix-climbs t (select-prefix ts h)) in
    rw (length-prefix_len (is_settled ss) s.packets, length-prefix_len (is_settled ts) t.packets, ext.packets)
    (reach-from (is_settled ss) (is_settled ts) s.packets ext.further 0 s.bound t.bound (settled_more ss ts e) climbs ext.above ext.bound)

pub mux_reach-least : (ss : List (StreamPrefix Plain)) → All IsPrefix ss → pre_stream ≤ reach Mux ss
mux_reach-least ss h =
    let s = select_of ss in
    let is = select-prefix ss h in
    let allowed : All (λ (p : Stamped Plain). pre_stream ≤ p.at) s.packets = All-weaker (λ (p : Stamped Plain). IsAllowed p.at) (λ (p : Stamped Plain). pre_stream ≤ p.at) (λ p a. a.0) s.packets is.allowed in
    above-first pre_stream s.bound (length (settled_selects ss)) s.packets allowed is.opened

pub mux_reach-most : (ss : List (StreamPrefix Plain)) → All IsPrefix ss → reach Mux ss ≤ done
mux_reach-most ss h =
    let s = select_of ss in
    let is = select-prefix ss h in
    let most = Climbs-most 0 s.bound (drop (length (settled_selects ss)) s.packets) (Climbs-drop 0 s.bound (length (settled_selects ss)) s.packets (prefix-climbs s is)) in
    let within = is.within in
    omega (arith, most, within)

-- the times of the sets are those of the packets of SELECT that are settled
pub mux_times : (ss : List (StreamPrefix Plain)) → set_times Mux ss ≡ times_of (settled_selects ss)
mux_times ss = back (settled_selects ss)
  where
    back : (ps : List (Stamped Plain)) → map (λ (e : TimedSet Plain). e.at) (map (set_of ss) ps) ≡ times_of ps
    back [] = refl
    back (p ∷ ps) = ap (λ (rest : List ℕ). p.at ∷ rest) (back ps)

pub mux_times-rise : (ss : List (StreamPrefix Plain)) → All IsPrefix ss → Rises 0 (set_times Mux ss)
mux_times-rise ss h =
    let s = select_of ss in
    rw (mux_times ss) (Climbs-take 0 s.bound (prefix_len (is_settled ss) s.packets) s.packets (prefix-climbs s (select-prefix ss h)))

-- each set stands below the reach, and below the bounds that are asked for
passes-front : {X : Type 0} (f : X → Bool) (xs : List X) → AllByRecursion (λ x. f x ≡ true) (take_while f xs)
passes-front f [] = tt
passes-front f (x ∷ xs) = elim (cases_Bool (f x)) [
  | inl passes ↦ rw (passes, one_more (prefix_len f xs)) (passes, passes-front f xs)
  | inr fails ↦ rw fails tt
]

pub mux_below-reach : (ss : List (StreamPrefix Plain)) → All IsPrefix ss → All (λ e. e.at < reach Mux ss) (settled_sets Mux ss)
mux_below-reach ss h =
    let s = select_of ss in
    let n = prefix_len (is_settled ss) s.packets in
    rw (length-prefix_len (is_settled ss) s.packets)
    (All-map (λ (e : TimedSet Plain). e.at < first_time (drop n s.packets) s.bound) (set_of ss) (settled_selects ss)
    (All-from_recursion (λ (p : Stamped Plain). p.at < first_time (drop n s.packets) s.bound) (settled_selects ss) (Climbs-front 0 s.bound n s.packets (prefix-climbs s (select-prefix ss h)))))

some_and : {X : Type 0} (o : Option X) (P : X → Type 0) (x : X) → o ≡ Some x → P x → IsSomeAnd o P
some_and o P x e h = rw e h

pub mux_bounds : (ss : List (StreamPrefix Plain)) → All IsPrefix ss → All (λ e. IsBelowBounds Mux ss e.at) (settled_sets Mux ss)
mux_bounds ss h =
    let s = select_of ss in
    let is = select-prefix ss h in
    let n = prefix_len (is_settled ss) s.packets in
    let Finds : Stamped Plain → Type 0 = λ p. (0 ≤ p.at) × (packet_at p.at s.packets ≡ Some p) in
    let below = All-take (λ (p : Stamped Plain). p.at < s.bound) n s.packets (packets_below s is) in
    let finds = All-take Finds n s.packets (All-from_recursion Finds s.packets (Climbs-finds 0 s.bound s.packets (prefix-climbs s is))) in
    let passes = All-from_recursion (λ (p : Stamped Plain). is_settled ss p ≡ true) (settled_selects ss) (passes-front (is_settled ss) s.packets) in
    All-map (λ (e : TimedSet Plain). IsBelowBounds Mux ss e.at) (set_of ss) (settled_selects ss)
    (λ k d lt. (let p = get_or (settled_selects ss) k d in
    (below k d lt, some_and (packet_at p.at s.packets) (λ q. IsTrue (is_settled ss q)) p (finds k d lt).1 (passes k d lt))))

-- each set has a place per port, and SELECT's packet at its own
pub mux_places : (ss : List (StreamPrefix Plain)) → All (λ e. length e.set ≡ length ss) (settled_sets Mux ss)
mux_places ss = All-map (λ (e : TimedSet Plain). length e.set ≡ length ss) (set_of ss) (settled_selects ss) (λ k d lt. places (get_or (settled_selects ss) k d))
  where
    alone : (p : Stamped Plain) → length (select_alone ss p) ≡ length ss
    alone p = length-set (replicate (length ss) None) (length ss - 1) (Some p) ∙ length-replicate (length ss) None

    by : (o : Option ℕ) (p : Stamped Plain) (h : ℕ → Option (Stamped Plain)) → length (unwrap_or (option_map (λ i. set (select_alone ss p) i (h i)) o) (select_alone ss p)) ≡ length ss
    by None p h = alone p
    by (Some i) p h = length-set (select_alone ss p) i (h i) ∙ alone p

    places : (p : Stamped Plain) → length (select_set ss p) ≡ length ss
    places p = by (selected (length ss) p.value) p (λ i. packet_at p.at (port_of ss i).packets)

-- a port that is selected is another one than SELECT
kept_by : (b : Bool) (m i : ℕ) → cond b (Some m) None ≡ Some i → (b ≡ true) × (m ≡ i)
kept_by true m i e = (refl, cc)
kept_by false m i e = absurd cc

pub selected_another : (n : ℕ) (v : Plain) (i : ℕ) → selected n v ≡ Some i → i + 1 < n
selected_another n (int (pos m)) i e =
    let kept = kept_by (ltb (m + 1) n) m i e in
    let there = ltb-true (m + 1) n kept.0 in
    let same = kept.1 in
    omega (arith, there, same)
selected_another n v i e = absurd cc

some_there : (xs : List (Option (Stamped Plain))) (k : ℕ) (p : Stamped Plain) → get_or xs k None ≡ Some p → list_any is_some xs ≡ true
some_there [] k p e = absurd cc
some_there (x ∷ xs) zero p e = or_left _ _ (ap is_some e)
some_there (x ∷ xs) (suc k) p e = or_right _ _ (some_there xs k p e)

pub mux_shown : (ss : List (StreamPrefix Plain)) → All (λ e. IsTrue (list_any is_some e.set)) (settled_sets Mux ss)
mux_shown ss = elim (cases_lt 0 (length ss)) [
  | inl some ↦ All-map Shown (set_of ss) (settled_selects ss) (λ k d lt. shows some (get_or (settled_selects ss) k d))
  | inr none ↦ rw (get_or_past ss (length ss - 1) (closed empty_prefix) (omega (arith, none))) (All-nil Shown)
]
  where
    Shown : TimedSet Plain → Type 0
    Shown e = IsTrue (list_any is_some e.set)

    here : 0 < length ss → (p : Stamped Plain) → get_or (select_alone ss p) (length ss - 1) None ≡ Some p
    here some p = get_or-set_same (replicate (length ss) None) (length ss - 1) (Some p) None (omega (arith, some, length-replicate {A = Option (Stamped Plain)} (length ss) None))

    by : 0 < length ss → (o : Option ℕ) (p : Stamped Plain) (h : ℕ → Option (Stamped Plain)) → ((i : ℕ) → o ≡ Some i → i + 1 < length ss) → get_or (unwrap_or (option_map (λ i. set (select_alone ss p) i (h i)) o) (select_alone ss p)) (length ss - 1) None ≡ Some p
    by some None p h other = here some p
    by some (Some i) p h other = get_or-set_other (select_alone ss p) i (length ss - 1) (h i) None (λ e. (let lt = other i refl in omega (arith, e, lt))) ∙ here some p

    shows : 0 < length ss → (p : Stamped Plain) → list_any is_some (select_set ss p) ≡ true
    shows some p =
        let at : get_or (select_set ss p) (length ss - 1) None ≡ Some p = by some (selected (length ss) p.value) p (λ i. packet_at p.at (port_of ss i).packets) (λ i e. selected_another (length ss) p.value i e) in
        some_there (select_set ss p) (length ss - 1) p at
