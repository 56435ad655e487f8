-- The settled sets stand at the times of packets of the ports that lead.
use Rattle.std.proofs.Common.{◌≡◌, ℕ, zero, suc, ◌+◌, ◌-◌, ◌<◌, ◌≤◌, true, false, inl, inr, List, [], ◌∷◌, map, take, drop, length, All, IsTrue, sym, refl, ◌∙◌, arith, eq-eqb, eqb-true, subst}
use Rattle.std.specs.List.{AllByRecursion, prefix_len}
use Rattle.std.proofs.lemmas.Bool.{cases_lt, cases_Bool, false≢true}
use Rattle.std.proofs.lemmas.List.{get_or_past}
use Rattle.std.proofs.lemmas.List.Elements.{All-from_recursion}
use Rattle.std.proofs.lemmas.List.Folds.{length-prefix_len}
use Rattle.mg_value.specs.Payload.{Plain}
use Rattle.mg_value.specs.declared.policy.Policy.{Policy}
use Rattle.mg_value.specs.declared.policy.Policy.TheVariants.{Default, Mux}
use Rattle.mg_value.specs.Packet.{Stamped}
use Rattle.mg_settled.specs.Prefix.{StreamPrefix, IsPrefix, first_time, closed, empty_prefix}
use Rattle.mg_settled.specs.Settled.{TimedSet, times_of, all_times, is_among, port_of, select_of, is_settled, settled_sets, reach}
use Rattle.mg_settled.specs.Left.{set_times, leads, HasLeadingPacket}
use Rattle.mg_settled.proofs.Times.{In, In-take, In-take_or_drop, In-append_from, In-append_left, In-append_right, is_among-In, In-is_among}
use Rattle.mg_settled.proofs.Climbs.{prefix-climbs, Climbs-drop, Climbs-from, Climbs}
use Rattle.mg_settled.proofs.Leaving.{each-time, times-take, times-drop}
use Rattle.mg_settled.proofs.Ports.{select-prefix}
use Rattle.mg_settled.proofs.SettledTimes.{settled_from, settled_to, packet_at-some, packet_at-none}
use Rattle.mg_settled.proofs.DefaultSets.{default_times}
use Rattle.mg_settled.proofs.MuxSets.{mux_times}

one_of : {X : Type 0} (t : ℕ) (ss : List (StreamPrefix X)) → In t (all_times ss) → (i : ℕ) × (i < length ss) × In t (times_of (port_of ss i).packets)
one_of t [] i = absurd i
one_of t (s ∷ ss) i = elim (In-append_from t (times_of s.packets) (all_times ss) i) [
  | inl first ↦ (0, omega arith, first)
  | inr later ↦ (let rest = one_of t ss later in (suc rest.0, (let lt = rest.1 in omega (arith, lt)), rest.2))
]

one_is : {X : Type 0} (t : ℕ) (ss : List (StreamPrefix X)) (i : ℕ) → i < length ss → In t (times_of (port_of ss i).packets) → In t (all_times ss)
one_is t [] i lt at = absurd (omega (arith, lt))
one_is t (s ∷ ss) zero lt at = In-append_left t (times_of s.packets) (all_times ss) at
one_is t (s ∷ ss) (suc i) lt at = In-append_right t (times_of s.packets) (all_times ss) (one_is t ss i (omega (arith, lt)) at)

some_port : (t : ℕ) (ss : List (StreamPrefix Plain)) → In t (times_of (select_of ss).packets) → 0 < length ss
some_port t ss at = elim (cases_lt 0 (length ss)) [
  | inl some ↦ some
  | inr none ↦ absurd (let nothing : In t [] = rw (get_or_past ss (length ss - 1) (closed empty_prefix) (omega (arith, none))) at at in nothing)
]

pub of-leading : (policy : Policy) (ss : List (StreamPrefix Plain)) (t : ℕ) → In t (set_times policy ss) → HasLeadingPacket policy ss t
of-leading Default ss t at =
    let one = one_of t ss (settled_from ss t (rw (default_times ss) at at)).1 in
    record { port = one.0; there = one.1; lead = refl; packet = packet_at-some t (port_of ss one.0).packets one.2 }
of-leading Mux ss t at =
    let n = prefix_len (is_settled ss) (select_of ss).packets in
    let front : In t (take n (times_of (select_of ss).packets)) = rw (← times-take n (select_of ss).packets) (rw (mux_times ss) at at) in
    let packet = In-take t n (times_of (select_of ss).packets) front in
    let some = some_port t ss packet in
    record { port = length ss - 1; there = omega (arith, some); lead = eq-eqb (length ss - 1 + 1) (length ss) (omega (arith, some)); packet = packet_at-some t (select_of ss).packets packet }

pub leading-in : (policy : Policy) (ss : List (StreamPrefix Plain)) → All IsPrefix ss → (i : ℕ) → i < length ss → IsTrue (leads policy (length ss) i) → (t : ℕ) → In t (times_of (port_of ss i).packets) → t < reach policy ss → In t (set_times policy ss)
leading-in Default ss h i there lead t at below = rw (default_times ss) (settled_to ss t below (one_is t ss i there at))
leading-in Mux ss h i there lead t at below =
    let s = select_of ss in
    let n = prefix_len (is_settled ss) s.packets in
    let last : i ≡ length ss - 1 = (let e = eqb-true (i + 1) (length ss) lead in omega (arith, e)) in
    let here : In t (times_of s.packets) = subst (λ (j : ℕ). In t (times_of (port_of ss j).packets)) last at in
    let under : t < first_time (drop n s.packets) s.bound = rw (length-prefix_len (is_settled ss) s.packets) at below in
    rw (mux_times ss) (elim (In-take_or_drop t n (times_of s.packets) here) [
      | inl early ↦ rw (times-take n s.packets) early
      | inr late ↦ absurd (past (drop n s.packets) (Climbs-drop 0 s.bound n s.packets (prefix-climbs s (select-prefix ss h))) under (rw (times-drop n s.packets) late))
    ])
  where
    past : (ps : List (Stamped Plain)) → Climbs 0 ps (select_of ss).bound → t < first_time ps (select_of ss).bound → In t (times_of ps) → ⊥
    past [] c under at = at
    past (p ∷ ps) c under at =
        let least = each-time (λ u. p.at ≤ u) (p ∷ ps) (Climbs-from p.at (select_of ss).bound (p ∷ ps) (omega arith, c.1)) t at in
        omega (arith, least, under)

-- if no packet stands at a port that leads, there is no set. If the reach is the end of all times and there is no set, no
-- packet stands at such a port
no_times : {X : Type 0} (at : X → ℕ) (xs : List X) → ((t : ℕ) → In t (map at xs) → ⊥) → xs ≡ []
no_times at [] out = refl
no_times at (x ∷ xs) out = absurd (out (at x) (inl refl))

pub no-sets : (policy : Policy) (ss : List (StreamPrefix Plain)) → ((i : ℕ) → i < length ss → IsTrue (leads policy (length ss) i) → (port_of ss i).packets ≡ []) → settled_sets policy ss ≡ []
no-sets policy ss empty = no_times (λ e. e.at) (settled_sets policy ss) (λ t at. (
    let one = of-leading policy ss t at in
    absurd (let none : false ≡ true = rw (empty one.port one.there one.lead) at one.packet in cc)))

pub all-leading : (policy : Policy) (ss : List (StreamPrefix Plain)) (t : ℕ) → All IsPrefix ss → HasLeadingPacket policy ss t → t < reach policy ss → is_among (set_times policy ss) t ≡ true
all-leading policy ss t h one below =
    let ps = (port_of ss one.port).packets in
    elim (cases_Bool (is_among (times_of ps) t)) [
      | inl here ↦ In-is_among t (set_times policy ss) (leading-in policy ss h one.port one.there one.lead t (is_among-In t (times_of ps) here) below)
      | inr out ↦ absurd (let none : false ≡ true = rw (packet_at-none t ps (λ at. false≢true (sym out ∙ In-is_among t (times_of ps) at))) at one.packet in cc)
    ]

pub each-leading : (policy : Policy) (ss : List (StreamPrefix Plain)) → All (λ e. HasLeadingPacket policy ss e.at) (settled_sets policy ss)
each-leading policy ss = All-from_recursion (λ (e : TimedSet Plain). HasLeadingPacket policy ss e.at) (settled_sets policy ss) (go (settled_sets policy ss) (of-leading policy ss))
  where
    go : (es : List (TimedSet Plain)) → ((t : ℕ) → In t (map (λ e. e.at) es) → HasLeadingPacket policy ss t) → AllByRecursion (λ e. HasLeadingPacket policy ss e.at) es
    go [] each = tt
    go (e ∷ es) each = (each e.at (inl refl), go es (λ t i. each t (inr i)))
