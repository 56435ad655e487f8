-- The packets that are gone when the first settled sets are claimed, told by their numbers.
use Rattle.std.proofs.Common.{◌≡◌, ℕ, zero, suc, ◌+◌, ◌-◌, length-drop, eq-eqb, ◌<◌, ◌≤◌, Bool, true, false, inl, inr, List, [], ◌∷◌, map, take, drop, length, length-append, length-take, replicate, get_or, All, IsTrue, ap, subst, sym, refl, ◌∙◌, arith}
use Rattle.std.specs.List.{AllByRecursion, prefix_len}
use Rattle.std.proofs.lemmas.Bool.{cases_lt, eqb-true}
use Rattle.std.proofs.lemmas.List.{take-map, take-take, take-append-le, drop-append-le, length-replicate, get_or-replicate, get_or_past}
use Rattle.std.proofs.lemmas.List.Sums.{prefix_len-le-length}
use Rattle.std.proofs.lemmas.List.Elements.{recursion_from_All, All-append, All-weaker}
use Rattle.mg_value.specs.Payload.{Plain}
use Rattle.mg_value.specs.declared.policy.Policy.{Policy}
use Rattle.mg_value.specs.declared.policy.Policy.TheVariants.{Default, Mux}
use Rattle.mg_value.specs.Packet.{Stamped}
use Rattle.mg_settled.specs.Prefix.{StreamPrefix, IsPrefix, closed, empty_prefix}
use Rattle.mg_settled.specs.Extension.{IsExtendedBy, AreExtendedBy}
use Rattle.mg_settled.specs.Settled.{TimedSet, settled_sets, reach, port_of, select_of, is_settled, IsBelowBounds}
use Rattle.mg_settled.specs.Left.{set_times, goes, without_first, leads, MayBeGone, AreGone}
use Rattle.mg_settled.proofs.Times.{In, In-take}
use Rattle.mg_settled.proofs.Leaving.{left_of-first, packet_at-drop}
use Rattle.mg_settled.proofs.Going.{goes-above, goes-none}
use Rattle.mg_settled.proofs.Ports.{port-extended, same_ports}
use Rattle.mg_settled.proofs.PolicySets.{sets-stay, below-bounds}
use Rattle.mg_settled.proofs.Leaves.{Leaves, AllLeave}
use Rattle.mg_settled.proofs.MuxSets.{length-mux_sets}
use Rattle.mg_settled.proofs.MuxLeft.{selects-go}
use Rattle.mg_settled.proofs.AfterSets.{sets-left, reach-left}

-- a prefix without its first packets
abbrev pub rest_after : {X : Type 0} → ℕ → StreamPrefix X → StreamPrefix X
rest_after n s = record { packets = drop n s.packets; bound = s.bound }

pub length-without_first : {X : Type 0} (gone : List ℕ) (ss : List (StreamPrefix X)) → length gone ≡ length ss → length (without_first gone ss) ≡ length ss
length-without_first [] [] e = refl
length-without_first [] (s ∷ ss) e = absurd (omega (arith, e))
length-without_first (n ∷ gone) [] e = absurd (omega (arith, e))
length-without_first (n ∷ gone) (s ∷ ss) e = omega (arith, length-without_first gone ss (omega (arith, e)))

pub port-without_first : {X : Type 0} (gone : List ℕ) (ss : List (StreamPrefix X)) (i : ℕ) → length gone ≡ length ss → i < length ss → port_of (without_first gone ss) i ≡ rest_after (get_or gone i 0) (port_of ss i)
port-without_first [] [] i e lt = absurd (omega (arith, lt))
port-without_first [] (s ∷ ss) i e lt = absurd (omega (arith, e))
port-without_first (n ∷ gone) [] i e lt = absurd (omega (arith, lt))
port-without_first (n ∷ gone) (s ∷ ss) zero e lt = refl
port-without_first (n ∷ gone) (s ∷ ss) (suc i) e lt = port-without_first gone ss i (omega (arith, e)) (omega (arith, lt))

-- what is left leaves the other sets
rest-leaves : {X : Type 0} (policy : Policy) (lead : Bool) (ts : List ℕ) (s : StreamPrefix X) (n : ℕ) → MayBeGone policy lead ts s n → Leaves (goes policy ts) lead s (rest_after n s)
rest-leaves {X} policy lead ts s n h =
    let go = recursion_from_All (λ (p : Stamped X). goes policy ts p.at ≡ true) (take n s.packets) h.go in
    record {
      bound = refl;
      finds = λ t out. packet_at-drop (goes policy ts) t n s.packets go out;
      rest = λ leading. sym (left_of-first (goes policy ts) n s.packets go (recursion_from_All (λ (p : Stamped X). goes policy ts p.at ≡ false) (drop n s.packets) (h.stay leading)));
    }

gone-leaves : (policy : Policy) (k : ℕ) (ss : List (StreamPrefix Plain)) (gone : List ℕ) → AreGone policy k ss gone → AllLeave policy (goes policy (take k (set_times policy ss))) ss (without_first gone ss)
gone-leaves policy k ss gone h = record {
  ports = length-without_first gone ss h.ports;
  each = λ i there. rw (port-without_first gone ss i h.ports there) (rest-leaves policy (leads policy (length ss) i) (take k (set_times policy ss)) (port_of ss i) (get_or gone i 0) (h.each i there));
}

pub sets-gone : (policy : Policy) (k : ℕ) (ss : List (StreamPrefix Plain)) (gone : List ℕ) → All IsPrefix ss → AreGone policy k ss gone → settled_sets policy (without_first gone ss) ≡ drop k (settled_sets policy ss)
sets-gone policy k ss gone h are = sets-left policy k ss (without_first gone ss) h (gone-leaves policy k ss gone are)

pub reach-gone : (policy : Policy) (k : ℕ) (ss : List (StreamPrefix Plain)) (gone : List ℕ) → All IsPrefix ss → AreGone policy k ss gone → reach policy (without_first gone ss) ≡ reach policy ss
reach-gone policy k ss gone h are = reach-left policy k ss (without_first gone ss) h (gone-leaves policy k ss gone are)

-- nothing is gone at first
pub none-gone : (policy : Policy) (ss : List (StreamPrefix Plain)) → AreGone policy 0 ss (replicate (length ss) 0)
none-gone policy ss = record {
  ports = length-replicate {A = ℕ} (length ss) 0;
  claimed = omega arith;
  each = λ i there. rw (get_or-replicate {A = ℕ} (length ss) i 0 0 there) (record {
    within = omega arith;
    go = λ k d lt. absurd (omega (arith, lt));
    stay = λ lead k d lt. goes-none policy (get_or (port_of ss i).packets k d).at;
  });
}

-- each claimed set stands below the bound of each port that leads
at_time : (P : ℕ → Type 0) (es : List (TimedSet Plain)) → AllByRecursion (λ e. P e.at) es → (t : ℕ) → In t (map (λ e. e.at) es) → P t
at_time P [] all t i = absurd i
at_time P (e ∷ es) all t i = elim i [ inl same ↦ subst P same all.0 | inr j ↦ at_time P es all.1 t j ]

below-leading : (policy : Policy) (ss : List (StreamPrefix Plain)) (t i : ℕ) → IsBelowBounds policy ss t → i < length ss → IsTrue (leads policy (length ss) i) → t < (port_of ss i).bound
below-leading Default ss t i below there lead = below i (closed empty_prefix) there
below-leading Mux ss t i below there lead =
    let last : i + 1 ≡ length ss = eqb-true (i + 1) (length ss) lead in
    subst (λ (j : ℕ). t < (port_of ss j).bound) (omega (arith, last)) below.0

claimed-below : (policy : Policy) (ss : List (StreamPrefix Plain)) → All IsPrefix ss → (i : ℕ) → i < length ss → IsTrue (leads policy (length ss) i) → (t : ℕ) → In t (set_times policy ss) → t < (port_of ss i).bound
claimed-below policy ss h i there lead t at =
    let all = recursion_from_All (λ (e : TimedSet Plain). IsBelowBounds policy ss e.at) (settled_sets policy ss) (below-bounds policy ss h) in
    below-leading policy ss t i (at_time (λ u. IsBelowBounds policy ss u) (settled_sets policy ss) all t at) there lead

-- if prefixes are extended, the settled sets become no fewer, and the first ones stay
pub sets-grow : (policy : Policy) (ss ts : List (StreamPrefix Plain)) → AreExtendedBy ss ts → length (settled_sets policy ss) ≤ length (settled_sets policy ts)
sets-grow policy ss ts e = omega (arith, ap length (sets-stay policy ss ts e), length-take (length (settled_sets policy ss)) (settled_sets policy ts))

pub same_first_times : (policy : Policy) (k : ℕ) (ss ts : List (StreamPrefix Plain)) → AreExtendedBy ss ts → k ≤ length (settled_sets policy ss) → take k (set_times policy ts) ≡ take k (set_times policy ss)
same_first_times policy k ss ts e few =
    let n = length (settled_sets policy ss) in
    let at = λ (d : TimedSet Plain). d.at in
    take-map at k (settled_sets policy ts)
    ∙ ap (λ (es : List (TimedSet Plain)). map at es) (sym (take-take k n (settled_sets policy ts) few) ∙ ap (λ (es : List (TimedSet Plain)). take k es) (sets-stay policy ss ts e))
    ∙ sym (take-map at k (settled_sets policy ss))

gone-further : {X : Type 0} (policy : Policy) (lead : Bool) (us : List ℕ) (s t : StreamPrefix X) (n : ℕ) → IsExtendedBy s t → (IsTrue lead → (u : ℕ) → In u us → u < s.bound) → MayBeGone policy lead us s n → MayBeGone policy lead us t n
gone-further {X} policy lead us s t n e below h =
    let within = h.within in
    rw e.packets (record {
      within = omega (arith, within, length-append s.packets e.further);
      go = rw (take-append-le n s.packets e.further within) h.go;
      stay = λ leading. rw (drop-append-le n s.packets e.further within)
          (All-append (λ (p : Stamped X). goes policy us p.at ≡ false) (drop n s.packets) e.further (h.stay leading)
          (All-weaker (λ (p : Stamped X). s.bound ≤ p.at) (λ (p : Stamped X). goes policy us p.at ≡ false)
          (λ p above. goes-above policy us p.at (λ u i. (let under = below leading u i in omega (arith, under, above)))) e.further e.above));
    })

pub gone-extended : (policy : Policy) (k : ℕ) (ss ts : List (StreamPrefix Plain)) (gone : List ℕ) → All IsPrefix ss → AreExtendedBy ss ts → AreGone policy k ss gone → AreGone policy k ts gone
gone-extended policy k ss ts gone h e are =
    let claimed = are.claimed in
    record {
      ports = are.ports ∙ same_ports ss ts e;
      claimed = omega (arith, claimed, sets-grow policy ss ts e);
      each = λ i there. (
          let was : i < length ss = omega (arith, there, same_ports ss ts e) in
          rw (← same_ports ss ts e, same_first_times policy k ss ts e claimed)
          (gone-further policy (leads policy (length ss) i) (take k (set_times policy ss)) (port_of ss i) (port_of ts i) (get_or gone i 0) (port-extended ss ts e i)
          (λ lead u j. claimed-below policy ss h i was lead u (In-take u k (set_times policy ss) j))
          (are.each i was)));
    }

-- under Mux as many packets of SELECT are gone as sets are claimed
as_many : {X : Type 0} (n k : ℕ) (xs : List X) → n ≤ length xs → k ≤ length xs → drop n xs ≡ drop k xs → n ≡ k
as_many n k xs few less same = omega (arith, few, less, ap length same, length-drop n xs, length-drop k xs)

pub selects-gone : (k : ℕ) (ss : List (StreamPrefix Plain)) (gone : List ℕ) → All IsPrefix ss → AreGone Mux k ss gone → get_or gone (length ss - 1) 0 ≡ k
selects-gone k ss gone h are =
    let xs = (select_of ss).packets in
    let n = get_or gone (length ss - 1) 0 in
    let claimed = are.claimed in
    let few : k ≤ prefix_len (is_settled ss) xs = omega (arith, claimed, length-mux_sets ss) in
    let less = prefix_len-le-length (is_settled ss) xs in
    elim (cases_lt 0 (length ss)) [
      | inl some ↦
          (let last : length ss - 1 < length ss = omega (arith, some) in
          let here = are.each (length ss - 1) last in
          let leaves = (rest-leaves Mux (leads Mux (length ss) (length ss - 1)) (take k (set_times Mux ss)) (select_of ss) n here).rest (eq-eqb (length ss - 1 + 1) (length ss) (omega (arith, some))) in
          let within = here.within in
          as_many n k xs within (omega (arith, few, less)) (leaves ∙ selects-go k ss h few))
      | inr none ↦
          (let empty : length xs ≡ 0 = ap (λ (s : StreamPrefix Plain). length s.packets) (get_or_past ss (length ss - 1) (closed empty_prefix) (omega (arith, none))) in
          let zero_gone : n ≡ 0 = get_or_past gone (length ss - 1) 0 (let ports = are.ports in omega (arith, ports, none)) in
          omega (arith, few, less, empty, zero_gone))
    ]
