-- The packets that are gone with a further claim.
use Rattle.std.proofs.Common.{◌≡◌, ℕ, zero, suc, ◌+◌, ◌<◌, ◌≤◌, Bool, true, false, inl, inr, List, [], ◌∷◌, ◌++◌, ◌||◌, map, take, drop, length, get_or, All, IsTrue, ap, sym, refl, ◌∙◌, arith}
use Rattle.std.specs.List.{AllZip}
use Rattle.std.proofs.Math.Seq.{take-add}
use Rattle.std.proofs.lemmas.Bool.{cases_Bool, or_left, or_right, or_from}
use Rattle.std.proofs.lemmas.List.{drop-map, get_or-map}
use Rattle.std.proofs.lemmas.List.Elements.{recursion_from_All, All-from_recursion}
use Rattle.mg_value.specs.Payload.{Plain}
use Rattle.mg_value.specs.declared.policy.Policy.{Policy}
use Rattle.mg_value.specs.Packet.{Stamped}
use Rattle.mg_settled.specs.Prefix.{StreamPrefix, IsPrefix, closed, empty_prefix}
use Rattle.mg_settled.specs.Settled.{TimedSet, times_of, settled_sets, port_of}
use Rattle.mg_settled.specs.Left.{set_times, goes, without, after_sets, without_first, leads, MayBeGone, AreGone}
use Rattle.mg_settled.proofs.Times.{In, not-In-take, In-take_or_drop, In-take}
use Rattle.mg_settled.proofs.Leaving.{left_of, In-left_of_from, In-left_of_to, each-packet, each-time, times-take, times-drop}
use Rattle.mg_settled.proofs.Going.{goes-append}
use Rattle.mg_settled.proofs.Climbs.{prefix-rises}
use Rattle.mg_settled.proofs.Ports.{port-prefix}
use Rattle.mg_settled.proofs.GonePackets.{rest_after, length-without_first, port-without_first, sets-gone}

-- of one prefix: the packets that go with a further set join those that are gone
joined : {X : Type 0} (policy : Policy) (lead : Bool) (ts us : List ℕ) (s : StreamPrefix X) (n m : ℕ) → IsPrefix s → MayBeGone policy lead ts s n → m ≤ length s.packets → drop m s.packets ≡ left_of (goes policy us) (drop n s.packets) → MayBeGone policy lead (ts ++ us) s m
joined {X} policy lead ts us s n m h gone few left = record {
  within = few;
  go = All-from_recursion Goes (take m s.packets) (each-packet (λ t. goes policy (ts ++ us) t ≡ true) (take m s.packets) (λ t i. goes-append policy ts us t ∙ went t i));
  stay = λ leading. All-from_recursion Stays (drop m s.packets) (each-packet (λ t. goes policy (ts ++ us) t ≡ false) (drop m s.packets) (λ t i. goes-append policy ts us t ∙ stayed leading t i));
}
  where
    Goes : Stamped X → Type 0
    Goes p = goes policy (ts ++ us) p.at ≡ true

    Stays : Stamped X → Type 0
    Stays p = goes policy (ts ++ us) p.at ≡ false

    gone_before : (t : ℕ) → In t (times_of (take n s.packets)) → goes policy ts t ≡ true
    gone_before = each-time (λ t. goes policy ts t ≡ true) (take n s.packets) (recursion_from_All (λ (p : Stamped X). goes policy ts p.at ≡ true) (take n s.packets) gone.go)

    -- a packet that was left and doesn't go is left
    goes_now : (t : ℕ) → In t (take m (times_of s.packets)) → In t (times_of (drop n s.packets)) → goes policy us t ≡ true
    goes_now t early i = elim (cases_Bool (goes policy us t)) [
      | inl goes ↦ goes
      | inr stays ↦
          (let late : In t (times_of (drop m s.packets)) = rw left (In-left_of_to (goes policy us) t (drop n s.packets) stays i) in
          absurd (not-In-take 0 t m (times_of s.packets) (prefix-rises s h) (rw (times-drop m s.packets) at late) early))
    ]

    went : (t : ℕ) → In t (times_of (take m s.packets)) → (goes policy ts t || goes policy us t) ≡ true
    went t i =
        let early : In t (take m (times_of s.packets)) = rw (times-take m s.packets) at i in
        elim (In-take_or_drop t n (times_of s.packets) (In-take t m (times_of s.packets) early)) [
          | inl before ↦ or_left _ _ (gone_before t (rw (times-take n s.packets) before))
          | inr after ↦ or_right _ _ (goes_now t early (rw (times-drop n s.packets) after))
        ]

    stayed : IsTrue lead → (t : ℕ) → In t (times_of (drop m s.packets)) → (goes policy ts t || goes policy us t) ≡ false
    stayed leading t i =
        let was = In-left_of_from (goes policy us) t (drop n s.packets) (rw left at i) in
        let before = each-time (λ u. goes policy ts u ≡ false) (drop n s.packets) (recursion_from_All (λ (p : Stamped X). goes policy ts p.at ≡ false) (drop n s.packets) (gone.stay leading)) t was.0 in
        or_from _ _ before was.1

-- the times of one more set
one_more_time : (policy : Policy) (k : ℕ) (ss : List (StreamPrefix Plain)) (gone : List ℕ) → All IsPrefix ss → AreGone policy k ss gone → take (k + 1) (set_times policy ss) ≡ take k (set_times policy ss) ++ take 1 (set_times policy (without_first gone ss))
one_more_time policy k ss gone h are =
    take-add k 1 (set_times policy ss)
    ∙ ap (λ (ts : List ℕ). take k (set_times policy ss) ++ take 1 ts)
    (drop-map (λ e. e.at) k (settled_sets policy ss) ∙ ap (λ (es : List (TimedSet Plain)). map (λ e. e.at) es) (sym (sets-gone policy k ss gone h are)))

pub gone-claimed : (policy : Policy) (k : ℕ) (ss : List (StreamPrefix Plain)) (gone more : List ℕ) → All IsPrefix ss → AreGone policy k ss gone → k < length (settled_sets policy ss) → AllZip (λ s n. n ≤ length s.packets) ss more
    → without_first more ss ≡ after_sets policy 1 (without_first gone ss) → AreGone policy (k + 1) ss more
gone-claimed policy k ss gone more h are below few left =
    let rs = without_first gone ss in
    let us = take 1 (set_times policy rs) in
    let many : length more ≡ length ss = omega (arith, zip_length ss more few) in
    record {
      ports = many;
      claimed = omega (arith, below);
      each = λ i there. (
          let m = get_or more i 0 in
          let s = port_of ss i in
          let in_rs : i < length rs = omega (arith, there, length-without_first gone ss are.ports) in
          let here : rest_after m s ≡ without (goes policy us) (rest_after (get_or gone i 0) s) =
          sym (port-without_first more ss i many there)
          ∙ ap (λ (ls : List (StreamPrefix Plain)). port_of ls i) left
          ∙ get_or-map (without (goes policy us)) rs i (closed empty_prefix) (closed empty_prefix) in_rs
          ∙ ap (without (goes policy us)) (port-without_first gone ss i are.ports there) in
          rw (one_more_time policy k ss gone h are)
          (joined policy (leads policy (length ss) i) (take k (set_times policy ss)) us s (get_or gone i 0) m (port-prefix ss h i) (are.each i there)
          (zip_at ss more i few there) (ap (λ (r : StreamPrefix Plain). r.packets) here)));
    }
  where
    zip_length : (ts : List (StreamPrefix Plain)) (ns : List ℕ) → AllZip (λ s n. n ≤ length s.packets) ts ns → length ns ≡ length ts
    zip_length [] [] e = refl
    zip_length [] (n ∷ ns) e = absurd e
    zip_length (t ∷ ts) [] e = absurd e
    zip_length (t ∷ ts) (n ∷ ns) e = omega (arith, zip_length ts ns e.1)

    zip_at : (ts : List (StreamPrefix Plain)) (ns : List ℕ) (i : ℕ) → AllZip (λ s n. n ≤ length s.packets) ts ns → i < length ts → get_or ns i 0 ≤ length (port_of ts i).packets
    zip_at [] ns i e lt = absurd (omega (arith, lt))
    zip_at (t ∷ ts) [] i e lt = absurd e
    zip_at (t ∷ ts) (n ∷ ns) zero e lt = e.0
    zip_at (t ∷ ts) (n ∷ ns) (suc i) e lt = zip_at ts ns i e.1 (omega (arith, lt))
