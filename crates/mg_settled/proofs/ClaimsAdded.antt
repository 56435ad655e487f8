-- Claims one after the other are one claim.
use Rattle.std.proofs.Common.{◌≡◌, ℕ, zero, suc, ◌+◌, ◌<◌, Bool, true, false, ◌||◌, inl, inr, List, [], ◌∷◌, ◌++◌, map, take, drop, length, length-drop, get_or, All, ap, ap₂, sym, refl, ◌∙◌, arith}
use Rattle.std.proofs.Math.Seq.{take-add}
use Rattle.std.proofs.lemmas.Bool.{cases_Bool, or_left, or_right, or_from}
use Rattle.std.proofs.lemmas.List.{drop-map, drop-drop}
use Rattle.std.proofs.lemmas.List.Elements.{All-append, All-weaker, All-drop}
use Rattle.mg_value.specs.Payload.{Plain}
use Rattle.mg_value.specs.declared.policy.Policy.{Policy}
use Rattle.mg_value.specs.Packet.{Stamped}
use Rattle.mg_settled.specs.Prefix.{StreamPrefix, IsPrefix}
use Rattle.mg_settled.specs.Settled.{TimedSet, settled_sets, port_of}
use Rattle.mg_settled.specs.Left.{set_times, goes, without, after_sets, without_first, sums, leads, MayBeGone, AreGone}
use Rattle.mg_settled.proofs.Leaving.{left_of}
use Rattle.mg_settled.proofs.Going.{goes-append}
use Rattle.mg_settled.proofs.AfterSets.{sets-after}
use Rattle.mg_settled.proofs.GonePackets.{rest_after, length-without_first, port-without_first, sets-gone}

-- without the packets that one test passes, and then without those that another passes
left_of-twice : {X : Type 0} (f g h : ℕ → Bool) → ((t : ℕ) → h t ≡ (f t || g t)) → (ps : List (Stamped X)) → left_of g (left_of f ps) ≡ left_of h ps
left_of-twice f g h both [] = refl
left_of-twice {X} f g h both (p ∷ ps) = elim (cases_Bool (f p.at)) [
  | inl goes ↦ rw (both p.at, goes) (left_of-twice f g h both ps)
  | inr stays ↦ elim (cases_Bool (g p.at)) [
    | inl goes ↦ rw (both p.at, stays, goes) (left_of-twice f g h both ps)
    | inr left ↦ rw (both p.at, stays, left) (ap (λ (rest : List (Stamped X)). p ∷ rest) (left_of-twice f g h both ps))
  ]
]

without-twice : {X : Type 0} (f g h : ℕ → Bool) → ((t : ℕ) → h t ≡ (f t || g t)) → (ss : List (StreamPrefix X)) → map (without g) (map (without f) ss) ≡ map (without h) ss
without-twice f g h both [] = refl
without-twice {X} f g h both (s ∷ ss) =
    ap₂ (λ (ps : List (Stamped X)) (rest : List (StreamPrefix X)). record { packets = ps; bound = s.bound } ∷ rest) (left_of-twice f g h both s.packets) (without-twice f g h both ss)

-- the times of the first sets, and of further ones
further_times : (policy : Policy) (k j : ℕ) (ss rs : List (StreamPrefix Plain)) → settled_sets policy rs ≡ drop k (settled_sets policy ss) → take (k + j) (set_times policy ss) ≡ take k (set_times policy ss) ++ take j (set_times policy rs)
further_times policy k j ss rs left =
    take-add k j (set_times policy ss)
    ∙ ap (λ (ts : List ℕ). take k (set_times policy ss) ++ take j ts)
    (drop-map (λ e. e.at) k (settled_sets policy ss) ∙ ap (λ (es : List (TimedSet Plain)). map (λ e. e.at) es) (sym left))

pub after-added : (policy : Policy) (k j : ℕ) (ss : List (StreamPrefix Plain)) → All IsPrefix ss → after_sets policy j (after_sets policy k ss) ≡ after_sets policy (k + j) ss
after-added policy k j ss h =
    let rs = after_sets policy k ss in
    let ts = take k (set_times policy ss) in
    let us = take j (set_times policy rs) in
    without-twice (goes policy ts) (goes policy us) (goes policy (ts ++ us)) (goes-append policy ts us) ss
    ∙ ap (λ (vs : List ℕ). map (without (goes policy vs)) ss) (sym (further_times policy k j ss rs (sets-after policy k ss h)))

-- of one prefix: packets that go first, and packets that go of what is left then, go together
gone-joined : {X : Type 0} (policy : Policy) (lead : Bool) (ts us : List ℕ) (s : StreamPrefix X) (n m : ℕ) → MayBeGone policy lead ts s n → MayBeGone policy lead us (rest_after n s) m → MayBeGone policy lead (ts ++ us) s (n + m)
gone-joined {X} policy lead ts us s n m first more =
    let ps = s.packets in
    let Goes : Stamped X → Type 0 = λ p. goes policy (ts ++ us) p.at ≡ true in
    record {
      within = (let few = first.within in let less = more.within in omega (arith, few, less, length-drop n ps));
      go = rw (take-add n m ps)
          (All-append Goes (take n ps) (take m (drop n ps))
          (All-weaker (λ (p : Stamped X). goes policy ts p.at ≡ true) Goes (λ p e. goes-append policy ts us p.at ∙ or_left _ _ e) (take n ps) first.go)
          (All-weaker (λ (p : Stamped X). goes policy us p.at ≡ true) Goes (λ p e. goes-append policy ts us p.at ∙ or_right _ _ e) (take m (drop n ps)) more.go));
      stay = λ leading. (
          let before = All-drop (λ (p : Stamped X). goes policy ts p.at ≡ false) m (drop n ps) (first.stay leading) in
          let after = more.stay leading in
          rw (← drop-drop m n ps)
          (λ i d lt. (let p = get_or (drop m (drop n ps)) i d in goes-append policy ts us p.at ∙ or_from _ _ (before i d lt) (after i d lt))));
    }

-- all of them
sums_at : (gone more : List ℕ) (i : ℕ) → i < length gone → i < length more → get_or (sums gone more) i 0 ≡ get_or gone i 0 + get_or more i 0
sums_at [] more i lt less = absurd (omega (arith, lt))
sums_at (n ∷ gone) [] i lt less = absurd (omega (arith, less))
sums_at (n ∷ gone) (m ∷ more) zero lt less = refl
sums_at (n ∷ gone) (m ∷ more) (suc i) lt less = sums_at gone more i (omega (arith, lt)) (omega (arith, less))

length-sums : (gone more : List ℕ) → length gone ≡ length more → length (sums gone more) ≡ length gone
length-sums [] more e = refl
length-sums (n ∷ gone) [] e = absurd (omega (arith, e))
length-sums (n ∷ gone) (m ∷ more) e = omega (arith, length-sums gone more (omega (arith, e)))

pub first-added : {X : Type 0} (ss : List (StreamPrefix X)) (gone more : List ℕ) → length gone ≡ length ss → length more ≡ length ss → without_first more (without_first gone ss) ≡ without_first (sums gone more) ss
first-added [] [] [] e f = refl
first-added [] [] (m ∷ more) e f = absurd (omega (arith, f))
first-added [] (n ∷ gone) more e f = absurd (omega (arith, e))
first-added (s ∷ ss) [] more e f = absurd (omega (arith, e))
first-added (s ∷ ss) (n ∷ gone) [] e f = absurd (omega (arith, f))
first-added {X} (s ∷ ss) (n ∷ gone) (m ∷ more) e f =
    ap₂ (λ (ps : List (Stamped X)) (rest : List (StreamPrefix X)). record { packets = ps; bound = s.bound } ∷ rest) (drop-drop m n s.packets) (first-added ss gone more (omega (arith, e)) (omega (arith, f)))

pub gone-added : (policy : Policy) (k j : ℕ) (ss : List (StreamPrefix Plain)) (gone more : List ℕ) → All IsPrefix ss → AreGone policy k ss gone → AreGone policy j (without_first gone ss) more → AreGone policy (k + j) ss (sums gone more)
gone-added policy k j ss gone more h first next =
    let rs = without_first gone ss in
    let left = sets-gone policy k ss gone h first in
    let many = first.ports in
    let ports : length rs ≡ length ss = length-without_first gone ss many in
    let more_many = next.ports in
    record {
      ports = length-sums gone more (omega (arith, many, more_many, ports)) ∙ many;
      claimed = (let few = first.claimed in let less = next.claimed in omega (arith, few, less, ap length left, length-drop k (settled_sets policy ss)));
      each = λ i there. (
          let in_rs : i < length rs = omega (arith, there, ports) in
          let second : MayBeGone policy (leads policy (length ss) i) (take j (set_times policy rs)) (rest_after (get_or gone i 0) (port_of ss i)) (get_or more i 0) =
          rw (ports, port-without_first gone ss i many there) at (next.each i in_rs) in
          rw (sums_at gone more i (omega (arith, there, many)) (omega (arith, in_rs, more_many)), further_times policy k j ss rs left)
          (gone-joined policy (leads policy (length ss) i) (take k (set_times policy ss)) (take j (set_times policy rs)) (port_of ss i) (get_or gone i 0) (get_or more i 0) (first.each i there) second));
    }
