-- What is left at a level is taken out, place by place.
use Rattle.std.proofs.Common.{◌≡◌, ℕ, ◌+◌, ◌≤◌, List, [], ◌∷◌, ◌++◌, length, map, sym, refl, ap, ◌∙◌, arith, append_assoc}
use Rattle.std.proofs.lemmas.List.{length-append, length-map, map-append}
use Rattle.crossbeam_queue.specs.Fifo.{Held}
use Rattle.mg_levels.specs.declared.share.Share.{Share}
use Rattle.mg_levels.specs.Balance.{share, whole, with_taken, weigh, Knows}
use Rattle.mg_levels.specs.Hands.{HandView, share_of}
use Rattle.mg_levels.specs.Places.{node_of}
use Rattle.mg_levels.specs.Code.Drained.{Drained, IsDraining}
use Rattle.mg_levels.proofs.Sums.{weigh-append}

one : ℕ → ℕ
one _ = 1

weigh-one : (xs : List ℕ) → weigh one xs ≡ length xs
unfolding one
weigh-one [] = refl
weigh-one (x ∷ xs) = omega (arith, weigh-one xs)

nothing : (xs : List ℕ) → length xs ≡ 0 → xs ≡ []
nothing [] none = refl
nothing (x ∷ xs) none = absurd (omega (arith, none))

module _ (order : List ℕ) (v now : Share) (old new : List ℕ) where
  -- what a level still holds is what it held at first without the places that were taken out
  pub left_then : (done count n : ℕ) → IsDraining done order v now old new → v.portion ≡ whole → Held count (Knows v) → Held n (Knows now) → done + n ≡ count
  left_then done count n d all first then =
      let portion : now.portion ≡ whole = ap (λ (s : Share). s.portion) d.now_is ∙ all in
      let put : now.put ≡ v.put = ap (λ (s : Share). s.put) d.now_is in
      let taken : now.taken ≡ v.taken ++ d.places = ap (λ (s : Share). s.taken) d.now_is in
      let a : weigh one v.put ≡ weigh one v.taken + weigh one first.0 = first.2 all one in
      let b : weigh one now.put ≡ weigh one now.taken + weigh one then.0 = then.2 portion one in
      let p : weigh one now.put ≡ weigh one v.put = ap (weigh one) put in
      let t : weigh one now.taken ≡ weigh one v.taken + weigh one d.places = ap (weigh one) taken ∙ weigh-append one v.taken d.places in
      let m : length d.places ≡ done = d.many in
      let x : length first.0 ≡ count = first.1 in
      let y : length then.0 ≡ n = then.1 in
      omega (arith, a, b, p, t, m, x, y, weigh-one first.0, weigh-one then.0, weigh-one d.places)

  pub length_then : (done : ℕ) → IsDraining done order v now old new → length new ≡ length old + done
  length_then done d =
      let l = length-append old (map (node_of order) d.places) in
      let m : length (map (node_of order) d.places) ≡ done = length-map d.places (node_of order) ∙ d.many in
      let p : length new ≡ length (old ++ map (node_of order) d.places) = ap length d.put in
      omega (arith, l, m, p)

  pub goes_on : (done place : ℕ) (next : Share) (newer : List ℕ) → IsDraining done order v now old new → next ≡ with_taken now place → newer ≡ new ++ node_of order place ∷ []
      → IsDraining (done + 1) order v next old newer
  goes_on done place next newer d takes pushes = record {
    places = d.places ++ place ∷ [];
    many = let l = length-append d.places (place ∷ []) in let m = d.many in omega (arith, l, m);
    put = pushes ∙ ap (λ l. l ++ node_of order place ∷ []) d.put ∙ append_assoc old (map (node_of order) d.places) (node_of order place ∷ [])
        ∙ ap (λ l. old ++ l) (sym (map-append (node_of order) d.places (place ∷ [])));
    now_is = takes ∙ ap (λ (s : Share). with_taken s place) d.now_is ∙ ap (λ l. share v.portion v.put l) (append_assoc v.taken d.places (place ∷ []));
  }

  pub drained : (count room : ℕ) (h : HandView) → IsDraining count order v now old new → v ≡ share_of h → v.portion ≡ whole → Held count (Knows v)
      → ((items : List ℕ) × Knows now items) → count ≤ room → Drained room order h old new
  drained count room h d is all first end few =
      let rest : count + length end.0 ≡ count = left_then count count (length end.0) d all first (end.0, refl, end.1) in
      let none : end.0 ≡ [] = nothing end.0 (omega (arith, rest)) in
      let portion : now.portion ≡ whole = ap (λ (s : Share). s.portion) d.now_is ∙ all in
      record {
        places = d.places;
        few = let m = d.many in omega (arith, m, few);
        put = d.put;
        even = λ weight.
            let e : weigh weight now.put ≡ weigh weight now.taken + weigh weight end.0 = end.1 portion weight in
            let z : weigh weight end.0 ≡ 0 = ap (weigh weight) none in
            let p : weigh weight now.put ≡ weigh weight h.put = ap (λ (s : Share). weigh weight s.put) d.now_is ∙ ap (λ (s : Share). weigh weight s.put) is in
            let t : weigh weight now.taken ≡ weigh weight v.taken + weigh weight d.places = ap (λ (s : Share). weigh weight s.taken) d.now_is ∙ weigh-append weight v.taken d.places in
            let u : weigh weight v.taken ≡ weigh weight h.taken = ap (λ (s : Share). weigh weight s.taken) is in
            omega (arith, e, z, p, t, u);
      }
