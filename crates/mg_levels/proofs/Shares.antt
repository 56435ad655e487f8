-- Each step at a level keeps its rule.
use Rattle.std.proofs.Common.{◌≡◌, ◌≢◌, ℕ, ◌<◌, List, [], ◌∷◌, set, sym, refl, ap, ◌∙◌, subst, ⊎_elim, arith}
use mathlib.Core.Option.{some}
use lib.ListN.{get_elem?}
use Rattle.crossbeam_queue.specs.Fifo.{Pushes, Pops, Forks, Merges, Learns}
use Rattle.crossbeam_queue.proofs.Lists.{at_set, at_snoc}
use Rattle.mg_levels.specs.declared.share.Share.{Share}
use Rattle.mg_levels.specs.Balance.{share, with_put, with_taken, kept_of, both, weigh, total, IdleIsEmpty, Balanced, Knows}
use Rattle.mg_levels.proofs.Sums.{weigh-append, total-append, total-set, terms_le, total-only}

abbrev part : Share → ℕ
part v = v.portion

abbrev put_by : (ℕ → ℕ) → Share → ℕ
put_by h v = weigh h v.put

abbrev taken_by : (ℕ → ℕ) → Share → ℕ
taken_by h v = weigh h v.taken

idle_set : (views : List Share) (number : ℕ) (w : Share) → (w.portion ≡ 0 → (w.put ≡ []) × (w.taken ≡ [])) → IdleIsEmpty views → IdleIsEmpty (set views number w)
idle_set views number w mine old j u e none = ⊎_elim
    (λ (x : (j ≡ number) × (w ≡ u)). subst (λ (y : Share). (y.put ≡ []) × (y.taken ≡ [])) x.1 (mine (ap (λ (y : Share). y.portion) x.1 ∙ none)))
    (λ (x : (j ≢ number) × (get_elem? views j ≡ some u)). old j u x.1 none) (at_set views number j w u e)

pub puts : (n number : ℕ) (v : Share) (x : ℕ) → 0 < v.portion → Pushes Balanced n number v x (λ w. w ≡ with_put v x)
puts n number v x some_part items views room b at = let w = with_put v x in (
  w,
  record {
    portions = let s = total-set part views number v w at in let p = b.portions in omega (arith, s, p);
    even = λ h.
        let s = total-set (put_by h) views number v w at in
        let t = total-set (taken_by h) views number v w at in
        let p = b.even h in
        omega (arith, s, t, p, weigh-append h v.put (x ∷ []), weigh-append h items (x ∷ []));
    idle = idle_set views number w (λ none. absurd (omega (arith, some_part, none))) b.idle;
  },
  refl,
)

pub takes : (number : ℕ) (v : Share) → 0 < v.portion → Pops Balanced number v (λ x w. w ≡ with_taken v x)
takes number v some_part x items views b at = let w = with_taken v x in (
  w,
  record {
    portions = let s = total-set part views number v w at in let p = b.portions in omega (arith, s, p);
    even = λ h.
        let s = total-set (put_by h) views number v w at in
        let t = total-set (taken_by h) views number v w at in
        let p = b.even h in
        omega (arith, s, t, p, weigh-append h v.taken (x ∷ []));
    idle = idle_set views number w (λ none. absurd (omega (arith, some_part, none))) b.idle;
  },
  refl,
)

pub forks : (number amount : ℕ) (v : Share) → 0 < amount → amount < v.portion → Forks Balanced number v (kept_of amount v) (share amount [] [])
forks number amount v more less items views b at =
    let l = kept_of amount v in
    let r = share amount [] [] in
    let vs : List Share = set views number l in
    let old : IdleIsEmpty vs = idle_set views number l (λ none. absurd (omega (arith, less, none))) b.idle in
    record {
      portions = let s = total-set part views number v l at in let a = total-append part vs (r ∷ []) in let p = b.portions in omega (arith, s, a, p, less);
      even = λ h.
          let s = total-set (put_by h) views number v l at in
          let t = total-set (taken_by h) views number v l at in
          let a = total-append (put_by h) vs (r ∷ []) in
          let c = total-append (taken_by h) vs (r ∷ []) in
          let p = b.even h in
          omega (arith, s, t, a, c, p);
      idle = λ j u e none. ⊎_elim (λ x. old j u x none)
          (λ (is : r ≡ u). (ap (λ (y : Share). y.put) (sym is), ap (λ (y : Share). y.taken) (sym is))) (at_snoc vs r u j e);
    }

pub merges : (number : ℕ) (v : Share) (other : ℕ) (u : Share) → 0 < v.portion → Merges Balanced number v other u (both v u) (share 0 [] [])
merges number v other u mine items views b at apart at' =
    let w = both v u in
    let spent = share 0 [] [] in
    let vs : List Share = set views number w in
    let old : IdleIsEmpty vs = idle_set views number w (λ none. absurd (omega (arith, mine, none))) b.idle in
    record {
      portions = let s = total-set part views number v w at in let t = total-set part vs other u spent at' in let p = b.portions in omega (arith, s, t, p);
      even = λ h.
          let s = total-set (put_by h) views number v w at in
          let s' = total-set (put_by h) vs other u spent at' in
          let t = total-set (taken_by h) views number v w at in
          let t' = total-set (taken_by h) vs other u spent at' in
          let p = b.even h in
          omega (arith, s, s', t, t', p, weigh-append h v.put u.put, weigh-append h v.taken u.taken);
      idle = idle_set vs other spent (λ _. (refl, refl)) old;
    }

pub learns : (number : ℕ) (v : Share) → Learns Balanced number v (Knows v)
learns number v items views b at whole_mine h =
    let others : (k : ℕ) (u : Share) → k ≢ number → get_elem? views k ≡ some u → (u.put ≡ []) × (u.taken ≡ []) =
    λ k u apart there. b.idle k u there (let t = terms_le part views number k v u apart at there in let p = b.portions in omega (arith, t, p, whole_mine)) in
    let s : total (put_by h) views ≡ weigh h v.put = total-only (put_by h) views number v at (λ k u apart there. ap (weigh h) (others k u apart there).0) in
    let t : total (taken_by h) views ≡ weigh h v.taken = total-only (taken_by h) views number v at (λ k u apart there. ap (weigh h) (others k u apart there).1) in
    let p = b.even h in
    omega (arith, s, t, p)
