-- Links one by one: who reads what a node writes, and how many links a node waits for.
use Rattle.std.proofs.Common.{◌≡◌, ℕ, ◌+◌, ◌-◌, ◌<◌, ◌≤◌, Bool, true, false, not, ◌&&◌, ◌||◌, cond, eqb, List, [], ◌∷◌, ◌++◌, length, map, filter, take, get_or, slice_set, All, inl, inr, ◌∙◌, sym, ap, refl, arith, eq-eqb, length-set, get_or-set_same, get_or-set_other}
use Rattle.std.proofs.lemmas.Bool.{cases_eq, ne_eqb, eqb-true, false≢true}
use Rattle.std.proofs.lemmas.List.{get_or_default}
use Rattle.std.proofs.lemmas.List.Elements.{All-map, All-filter, All-weaker, All-head, All-tail}
use Rattle.std.proofs.lemmas.List.Sums.{sum_by-cons, sum_by_more, sum_by_more_le, count_by-le-length}
use Rattle.std.specs.Prelude.{count_by}
use Rattle.mg_check.specs.declared.ordering.Link.{Link}
use Rattle.mg_check.specs.Order.{is_among, IsBetween}
use Rattle.mg_check.specs.Code.Taking.{HasReaders, HasWaits, HasReleased, readers_of, waits_for}
use Rattle.mg_check.proofs.OrderFacts.{among-push}

-- ---- readers
pub readers_below : (count : ℕ) (links : List Link) (m : ℕ) → All (IsBetween count) links → All (λ n. n < count) (readers_of links m)
readers_below count links m between =
    All-map (λ n. n < count) (λ (l : Link). l.to) (filter (λ (l : Link). eqb l.from m) links)
    (All-filter (λ (l : Link). eqb l.from m) (λ (l : Link). l.to < count) links (All-weaker (IsBetween count) (λ (l : Link). l.to < count) (λ l b. b.to) links between))

-- ---- links that are waited for
count_waits : (taken : ℕ → Bool) (links : List Link) (i n : ℕ) (link : Link) → i < length links → link ≡ get_or links i link
    → count_by (waits_for taken n) (take (i + 1) links) ≡ count_by (waits_for taken n) (take i links) + cond (waits_for taken n link) 1 0
count_waits taken links i n link within read =
    sum_by_more (λ l. cond (waits_for taken n l) 1 0) links i link within ∙ ap (λ l. count_by (waits_for taken n) (take i links) + cond (waits_for taken n l) 1 0) (sym read)

pub HasWaits-more : (count : ℕ) (links : List Link) (taken : ℕ → Bool) (waiting : List ℕ) (i : ℕ) (link : Link) (more : ℕ) → i < length links → link ≡ get_or links i link
    → link.to < count → more ≡ cond (taken link.from) 0 1 → HasWaits count (take i links) taken waiting
    → HasWaits count (take (i + 1) links) taken (slice_set waiting link.to (get_or waiting link.to 0 + more))
HasWaits-more count links taken waiting i link more within read below is_more old =
    let m : ℕ = link.to in
    let w : ℕ = get_or waiting m 0 + more in
    record {
      len = length-set waiting m w ∙ old.len;
      told = λ n lt. elim (cases_eq n m) [
        | inl same ↦ ap (λ k. get_or (slice_set waiting m w) k 0) same ∙ get_or-set_same waiting m w 0 (let l = old.len in omega arith)
            ∙ ap (λ k. k + more) (old.told m below) ∙ ap (λ k. count_by (waits_for taken m) (take i links) + k) (is_more ∙ flipped (taken link.from))
            ∙ sym (ap (λ k. count_by (waits_for taken k) (take (i + 1) links)) same ∙ count_waits taken links i m link within read
            ∙ ap (λ b. count_by (waits_for taken m) (take i links) + cond (b && not (taken link.from)) 1 0) (eq-eqb m m refl))
        | inr other ↦ get_or-set_other waiting m n w 0 other ∙ old.told n lt
            ∙ sym (count_waits taken links i n link within read
            ∙ ap (λ b. count_by (waits_for taken n) (take i links) + cond (b && not (taken link.from)) 1 0) (ne_eqb m n (λ e. other (sym e)))
            ∙ omega arith)
      ];
    }
  where
    flipped : (b : Bool) → cond {A = ℕ} b 0 1 ≡ cond {A = ℕ} (not b) 1 0
    flipped true = refl
    flipped false = refl

pub HasWaits-le : (count : ℕ) (links : List Link) (taken : ℕ → Bool) (waiting : List ℕ) (i n : ℕ) → n < count → HasWaits count (take i links) taken waiting → get_or waiting n 0 ≤ length (take i links)
HasWaits-le count links taken waiting i n lt old = (let e = old.told n lt in omega (arith, e, count_by-le-length (waits_for taken n) (take i links)))

-- ---- readers that are released
pub HasReleased-waits : (readers old new : List ℕ) (i : ℕ) → i < length readers → ((n : ℕ) → n < length old → count_by (λ m. eqb m n) readers ≤ get_or old n 0)
    → get_or readers i 0 < length old → HasReleased (take i readers) old new → 0 < get_or new (get_or readers i 0) 0
HasReleased-waits readers old new i within enough below has =
    let m : ℕ = get_or readers i 0 in
    let e = has.told m below in
    let one : cond {A = ℕ} (eqb m m) 1 0 ≡ 1 = ap (λ b. cond {A = ℕ} b 1 0) (eq-eqb m m refl) in
    omega (arith, e, enough m below, sum_by_more_le (λ k. cond (eqb k m) 1 0) readers i 0 within, one)

pub HasReleased-more : (readers old new : List ℕ) (i : ℕ) → i < length readers → get_or readers i 0 < length old → 0 < get_or new (get_or readers i 0) 0
    → HasReleased (take i readers) old new → HasReleased (take (i + 1) readers) old (slice_set new (get_or readers i 0) (get_or new (get_or readers i 0) 0 - 1))
HasReleased-more readers old new i within below some has =
    let m : ℕ = get_or readers i 0 in
    let w : ℕ = get_or new m 0 - 1 in
    let step : (n : ℕ) → count_by (λ k. eqb k n) (take (i + 1) readers) ≡ count_by (λ k. eqb k n) (take i readers) + cond (eqb m n) 1 0 =
    λ n. sum_by_more (λ k. cond (eqb k n) 1 0) readers i 0 within in
    record {
      len = length-set new m w ∙ has.len;
      told = λ n lt. elim (cases_eq n m) [
        | inl same ↦
            let now : get_or (slice_set new m w) n 0 ≡ w = ap (λ k. get_or (slice_set new m w) k 0) same ∙ get_or-set_same new m w 0 (let l = has.len in omega arith) in
            let one : cond {A = ℕ} (eqb m n) 1 0 ≡ 1 = ap (λ b. cond {A = ℕ} b 1 0) (eq-eqb m n (sym same)) in
            let old_here : get_or new m 0 ≡ get_or new n 0 = ap (λ k. get_or new k 0) (sym same) in
            (let e = has.told n lt in omega (arith, e, step n, now, one, old_here))
        | inr other ↦
            let now : get_or (slice_set new m w) n 0 ≡ get_or new n 0 = get_or-set_other new m n w 0 other in
            let none : cond {A = ℕ} (eqb m n) 1 0 ≡ 0 = ap (λ b. cond {A = ℕ} b 1 0) (ne_eqb m n (λ e. other (sym e))) in
            (let e = has.told n lt in omega (arith, e, step n, now, none))
      ];
    }

-- ---- a node is taken: its readers wait for it no more
pub count_released : (links : List Link) (order : List ℕ) (m n : ℕ) → is_among order m ≡ false
    → count_by (waits_for (is_among (order ++ m ∷ [])) n) links + count_by (λ k. eqb k n) (readers_of links m) ≡ count_by (waits_for (is_among order) n) links
count_released [] order m n out = refl
count_released (link ∷ links) order m n out =
    let more : List ℕ = order ++ m ∷ [] in
    let a : Bool = eqb link.to n in
    let b : Bool = is_among order link.from in
    let c : Bool = eqb link.from m in
    let new : cond {A = ℕ} (waits_for (is_among more) n link) 1 0 ≡ cond {A = ℕ} (a && not (b || c)) 1 0 = ap (λ x. cond {A = ℕ} (a && not x) 1 0) (among-push order m link.from) in
    let apart : c ≡ true → b ≡ false = λ same. ap (λ k. is_among order k) (eqb-true link.from m same) ∙ out in
    omega (
      arith,
      count_released links order m n out,
      new,
      part a b c apart,
      readers c (filter (λ (l : Link). eqb l.from m) links),
      sum_by-cons (λ l. cond (waits_for (is_among more) n l) 1 0) link links,
      sum_by-cons (λ l. cond (waits_for (is_among order) n l) 1 0) link links,
    )
  where
    part : (a b c : Bool) → (c ≡ true → b ≡ false) → cond {A = ℕ} (a && not (b || c)) 1 0 + cond {A = ℕ} (c && a) 1 0 ≡ cond {A = ℕ} (a && not b) 1 0
    part true true true apart = absurd (false≢true (sym (apart refl)))
    part true true false apart = refl
    part true false true apart = refl
    part true false false apart = refl
    part false true true apart = refl
    part false true false apart = refl
    part false false true apart = refl
    part false false false apart = refl

    readers : (c : Bool) (rest : List Link) → count_by (λ k. eqb k n) (map (λ (l : Link). l.to) (cond c (link ∷ rest) rest))
        ≡ cond {A = ℕ} (c && eqb link.to n) 1 0 + count_by (λ k. eqb k n) (map (λ (l : Link). l.to) rest)
    readers true rest = sum_by-cons (λ k. cond (eqb k n) 1 0) link.to (map (λ (l : Link). l.to) rest)
    readers false rest = omega arith

pub HasWaits-taken : (count : ℕ) (links : List Link) (order : List ℕ) (m : ℕ) (old new : List ℕ) → is_among order m ≡ false → HasWaits count links (is_among order) old
    → HasReleased (readers_of links m) old new → HasWaits count links (is_among (order ++ m ∷ [])) new
HasWaits-taken count links order m old new out has released = record {
  len = released.len ∙ has.len;
  told = λ n lt.
      let r = released.told n (let l = has.len in omega arith) in
      let h = has.told n lt in
      omega (arith, r, h, count_released links order m n out);
}

-- the readers of a node that isn't taken wait for it
pub readers_wait : (count : ℕ) (links : List Link) (order : List ℕ) (m : ℕ) (waiting : List ℕ) → is_among order m ≡ false → HasWaits count links (is_among order) waiting
    → (n : ℕ) → n < count → count_by (λ k. eqb k n) (readers_of links m) ≤ get_or waiting n 0
readers_wait count links order m waiting out has n lt = (let h = has.told n lt in omega (arith, h, count_released links order m n out))

-- the same nodes are taken by another test
pub HasWaits-same : (count : ℕ) (links : List Link) (one other : ℕ → Bool) (waiting : List ℕ) → ((n : ℕ) → n < count → one n ≡ other n) → All (IsBetween count) links
    → HasWaits count links one waiting → HasWaits count links other waiting
HasWaits-same count links one other waiting same between has = record {
  len = has.len;
  told = λ n lt. has.told n lt ∙ agree n links between;
}
  where
    agree : (n : ℕ) (ls : List Link) → All (IsBetween count) ls → count_by (waits_for one n) ls ≡ count_by (waits_for other n) ls
    agree n [] all = refl
    agree n (l ∷ ls) all =
        let here : cond {A = ℕ} (waits_for one n l) 1 0 ≡ cond {A = ℕ} (waits_for other n l) 1 0 = ap (λ b. cond {A = ℕ} (eqb l.to n && not b) 1 0) (same l.from (All-head (IsBetween count) l ls all).from) in
        omega (arith, here, agree n ls (All-tail (IsBetween count) l ls all), sum_by-cons (λ x. cond (waits_for one n x) 1 0) l ls, sum_by-cons (λ x. cond (waits_for other n x) 1 0) l ls)

-- a row that is read is that of the node
pub row_is : (count : ℕ) (links : List Link) (rows : List (List ℕ)) (m : ℕ) (row : List ℕ) → HasReaders count links rows → m < count → row ≡ get_or rows m row → row ≡ readers_of links m
row_is count links rows m row has lt read = read ∙ get_or_default rows m row [] (let l = has.len in omega arith) ∙ has.rows m lt
