-- The queues that are listed, and those among them that are relaxed.
use Rattle.std.proofs.Common.{◌≡◌, ◌≢◌, ℕ, ◌<◌, Bool, true, false, ◌||◌, cond, eqb, List, length, map, get_or, slice_set, replicate, All, ◌∙◌, sym, ap, subst, inl, inr, refl, arith, length-set, get_or-set_same, get_or-set_other}
use Rattle.std.specs.List.{list_any}
use Rattle.std.proofs.lemmas.Bool.{cases_eq, cases_Bool, false≢true, and_left}
use Rattle.std.proofs.lemmas.List.{length-map, get_or-map, get_or_default, same_lists, ext_get_or, get_or-replicate, length-replicate}
use Rattle.std.proofs.lemmas.List.Folds.{list_any_none, list_any_at}
use Rattle.mg_calc.specs.Plan.{HasEachOnce}
use Rattle.mg_ready.specs.Ready.{ReadyNodes, IsIn, IsEmpty, IsHighest, ChangesOnly}
use Rattle.mg_throttle.specs.declared.queue.Queue.{Queue}
use Rattle.mg_throttle.specs.Throttle.{is_full, relaxed, stopped, is_reached}
use Rattle.mg_throttle.specs.Code.Kept.{presses, IsKept, AreListed, RelaxesTo}
use Rattle.mg_throttle.proofs.Queues.{count_none}
use Rattle.mg_throttle.proofs.Counts.{with_packets, not_full_relaxed}

highest_in : (r : ReadyNodes) (node : ℕ) → IsHighest r node → IsIn r node
highest_in r node h = (h.place, h.here)

pub highest_below : (queues : List Queue) (r : ReadyNodes) (node : ℕ) → HasEachOnce (length queues) r.order → IsHighest r node → node < length queues
highest_below queues r node h high = subst (λ (n : ℕ). n < length queues) high.here.node_at (h.below high.place 0 high.here.within)

-- Relaxing.

pub relaxes_none : (queues : List Queue) (listed : ReadyNodes) → AreListed queues listed → RelaxesTo queues queues listed listed false
relaxes_none queues listed h = record {
  len = refl;
  order = refl;
  waits = λ k d there. refl;
  done = λ k d within out. sym (not_relaxed (get_or queues k d) (not_full k d within out));
  some = λ is. absurd (false≢true is);
  none = λ is k d within out. not_full k d within out;
}
  where
    not_full : (k : ℕ) (d : Queue) → k < length queues → ¬ IsIn listed k → is_full (get_or queues k d) ≡ false
    not_full k d within out = elim (cases_Bool (is_full (get_or queues k d))) [
      | inl full ↦ absurd (out (h.full k d within full))
      | inr other ↦ other
    ]

    not_relaxed : (q : Queue) → is_full q ≡ false → relaxed q ≡ q
    not_relaxed q is = rw is refl

pub relaxes_more : (old now : List Queue) (first listed listed_now : ReadyNodes) (any : Bool) (number : ℕ) (q : Queue) → RelaxesTo old now first listed any → IsHighest listed number → ¬ IsIn listed_now number
    → ChangesOnly listed listed_now number → number < length now → q ≡ get_or now number q → RelaxesTo old (slice_set now number (relaxed q)) first listed_now (any || is_full q)
relaxes_more old now first listed listed_now any number q h high out only within read =
    let len = h.len in
    let there = highest_in listed number high in
    let inside : number < length old = omega (arith, within, len) in
    let was : q ≡ get_or old number q = read ∙ h.waits number q there in
    let was_out : (k : ℕ) → k ≢ number → ¬ IsIn listed_now k → ¬ IsIn listed k = λ k other not there_now. not ((only.others k other).1 there_now) in
    record {
      len = length-set now number (relaxed q) ∙ len;
      order = only.order ∙ h.order;
      waits = λ k d in_now. elim (cases_eq k number) [
        | inl same ↦ absurd (out (subst (λ (n : ℕ). IsIn listed_now n) same in_now))
        | inr other ↦ get_or-set_other now number k (relaxed q) d other ∙ h.waits k d ((only.others k other).0 in_now)
      ];
      done = λ k d low not. elim (cases_eq k number) [
        | inl same ↦ ap (λ (n : ℕ). get_or (slice_set now number (relaxed q)) n d) same ∙ get_or-set_same now number (relaxed q) d within
            ∙ ap relaxed (was ∙ get_or_default old number q d inside ∙ ap (λ (n : ℕ). get_or old n d) (sym same))
        | inr other ↦ get_or-set_other now number k (relaxed q) d other ∙ h.done k d low (was_out k other not)
      ];
      some = some_more any (is_full q) (list_any is_full old) h.some (λ full. list_any_at is_full old number q inside (ap is_full (sym was) ∙ full));
      none = λ is k d low not. elim (cases_eq k number) [
        | inl same ↦ ap is_full (ap (λ (n : ℕ). get_or old n d) same ∙ get_or_default old number d q inside ∙ sym was) ∙ right_none any (is_full q) is
        | inr other ↦ h.none (left_none any (is_full q) is) k d low (was_out k other not)
      ];
    }
  where
    some_more : (a b c : Bool) → (a ≡ true → c ≡ true) → (b ≡ true → c ≡ true) → (a || b) ≡ true → c ≡ true
    some_more true b c f g is = f refl
    some_more false b c f g is = g is

    right_none : (a b : Bool) → (a || b) ≡ false → b ≡ false
    right_none true b is = absurd (false≢true (sym is))
    right_none false b is = is

    left_none : (a b : Bool) → (a || b) ≡ false → a ≡ false
    left_none true b is = is
    left_none false b is = refl

-- one more, read at the place that was taken
pub relaxes_on : (old now : List Queue) (first listed listed_now : ReadyNodes) (any full : Bool) (number : ℕ) (d more : Queue) → RelaxesTo old now first listed any → HasEachOnce (length old) first.order → IsHighest listed number
    → ¬ IsIn listed_now number → ChangesOnly listed listed_now number → full ≡ is_full (get_or now number d) → more ≡ relaxed (get_or now number d) → RelaxesTo old (slice_set now number more) first listed_now (any || full)
relaxes_on old now first listed listed_now any full number d more h numbers high out only full_is more_is =
    let q = get_or now number d in
    let len = h.len in
    let below : number < length old = highest_below old listed number (subst (HasEachOnce (length old)) (sym h.order) numbers) high in
    let within : number < length now = omega (arith, below, len) in
    subst (λ (x : Queue). RelaxesTo old (slice_set now number x) first listed_now (any || full)) (sym more_is)
    (subst (λ (b : Bool). RelaxesTo old (slice_set now number (relaxed q)) first listed_now (any || b)) (sym full_is)
    (relaxes_more old now first listed listed_now any number q h high out only within (get_or_default now number d q within)))

pub relaxes_all : (old now : List Queue) (first listed : ReadyNodes) (any : Bool) → RelaxesTo old now first listed any → IsEmpty listed → (now ≡ map relaxed old) × (any ≡ list_any is_full old)
relaxes_all old now first listed any h empty =
    let len = h.len in (
      same_lists now (map relaxed old) (len ∙ sym (length-map old relaxed))
          (λ k d within. let inside : k < length old = omega (arith, within, len) in h.done k d inside (empty k) ∙ sym (get_or-map relaxed old k d d inside)),
      of any h.some h.none,
    )
  where
    of : (any : Bool) → (any ≡ true → list_any is_full old ≡ true) → (any ≡ false → (k : ℕ) (d : Queue) → k < length old → ¬ IsIn listed k → is_full (get_or old k d) ≡ false) → any ≡ list_any is_full old
    of true some none = sym (some refl)
    of false some none = sym (list_any_none is_full old (λ k d within. none refl k d within (empty k)))

-- if no queue is full, no queue is relaxed
pub none_relaxed : (queues : List Queue) → list_any is_full queues ≡ false → map relaxed queues ≡ queues
none_relaxed queues none = same_lists (map relaxed queues) queues (length-map queues relaxed)
    (λ k d within. let long = length-map queues relaxed in
    let inside : k < length queues = omega (arith, within, long) in
    get_or-map relaxed queues k d d inside ∙ same (get_or queues k d) (λ full. false≢true (sym none ∙ list_any_at is_full queues k d inside full)))
  where
    same : (q : Queue) → (is_full q ≡ true → ⊥) → relaxed q ≡ q
    same q not_full = go (is_full q) refl
      where
        go : (b : Bool) → is_full q ≡ b → relaxed q ≡ q
        go true is = absurd (not_full is)
        go false is = rw is refl

-- if no queue is full, all counts are 0
pub none_counted : (queues : List Queue) (rows : List (List Bool)) (counts : List ℕ) → IsKept queues rows counts → list_any is_full queues ≡ false
    → counts ≡ replicate (length counts) 0
none_counted queues rows counts kept none =
    ext_get_or 0 counts (replicate (length counts) 0) (sym (length-replicate (length counts) 0))
    (λ f inside. kept.counted f inside
    ∙ (count_none (presses rows f) queues (λ k d within. and_left (is_full (get_or queues k d)) (is_reached rows f (get_or queues k d).node) (not_full k d within))
    ∙ sym (get_or-replicate (length counts) f 0 0 inside)))
  where
    not_full : (k : ℕ) (d : Queue) → k < length queues → is_full (get_or queues k d) ≡ false
    not_full k d within = elim (cases_Bool (is_full (get_or queues k d))) [
      | inl full ↦ absurd (false≢true (sym none ∙ list_any_at is_full queues k d within full))
      | inr other ↦ other
    ]

-- What is listed after each change.

pub listed_fresh : (queues : List Queue) (listed : ReadyNodes) → All (λ q. is_full q ≡ false) queues → HasEachOnce (length queues) listed.order → AreListed queues listed
listed_fresh queues listed none numbers = record { numbers = numbers; full = λ k d within full. absurd (false≢true (sym (none k d within) ∙ full)) }

pub listed_relaxed : (queues : List Queue) (listed now : ReadyNodes) → AreListed queues listed → now.order ≡ listed.order → AreListed (map relaxed queues) now
listed_relaxed queues listed now h order = record {
  numbers = subst (λ (n : ℕ). HasEachOnce n now.order) (sym (length-map queues relaxed)) (subst (HasEachOnce (length queues)) (sym order) h.numbers);
  full = λ k d within full.
      (let long = length-map queues relaxed in
      let is = sym (not_full_relaxed (get_or queues k d)) ∙ ap is_full (sym (get_or-map relaxed queues k d d (omega (arith, within, long)))) ∙ full in
      absurd (false≢true is));
}

pub listed_stopped : (node : ℕ) (queues : List Queue) (listed : ReadyNodes) → AreListed queues listed → AreListed (map (stopped node) queues) listed
listed_stopped node queues listed h =
    let long = length-map queues (stopped node) in
    record {
      numbers = subst (λ (n : ℕ). HasEachOnce n listed.order) (sym long) h.numbers;
      full = λ k d within full.
          (let inside : k < length queues = omega (arith, within, long) in
          h.full k d inside (was_full (get_or queues k d) (ap is_full (sym (get_or-map (stopped node) queues k d d inside)) ∙ full)));
    }
  where
    was_full : (q : Queue) → is_full (stopped node q) ≡ true → is_full q ≡ true
    was_full q full = go (eqb q.node node) full
      where
        go : (b : Bool) → is_full (cond b (record q { counts = false }) q) ≡ true → is_full q ≡ true
        go true is = absurd (false≢true is)
        go false is = is

pub listed_noted : (queues : List Queue) (listed now : ReadyNodes) (i packets : ℕ) (q : Queue) → AreListed queues listed → IsIn now i → ChangesOnly listed now i → AreListed (slice_set queues i (with_packets q packets)) now
listed_noted queues listed now i packets q h there only =
    let more = with_packets q packets in
    let long = length-set queues i more in
    record {
      numbers = subst (λ (n : ℕ). HasEachOnce n now.order) (sym long) (subst (HasEachOnce (length queues)) (sym only.order) h.numbers);
      full = λ k d within full. elim (cases_eq k i) [
        | inl same ↦ subst (λ (n : ℕ). IsIn now n) (sym same) there
        | inr other ↦ (only.others k other).1 (h.full k d (omega (arith, within, long)) (ap is_full (sym (get_or-set_other queues i k more d other)) ∙ full))
      ];
    }

pub listed_same : (queues : List Queue) (listed : ReadyNodes) (i packets : ℕ) (q : Queue) → AreListed queues listed → i < length queues → q ≡ get_or queues i q → is_full q ≡ is_full (with_packets q packets)
    → AreListed (slice_set queues i (with_packets q packets)) listed
listed_same queues listed i packets q h inside read same_full =
    let more = with_packets q packets in
    let long = length-set queues i more in
    record {
      numbers = subst (λ (n : ℕ). HasEachOnce n listed.order) (sym long) h.numbers;
      full = λ k d within full. elim (cases_eq k i) [
        | inl same ↦
            (let set : is_full more ≡ true = ap is_full (sym (ap (λ (n : ℕ). get_or (slice_set queues i more) n d) same ∙ get_or-set_same queues i more d inside)) ∙ full in
            subst (λ (n : ℕ). IsIn listed n) (sym same) (h.full i q inside (ap is_full (sym read) ∙ same_full ∙ set)))
        | inr other ↦ h.full k d (omega (arith, within, long)) (ap is_full (sym (get_or-set_other queues i k more d other)) ∙ full)
      ];
    }
