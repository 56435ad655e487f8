-- Loopbacks that stand for prefixes of MAIN and LOOP with a number of answers given.
use Rattle.std.proofs.Common.{◌≡◌, ℕ, zero, suc, ◌+◌, ◌<◌, ◌≤◌, true, false, inl, inr, List, [], ◌∷◌, ◌++◌, take, drop, length, length-take, All, Option, Some, None, is_some, option_map, unwrap_or, slice_get, IsSomeAnd, ltb, ap, subst, sym, refl, ◌∙◌, arith}
use Rattle.std.specs.Prelude.{if◌then◌else◌}
use Rattle.std.specs.List.{prefix_len, filter_map}
use Rattle.std.proofs.lemmas.Bool.{cases_Bool, le-ltb, lt-ltb}
use Rattle.std.proofs.lemmas.List.{take_all, take-append-le}
use Rattle.std.proofs.lemmas.List.Elements.{All-nil, All-weaker, recursion_from_All}
use Rattle.mg_value.specs.Packet.{Stamped}
use Rattle.mg_settled.specs.Prefix.{StreamPrefix, first_time, empty_prefix}
use Rattle.mg_settled.specs.Extension.{IsExtendedBy}
use Rattle.mg_settled.specs.Loopback.{is_answered, with_previous, found, Reply, replies, packet_of, loopback}
use Rattle.mg_settled.proofs.PrefixSteps.{empty_is_prefix}
use Rattle.mg_settled.proofs.Climbs.{Climbs, prefix-climbs}
use Rattle.mg_settled.proofs.Leaving.{packet_at-drop}
use Rattle.mg_settled.proofs.LoopbackStream.{length-replies, replies-stay, replies-most}
use Rattle.mg_stream.specs.Queue.{Waiting, StandsFor, empty_queue}
use Rattle.mg_stream.proofs.QueueSteps.{stands_like, stands_without_first}
use Rattle.mg_loopback.specs.Loopback.{Held, value_at, next_reply, without, replied, reached, IsFresh, IsAsFar}
use Rattle.mg_loopback.specs.Standing.{time_before, StandsAfter, after_replies}
use Rattle.mg_loopback.proofs.Turns.{before, first_reply, get-reply, before-time}
use Rattle.mg_loopback.proofs.Leaving.{stands_without, gone_without}

-- elements by their number
get-drop : {X : Type 0} (k : ℕ) (xs : List X) → slice_get (drop k xs) 0 ≡ slice_get xs k
get-drop zero [] = refl
get-drop zero (x ∷ xs) = refl
get-drop (suc k) [] = refl
get-drop (suc k) (x ∷ xs) = get-drop k xs

get-append : {X : Type 0} (k : ℕ) (xs ys : List X) → k < length xs → slice_get (xs ++ ys) k ≡ slice_get xs k
get-append k [] ys lt = absurd (omega (arith, lt))
get-append zero (x ∷ xs) ys lt = refl
get-append (suc k) (x ∷ xs) ys lt = get-append k xs ys (omega (arith, lt))

some_within : {X : Type 0} (k : ℕ) (xs : List X) → is_some (slice_get xs k) ≡ true → k < length xs
some_within k [] some = absurd cc
some_within zero (x ∷ xs) some = omega arith
some_within (suc k) (x ∷ xs) some = let later = some_within k xs some in omega (arith, later)

none_past : {X : Type 0} (k : ℕ) (xs : List X) → slice_get xs k ≡ None → length xs ≤ k
none_past k [] none = omega arith
none_past zero (x ∷ xs) none = absurd cc
none_past (suc k) (x ∷ xs) none = let later = none_past k xs none in omega (arith, later)

-- the answer to what waits
abbrev next_of : {X : Type 0} → ℕ → Option ℕ → List (Stamped X) → List (Stamped X) → Option (Reply X)
next_of bound previous ls ms =
    if unwrap_or (option_map (λ t. ltb t bound) previous) true
    then option_map (λ p. record { at = p.at; value = value_at previous ls }) (slice_get ms 0)
    else None

settled-same : {X : Type 0} (loop : StreamPrefix X) (o : Option (Stamped X)) (p : Stamped X) → unwrap_or (option_map (λ t. ltb t loop.bound) (option_map (λ q. q.at) o)) true ≡ is_answered loop (o, p)
settled-same loop None p = refl
settled-same loop (Some q) p = refl

value-same : {X : Type 0} (loop : StreamPrefix X) (o : Option (Stamped X)) (n : ℕ) → All (λ p. IsSomeAnd (option_map (λ q. q.at) o) (λ t. p.at < t)) (take n loop.packets)
    → value_at (option_map (λ q. q.at) o) (drop n loop.packets) ≡ found loop o
value-same loop None n low = refl
value-same {X} loop (Some q) n low =
    let Low : Stamped X → Type 0 = λ p. p.at < q.at in
    let Goes : Stamped X → Type 0 = λ p. ltb p.at q.at ≡ true in
    ap (λ (found : Option (Stamped X)). option_map (λ p. p.value) found)
    (packet_at-drop (λ t. ltb t q.at) q.at n loop.packets
    (recursion_from_All Goes (take n loop.packets) (All-weaker Low Goes (λ p lt. lt-ltb p.at q.at lt) (take n loop.packets) low))
    (le-ltb q.at q.at (omega arith)))

next-same : {X : Type 0} (loop : StreamPrefix X) (o : Option (Stamped X)) (n : ℕ) (ms : List (Stamped X)) → All (λ p. IsSomeAnd (option_map (λ q. q.at) o) (λ t. p.at < t)) (take n loop.packets)
    → next_of loop.bound (option_map (λ q. q.at) o) (drop n loop.packets) ms ≡ first_reply loop o ms
next-same loop o n [] low = elim (cases_Bool (unwrap_or (option_map (λ t. ltb t loop.bound) (option_map (λ q. q.at) o)) true)) [ inl here ↦ rw here refl | inr fails ↦ rw fails refl ]
next-same loop o n (m ∷ ms) low = rw (settled-same loop o m, value-same loop o n low) refl

pub next_is : {X : Type 0} (k : ℕ) (held : Held X) (main loop : StreamPrefix X) → StandsAfter k held main loop → next_reply held ≡ slice_get (replies main loop) k
next_is {X} k held main loop h =
    let o = before None k main.packets in
    let few : k ≤ prefix_len (is_answered loop) (with_previous main.packets) = (let answered = h.answered in omega (arith, answered, length-replies main loop)) in
    let most : k ≤ length main.packets = (let answered = h.answered in omega (arith, answered, replies-most main loop)) in
    let previous : held.previous ≡ option_map (λ p. p.at) o = h.previous ∙ sym (before-time k main.packets most) in
    let low = subst (λ (t : Option ℕ). All (λ (p : Stamped X). IsSomeAnd t (λ u. p.at < u)) (take held.loop.gone loop.packets)) previous h.below in
    ap (λ (b : ℕ). next_of b held.previous held.loop.packets held.main.packets) h.at_loop.bound
    ∙ ap (λ (t : Option ℕ). next_of loop.bound t held.loop.packets held.main.packets) previous
    ∙ ap (λ (ls : List (Stamped X)). next_of loop.bound (option_map (λ p. p.at) o) ls held.main.packets) h.at_loop.waiting
    ∙ ap (λ (ms : List (Stamped X)). next_of loop.bound (option_map (λ p. p.at) o) (drop held.loop.gone loop.packets) ms) (h.at_main.waiting ∙ ap (λ (n : ℕ). drop n main.packets) h.gone)
    ∙ next-same loop o held.loop.gone (drop k main.packets) low
    ∙ sym (get-reply loop None k main.packets few)

-- the next packet of MAIN stands above the one before it
climbs-next : {X : Type 0} (a b k u : ℕ) (ps : List (Stamped X)) (m : Stamped X) → Climbs a ps b → time_before k ps ≡ Some u → slice_get ps k ≡ Some m → u < m.at
climbs-next a b zero u ps m h before here = absurd cc
climbs-next a b (suc k) u [] m h before here = absurd cc
climbs-next {X} a b (suc zero) u (p ∷ []) m h before here = absurd cc
climbs-next {X} a b (suc zero) u (p ∷ q ∷ qs) m h before here =
    let first : p.at ≡ u = ap (λ (o : Option ℕ). unwrap_or o u) before in
    let second : q.at ≡ m.at = ap (λ (o : Option (Stamped X)). (unwrap_or o m).at) here in
    let up = h.1.0 in
    omega (arith, first, second, up)
climbs-next a b (suc (suc k)) u (p ∷ ps) m h before here = climbs-next (p.at + 1) b (suc k) u ps m h.1 before here

pub stands_left : {X : Type 0} (o : Option ℕ) (q : Waiting X) (s : StreamPrefix X) → StandsFor q s → StandsFor (without o q) s
stands_left None q s h = h
stands_left (Some t) q s h = stands_without t q s h

-- the packets of LOOP that are gone with an answer stand below its time
below_next : {X : Type 0} (o : Option ℕ) (q : Waiting X) (s : StreamPrefix X) (m : ℕ) → StandsFor q s → ((u : ℕ) → o ≡ Some u → u < m) → All (λ p. IsSomeAnd o (λ t. p.at < t)) (take q.gone s.packets) → All (λ p. p.at < m) (take (without o q).gone s.packets)
below_next {X} None q s m h up low = All-weaker (λ (p : Stamped X). ⊥) (λ (p : Stamped X). p.at < m) (λ p none. absurd none) (take q.gone s.packets) low
below_next {X} (Some u) q s m h up low =
    let lt = up u refl in
    gone_without (λ (p : Stamped X). p.at < m) u q s h (λ p le. omega (arith, le, lt))
    (All-weaker (λ (p : Stamped X). p.at < u) (λ (p : Stamped X). p.at < m) (λ p less. omega (arith, less, lt)) (take q.gone s.packets) low)

replied_at : {X : Type 0} (k : ℕ) (held : Held X) (main loop : StreamPrefix X) (m : Stamped X) → StandsAfter k held main loop → slice_get held.main.packets 0 ≡ Some m → k < length (replies main loop) → StandsAfter (suc k) (replied held) main loop
replied_at {X} k held main loop m h first more =
    let here : slice_get main.packets k ≡ Some m = sym (get-drop k main.packets) ∙ sym (ap (λ (ps : List (Stamped X)). slice_get ps 0) (h.at_main.waiting ∙ ap (λ (n : ℕ). drop n main.packets) h.gone)) ∙ first in
    let waits : 0 < length held.main.packets = some_within 0 held.main.packets (ap (λ (o : Option (Stamped X)). is_some o) first) in
    record {
      at_main = stands_without_first held.main main waits h.at_main;
      at_loop = stands_left held.previous held.loop loop h.at_loop;
      gone = (let gone = h.gone in omega (arith, gone));
      answered = omega (arith, more);
      previous = ap (λ (o : Option (Stamped X)). option_map (λ p. p.at) o) (first ∙ sym here);
      below = rw first (below_next held.previous held.loop loop m.at h.at_loop (λ u e. climbs-next 0 main.bound k u main.packets m (prefix-climbs main h.at_main.prefix) (sym h.previous ∙ e) here) h.below);
    }

-- an answer counts one more
first_some : {X : Type 0} (held : Held X) → is_some (next_reply held) ≡ true → (m : Stamped X) × (slice_get held.main.packets 0 ≡ Some m)
first_some {X} held some = by held.main.packets some
  where
    by : (ms : List (Stamped X)) → is_some (next_of held.loop.bound held.previous held.loop.packets ms) ≡ true → (m : Stamped X) × (slice_get ms 0 ≡ Some m)
    by [] some = elim (cases_Bool (unwrap_or (option_map (λ t. ltb t held.loop.bound) held.previous) true)) [
      | inl here ↦ absurd (let none : false ≡ true = rw here at some in cc)
      | inr fails ↦ absurd (let none : false ≡ true = rw fails at some in cc)
    ]
    by (m ∷ ms) some = (m, refl)

pub answer_counts : {X : Type 0} (k : ℕ) (held : Held X) (main loop : StreamPrefix X) → StandsAfter k held main loop → is_some (next_reply held) ≡ true → StandsAfter (k + 1) (replied held) main loop
answer_counts {X} k held main loop h some =
    let first = first_some held some in
    let more : k < length (replies main loop) = some_within k (replies main loop) (ap (λ (o : Option (Reply X)). is_some o) (sym (next_is k held main loop h)) ∙ some) in
    subst (λ (n : ℕ). StandsAfter n (replied held) main loop) (let e : suc k ≡ k + 1 = omega arith in e) (replied_at k held main loop first.0 h first.1 more)

-- a loopback to which nothing came stands for empty prefixes
pub fresh_stands : {X : Type 0} (held : Held X) → IsFresh held → StandsAfter 0 held empty_prefix empty_prefix
fresh_stands {X} held h = record {
  at_main = stands_like empty_queue held.main empty_prefix h.main empty_stands;
  at_loop = stands_like empty_queue held.loop empty_prefix h.loop empty_stands;
  gone = h.main.gone;
  answered = omega arith;
  previous = h.previous;
  below = rw h.loop.gone (All-nil (λ (p : Stamped X). IsSomeAnd held.previous (λ t. p.at < t)));
}
  where
    empty_stands : StandsFor (empty_queue {X = X}) empty_prefix
    empty_stands = record { prefix = empty_is_prefix; gone = omega arith; waiting = refl; bound = refl }

-- if prefixes are extended, and as many packets are gone, as many answers are given
time_before-append : {X : Type 0} (k : ℕ) (ps fs : List (Stamped X)) → k ≤ length ps → time_before k (ps ++ fs) ≡ time_before k ps
time_before-append zero ps fs le = refl
time_before-append {X} (suc k) ps fs le = ap (λ (o : Option (Stamped X)). option_map (λ p. p.at) o) (get-append k ps fs (omega (arith, le)))

pub replies_grow : {X : Type 0} (main wider loop more : StreamPrefix X) → IsExtendedBy main wider → IsExtendedBy loop more → length (replies main loop) ≤ length (replies wider more)
replies_grow main wider loop more e f = omega (arith, ap length (replies-stay main wider loop more e f), length-take (length (replies main loop)) (replies wider more))

pub arrivals_keep : {X : Type 0} (k : ℕ) (held now : Held X) (main wider loop more : StreamPrefix X) → StandsAfter k held main loop → IsExtendedBy main wider → IsExtendedBy loop more
    → StandsFor now.main wider → StandsFor now.loop more → IsAsFar now held → StandsAfter k now wider more
arrivals_keep {X} k held now main wider loop more h e f at_main at_loop far =
    let most : k ≤ length main.packets = (let answered = h.answered in omega (arith, answered, replies-most main loop)) in
    let same : take now.loop.gone more.packets ≡ take held.loop.gone loop.packets =
    ap (λ (n : ℕ). take n more.packets) far.loop ∙ ap (λ (ps : List (Stamped X)). take held.loop.gone ps) f.packets ∙ take-append-le held.loop.gone loop.packets f.further h.at_loop.gone in
    record {
      at_main = at_main;
      at_loop = at_loop;
      gone = far.main ∙ h.gone;
      answered = (let answered = h.answered in let grow = replies_grow main wider loop more e f in omega (arith, answered, grow));
      previous = far.previous ∙ h.previous ∙ sym (ap (λ (ps : List (Stamped X)). time_before k ps) e.packets ∙ time_before-append k main.packets e.further most);
      below = rw (same, far.previous) h.below;
    }

-- all answers that can be told are given
pub all_told : {X : Type 0} (k : ℕ) (held : Held X) (main loop : StreamPrefix X) → StandsAfter k held main loop → next_reply held ≡ None → k ≡ length (replies main loop)
all_told k held main loop h none = (let answered = h.answered in omega (arith, answered, none_past k (replies main loop) (sym (next_is k held main loop h) ∙ none)))

pub told_stream : {X : Type 0} (k : ℕ) (main loop : StreamPrefix X) → k ≡ length (replies main loop) → after_replies k main loop ≡ loopback main loop
told_stream {X} k main loop all =
    rw all (ap (λ (rs : List (Reply X)). (let it : StreamPrefix X = record { packets = filter_map packet_of rs; bound = first_time (drop (length (replies main loop)) main.packets) main.bound } in it))
    (take_all (length (replies main loop)) (replies main loop) (omega arith)))

-- the time up to which the output is told
pub reached_is : {X : Type 0} (k : ℕ) (held : Held X) (main loop : StreamPrefix X) → StandsAfter k held main loop → reached held ≡ (after_replies k main loop).bound
reached_is {X} k held main loop h =
    ap (λ (ps : List (Stamped X)). first_time ps held.main.bound) (h.at_main.waiting ∙ ap (λ (n : ℕ). drop n main.packets) h.gone)
    ∙ ap (λ (b : ℕ). first_time (drop k main.packets) b) h.at_main.bound
