-- The loopback's answers one after the other.
use Rattle.std.proofs.Common.{◌≡◌, ℕ, zero, suc, ◌+◌, ◌<◌, ◌≤◌, Bool, true, false, inl, inr, ◌⊎◌, List, [], ◌∷◌, ◌++◌, take, drop, filter_map, length, All, Option, Some, None, option_map, option_to_list, unwrap_or, slice_get, cond, ap, ap₂, sym, refl, ◌∙◌, subst, append_assoc, append-nil, length-drop, take-append-drop, arith, leb, ltb, lt-ltb}
use Rattle.std.specs.Option.{option_and_then}
use Rattle.std.specs.List.{AllByRecursion, cons_option, prefix_len}
use Rattle.std.proofs.Math.Seq.{take-add}
use Rattle.std.proofs.lemmas.Bool.{cases_Bool, le-ltb, leb-true}
use Rattle.std.proofs.lemmas.List.{drop-drop}
use Rattle.std.proofs.lemmas.List.Sums.{prefix_len-le-length}
use Rattle.std.proofs.lemmas.List.Elements.{All-nil, All-append, All-weaker, All-head, All-from_recursion, recursion_from_All}
use Rattle.mg_value.specs.Payload.{Plain}
use Rattle.mg_value.specs.Packet.{Stamped}
use Rattle.mg_settled.specs.Prefix.{StreamPrefix, IsPrefix}
use Rattle.mg_settled.specs.Settled.{times_of, packet_at}
use Rattle.mg_settled.specs.FirstSet.{behind}
use Rattle.mg_settled.specs.Loopback.{Reply, reply, is_answered, replies_behind, packet_of, StandsBehind, ArePast, IsPast, last_of, behind_first, AreAnswers, next_turn}
use Rattle.mg_settled.proofs.Times.{Rises}
use Rattle.mg_settled.proofs.Climbs.{prefix-rises}
use Rattle.mg_settled.proofs.Fronts.{one_more}
use Rattle.mg_settled.proofs.Leaving.{packet_at-drop}
use Rattle.mg_settled.proofs.Behind.{behind_is_prefix}
use Rattle.mg_settled.proofs.LoopbackStream.{number}

-- the time of the packet before, and the least time of the next
abbrev pub time_before : {X : Type 0} → Option (Stamped X) → Option ℕ
time_before o = option_map (λ p. p.at) o

abbrev pub after : {X : Type 0} → Option (Stamped X) → ℕ
after None = 0
after (Some p) = p.at + 1

-- the packets after another packet rise from it on
pub rises-behind : (o : Option (Stamped Plain)) (s : StreamPrefix Plain) → IsPrefix s → StandsBehind o s.packets → Rises (after o) (times_of s.packets)
rises-behind None s h behind = prefix-rises s h
rises-behind (Some before) s h behind = raise s.packets (prefix-rises s h) behind
  where
    raise : (ps : List (Stamped Plain)) → Rises 0 (times_of ps) → All (λ p. before.at < p.at) ps → Rises (before.at + 1) (times_of ps)
    raise [] r all = tt
    raise (p ∷ ps) r all = ((let first = All-head (λ (q : Stamped Plain). before.at < q.at) p ps all in omega (arith, first)), r.1)

-- what is left of LOOP has all that the others ask for
pub past-finds : (o : Option (Stamped Plain)) (gone : ℕ) (ps : List (Stamped Plain)) → ArePast o (take gone ps) → (u : ℕ) → after o ≤ u + 1 → packet_at u (drop gone ps) ≡ packet_at u ps
past-finds None gone ps past u le = ap (packet_at u) (ap (λ (front : List (Stamped Plain)). front ++ drop gone ps) (sym past) ∙ take-append-drop gone ps)
past-finds (Some before) gone ps past u le =
    packet_at-drop (λ v. ltb v before.at) u gone ps
    (recursion_from_All (λ (p : Stamped Plain). ltb p.at before.at ≡ true) (take gone ps)
    (All-weaker (λ (p : Stamped Plain). p.at < before.at) (λ (p : Stamped Plain). ltb p.at before.at ≡ true) (λ p lt. lt-ltb p.at before.at lt) (take gone ps) past))
    (let up : before.at + 1 ≤ u + 1 = le in le-ltb u before.at (omega (arith, up)))

-- the answers to packets whose first one is answered, or isn't
pub replies-here : (o : Option (Stamped Plain)) (q : Stamped Plain) (qs : List (Stamped Plain)) (b : ℕ) (loop : StreamPrefix Plain) → is_answered loop (o, q) ≡ true
    → replies_behind o (record { packets = q ∷ qs; bound = b }) loop ≡ reply loop (o, q) ∷ replies_behind (Some q) (record { packets = qs; bound = b }) loop
replies-here o q qs b loop here = rw (here, one_more (number loop (Some q) qs)) refl

replies-stop : (o : Option (Stamped Plain)) (qs : List (Stamped Plain)) (b : ℕ) (loop : StreamPrefix Plain) → unwrap_or (option_map (λ t. ltb t loop.bound) (time_before o)) true ≡ false
    → replies_behind o (record { packets = qs; bound = b }) loop ≡ []
replies-stop None qs b loop stops = absurd cc
replies-stop (Some before) [] b loop stops = refl
replies-stop (Some before) (q ∷ qs) b loop stops = rw stops refl

answered-by : (o : Option (Stamped Plain)) (q : Stamped Plain) (loop : StreamPrefix Plain) → unwrap_or (option_map (λ t. ltb t loop.bound) (time_before o)) true ≡ true → is_answered loop (o, q) ≡ true
answered-by None q loop here = refl
answered-by (Some before) q loop here = here

-- the next packet of MAIN, if it is answered
pub record IsTurn (previous : Option ℕ) (main loop : StreamPrefix Plain) (at : ℕ) : Type 0 where
  pub turn : Stamped Plain
  pub others : List (Stamped Plain)
  pub packets : main.packets ≡ turn ∷ others
  pub time : turn.at ≡ at
  pub answered : unwrap_or (option_map (λ t. ltb t loop.bound) previous) true ≡ true

turn-by : (test : Bool) (ps : List (Stamped Plain)) (at : ℕ) → cond test (option_map (λ p. p.at) (slice_get ps 0)) None ≡ Some at → (test ≡ true) × (turn : Stamped Plain) × (others : List (Stamped Plain)) × (ps ≡ turn ∷ others) × (turn.at ≡ at)
turn-by true [] at is = absurd cc
turn-by true (p ∷ ps) at is = (refl, p, ps, refl, (let same : p.at ≡ at = cc in same))
turn-by false ps at is = absurd cc

pub turn-is : (previous : Option ℕ) (main loop : StreamPrefix Plain) (at : ℕ) → next_turn previous main loop ≡ Some at → IsTurn previous main loop at
turn-is previous main loop at is =
    let by = turn-by (unwrap_or (option_map (λ t. ltb t loop.bound) previous) true) main.packets at is in
    record { turn = by.1; others = by.2; packets = by.3; time = by.4; answered = by.0 }

none-by : (test : Bool) (ps : List (Stamped Plain)) → cond test (option_map (λ p. p.at) (slice_get ps 0)) None ≡ None → (test ≡ false) ⊎ (ps ≡ [])
none-by true [] is = inr refl
none-by true (p ∷ ps) is = absurd cc
none-by false ps is = inl refl

replies-over : (o : Option (Stamped Plain)) (main loop : StreamPrefix Plain) → next_turn (time_before o) main loop ≡ None → replies_behind o main loop ≡ []
replies-over o main loop none = elim (none-by (unwrap_or (option_map (λ t. ltb t loop.bound) (time_before o)) true) main.packets none) [
  | inl stops ↦ replies-stop o main.packets main.bound loop stops
  | inr empty ↦ rw empty (nothing o)
]
  where
    nothing : (before : Option (Stamped Plain)) → replies_behind before (record { packets = []; bound = main.bound }) loop ≡ []
    nothing None = refl
    nothing (Some p) = refl

values_at : (t : ℕ) (x : Option (Stamped Plain)) → option_map (λ p. (let it : Stamped Plain = record { at = t; value = p.value } in it)) x ≡ option_map (λ v. (let it : Stamped Plain = record { at = t; value = v } in it)) (option_map (λ p. p.value) x)
values_at t None = refl
values_at t (Some p) = refl

answer-here : (loop rest : StreamPrefix Plain) (o : Option (Stamped Plain)) (q : Stamped Plain) → ((u : ℕ) → after o ≤ u + 1 → packet_at u rest.packets ≡ packet_at u loop.packets)
    → option_map (λ p. record { at = q.at; value = p.value }) (option_and_then (λ t. packet_at t rest.packets) (time_before o)) ≡ packet_of (reply loop (o, q))
answer-here loop rest None q finds = refl
answer-here loop rest (Some p) q finds =
    ap (λ (x : Option (Stamped Plain)). option_map (λ r. (let it : Stamped Plain = record { at = q.at; value = r.value } in it)) x) (finds p.at (omega arith))
    ∙ values_at q.at (packet_at p.at loop.packets)

put_first : (x : Option (Stamped Plain)) (rs : List (Stamped Plain)) → cons_option x rs ≡ option_to_list x ++ rs
put_first None rs = refl
put_first (Some p) rs = refl

-- leaving out one more first packet leaves what stands after it
drop-next : (n : ℕ) (ps : List (Stamped Plain)) (q : Stamped Plain) (qs : List (Stamped Plain)) → drop n ps ≡ q ∷ qs → drop (suc n) ps ≡ qs
drop-next zero [] q qs is = absurd cc
drop-next zero (p ∷ ps) q qs is = (let same : ps ≡ qs = cc in same)
drop-next (suc n) [] q qs is = absurd cc
drop-next (suc n) (p ∷ ps) q qs is = drop-next n ps q qs is

last-next : (o : Option (Stamped Plain)) (n : ℕ) (ps : List (Stamped Plain)) (q : Stamped Plain) (qs : List (Stamped Plain)) → drop n ps ≡ q ∷ qs → last_of o (suc n) ps ≡ Some q
last-next o zero [] q qs is = absurd cc
last-next o zero (p ∷ ps) q qs is = (let same : p ≡ q = cc in ap (λ (r : Stamped Plain). Some r) same)
last-next o (suc n) [] q qs is = absurd cc
last-next o (suc n) (p ∷ ps) q qs is = last-next (Some p) n ps q qs is

-- the packets of LOOP that are gone after a further packet
front-up_to : (t : ℕ) (ps : List (Stamped Plain)) → AllByRecursion (λ p. p.at ≤ t) (take (prefix_len (λ p. leb p.at t) ps) ps)
front-up_to t [] = tt
front-up_to t (p ∷ ps) = elim (cases_Bool (leb p.at t)) [
  | inl here ↦ rw (here, one_more (prefix_len (λ (q : Stamped Plain). leb q.at t) ps)) (leb-true p.at t here, front-up_to t ps)
  | inr stops ↦ rw stops tt
]

past-more : (loop rest : StreamPrefix Plain) (o : Option (Stamped Plain)) (q : Stamped Plain) (gone : ℕ) → IsPast o loop gone → rest ≡ behind_first gone loop → after o ≤ q.at
    → (more : ℕ) × IsPast (Some q) loop more × (unwrap_or (option_map (λ t. behind t rest) (time_before o)) rest ≡ behind_first more loop)
past-more loop rest None q gone past is up = (
  gone,
  record {
    within = past.within;
    past = subst (λ (ps : List (Stamped Plain)). All (λ p. p.at < q.at) ps) (sym past.past) (All-nil (λ (p : Stamped Plain). p.at < q.at));
  },
  is,
)
past-more loop rest (Some p) q gone past is up =
    let ps = loop.packets in
    let j = prefix_len (λ (r : Stamped Plain). leb r.at p.at) (drop gone ps) in
    let within = past.within in
    let Before : Stamped Plain → Type 0 = λ r. r.at < q.at in (
      gone + j,
      record {
        within = omega (arith, within, prefix_len-le-length (λ (r : Stamped Plain). leb r.at p.at) (drop gone ps), length-drop gone ps);
        past = rw (take-add gone j ps)
            (All-append Before (take gone ps) (take j (drop gone ps))
            (All-weaker (λ (r : Stamped Plain). r.at < p.at) Before (λ r lt. omega (arith, lt, up)) (take gone ps) past.past)
            (All-weaker (λ (r : Stamped Plain). r.at ≤ p.at) Before (λ r le. omega (arith, le, up)) (take j (drop gone ps))
            (All-from_recursion (λ (r : Stamped Plain). r.at ≤ p.at) (take j (drop gone ps)) (front-up_to p.at (drop gone ps)))));
      },
      ap (behind p.at) is ∙ ap (λ (rs : List (Stamped Plain)). (let it : StreamPrefix Plain = record { packets = rs; bound = loop.bound } in it)) (drop-drop j gone ps),
    )

-- what is read on is a prefix
pub answered_prefix : (previous : Option ℕ) (rest now : StreamPrefix Plain) → IsPrefix rest → now ≡ unwrap_or (option_map (λ t. behind t rest) previous) rest → IsPrefix now
answered_prefix None rest now h is = subst IsPrefix (sym is) h
answered_prefix (Some t) rest now h is = subst IsPrefix (sym is) (behind_is_prefix t rest h)

-- This many packets of MAIN are answered; their answers, and those to what is left, are the answers to all.
pub record AreSoFar (first : Option (Stamped Plain)) (main loop : StreamPrefix Plain) (previous : Option ℕ) (left rest : StreamPrefix Plain) (packets : List (Stamped Plain)) : Type 0 where
  pub before : Option (Stamped Plain)
  pub time : previous ≡ time_before before
  pub count : ℕ
  pub answers : filter_map packet_of (replies_behind first main loop) ≡ packets ++ filter_map packet_of (replies_behind before left loop)
  pub counted : length (replies_behind first main loop) ≡ count + length (replies_behind before left loop)
  pub left_is : left ≡ behind_first count main
  pub last : before ≡ last_of first count main.packets
  pub rises : Rises (after before) (times_of left.packets)
  pub gone : ℕ
  pub past : IsPast before loop gone
  pub rest_is : rest ≡ behind_first gone loop

pub none-so_far : (first : Option (Stamped Plain)) (main loop : StreamPrefix Plain) (previous : Option ℕ) → IsPrefix main → StandsBehind first main.packets → previous ≡ time_before first → AreSoFar first main loop previous main loop []
none-so_far first main loop previous h behind time = record {
  before = first;
  time = time;
  count = 0;
  answers = refl;
  counted = omega arith;
  left_is = refl;
  last = refl;
  rises = rises-behind first main h behind;
  gone = 0;
  past = record { within = omega arith; past = none first };
  rest_is = refl;
}
  where
    none : (o : Option (Stamped Plain)) → ArePast o []
    none None = refl
    none (Some p) = All-nil (λ (q : Stamped Plain). q.at < p.at)

pub more-so_far : (first : Option (Stamped Plain)) (main loop : StreamPrefix Plain) (previous : Option ℕ) (left rest left_now rest_now : StreamPrefix Plain) (packets more : List (Stamped Plain)) (at : ℕ) (packet : Option (Stamped Plain))
    → AreSoFar first main loop previous left rest packets → next_turn previous left rest ≡ Some at
    → packet ≡ option_map (λ p. record { at = at; value = p.value }) (option_and_then (λ t. packet_at t rest.packets) previous)
    → rest_now ≡ unwrap_or (option_map (λ t. behind t rest) previous) rest → left_now ≡ behind_first 1 left → more ≡ packets ++ option_to_list packet
    → AreSoFar first main loop (Some at) left_now rest_now more
more-so_far first main loop previous left rest left_now rest_now packets more at packet h next answer passed read put =
    let o = h.before in
    let turn = turn-is previous left rest at next in
    let q = turn.turn in
    let qs = turn.others in
    let after_q : StreamPrefix Plain = record { packets = qs; bound = left.bound } in
    let bound : rest.bound ≡ loop.bound = ap (λ (s : StreamPrefix Plain). s.bound) h.rest_is in
    let tested : unwrap_or (option_map (λ t. ltb t loop.bound) (time_before o)) true ≡ true =
    ap₂ (λ (b : ℕ) (t : Option ℕ). unwrap_or (option_map (λ u. ltb u b) t) true) (sym bound) (sym h.time) ∙ turn.answered in
    let here : replies_behind o left loop ≡ reply loop (o, q) ∷ replies_behind (Some q) after_q loop =
    ap (λ (ps : List (Stamped Plain)). replies_behind o (record { packets = ps; bound = left.bound }) loop) turn.packets ∙ replies-here o q qs left.bound loop (answered-by o q loop tested) in
    let left_is : left_now ≡ after_q = read ∙ ap (λ (ps : List (Stamped Plain)). (let it : StreamPrefix Plain = record { packets = drop 1 ps; bound = left.bound } in it)) turn.packets in
    let dropped : drop h.count main.packets ≡ q ∷ qs = sym (ap (λ (s : StreamPrefix Plain). s.packets) h.left_is) ∙ turn.packets in
    let finds : (u : ℕ) → after o ≤ u + 1 → packet_at u rest.packets ≡ packet_at u loop.packets =
    λ u le. ap (λ (s : StreamPrefix Plain). packet_at u s.packets) h.rest_is ∙ past-finds o h.gone loop.packets h.past.past u le in
    let packet_is : packet ≡ packet_of (reply loop (o, q)) =
    answer ∙ ap₂ (λ (a : ℕ) (t : Option ℕ). option_map (λ p. (let it : Stamped Plain = record { at = a; value = p.value } in it)) (option_and_then (λ u. packet_at u rest.packets) t)) (sym turn.time) h.time ∙ answer-here loop rest o q finds in
    let rises : Rises (after o) (times_of (q ∷ qs)) = rw turn.packets at h.rises in
    let gone = past-more loop rest o q h.gone h.past h.rest_is rises.0 in
    record {
      before = Some q;
      time = ap (λ (t : ℕ). Some t) (sym turn.time);
      count = suc h.count;
      answers =
          h.answers
          ∙ ap (λ (rs : List (Reply Plain)). packets ++ filter_map packet_of rs) here
          ∙ ap (λ (es : List (Stamped Plain)). packets ++ es) (put_first (packet_of (reply loop (o, q))) (filter_map packet_of (replies_behind (Some q) after_q loop)) ∙ ap (λ (x : Option (Stamped Plain)). option_to_list x ++ filter_map packet_of (replies_behind (Some q) after_q loop)) (sym packet_is))
          ∙ sym (append_assoc packets (option_to_list packet) (filter_map packet_of (replies_behind (Some q) after_q loop)))
          ∙ ap₂ (λ (es : List (Stamped Plain)) (s : StreamPrefix Plain). es ++ filter_map packet_of (replies_behind (Some q) s loop)) (sym put) (sym left_is);
      counted = (let counted = h.counted in let long = ap length here in
          let same = ap (λ (s : StreamPrefix Plain). length (replies_behind (Some q) s loop)) left_is in omega (arith, counted, long, same));
      left_is = left_is ∙ ap₂ (λ (ps : List (Stamped Plain)) (b : ℕ). (let it : StreamPrefix Plain = record { packets = ps; bound = b } in it)) (sym (drop-next h.count main.packets q qs dropped)) (ap (λ (s : StreamPrefix Plain). s.bound) h.left_is);
      last = sym (last-next first h.count main.packets q qs dropped);
      rises = rw left_is rises.1;
      gone = gone.0;
      past = gone.1;
      rest_is = passed ∙ ap (λ (t : Option ℕ). unwrap_or (option_map (λ u. behind u rest) t) rest) h.time ∙ gone.2;
    }

pub all-so_far : (first : Option (Stamped Plain)) (main loop : StreamPrefix Plain) (previous : Option ℕ) (left rest : StreamPrefix Plain) (packets : List (Stamped Plain)) → AreSoFar first main loop previous left rest packets → next_turn previous left rest ≡ None
    → AreAnswers first main loop packets left rest
all-so_far first main loop previous left rest packets h none =
    let o = h.before in
    let bound : rest.bound ≡ loop.bound = ap (λ (s : StreamPrefix Plain). s.bound) h.rest_is in
    let over : replies_behind o left loop ≡ [] = replies-over o left loop (ap₂ (λ (t : Option ℕ) (b : ℕ). cond (unwrap_or (option_map (λ u. ltb u b) t) true) (option_map (λ p. p.at) (slice_get left.packets 0)) None) (sym h.time) (sym bound) ∙ none) in
    let counted = h.counted in
    let many : length (replies_behind first main loop) ≡ h.count = omega (arith, counted, ap length over) in
    record {
      answers = sym (h.answers ∙ ap (λ (rs : List (Reply Plain)). packets ++ filter_map packet_of rs) over ∙ append-nil packets);
      answered = h.left_is ∙ ap (λ (n : ℕ). behind_first n main) (sym many);
      gone = h.gone;
      past = subst (λ (before : Option (Stamped Plain)). IsPast before loop h.gone) (h.last ∙ ap (λ (n : ℕ). last_of first n main.packets) (sym many)) h.past;
      left = h.rest_is;
    }
