-- Each call on a port keeps what a loopback stands for, and an answer tells the next one.
use Rattle.std.proofs.Common.{◌≡◌, ◌⊎◌, ℕ, ◌+◌, ◌≤◌, true, false, inl, inr, List, [], ◌∷◌, Option, Some, None, Ok, Err, Result, option_map, unwrap_or, slice_get, is_some, IsSomeAnd, ◌↔◌, eq-eqb, MatchResult, OnOk, OnErr, ap, sym, refl, ◌∙◌}
use Rattle.std.proofs.lemmas.Bool.{cases_Bool}
use Rattle.mg_value.specs.Payload.{Plain}
use Rattle.mg_value.specs.Packet.{Stamped}
use Rattle.mg_settled.specs.Prefix.{StreamPrefix, first_time, appended}
use Rattle.mg_settled.specs.Extension.{IsExtendedBy}
use Rattle.mg_settled.specs.Loopback.{Reply}
use Rattle.mg_settled.proofs.Extending.{extended_by_itself, appended_extends}
use Rattle.mg_stream.specs.Queue.{Waiting, StandsFor, IsLike, MayCome, with_packet, popped, popped_at, front_at}
use Rattle.mg_stream.proofs.QueueSteps.{may_follow}
use Rattle.mg_loopback.specs.Loopback.{Held, is_settled, next_reply, value_at, without, told_at, told, reached}
use Rattle.mg_loopback.specs.declared.answered.Answered.{Answered}
use Rattle.mg_loopback.specs.declared.answered.Answered.TheVariants.{Packet, Silent, NotYet}
use Rattle.mg_loopback.specs.Standing.{StandsAfter}
use Rattle.mg_loopback.proofs.Standing.{arrivals_keep, answer_counts}

abbrev pub with_loop : {X : Type 0} → Held X → Waiting X → Held X
with_loop held q = record { loop = q; main = held.main; previous = held.previous }

abbrev pub with_main : {X : Type 0} → Held X → Waiting X → Held X
with_main held q = record { loop = held.loop; main = q; previous = held.previous }

pub loop_steps : {X : Type 0} (k : ℕ) (held : Held X) (main loop more : StreamPrefix X) (q : Waiting X) → StandsAfter k held main loop → IsExtendedBy loop more → StandsFor q more → q.gone ≡ held.loop.gone → StandsAfter k (with_loop held q) main more
loop_steps k held main loop more q h e stands gone = arrivals_keep k held (with_loop held q) main main loop more h (extended_by_itself main) e h.at_main stands (record { main = refl; loop = gone; previous = refl })

pub main_steps : {X : Type 0} (k : ℕ) (held : Held X) (main loop wider : StreamPrefix X) (q : Waiting X) → StandsAfter k held main loop → IsExtendedBy main wider → StandsFor q wider → q.gone ≡ held.main.gone → StandsAfter k (with_main held q) wider loop
main_steps k held main loop wider q h e stands gone = arrivals_keep k held (with_main held q) main wider loop loop h e (extended_by_itself loop) stands h.at_loop (record { main = gone; loop = refl; previous = refl })

-- an append at either port
pub loop_appended : {X A B : Type 0} (k : ℕ) (held : Held X) (main loop : StreamPrefix X) (q : Waiting X) (p : Stamped X) (answer : Result A B) → StandsAfter k held main loop
    → OnOk answer (IsLike q (with_packet held.loop p)) → OnOk answer (MayCome held.loop p.at) → OnErr answer (IsLike q held.loop)
    → MatchResult answer (λ _. StandsFor q (appended loop p)) (λ _. StandsFor q loop)
    → MatchResult answer (λ _. StandsAfter k (with_loop held q) main (appended loop p)) (λ _. StandsAfter k (with_loop held q) main loop)
loop_appended k held main loop q p (Ok a) h like may same stands = loop_steps k held main loop (appended loop p) q h (appended_extends loop p (may_follow held.loop p loop may h.at_loop)) stands like.gone
loop_appended k held main loop q p (Err b) h like may same stands = loop_steps k held main loop loop q h (extended_by_itself loop) stands same.gone

pub main_appended : {X A B : Type 0} (k : ℕ) (held : Held X) (main loop : StreamPrefix X) (q : Waiting X) (p : Stamped X) (answer : Result A B) → StandsAfter k held main loop
    → OnOk answer (IsLike q (with_packet held.main p)) → OnOk answer (MayCome held.main p.at) → OnErr answer (IsLike q held.main)
    → MatchResult answer (λ _. StandsFor q (appended main p)) (λ _. StandsFor q main)
    → MatchResult answer (λ _. StandsAfter k (with_main held q) (appended main p) loop) (λ _. StandsAfter k (with_main held q) main loop)
main_appended k held main loop q p (Ok a) h like may same stands = main_steps k held main loop (appended main p) q h (appended_extends main p (may_follow held.main p main may h.at_main)) stands like.gone
main_appended k held main loop q p (Err b) h like may same stands = main_steps k held main loop main q h (extended_by_itself main) stands same.gone

-- the ways of an answer: none waits, the predecessor isn't settled, or the next one is told
pub none_waits : {X : Type 0} (held : Held X) (first : Option ℕ) → first ≡ option_map (λ p. p.at) (slice_get held.main.packets 0) → first ≡ None → held.main.packets ≡ []
none_waits {X} held first is none = by held.main.packets (sym is ∙ none)
  where
    by : (ps : List (Stamped X)) → option_map (λ p. p.at) (slice_get ps 0) ≡ None → ps ≡ []
    by [] e = refl
    by (p ∷ ps) e = absurd cc

pub none_next : {X : Type 0} (held : Held X) → held.main.packets ≡ [] → next_reply held ≡ None
none_next held none = rw none (elim (cases_Bool (is_settled held)) [ inl here ↦ rw here refl | inr fails ↦ rw fails refl ])

pub unsettled_next : {X : Type 0} (held : Held X) → is_settled held ≡ false → next_reply held ≡ None
unsettled_next held fails = rw fails refl

-- the first packet of MAIN stands at a time, and may be answered
pub record IsDue {X : Type 0} (held : Held X) (t : ℕ) : Type 0 where
  pub settled : is_settled held ≡ true
  pub first : option_map (λ p. p.at) (slice_get held.main.packets 0) ≡ Some t

due_next : {X : Type 0} (held : Held X) (t : ℕ) → IsDue held t → next_reply held ≡ Some (record { at = t; value = value_at held.previous held.loop.packets })
due_next {X} held t due = rw due.settled (by held.main.packets due.first)
  where
    by : (ps : List (Stamped X)) → option_map (λ p. p.at) (slice_get ps 0) ≡ Some t
        → option_map (λ p. (let r : Reply X = record { at = p.at; value = value_at held.previous held.loop.packets } in r)) (slice_get ps 0) ≡ Some (record { at = t; value = value_at held.previous held.loop.packets })
    by [] e = absurd cc
    by (p ∷ ps) e = ap (λ (n : ℕ). (let r : Reply X = record { at = n; value = value_at held.previous held.loop.packets } in Some r)) (ap (λ (o : Option ℕ). unwrap_or o t) e)

pub told_next : (held : Held Plain) (t : ℕ) (value : Option Plain) → IsDue held t → value ≡ value_at held.previous held.loop.packets → told_at t value ≡ told (next_reply held)
told_next held t value due is = ap (λ (v : Option Plain). told_at t v) is ∙ ap (λ (r : Option (Reply Plain)). told r) (sym (due_next held t due))

popped_first : {X : Type 0} (q : Waiting X) (t : ℕ) → option_map (λ p. p.at) (slice_get q.packets 0) ≡ Some t → popped_at t q ≡ popped q
popped_first {X} q t first = rw (by q.packets first) refl
  where
    by : (ps : List (Stamped X)) → option_map (λ p. p.at) (slice_get ps 0) ≡ Some t → is_some (front_at t ps) ≡ true
    by [] e = absurd cc
    by (p ∷ ps) e = rw (eq-eqb p.at t (ap (λ (o : Option ℕ). unwrap_or o t) e)) refl

pub due_stands : {X : Type 0} (k : ℕ) (held : Held X) (main loop : StreamPrefix X) (t : ℕ) (q r : Waiting X) → IsDue held t → q ≡ without held.previous held.loop → r ≡ popped_at t held.main → StandsAfter k held main loop
    → StandsAfter (k + 1) (record { loop = q; main = r; previous = Some t }) main loop
due_stands {X} k held main loop t q r due left gone h =
    rw (left, gone, popped_first held.main t due.first, sym due.first) (answer_counts k held main loop h (rw (due_next held t due) refl))

-- whether it can be told yet
pub not_yet_for_none : {X A : Type 0} (held : Held X) (a : A) → held.main.packets ≡ [] → (a ≡ a) ↔ ((held.main.packets ≡ []) ⊎ IsSomeAnd held.previous (λ t. held.loop.bound ≤ t))
not_yet_for_none held a none = (λ _. inl none, λ _. refl)

-- the time up to which the output is told, as the calls answer it
pub first_reached : {X : Type 0} (held : Held X) (first : Option ℕ) (bound result : ℕ) → first ≡ option_map (λ p. p.at) (slice_get held.main.packets 0) → bound ≡ held.main.bound → result ≡ unwrap_or first bound → result ≡ reached held
first_reached {X} held first bound result is at answer = answer ∙ ap (λ (o : Option ℕ). unwrap_or o bound) is ∙ ap (λ (b : ℕ). unwrap_or (option_map (λ p. p.at) (slice_get held.main.packets 0)) b) at ∙ by held.main.packets
  where
    by : (ps : List (Stamped X)) → unwrap_or (option_map (λ p. p.at) (slice_get ps 0)) held.main.bound ≡ first_time ps held.main.bound
    by [] = refl
    by (p ∷ ps) = refl

-- an answer is silent exactly if the next one is nothing
abbrev time_told : Answered → ℕ → ℕ
time_told (Packet p) d = d
time_told (Silent t) d = t
time_told NotYet d = d

abbrev some_reply : ℕ → Option Plain → Option (Reply Plain)
some_reply n v = Some (record { at = n; value = v })

pub silent_exactly : (o : Option (Reply Plain)) (a : Answered) → a ≡ told o → (t : ℕ) → (a ≡ Silent t) ↔ (o ≡ Some (record { at = t; value = None }))
silent_exactly o a e t = (λ s. by o (sym e ∙ s), λ s. e ∙ ap (λ (r : Option (Reply Plain)). told r) s)
  where
    by : (r : Option (Reply Plain)) → told r ≡ Silent t → r ≡ Some (record { at = t; value = None })
    by None s = absurd cc
    by (Some r) s = valued r.at r.value s
      where
        valued : (n : ℕ) (v : Option Plain) → told_at n v ≡ Silent t → some_reply n v ≡ some_reply t None
        valued n None s = ap (λ (m : ℕ). some_reply m None) (ap (λ (b : Answered). time_told b t) s)
        valued n (Some v) s = absurd cc
