-- The loopback's output stream is a prefix, and what extends its inputs extends it.
use Rattle.std.proofs.Common.{◌≡◌, ℕ, ◌≤◌, true, inl, inr, List, [], ◌∷◌, ◌++◌, map, take, drop, filter_map, length, All, Option, Some, None, option_map, ap, sym, refl, ◌∙◌, arith, lt-ltb, ltb-true}
use Rattle.std.specs.List.{AllByRecursion, cons_option, prefix_len, take_while}
use Rattle.std.proofs.lemmas.Bool.{cases_Bool}
use Rattle.std.proofs.lemmas.List.{take-map, take_all, length-map}
use Rattle.std.proofs.lemmas.List.Folds.{length-prefix_len}
use Rattle.std.proofs.lemmas.List.Sums.{prefix_len-le-length}
use Rattle.std.proofs.lemmas.List.Elements.{All-from_recursion, recursion_from_All, All-weaker, All-head}
use Rattle.mg_time.specs.Time.{next, done, pre_stream, post_stream, IsAllowed}
use Rattle.mg_value.specs.Packet.{Stamped}
use Rattle.mg_settled.specs.Prefix.{StreamPrefix, IsPrefix, Ascends, StandsAlone, first_time}
use Rattle.mg_settled.specs.Extension.{IsExtendedBy}
use Rattle.mg_settled.specs.Loopback.{turns, with_previous, is_answered, Reply, reply, replies, packet_of, loopback}
use Rattle.mg_settled.proofs.PrefixSteps.{next_above, first_time-most}
use Rattle.mg_settled.proofs.Climbs.{Ascends-climbs, Climbs-from}
use Rattle.mg_settled.proofs.Fronts.{one_more, take_while_grows, map_while_agree}
use Rattle.mg_settled.proofs.MuxSets.{packet_at-extended}

-- how many of some packets are answered
abbrev pub number : {X : Type 0} → StreamPrefix X → Option (Stamped X) → List (Stamped X) → ℕ
number loop o ps = prefix_len (is_answered loop) (turns o ps)

-- the answers to these packets, as packets, and the time up to which they are told
abbrev answers : {X : Type 0} → StreamPrefix X → Option (Stamped X) → List (Stamped X) → List (Stamped X)
answers loop o ps = filter_map packet_of (map (reply loop) (take_while (is_answered loop) (turns o ps)))

abbrev stop : {X : Type 0} → StreamPrefix X → Option (Stamped X) → List (Stamped X) → ℕ → ℕ
stop loop o ps b = first_time (drop (number loop o ps) ps) b

-- an answer at a time, or nothing, before others
abbrev answered : {X : Type 0} → ℕ → Option X → List (Stamped X) → List (Stamped X)
answered t o rs = cons_option (option_map (λ v. record { at = t; value = v }) o) rs

each_answered : {X : Type 0} (P : ℕ → Type 0) (t : ℕ) (o : Option X) (rs : List (Stamped X)) → P t → AllByRecursion (λ r. P r.at) rs → AllByRecursion (λ r. P r.at) (answered t o rs)
each_answered P t None rs here h = h
each_answered P t (Some v) rs here h = (here, h)

ascends_answered : {X : Type 0} (t b : ℕ) (o : Option X) (rs : List (Stamped X)) → next t ≤ first_time rs b → t ≤ first_time rs b → Ascends rs b → Ascends (answered t o rs) b × (t ≤ first_time (answered t o rs) b)
ascends_answered t b None rs up le h = (h, le)
ascends_answered t b (Some v) rs up le h = ((up, h), omega arith)

-- what holds of each time of the packets holds of each answer's, and of the time up to which they are told
Each-answer : {X : Type 0} (P : ℕ → Type 0) (loop : StreamPrefix X) (o : Option (Stamped X)) (ps : List (Stamped X)) → AllByRecursion (λ p. P p.at) ps → AllByRecursion (λ r. P r.at) (answers loop o ps)
Each-answer P loop o [] h = tt
Each-answer P loop o (p ∷ ps) h = elim (cases_Bool (is_answered loop (o, p))) [
  | inl here ↦ rw (here, one_more (number loop (Some p) ps)) (each_answered P p.at (reply loop (o, p)).value (answers loop (Some p) ps) h.0 (Each-answer P loop (Some p) ps h.1))
  | inr fails ↦ rw fails tt
]

stop-holds : {X : Type 0} (P : ℕ → Type 0) (loop : StreamPrefix X) (o : Option (Stamped X)) (ps : List (Stamped X)) (b : ℕ) → AllByRecursion (λ p. P p.at) ps → P b → P (stop loop o ps b)
stop-holds P loop o [] b h at_b = at_b
stop-holds P loop o (p ∷ ps) b h at_b = elim (cases_Bool (is_answered loop (o, p))) [
  | inl here ↦ rw (here, one_more (number loop (Some p) ps)) (stop-holds P loop (Some p) ps b h.1 at_b)
  | inr fails ↦ rw fails h.0
]

-- the answers ascend, and begin no earlier than the packets
Ascends-answers : {X : Type 0} (loop : StreamPrefix X) (o : Option (Stamped X)) (ps : List (Stamped X)) (b : ℕ) → AllByRecursion (λ q. IsAllowed q.at) ps → Ascends ps b → Ascends (answers loop o ps) (stop loop o ps b) × (first_time ps b ≤ first_time (answers loop o ps) (stop loop o ps b))
Ascends-answers loop o [] b allowed r = (tt, omega arith)
Ascends-answers loop o (p ∷ ps) b allowed r = elim (cases_Bool (is_answered loop (o, p))) [
  | inl here ↦
      (let later = Ascends-answers loop (Some p) ps b allowed.1 r.1 in
      let after = later.1 in
      let up = next_above p.at allowed.0 in
      rw (here, one_more (number loop (Some p) ps)) (ascends_answered p.at (stop loop (Some p) ps b) (reply loop (o, p)).value (answers loop (Some p) ps) (omega (arith, after, r.0)) (omega (arith, up, after, r.0)) later.0))
  | inr fails ↦ rw fails (tt, omega arith)
]

not_post : {X : Type 0} (loop : StreamPrefix X) (ps : List (Stamped X)) → StandsAlone ps → AllByRecursion (λ r. r.at ≡ post_stream → ⊥) (answers loop None ps)
not_post loop [] alone = tt
not_post loop (p ∷ []) alone = tt
not_post {X} loop (p ∷ q ∷ qs) alone =
    Each-answer (λ t. t ≡ post_stream → ⊥) loop None (p ∷ q ∷ qs)
    (recursion_from_All (λ (r : Stamped X). r.at ≡ post_stream → ⊥) (p ∷ q ∷ qs)
    (All-weaker (λ (r : Stamped X). r.at ≡ post_stream → length (p ∷ q ∷ qs) ≡ 1) (λ (r : Stamped X). r.at ≡ post_stream → ⊥) (λ r h e. (let one = h e in omega (arith, one))) (p ∷ q ∷ qs) alone))

-- there are as many answers as packets that are answered
pub length-replies : {X : Type 0} (main loop : StreamPrefix X) → length (replies main loop) ≡ number loop None main.packets
length-replies main loop = length-map (take_while (is_answered loop) (with_previous main.packets)) (reply loop) ∙ length-prefix_len (is_answered loop) (with_previous main.packets)

pub loopback_is_prefix : {X : Type 0} (main loop : StreamPrefix X) → IsPrefix main → IsPrefix (loopback main loop)
loopback_is_prefix {X} main loop h =
    let ps = main.packets in
    let allowed = recursion_from_All (λ (p : Stamped X). IsAllowed p.at) ps h.allowed in
    let Between : ℕ → Type 0 = λ t. (pre_stream ≤ t) × (t ≤ done) in
    let within : AllByRecursion (λ (p : Stamped X). Between p.at) ps = recursion_from_All (λ (p : Stamped X). Between p.at) ps (All-weaker (λ (p : Stamped X). IsAllowed p.at) (λ (p : Stamped X). Between p.at) (λ p a. (a.0, omega (arith, a.1))) ps h.allowed) in
    let ends : Between (stop loop None ps main.bound) = stop-holds Between loop None ps main.bound within (h.opened, h.within) in
    rw (length-replies main loop) (record {
      opened = ends.0;
      within = ends.1;
      allowed = All-from_recursion (λ (r : Stamped X). IsAllowed r.at) (answers loop None ps) (Each-answer IsAllowed loop None ps allowed);
      ascends = (Ascends-answers loop None ps main.bound allowed h.ascends).0;
      alone = All-weaker (λ (r : Stamped X). r.at ≡ post_stream → ⊥) (λ (r : Stamped X). r.at ≡ post_stream → length (answers loop None ps) ≡ 1) (λ r out e. absurd (out e)) (answers loop None ps)
          (All-from_recursion (λ (r : Stamped X). r.at ≡ post_stream → ⊥) (answers loop None ps) (not_post loop ps h.alone));
    })

-- what is answered stays so, with the same answer
answered_more : {X : Type 0} (loop more : StreamPrefix X) → IsExtendedBy loop more → (turn : Option (Stamped X) × Stamped X) → is_answered loop turn ≡ true → is_answered more turn ≡ true
answered_more {X} loop more e turn here = by turn.0 here
  where
    by : (o : Option (Stamped X)) → is_answered loop (o, turn.1) ≡ true → is_answered more (o, turn.1) ≡ true
    by None here = refl
    by (Some p) here = (let le = e.bound in lt-ltb p.at more.bound (omega (arith, ltb-true p.at loop.bound here, le)))

same_reply : {X : Type 0} (loop more : StreamPrefix X) → IsExtendedBy loop more → (turn : Option (Stamped X) × Stamped X) → is_answered loop turn ≡ true → reply more turn ≡ reply loop turn
same_reply {X} loop more e turn here = by turn.0 here
  where
    by : (o : Option (Stamped X)) → is_answered loop (o, turn.1) ≡ true → reply more (o, turn.1) ≡ reply loop (o, turn.1)
    by None here = refl
    by (Some p) here = ap (λ (found : Option (Stamped X)). (let it : Reply X = record { at = turn.1.at; value = option_map (λ r. r.value) found } in it)) (packet_at-extended loop more e p.at (ltb-true p.at loop.bound here))

-- the answers stay
behind : {X : Type 0} (o : Option (Stamped X)) (ps fs : List (Stamped X)) → (rest : List (Option (Stamped X) × Stamped X)) × (turns o (ps ++ fs) ≡ turns o ps ++ rest)
behind o [] fs = (turns o fs, refl)
behind {X} o (p ∷ ps) fs = let later = behind (Some p) ps fs in (later.0, ap (λ (l : List (Option (Stamped X) × Stamped X)). (o, p) ∷ l) later.1)

pub replies-stay : {X : Type 0} (main wider loop more : StreamPrefix X) → IsExtendedBy main wider → IsExtendedBy loop more → take (length (replies main loop)) (replies wider more) ≡ replies main loop
replies-stay {X} main wider loop more e f =
    let us = with_previous main.packets in
    let n = prefix_len (is_answered loop) us in
    let further = behind None main.packets e.further in
    let whole : with_previous wider.packets ≡ us ++ further.0 = ap (λ (ps : List (Stamped X)). with_previous ps) e.packets ∙ further.1 in
    ap (λ (k : ℕ). take k (replies wider more)) (length-replies main loop)
    ∙ take-map (reply more) n (take_while (is_answered more) (with_previous wider.packets))
    ∙ ap (λ (ts : List (Option (Stamped X) × Stamped X)). map (reply more) (take n (take_while (is_answered more) ts))) whole
    ∙ ap (λ (ts : List (Option (Stamped X) × Stamped X)). map (reply more) ts) (take_while_grows (is_answered loop) (is_answered more) us further.0 (answered_more loop more f))
    ∙ map_while_agree (is_answered loop) (reply more) (reply loop) us (same_reply loop more f)

pub replies-most : {X : Type 0} (main loop : StreamPrefix X) → length (replies main loop) ≤ length main.packets
replies-most {X} main loop = omega (arith, length-replies main loop, prefix_len-le-length (is_answered loop) (with_previous main.packets), turns-most None main.packets)
  where
    turns-most : (o : Option (Stamped X)) (ps : List (Stamped X)) → length (turns o ps) ≤ length ps
    turns-most o [] = omega arith
    turns-most o (p ∷ ps) = let later = turns-most (Some p) ps in omega (arith, later)

pub loopback-same : {X : Type 0} (main loop more : StreamPrefix X) → IsExtendedBy loop more → IsExtendedBy main main → length (replies main more) ≡ length (replies main loop) → loopback main more ≡ loopback main loop
loopback-same {X} main loop more e itself same =
    let replied : replies main more ≡ replies main loop = sym (take_all (length (replies main loop)) (replies main more) (omega (arith, same))) ∙ replies-stay main main loop more itself e in
    ap (λ (rs : List (Reply X)). (let it : StreamPrefix X = record { packets = filter_map packet_of rs; bound = first_time (drop (length rs) main.packets) main.bound } in it)) replied

-- what extends the inputs extends the output stream
from_nothing : {X : Type 0} (s : ℕ) (rs : List (Stamped X)) (b : ℕ) → AllByRecursion (λ r. IsAllowed r.at) rs → Ascends rs b → s ≤ first_time rs b → IsExtendedBy (record { packets = []; bound = s }) (record { packets = rs; bound = b })
from_nothing {X} s rs b allowed r le = record {
  further = rs;
  packets = refl;
  bound = (let most = first_time-most b rs allowed r in omega (arith, most, le));
  above = All-from_recursion (λ (p : Stamped X). s ≤ p.at) rs (Climbs-from s b rs (Ascends-climbs s b rs allowed r le));
}

extended_answered : {X : Type 0} (t : ℕ) (o : Option X) (rs vs : List (Stamped X)) (s u : ℕ) → IsExtendedBy (record { packets = rs; bound = s }) (record { packets = vs; bound = u }) → IsExtendedBy (record { packets = answered t o rs; bound = s }) (record { packets = answered t o vs; bound = u })
extended_answered t None rs vs s u e = e
extended_answered {X} t (Some v) rs vs s u e = record { further = e.further; packets = ap (λ (ps : List (Stamped X)). record { at = t; value = v } ∷ ps) e.packets; bound = e.bound; above = e.above }

first_from : {X : Type 0} (b c : ℕ) (ps : List (Stamped X)) → All (λ p. b ≤ p.at) ps → b ≤ c → b ≤ first_time ps c
first_from b c [] above le = le
first_from {X} b c (p ∷ ps) above le = All-head (λ (q : Stamped X). b ≤ q.at) p ps above

nothing_yet : {X : Type 0} (loop : StreamPrefix X) (o : Option (Stamped X)) (s : ℕ) (ps : List (Stamped X)) (b : ℕ) → AllByRecursion (λ q. IsAllowed q.at) ps → Ascends ps b → s ≤ first_time ps b → IsExtendedBy (record { packets = []; bound = s }) (record { packets = answers loop o ps; bound = stop loop o ps b })
nothing_yet loop o s ps b allowed r le =
    let told = Ascends-answers loop o ps b allowed r in
    let first = told.1 in
    from_nothing s (answers loop o ps) (stop loop o ps b) (Each-answer IsAllowed loop o ps allowed) told.0 (omega (arith, first, le))

extended_answers : {X : Type 0} (loop more : StreamPrefix X) → IsExtendedBy loop more → (o : Option (Stamped X)) (ps fs : List (Stamped X)) (b c : ℕ) → All (λ p. b ≤ p.at) fs → b ≤ c → AllByRecursion (λ q. IsAllowed q.at) (ps ++ fs) → Ascends (ps ++ fs) c
    → IsExtendedBy (record { packets = answers loop o ps; bound = stop loop o ps b }) (record { packets = answers more o (ps ++ fs); bound = stop more o (ps ++ fs) c })
extended_answers loop more e o [] fs b c above le allowed r = nothing_yet more o b fs c allowed r (first_from b c fs above le)
extended_answers {X} loop more e o (p ∷ ps) fs b c above le allowed r = elim (cases_Bool (is_answered loop (o, p))) [
  | inl here ↦
      rw (here, answered_more loop more e (o, p) here, one_more (number loop (Some p) ps), one_more (number more (Some p) (ps ++ fs)), ap (λ (a : Reply X). a.value) (same_reply loop more e (o, p) here))
      (extended_answered p.at (reply loop (o, p)).value (answers loop (Some p) ps) (answers more (Some p) (ps ++ fs)) (stop loop (Some p) ps b) (stop more (Some p) (ps ++ fs) c)
      (extended_answers loop more e (Some p) ps fs b c above le allowed.1 r.1))
  | inr fails ↦ rw fails (nothing_yet more o p.at (p ∷ (ps ++ fs)) c allowed r (omega arith))
]

pub loopback_extends : {X : Type 0} (main wider loop more : StreamPrefix X) → IsPrefix wider → IsExtendedBy main wider → IsExtendedBy loop more → IsExtendedBy (loopback main loop) (loopback wider more)
loopback_extends {X} main wider loop more h e f =
    let allowed : AllByRecursion (λ (p : Stamped X). IsAllowed p.at) (main.packets ++ e.further) = rw e.packets at (recursion_from_All (λ (p : Stamped X). IsAllowed p.at) wider.packets h.allowed) in
    let ascends : Ascends (main.packets ++ e.further) wider.bound = rw e.packets at h.ascends in
    rw (length-replies main loop, length-replies wider more, e.packets) (extended_answers loop more f None main.packets e.further main.bound wider.bound e.above e.bound allowed ascends)
