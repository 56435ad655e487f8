-- The loopback goes on from what is left of MAIN and LOOP.
use Rattle.std.proofs.Common.{◌≡◌, ℕ, zero, suc, ◌+◌, ◌-◌, ◌<◌, ◌≤◌, zero-add, List, [], ◌∷◌, ◌++◌, map, take, drop, filter_map, length, length-append, length-take, length-drop, All, Option, Some, None, option_map, ap, ap₂, sym, refl, ◌∙◌, subst, take-append-drop, arith}
use Rattle.std.specs.List.{take_while, prefix_len}
use Rattle.std.proofs.Math.Seq.{take-add}
use Rattle.std.proofs.lemmas.List.{drop-map, drop-drop, take-append-le}
use Rattle.std.proofs.lemmas.List.Elements.{All-nil, All-append, All-weaker, All-from_recursion, filter_map-append}
use Rattle.mg_value.specs.Payload.{Plain}
use Rattle.mg_value.specs.Packet.{Stamped}
use Rattle.mg_settled.specs.Prefix.{StreamPrefix, IsPrefix, first_time}
use Rattle.mg_settled.specs.Extension.{IsExtendedBy}
use Rattle.mg_settled.specs.Settled.{times_of, packet_at}
use Rattle.mg_settled.specs.Loopback.{turns, is_answered, Reply, reply, replies, replies_behind, packet_of, loopback, StandsBehind, ArePast, IsPast, last_of, behind_first, AreAnswers, GoesOn}
use Rattle.mg_settled.proofs.Times.{Rises, Rises-least}
use Rattle.mg_settled.proofs.Climbs.{prefix-rises}
use Rattle.mg_settled.proofs.Fronts.{take_while-drop}
use Rattle.mg_settled.proofs.Leaving.{each-packet}
use Rattle.mg_settled.proofs.LoopbackStream.{length-replies, replies-most, replies-stay}
use Rattle.mg_settled.proofs.LoopbackSteps.{after, past-finds}

-- all of it
pub whole-loopback : (main loop main_read loop_read left rest : StreamPrefix Plain) (bound : ℕ) (packets : List (Stamped Plain)) → main_read ≡ main → loop_read ≡ loop → bound ≡ first_time left.packets left.bound → AreAnswers None main_read loop_read packets left rest
    → (let it : StreamPrefix Plain = record { packets = packets; bound = bound } in it) ≡ loopback main loop
whole-loopback main loop main_read loop_read left rest bound packets m l is h =
    ap₂ (λ (ps : List (Stamped Plain)) (b : ℕ). (let it : StreamPrefix Plain = record { packets = ps; bound = b } in it)) h.answers (is ∙ ap (λ (s : StreamPrefix Plain). first_time s.packets s.bound) h.answered)
    ∙ ap₂ loopback m l

-- the turns after first packets
turns-drop : (n : ℕ) (o : Option (Stamped Plain)) (ps : List (Stamped Plain)) → n ≤ length ps → drop n (turns o ps) ≡ turns (last_of o n ps) (drop n ps)
turns-drop zero o ps le = refl
turns-drop (suc n) o [] le = absurd (omega (arith, le))
turns-drop (suc n) o (p ∷ ps) le = turns-drop n (Some p) ps (omega (arith, le))

last-extended : (n : ℕ) (o : Option (Stamped Plain)) (ps fs : List (Stamped Plain)) → n ≤ length ps → last_of o n (ps ++ fs) ≡ last_of o n ps
last-extended zero o ps fs le = refl
last-extended (suc n) o [] fs le = absurd (omega (arith, le))
last-extended (suc n) o (p ∷ ps) fs le = last-extended n (Some p) ps fs (omega (arith, le))

last-none : (n : ℕ) (o : Option (Stamped Plain)) → last_of o n [] ≡ o
last-none zero o = refl
last-none (suc n) o = refl

last-added : (n m : ℕ) (o : Option (Stamped Plain)) (ps : List (Stamped Plain)) → last_of (last_of o n ps) m (drop n ps) ≡ last_of o (n + m) ps
last-added zero m o ps = ap (λ (k : ℕ). last_of o k ps) (sym (zero-add m))
last-added (suc n) m o [] = last-none m o ∙ sym (last-none (suc n + m) o)
last-added (suc n) m o (p ∷ ps) = last-added n m (Some p) ps ∙ ap (λ (k : ℕ). last_of o k (p ∷ ps)) (let e : suc (n + m) ≡ suc n + m = omega arith in e)

pub rises-drop : (n : ℕ) (o : Option (Stamped Plain)) (ps : List (Stamped Plain)) → Rises (after o) (times_of ps) → Rises (after (last_of o n ps)) (times_of (drop n ps))
rises-drop zero o ps r = r
rises-drop (suc n) o [] r = tt
rises-drop (suc n) o (p ∷ ps) r = rises-drop n (Some p) ps r.1

stands-behind : (o : Option (Stamped Plain)) (ps : List (Stamped Plain)) → Rises (after o) (times_of ps) → StandsBehind o ps
stands-behind None ps r = tt
stands-behind (Some before) ps r =
    All-from_recursion (λ (p : Stamped Plain). before.at < p.at) ps
    (each-packet (λ t. before.at < t) ps (λ t i. (let least = Rises-least (before.at + 1) t (times_of ps) r i in omega (arith, least))))

-- what is past stays so
past-extended : (o : Option (Stamped Plain)) (loop more : StreamPrefix Plain) (gone : ℕ) → IsExtendedBy loop more → IsPast o loop gone → IsPast o more gone
past-extended o loop more gone e past =
    let within = past.within in
    rw e.packets (record {
      within = omega (arith, within, length-append loop.packets e.further);
      past = subst (ArePast o) (sym (take-append-le gone loop.packets e.further within)) past.past;
    })

past-later : (m : ℕ) (o : Option (Stamped Plain)) (qs xs : List (Stamped Plain)) → ArePast o xs → Rises (after o) (times_of qs) → ArePast (last_of o m qs) xs
past-later zero o qs xs past r = past
past-later (suc m) o [] xs past r = past
past-later (suc m) o (q ∷ qs) xs past r = past-later m (Some q) qs xs (one o past r.0) r.1
  where
    one : (before : Option (Stamped Plain)) → ArePast before xs → after before ≤ q.at → All (λ p. p.at < q.at) xs
    one None none up = subst (λ (ps : List (Stamped Plain)). All (λ p. p.at < q.at) ps) (sym none) (All-nil (λ (p : Stamped Plain). p.at < q.at))
    one (Some p) all up = All-weaker (λ (r : Stamped Plain). r.at < p.at) (λ (r : Stamped Plain). r.at < q.at) (λ r lt. (let step : p.at + 1 ≤ q.at = up in omega (arith, lt, step))) xs all

past-append : (o : Option (Stamped Plain)) (xs ys : List (Stamped Plain)) → ArePast o xs → ArePast o ys → ArePast o (xs ++ ys)
past-append None xs ys first second = ap₂ (λ (ps qs : List (Stamped Plain)). ps ++ qs) first second
past-append (Some before) xs ys first second = All-append (λ (p : Stamped Plain). p.at < before.at) xs ys first second

past-further : (m : ℕ) (o : Option (Stamped Plain)) (qs : List (Stamped Plain)) (more : StreamPrefix Plain) (gone further : ℕ) → IsPast o more gone → Rises (after o) (times_of qs) → IsPast (last_of o m qs) (behind_first gone more) further
    → IsPast (last_of o m qs) more (gone + further)
past-further m o qs more gone further past r next = record {
  within = (let within = past.within in let less = next.within in omega (arith, within, less, length-drop gone more.packets));
  past = subst (ArePast (last_of o m qs)) (sym (take-add gone further more.packets))
      (past-append (last_of o m qs) (take gone more.packets) (take further (drop gone more.packets)) (past-later m o qs (take gone more.packets) past.past r) next.past);
}

-- the further answers
turns-agree : (k : ℕ) (more rest : StreamPrefix Plain) (o : Option (Stamped Plain)) (ps : List (Stamped Plain)) → ((u : ℕ) → after o ≤ u + 1 → packet_at u rest.packets ≡ packet_at u more.packets) → Rises (after o) (times_of ps)
    → map (reply more) (take k (turns o ps)) ≡ map (reply rest) (take k (turns o ps))
turns-agree zero more rest o ps finds r = refl
turns-agree (suc k) more rest o [] finds r = refl
turns-agree (suc k) more rest o (p ∷ ps) finds r =
    ap₂ (λ (a : Reply Plain) (rest : List (Reply Plain)). a ∷ rest) (same o finds)
    (turns-agree k more rest (Some p) ps (λ u le. finds u (let up : after o ≤ p.at = r.0 in let above : p.at + 1 ≤ u + 1 = le in omega (arith, up, above))) r.1)
  where
    same : (before : Option (Stamped Plain)) → ((u : ℕ) → after before ≤ u + 1 → packet_at u rest.packets ≡ packet_at u more.packets) → reply more (before, p) ≡ reply rest (before, p)
    same None finds = refl
    same (Some q) finds = ap (λ (found : Option (Stamped Plain)). (let it : Reply Plain = record { at = p.at; value = option_map (λ r. r.value) found } in it)) (sym (finds q.at (let le : q.at + 1 ≤ q.at + 1 = omega arith in le)))

pub replies-further : (main wider loop more : StreamPrefix Plain) (gone : ℕ) → IsPrefix wider → IsExtendedBy main wider → IsExtendedBy loop more → IsPast (last_of None (length (replies main loop)) wider.packets) more gone
    → replies wider more ≡ replies main loop ++ replies_behind (last_of None (length (replies main loop)) wider.packets) (behind_first (length (replies main loop)) wider) (behind_first gone more)
replies-further main wider loop more gone h e f past =
    let n = length (replies main loop) in
    let ps = wider.packets in
    let o = last_of None n ps in
    let rest = behind_first gone more in
    let stay = replies-stay main wider loop more e f in
    let most : n ≤ length ps = omega (arith, replies-most main loop, ap length e.packets, length-append main.packets e.further) in
    let few : n ≤ prefix_len (is_answered more) (turns None ps) = omega (arith, ap length stay, length-take n (replies wider more), length-replies wider more) in
    let rises = rises-drop n None ps (prefix-rises wider h) in
    sym (take-append-drop n (replies wider more))
    ∙ ap₂ (λ (front back : List (Reply Plain)). front ++ back) stay
    (drop-map (reply more) n (take_while (is_answered more) (turns None ps))
    ∙ ap (map (reply more)) (sym (take_while-drop (is_answered more) n (turns None ps) few) ∙ ap (take_while (is_answered more)) (turns-drop n None ps most))
    ∙ turns-agree (prefix_len (is_answered more) (turns o (drop n ps))) more rest o (drop n ps) (past-finds o gone more.packets past.past) rises)

last-wider : (main wider loop : StreamPrefix Plain) → IsExtendedBy main wider → last_of None (length (replies main loop)) wider.packets ≡ last_of None (length (replies main loop)) main.packets
last-wider main wider loop e =
    ap (λ (ps : List (Stamped Plain)). last_of None (length (replies main loop)) ps) e.packets
    ∙ last-extended (length (replies main loop)) None main.packets e.further (replies-most main loop)

pub loopback-behind : (n : ℕ) (main : StreamPrefix Plain) → IsPrefix main → StandsBehind (last_of None n main.packets) (drop n main.packets)
loopback-behind n main h = stands-behind (last_of None n main.packets) (drop n main.packets) (rises-drop n None main.packets (prefix-rises main h))

pub loopback-further : (main wider loop more left rest : StreamPrefix Plain) (packets : List (Stamped Plain)) (gone : ℕ) → IsPrefix wider → IsExtendedBy main wider → IsExtendedBy loop more → IsPast (last_of None (length (replies main loop)) main.packets) loop gone
    → AreAnswers (last_of None (length (replies main loop)) wider.packets) (behind_first (length (replies main loop)) wider) (behind_first gone more) packets left rest → GoesOn main wider loop more packets left rest
loopback-further main wider loop more left rest packets gone h e f past answers =
    let n = length (replies main loop) in
    let ps = wider.packets in
    let o = last_of None n ps in
    let further = replies_behind o (behind_first n wider) (behind_first gone more) in
    let now : IsPast o more gone = subst (λ (before : Option (Stamped Plain)). IsPast before more gone) (sym (last-wider main wider loop e)) (past-extended (last_of None n main.packets) loop more gone f past) in
    let all = replies-further main wider loop more gone h e f now in
    let count : length (replies wider more) ≡ n + length further = ap length all ∙ length-append (replies main loop) further in
    let left_is : left ≡ behind_first (n + length further) wider = answers.answered ∙ ap (λ (qs : List (Stamped Plain)). (let it : StreamPrefix Plain = record { packets = qs; bound = wider.bound } in it)) (drop-drop (length further) n ps) in
    let most = replies-most wider more in
    let later = past-further (length further) o (drop n ps) more gone answers.gone now (rises-drop n None ps (prefix-rises wider h)) answers.past in
    let rest_is : rest ≡ behind_first (gone + answers.gone) more = answers.left ∙ ap (λ (qs : List (Stamped Plain)). (let it : StreamPrefix Plain = record { packets = qs; bound = more.bound } in it)) (drop-drop answers.gone gone more.packets) in
    let within = later.within in
    let gone_is : gone + answers.gone ≡ length more.packets - length rest.packets = omega (arith, within, ap (λ (s : StreamPrefix Plain). length s.packets) rest_is, length-drop (gone + answers.gone) more.packets) in
    record {
      stream = ap₂ (λ (qs : List (Stamped Plain)) (b : ℕ). (let it : StreamPrefix Plain = record { packets = qs; bound = b } in it))
          (ap (filter_map packet_of) all ∙ filter_map-append packet_of (replies main loop) further ∙ ap (λ (qs : List (Stamped Plain)). (loopback main loop).packets ++ qs) (sym answers.answers))
          (ap (λ (k : ℕ). first_time (drop k ps) wider.bound) count ∙ sym (ap (λ (s : StreamPrefix Plain). first_time s.packets s.bound) left_is));
      answered = omega (arith, count, most, ap (λ (s : StreamPrefix Plain). length s.packets) left_is, length-drop (n + length further) ps);
      past = subst (λ (before : Option (Stamped Plain)). IsPast before more (length more.packets - length rest.packets)) (last-added n (length further) None ps ∙ ap (λ (k : ℕ). last_of None k ps) (sym count))
          (subst (IsPast (last_of o (length further) (drop n ps)) more) gone_is later);
    }
