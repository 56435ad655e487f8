-- What the answers tell of the output stream.
use Rattle.std.proofs.Common.{◌≡◌, ℕ, zero, suc, ◌+◌, ◌≤◌, inl, inr, List, [], ◌∷◌, ◌++◌, take, drop, length, length-drop, Option, Some, None, ap, subst, sym, refl, ◌∙◌, arith}
use Rattle.std.specs.List.{filter_map, prefix_len}
use Rattle.std.proofs.lemmas.Bool.{cases_Bool}
use Rattle.std.proofs.lemmas.List.{take-append-drop, take-append-le}
use Rattle.std.proofs.lemmas.List.Elements.{All-from_recursion}
use Rattle.mg_time.specs.Time.{done}
use Rattle.mg_value.specs.Packet.{Stamped}
use Rattle.mg_settled.specs.Prefix.{StreamPrefix, IsPrefix, first_time}
use Rattle.mg_settled.specs.Extension.{IsExtendedBy}
use Rattle.mg_settled.specs.Loopback.{is_answered, Reply, replies, packet_of, loopback}
use Rattle.mg_settled.proofs.Extending.{extended_by_itself, same_prefix}
use Rattle.mg_settled.proofs.Climbs.{Climbs, prefix-climbs, Climbs-drop, Climbs-most, Climbs-from}
use Rattle.mg_settled.proofs.LoopbackStream.{length-replies, replies-stay, replies-most, loopback_extends}
use Rattle.mg_loopback.specs.Loopback.{Held}
use Rattle.mg_loopback.specs.Standing.{StandsAfter, after_replies}
use Rattle.mg_loopback.proofs.Turns.{turns}
use Rattle.mg_loopback.proofs.Standing.{all_told, told_stream, reached_is}
use Rattle.mg_loopback.proofs.Steps.{none_next}

-- the answers that were given stay the first ones
pub first_stay : {X : Type 0} (k : ℕ) (held : Held X) (main wider loop more : StreamPrefix X) → StandsAfter k held main loop → IsExtendedBy main wider → IsExtendedBy loop more → take k (replies wider more) ≡ take k (replies main loop)
first_stay {X} k held main wider loop more h e f =
    let rs = replies main loop in
    let all = replies wider more in
    let whole : rs ++ drop (length rs) all ≡ all = ap (λ (l : List (Reply X)). l ++ drop (length rs) all) (sym (replies-stay main wider loop more e f)) ∙ take-append-drop (length rs) all in
    ap (λ (l : List (Reply X)). take k l) (sym whole) ∙ take-append-le k rs (drop (length rs) all) h.answered

-- if nothing waits on MAIN
pub each_answered : {X : Type 0} (k : ℕ) (held : Held X) (main loop : StreamPrefix X) → StandsAfter k held main loop → held.main.packets ≡ [] → length (replies main loop) ≡ length main.packets
each_answered {X} k held main loop h none =
    let empty : length (drop held.main.gone main.packets) ≡ 0 = ap (λ (l : List (Stamped X)). length l) (sym h.at_main.waiting ∙ none) in
    let gone = h.gone in
    let answered = h.answered in
    omega (arith, empty, gone, answered, length-drop held.main.gone main.packets, replies-most main loop)

pub stream_ends : {X : Type 0} (k : ℕ) (held : Held X) (main loop : StreamPrefix X) → StandsAfter k held main loop → held.main.packets ≡ [] → held.main.bound ≡ done → (loopback main loop).bound ≡ done
stream_ends {X} k held main loop h none end =
    let all = told_stream k main loop (all_told k held main loop h (none_next held none)) in
    ap (λ (s : StreamPrefix X). s.bound) (sym all) ∙ sym (reached_is k held main loop h) ∙ ap (λ (ps : List (Stamped X)). first_time ps held.main.bound) none ∙ end

-- the prefix of MAIN that is answered: its first k packets, up to the time of the packet after these
abbrev cut : {X : Type 0} → ℕ → StreamPrefix X → StreamPrefix X
cut k s = record { packets = take k s.packets; bound = first_time (drop k s.packets) s.bound }

climbs_itself : {X : Type 0} (a b : ℕ) (ps : List (Stamped X)) → Climbs a ps b → Climbs (first_time ps b) ps b
climbs_itself a b [] h = omega arith
climbs_itself a b (p ∷ ps) h = (omega arith, h.1)

cut_extended : {X : Type 0} (k : ℕ) (s : StreamPrefix X) → IsPrefix s → IsExtendedBy (cut k s) s
cut_extended {X} k s h =
    let rest = drop k s.packets in
    let climbs = Climbs-drop 0 s.bound k s.packets (prefix-climbs s h) in
    record {
      further = rest;
      packets = sym (take-append-drop k s.packets);
      bound = Climbs-most 0 s.bound rest climbs;
      above = All-from_recursion (λ (p : Stamped X). first_time rest s.bound ≤ p.at) rest (Climbs-from (first_time rest s.bound) s.bound rest (climbs_itself 0 s.bound rest climbs));
    }

number_cut : {X : Type 0} (loop : StreamPrefix X) (o : Option (Stamped X)) (k : ℕ) (ps : List (Stamped X)) → k ≤ prefix_len (is_answered loop) (turns o ps) → prefix_len (is_answered loop) (turns o (take k ps)) ≡ k
number_cut loop o zero ps le = refl
number_cut loop o (suc k) [] le = absurd (omega (arith, le))
number_cut loop o (suc k) (p ∷ ps) le = elim (cases_Bool (is_answered loop (o, p))) [
  | inl here ↦
      (let few : k ≤ prefix_len (is_answered loop) (turns (Some p) ps) = (let le' : suc k ≤ 1 + prefix_len (is_answered loop) (turns (Some p) ps) = rw here at le in omega (arith, le')) in
      let later = number_cut loop (Some p) k ps few in
      rw here (omega (arith, later)))
  | inr fails ↦ absurd (let le' : suc k ≤ 0 = rw fails at le in omega (arith, le'))
]

none_left : {X : Type 0} (k : ℕ) (ps : List X) → drop k (take k ps) ≡ []
none_left zero ps = refl
none_left (suc k) [] = refl
none_left (suc k) (p ∷ ps) = none_left k ps

cut_stream : {X : Type 0} (k : ℕ) (main loop : StreamPrefix X) → IsPrefix main → k ≤ length (replies main loop) → loopback (cut k main) loop ≡ after_replies k main loop
cut_stream {X} k main loop h le =
    let few : k ≤ prefix_len (is_answered loop) (turns None main.packets) = omega (arith, le, length-replies main loop) in
    let number : length (replies (cut k main) loop) ≡ k = length-replies (cut k main) loop ∙ number_cut loop None k main.packets few in
    let same : replies (cut k main) loop ≡ take k (replies main loop) =
    sym (replies-stay (cut k main) main loop loop (cut_extended k main h) (extended_by_itself loop)) ∙ ap (λ (n : ℕ). take n (replies main loop)) number in
    same_prefix (loopback (cut k main) loop) (after_replies k main loop)
    (ap (λ (rs : List (Reply X)). filter_map packet_of rs) same)
    (ap (λ (n : ℕ). first_time (drop n (take k main.packets)) (first_time (drop k main.packets) main.bound)) number
    ∙ ap (λ (ps : List (Stamped X)). first_time ps (first_time (drop k main.packets) main.bound)) (none_left k main.packets))

pub told_extended : {X : Type 0} (k : ℕ) (held : Held X) (main loop : StreamPrefix X) → StandsAfter k held main loop → IsExtendedBy (after_replies k main loop) (loopback main loop)
told_extended {X} k held main loop h =
    subst (λ (s : StreamPrefix X). IsExtendedBy s (loopback main loop)) (cut_stream k main loop h.at_main.prefix h.answered)
    (loopback_extends (cut k main) main loop loop h.at_main.prefix (cut_extended k main h.at_main.prefix) (extended_by_itself loop))
