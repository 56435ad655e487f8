-- What was taken of a feed before, and what it has since.
use Rattle.std.proofs.Common.{◌≡◌, ◌<◌, ℕ, zero, suc, max, List, [], ◌∷◌, ◌++◌, length, get_or, Bool, true, false, refl, sym, ap, ◌∙◌, arith}
use Rattle.std.proofs.lemmas.List.{length-map, get_or-map}
use Rattle.std.proofs.lemmas.List.Elements.{AllZip-get_or}
use Rattle.mg_value.specs.Payload.{Plain}
use Rattle.mg_value.specs.Packet.{Stamped}
use Rattle.mg_settled.specs.Prefix.{StreamPrefix, empty_prefix}
use Rattle.mg_settled.specs.Extension.{IsExtendedBy}
use Rattle.mg_settled.proofs.Lemmas.{same_prefix}
use Rattle.mg_feed.specs.Accepted.{State, given_by}
use Rattle.mg_feed.specs.Given.{ended_stream, ended_streams}
use Rattle.mg_feed.specs.View.{View}
use Rattle.mg_feed.specs.Stands.{HasAccepted, with_gone, behind_all, taken_with, packets_of}
use Rattle.mg_feed.proofs.Growing.{streams-grow}

taken-behind : (ts : List (List (Stamped Plain))) (ss : List (StreamPrefix Plain)) → taken_with ts ss ≡ packets_of (behind_all ts ss)
taken-behind [] ss = refl
taken-behind (t ∷ ts) [] = refl
taken-behind (t ∷ ts) (s ∷ ss) = ap (λ l. (t ++ s.packets) ∷ l) (taken-behind ts ss)

-- what was taken by now is all that the lines gave
pub taken-all : (lines : List (List ℕ)) (gone : List (List (Stamped Plain))) (v : View) → HasAccepted lines gone v
    → taken_with gone v.given.streams ≡ packets_of (given_by v.graph lines).streams
taken-all lines gone v stands = taken-behind gone v.given.streams ∙ ap (λ (s : State). packets_of s.streams) (sym stands.given)

pub as-many : (lines more : List (List ℕ)) (v : View) → HasAccepted (lines ++ more) (packets_of (given_by v.graph lines).streams) v
    → length v.given.streams ≡ length (given_by v.graph lines).streams
as-many lines more v stands = sym stands.many ∙ length-map (given_by v.graph lines).streams (λ s. s.packets)

pub same-sides : (lines : List (List ℕ)) (gone : List (List (Stamped Plain))) (v : View) → HasAccepted lines gone v → v.given.sides ≡ (given_by v.graph lines).sides
same-sides lines gone v stands = ap (λ (s : State). s.sides) (sym stands.given)

-- One stream --

pub behind-at : (gs ss : List (StreamPrefix Plain)) (i : ℕ) → i < length gs → i < length ss
    → get_or (behind_all (packets_of gs) ss) i empty_prefix ≡ with_gone (get_or gs i empty_prefix).packets (get_or ss i empty_prefix)
behind-at [] ss i here there = absurd (omega arith)
behind-at (g ∷ gs) [] i here there = absurd (omega arith)
behind-at (g ∷ gs) (s ∷ ss) zero here there = refl
behind-at (g ∷ gs) (s ∷ ss) (suc i) here there = behind-at gs ss i (omega arith) (omega arith)

pub ended-behind : (ended : Bool) (t : List (Stamped Plain)) (s : StreamPrefix Plain) → ended_stream ended (with_gone t s) ≡ with_gone t (ended_stream ended s)
ended-behind true t s = refl
ended-behind false t s = refl

behind-length : (ts : List (List (Stamped Plain))) (ss : List (StreamPrefix Plain)) (i : ℕ) → i < length ts → i < length ss → i < length (behind_all ts ss)
behind-length [] ss i here there = absurd (omega arith)
behind-length (t ∷ ts) [] i here there = absurd (omega arith)
behind-length (t ∷ ts) (s ∷ ss) zero here there = omega arith
behind-length (t ∷ ts) (s ∷ ss) (suc i) here there = let more = behind-length ts ss i (omega arith) (omega arith) in omega (arith, more)

ended-at : (ended : Bool) (ss : List (StreamPrefix Plain)) (i : ℕ) → i < length ss
    → get_or (ended_streams ended ss) i empty_prefix ≡ ended_stream ended (get_or ss i empty_prefix)
ended-at ended ss i there = get_or-map (ended_stream ended) ss i empty_prefix empty_prefix there

pub joined : (g s w : StreamPrefix Plain) → w ≡ with_gone g.packets s → IsExtendedBy g w → w ≡ record { packets = g.packets ++ s.packets; bound = max g.bound s.bound }
joined g s w is e =
    let same : w.bound ≡ s.bound = ap (λ (x : StreamPrefix Plain). x.bound) is in
    let low = e.bound in
    same_prefix w (record { packets = g.packets ++ s.packets; bound = max g.bound s.bound }) (ap (λ (x : StreamPrefix Plain). x.packets) is) (omega (arith, same, low))

pub one-piece : (lines more : List (List ℕ)) (v : View) (ended : Bool) (input : ℕ) → HasAccepted (lines ++ more) (packets_of (given_by v.graph lines).streams) v
    → input < length v.given.streams
    → get_or (ended_streams ended (given_by v.graph (lines ++ more)).streams) input empty_prefix ≡ record {
      packets = (get_or (given_by v.graph lines).streams input empty_prefix).packets ++ (get_or (ended_streams ended v.given.streams) input empty_prefix).packets;
      bound = max (get_or (given_by v.graph lines).streams input empty_prefix).bound (get_or (ended_streams ended v.given.streams) input empty_prefix).bound;
    }
one-piece lines more v ended input stands there =
    let gs = (given_by v.graph lines).streams in
    let ss = v.given.streams in
    let ws = (given_by v.graph (lines ++ more)).streams in
    let here : input < length gs = omega (arith, there, as-many lines more v stands) in
    let among : input < length (packets_of gs) = omega (arith, here, length-map gs (λ s. s.packets)) in
    let cut : ws ≡ behind_all (packets_of gs) ss = ap (λ (s : State). s.streams) stands.given in
    let g = get_or gs input empty_prefix in
    let whole : get_or (ended_streams ended ws) input empty_prefix ≡ with_gone g.packets (get_or (ended_streams ended ss) input empty_prefix) =
    ap (λ (l : List (StreamPrefix Plain)). get_or (ended_streams ended l) input empty_prefix) cut
    ∙ ended-at ended (behind_all (packets_of gs) ss) input (behind-length (packets_of gs) ss input among there)
    ∙ ap (ended_stream ended) (behind-at gs ss input here there)
    ∙ ended-behind ended g.packets (get_or ss input empty_prefix)
    ∙ ap (with_gone g.packets) (sym (ended-at ended ss input there)) in
    joined g (get_or (ended_streams ended ss) input empty_prefix) (get_or (ended_streams ended ws) input empty_prefix) whole
    (AllZip-get_or IsExtendedBy gs (ended_streams ended ws) input empty_prefix empty_prefix (streams-grow v.graph lines more ended stands.good) here)
