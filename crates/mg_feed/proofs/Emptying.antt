-- Streams whose packets are taken, one after the other.
use Rattle.std.proofs.Common.{◌≡◌, ◌<◌, ◌≤◌, ◌||◌, ℕ, zero, suc, List, [], ◌∷◌, ◌++◌, Bool, length, map, take, drop, get_or, refl, sym, ap, ◌∙◌, arith, append-nil}
use Rattle.std.proofs.Math.ListN.{set}
use Rattle.std.proofs.lemmas.List.{take_all, drop_all}
use Rattle.mg_value.specs.Payload.{Plain}
use Rattle.mg_settled.specs.Prefix.{StreamPrefix}
use Rattle.mg_feed.specs.Accepted.{has_some}
use Rattle.mg_feed.specs.Given.{ended_stream, ended_streams}
use Rattle.mg_feed.specs.View.{without_packets, all_taken}
use Rattle.mg_feed.specs.Code.Streams.{waiting, was_taken}
use Rattle.mg_feed.specs.declared.feed_stream.FeedStream.{FeedStream}

-- what is seen of a stream
abbrev pub both : FeedStream → StreamPrefix Plain × Bool
both s = (waiting s, s.taken)

-- what taking its packets leaves of it
abbrev pub emptied : StreamPrefix Plain × Bool → StreamPrefix Plain × Bool
emptied p = (without_packets p.0, p.1 || has_some p.0.packets)

-- a list that is mapped in place
pub in-place : {X Y : Type 0} (v : Y → X) (f : X → X) (zs : List Y) (ys : List X) (i : ℕ) (y d : Y) → i < length zs
    → map v zs ≡ map f (take i ys) ++ drop i ys → v y ≡ f (v (get_or zs i d)) → map v (set zs i y) ≡ map f (take (suc i) ys) ++ drop (suc i) ys
in-place v f [] ys i y d lt is new = absurd (omega arith)
in-place v f (z ∷ zs) [] zero y d lt is new = cc
in-place v f (z ∷ zs) (x ∷ ys) zero y d lt is new = let a : v z ≡ x = cc in let b : map v zs ≡ ys = cc in rw (new, a, b) refl
in-place v f (z ∷ zs) [] (suc i) y d lt is new = cc
in-place v f (z ∷ zs) (x ∷ ys) (suc i) y d lt is new =
    let a : v z ≡ f x = cc in let b : map v zs ≡ map f (take i ys) ++ drop i ys = cc in
    rw (a, in-place v f zs ys i y d (omega arith) b new) refl

-- what is at the place is as it was
pub in-place-at : {X Y Z : Type 0} (v : Y → X) (f : X → X) (g : X → Z) (zs : List Y) (ys : List X) (i : ℕ) (d : Y) → i < length zs
    → map v zs ≡ map f (take i ys) ++ drop i ys → map g (take (suc i) ys) ≡ map g (take i ys) ++ g (v (get_or zs i d)) ∷ []
in-place-at v f g [] ys i d lt is = absurd (omega arith)
in-place-at v f g (z ∷ zs) [] zero d lt is = cc
in-place-at v f g (z ∷ zs) (x ∷ ys) zero d lt is = let a : v z ≡ x = cc in rw a refl
in-place-at v f g (z ∷ zs) [] (suc i) d lt is = cc
in-place-at v f g (z ∷ zs) (x ∷ ys) (suc i) d lt is =
    let b : map v zs ≡ map f (take i ys) ++ drop i ys = cc in ap (λ l. g x ∷ l) (in-place-at v f g zs ys i d (omega arith) b)

waiting-both : (ss : List FeedStream) → map (λ p. p.0) (map both ss) ≡ map waiting ss
waiting-both [] = refl
waiting-both (s ∷ ss) = ap (λ l. waiting s ∷ l) (waiting-both ss)

taken-both : (ss : List FeedStream) → map (λ p. p.1) (map both ss) ≡ map was_taken ss
taken-both [] = refl
taken-both (s ∷ ss) = ap (λ l. s.taken ∷ l) (taken-both ss)

waiting-emptied : (ss : List FeedStream) → map (λ p. p.0) (map emptied (map both ss)) ≡ map without_packets (map waiting ss)
waiting-emptied [] = refl
waiting-emptied (s ∷ ss) = ap (λ l. without_packets (waiting s) ∷ l) (waiting-emptied ss)

taken-emptied : (ss : List FeedStream) → map (λ p. p.1) (map emptied (map both ss)) ≡ all_taken (map was_taken ss) (map waiting ss)
taken-emptied [] = refl
taken-emptied (s ∷ ss) = ap (λ l. (s.taken || has_some s.packets.items) ∷ l) (taken-emptied ss)

pub ended-both : (ended : Bool) (ss : List FeedStream) → map (λ p. ended_stream ended p.0) (map both ss) ≡ ended_streams ended (map waiting ss)
ended-both ended [] = refl
ended-both ended (s ∷ ss) = ap (λ l. ended_stream ended (waiting s) ∷ l) (ended-both ended ss)

pub all-waiting : (old new : List FeedStream) → map both new ≡ map emptied (map both old) → map waiting new ≡ map without_packets (map waiting old)
all-waiting old new is = sym (waiting-both new) ∙ ap (map (λ p. p.0)) is ∙ waiting-emptied old

pub all-flags : (old new : List FeedStream) → map both new ≡ map emptied (map both old) → map was_taken new ≡ all_taken (map was_taken old) (map waiting old)
all-flags old new is = sym (taken-both new) ∙ ap (map (λ p. p.1)) is ∙ taken-emptied old

pub pair_of : (a b : StreamPrefix Plain) (x y : Bool) → a ≡ b → x ≡ y → (let p : StreamPrefix Plain × Bool = (a, x) in p) ≡ (b, y)
pair_of a b x y p q = λ i. (p i, q i)

both-length : (ss : List FeedStream) → length (map both ss) ≡ length ss
both-length [] = refl
both-length (s ∷ ss) = omega (arith, both-length ss)

-- all of them
pub taken-whole : (old new : List FeedStream) (i : ℕ) → length old ≤ i
    → map both new ≡ map emptied (take i (map both old)) ++ drop i (map both old) → map both new ≡ map emptied (map both old)
taken-whole old new i past is =
    let le : length (map both old) ≤ i = omega (arith, both-length old) in
    is ∙ rw (take_all i (map both old) le, drop_all i (map both old) le) (append-nil (map emptied (map both old)))

pub taken-prefixes : (ended : Bool) (old : List FeedStream) (prefixes : List (StreamPrefix Plain)) (i : ℕ) → length old ≤ i
    → prefixes ≡ map (λ p. ended_stream ended p.0) (take i (map both old)) → prefixes ≡ ended_streams ended (map waiting old)
taken-prefixes ended old prefixes i past is =
    let le : length (map both old) ≤ i = omega (arith, both-length old) in
    is ∙ ap (map (λ p. ended_stream ended p.0)) (take_all i (map both old) le) ∙ ended-both ended old
