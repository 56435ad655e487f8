-- A step of what is at a place, and what it leaves.
use Rattle.std.proofs.Common.{◌≡◌, ◌<◌, ◌≤◌, ℕ, zero, suc, List, [], ◌∷◌, unwrap_or, length, map, get_or, slice_get, refl, ap, arith}
use Rattle.std.proofs.Math.ListN.{set}
use Rattle.mg_feed.specs.Accepted.{stepped, no_stream}
use Rattle.mg_feed.specs.View.{standings}
use Rattle.mg_feed.specs.Code.Streams.{waiting, was_taken}
use Rattle.mg_feed.specs.Code.Streams.{standing_now}
use Rattle.mg_feed.specs.declared.feed_stream.FeedStream.{FeedStream}

-- a list is written at a place, and what is seen of it is stepped there
pub map-stepped : {X Y : Type 0} (f : Y → X) (step : X → X) (ys : List Y) (i : ℕ) (y d : Y) → i < length ys → f y ≡ step (f (get_or ys i d)) → map f (set ys i y) ≡ stepped i step (map f ys)
map-stepped f step [] i y d lt is = absurd (omega arith)
map-stepped f step (x ∷ xs) zero y d lt is = ap (λ z. z ∷ map f xs) is
map-stepped f step (x ∷ xs) (suc i) y d lt is = ap (λ zs. f x ∷ zs) (map-stepped f step xs i y d (omega arith) is)

-- it is written at a place, and what is seen of it stays
pub map-same : {X Y : Type 0} (f : Y → X) (ys : List Y) (i : ℕ) (y d : Y) → i < length ys → f y ≡ f (get_or ys i d) → map f (set ys i y) ≡ map f ys
map-same f [] i y d lt is = absurd (omega arith)
map-same f (x ∷ xs) zero y d lt is = ap (λ z. z ∷ map f xs) is
map-same f (x ∷ xs) (suc i) y d lt is = ap (λ zs. f x ∷ zs) (map-same f xs i y d (omega arith) is)

-- there is no such place
pub stepped-past : {X Y : Type 0} (f : Y → X) (step : X → X) (ys : List Y) (i : ℕ) → length ys ≤ i → map f ys ≡ stepped i step (map f ys)
stepped-past f step [] i past = refl
stepped-past f step (x ∷ xs) zero past = absurd (omega arith)
stepped-past f step (x ∷ xs) (suc i) past = ap (λ zs. f x ∷ zs) (stepped-past f step xs i (omega arith))

-- the standing of a stream by its place
pub standing-at : (ss : List FeedStream) (i : ℕ) (s : FeedStream) → i < length ss → s ≡ get_or ss i s → standing_now s ≡ unwrap_or (slice_get (standings (map was_taken ss) (map waiting ss)) i) no_stream
standing-at [] i s lt is = absurd (omega arith)
standing-at (t ∷ ss) zero s lt is = ap standing_now is
standing-at (t ∷ ss) (suc i) s lt is = standing-at ss i s (omega arith) is

pub standing-past : (ss : List FeedStream) (i : ℕ) → length ss ≤ i → no_stream ≡ unwrap_or (slice_get (standings (map was_taken ss) (map waiting ss)) i) no_stream
standing-past [] i past = refl
standing-past (t ∷ ss) zero past = absurd (omega arith)
standing-past (t ∷ ss) (suc i) past = standing-past ss i (omega arith)
