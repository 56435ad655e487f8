-- Timestamps, after the pages Packets and Synchronization of the MediaPipe framework.
-- A timestamp is a signed 64-bit number. Definitions see it as its place: how far it stands above Unset, the
-- lowest. So a time is a natural number from 0 to 2^64 - 1, in the same order.
use Rattle.std.specs.Prelude.{ℕ, suc, List, [], ◌∷◌, ◌+◌, ◌-◌, ◌^◌, ◌≤◌, min, max, ◌||◌, ◌==◌, nat_le, if◌then◌else◌, ℤ, pos, negsuc, ◌-ℤ◌}

-- the signed number of the time at a place
abbrev pub raw_of : ℕ → ℤ
raw_of place = pos place -ℤ pos (2 ^ 63)

-- the place of the time with a signed number
abbrev pub place_of : ℤ → ℕ
place_of (pos n) = n + 2 ^ 63
place_of (negsuc n) = 2 ^ 63 - suc n

-- The special values, and the ends of the range: Unset is -2^63, and Done is 2^63 - 1.
abbrev pub unset : ℕ
unset = 0

abbrev pub unstarted : ℕ
unstarted = 1

abbrev pub pre_stream : ℕ
pre_stream = 2

abbrev pub least : ℕ
least = 3

abbrev pub greatest : ℕ
greatest = 2 ^ 64 - 4

abbrev pub post_stream : ℕ
post_stream = 2 ^ 64 - 3

abbrev pub one_over_post_stream : ℕ
one_over_post_stream = 2 ^ 64 - 2

abbrev pub done : ℕ
done = 2 ^ 64 - 1

-- the special values, ascending, as places and as the signed numbers that the framework gives them
abbrev pub constant_places : List ℕ
constant_places = unset ∷ unstarted ∷ pre_stream ∷ least ∷ greatest ∷ post_stream ∷ one_over_post_stream ∷ done ∷ []

abbrev pub constant_numbers : List ℤ
constant_numbers =
    negsuc (2 ^ 63 - 1) ∷ negsuc (2 ^ 63 - 2) ∷ negsuc (2 ^ 63 - 3) ∷ negsuc 9223372036854775804
    ∷ pos 9223372036854775804 ∷ pos (2 ^ 63 - 3) ∷ pos (2 ^ 63 - 2) ∷ pos (2 ^ 63 - 1) ∷ []

-- a time of the range, from Min to Max
abbrev pub IsRange : ℕ → Type 0
IsRange t = (least ≤ t) × (t ≤ greatest)

-- a time that a packet may carry: PreStream, a time of the range, or PostStream
abbrev pub IsAllowed : ℕ → Type 0
IsAllowed t = (pre_stream ≤ t) × (t ≤ post_stream)

-- the lowest time that may follow a packet at t: OneOverPostStream if t is PreStream, Max or above, and else t + 1. No
-- packet may carry OneOverPostStream.
abbrev pub next : ℕ → ℕ
next t = if nat_le greatest t || (t == pre_stream) then one_over_post_stream else t + 1

-- a place moved by an offset, no lower than Min and no higher than Max
abbrev pub moved : ℕ → ℤ → ℕ
moved t (pos n) = min (t + n) greatest
moved t (negsuc n) = max (t - suc n) least

-- a bound moved by a node's offset: a time of the range stays in the range, and every other stays as it is
abbrev pub shift : ℕ → ℤ → ℕ
shift t offset = if nat_le least t then (if nat_le t greatest then moved t offset else t) else t
