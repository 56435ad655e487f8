-- The definitions at a few small inputs.
use Rattle.std.proofs.Common.{◌≡◌, ℕ, List, [], ◌∷◌, Some, None, refl, pos, negsuc}
use Rattle.mg_value.specs.Payload.{Plain, int}
use Rattle.mg_value.specs.declared.policy.Policy.TheVariants.{Default, Mux}
use Rattle.mg_value.specs.Packet.{Stamped}
use Rattle.mg_settled.specs.Prefix.{StreamPrefix}
use Rattle.mg_settled.specs.Settled.{settled_sets, reach}
use Rattle.mg_settled.specs.Left.{after_sets, set_times}
use Rattle.mg_settled.specs.Loopback.{loopback}

-- a packet of a number, and a prefix of packets
abbrev pk : ℕ → ℕ → Stamped Plain
pk t n = record { at = t; value = int (pos n) }

abbrev pre : List (Stamped Plain) → ℕ → StreamPrefix Plain
pre ps b = record { packets = ps; bound = b }

-- two ports and SELECT
abbrev three : List (StreamPrefix Plain)
three = pre (pk 5 50 ∷ pk 10 51 ∷ []) 11 ∷ pre (pk 10 60 ∷ []) 20 ∷ pre (pk 5 0 ∷ pk 10 1 ∷ pk 20 1 ∷ pk 30 0 ∷ []) 31 ∷ []

default_times : set_times Default three ≡ 5 ∷ 10 ∷ []
default_times = refl

mux_sets : settled_sets Mux three ≡ record { at = 5; set = Some (pk 5 50) ∷ None ∷ Some (pk 5 0) ∷ [] } ∷ record { at = 10; set = None ∷ Some (pk 10 60) ∷ Some (pk 10 1) ∷ [] } ∷ []
mux_sets = refl

mux_reach : reach Mux three ≡ 20
mux_reach = refl

default_reach : reach Default three ≡ 11
default_reach = refl

mux_left : after_sets Mux 1 three ≡ pre (pk 10 51 ∷ []) 11 ∷ pre (pk 10 60 ∷ []) 20 ∷ pre (pk 10 1 ∷ pk 20 1 ∷ pk 30 0 ∷ []) 31 ∷ []
mux_left = refl

-- its own number selects no port, nor does a number below zero
own_number : settled_sets Mux (pre [] 2 ∷ pre (pk 5 1 ∷ []) 6 ∷ []) ≡ record { at = 5; set = None ∷ Some (pk 5 1) ∷ [] } ∷ []
own_number = refl

abbrev below : Stamped Plain
below = record { at = 5; value = int (negsuc 0) }

below_zero : settled_sets Mux (pre [] 2 ∷ pre (below ∷ []) 6 ∷ []) ≡ record { at = 5; set = None ∷ Some below ∷ [] } ∷ []
below_zero = refl

-- a packet at the bound of the port that it selects waits, and so do the packets after it
at_the_bound : settled_sets Mux (pre [] 5 ∷ pre [] 9 ∷ pre (pk 5 0 ∷ pk 6 1 ∷ []) 7 ∷ []) ≡ []
at_the_bound = refl

-- LOOP's packet has to stand exactly at the time of the one before
loop_back : loopback (pre (pk 10 1 ∷ pk 20 2 ∷ pk 30 3 ∷ pk 40 4 ∷ []) 41) (pre (pk 10 7 ∷ pk 25 8 ∷ []) 30) ≡ pre (pk 20 7 ∷ []) 40
loop_back = refl
