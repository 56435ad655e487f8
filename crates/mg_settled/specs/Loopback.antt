-- The output stream of PreviousLoopbackCalculator, according to its page in the MediaPipe framework. With each packet of MAIN
-- comes what LOOP had at the packet of MAIN before it. The stream is a function of the whole prefixes of both inputs.
use Rattle.std.specs.Prelude.{◌≡◌, ℕ, zero, suc, ◌-◌, ◌<◌, ◌≤◌, Bool, true, List, [], ◌∷◌, ◌++◌, map, zip, take, drop, length, All, Option, Some, None, option_map, unwrap_or, slice_get, nat_lt, if◌then◌else◌, ⊤}
use Rattle.std.specs.List.{take_while, filter_map}
use Rattle.mg_value.specs.Packet.{Stamped}
use Rattle.mg_settled.specs.Prefix.{StreamPrefix, first_time}
use Rattle.mg_settled.specs.Settled.{packet_at}

-- packets of MAIN, each with the one before it, and the first with this packet before it, or none
abbrev pub turns : {X : Type 0} → Option (Stamped X) → List (Stamped X) → List (Option (Stamped X) × Stamped X)
turns before ps = zip (before ∷ map (λ p. Some p) ps) ps

-- the packets of MAIN, each with the one before it, and the first with none
abbrev pub with_previous : {X : Type 0} → List (Stamped X) → List (Option (Stamped X) × Stamped X)
with_previous ps = turns None ps

-- whether a packet of MAIN is answered: it is the first, or the time of the one before it is settled on LOOP
abbrev pub is_answered : {X : Type 0} → StreamPrefix X → Option (Stamped X) × Stamped X → Bool
is_answered loop turn = unwrap_or (option_map (λ previous. nat_lt previous.at loop.bound) turn.0) true

-- the answer to a packet of MAIN, at its time: what LOOP has exactly at the time of the one before it, or nothing
pub record Reply (X : Type 0) : Type 0 where
  pub at : ℕ
  pub value : Option X

-- what LOOP has at the time of this packet of MAIN, if there is one
abbrev pub found : {X : Type 0} → StreamPrefix X → Option (Stamped X) → Option X
found loop None = None
found loop (Some previous) = option_map (λ p. p.value) (packet_at previous.at loop.packets)

-- the answer to a packet of MAIN, by the one before it
abbrev pub reply : {X : Type 0} → StreamPrefix X → Option (Stamped X) × Stamped X → Reply X
reply loop turn = record { at = turn.1.at; value = found loop turn.0 }

-- the answers, one to each packet of MAIN that is answered: these are the packets before the first that isn't
abbrev pub replies : {X : Type 0} → StreamPrefix X → StreamPrefix X → List (Reply X)
replies main loop = map (reply loop) (take_while (is_answered loop) (with_previous main.packets))

-- an answer as a packet, if it isn't nothing
abbrev pub packet_of : {X : Type 0} → Reply X → Option (Stamped X)
packet_of r = option_map (λ v. record { at = r.at; value = v }) r.value

-- the output stream: the answers that aren't nothing, up to the time of the first packet of MAIN that isn't answered, or
-- to MAIN's bound
abbrev pub loopback : {X : Type 0} → StreamPrefix X → StreamPrefix X → StreamPrefix X
loopback main loop = record {
  packets = filter_map packet_of (replies main loop);
  bound = first_time (drop (length (replies main loop)) main.packets) main.bound;
}

-- What is left of MAIN after a packet, or after none, and what is left of LOOP.

-- the answers to the packets that are left of MAIN
abbrev pub replies_behind : {X : Type 0} → Option (Stamped X) → StreamPrefix X → StreamPrefix X → List (Reply X)
replies_behind before main loop = map (reply loop) (take_while (is_answered loop) (turns before main.packets))

-- packets stand after another packet, if there is one
abbrev pub StandsBehind : {X : Type 0} → Option (Stamped X) → List (Stamped X) → Type 0
StandsBehind None ps = ⊤
StandsBehind (Some before) ps = All (λ p. before.at < p.at) ps

-- packets of LOOP that nobody asks for after a packet of MAIN: they stand before it. The first packet of MAIN asks for none. So
-- if no packet of MAIN came before, there are no such packets
abbrev pub ArePast : {X : Type 0} → Option (Stamped X) → List (Stamped X) → Type 0
ArePast None ps = ps ≡ []
ArePast (Some before) ps = All (λ p. p.at < before.at) ps

-- this many first packets of LOOP are gone, and nobody asks for them after a packet of MAIN
pub record IsPast {X : Type 0} (before : Option (Stamped X)) (loop : StreamPrefix X) (gone : ℕ) : Type 0 where
  pub within : gone ≤ length loop.packets
  pub past : ArePast before (take gone loop.packets)

-- the last of the first n packets, or the packet before them if n is 0 or no packet is there
abbrev pub last_of : {X : Type 0} → Option (Stamped X) → ℕ → List (Stamped X) → Option (Stamped X)
last_of before zero ps = before
last_of before (suc n) [] = before
last_of before (suc n) (p ∷ ps) = last_of (Some p) n ps

-- a prefix without its first n packets
abbrev pub behind_first : {X : Type 0} → ℕ → StreamPrefix X → StreamPrefix X
behind_first n s = record { packets = drop n s.packets; bound = s.bound }

-- the answers, but those that are nothing, and what they leave: of MAIN what isn't answered, and of LOOP all that may be
-- asked for
pub record AreAnswers {X : Type 0} (before : Option (Stamped X)) (main loop : StreamPrefix X) (packets : List (Stamped X)) (main_left loop_left : StreamPrefix X) : Type 0 where
  pub answers : packets ≡ filter_map packet_of (replies_behind before main loop)
  pub answered : main_left ≡ behind_first (length (replies_behind before main loop)) main
  pub gone : ℕ
  pub past : IsPast (last_of before (length (replies_behind before main loop)) main.packets) loop gone
  pub left : loop_left ≡ behind_first gone loop

-- The loopback of longer inputs goes on from where that of shorter ones stood. Packets come after its own, up to what is left
-- of MAIN. The packets of LOOP that are gone are packets that nobody asks for.
pub record GoesOn {X : Type 0} (main wider loop more : StreamPrefix X) (packets : List (Stamped X)) (main_left loop_left : StreamPrefix X) : Type 0 where
  pub stream : loopback wider more ≡ record { packets = (loopback main loop).packets ++ packets; bound = first_time main_left.packets main_left.bound }
  pub answered : length (replies wider more) ≡ length wider.packets - length main_left.packets
  pub past : IsPast (last_of None (length (replies wider more)) wider.packets) more (length more.packets - length loop_left.packets)

-- the time of the next packet of MAIN, if it is answered
abbrev pub next_turn : {X : Type 0} → Option ℕ → StreamPrefix X → StreamPrefix X → Option ℕ
next_turn previous main loop =
    if unwrap_or (option_map (λ before. nat_lt before loop.bound) previous) true then option_map (λ p. p.at) (slice_get main.packets 0) else None
