-- What turns result in: logs stay lawful if streams grow, no more is taken than there is, and at rest all has arrived.
use Rattle.std.proofs.Common.{◌≡◌, ℕ, zero, suc, ◌+◌, ◌<◌, ◌≤◌, Bool, true, false, cond, List, [], ◌∷◌, ◌++◌, map, take, length, length-append, slice_get, All, Option, None, Some, option_map, refl, sym, ap, ◌∙◌, subst, arith}
use Rattle.std.specs.List.{cons_option}
use Rattle.std.proofs.lemmas.List.Sums.{sum_by-cons}
use Rattle.std.proofs.lemmas.List.Elements.{length_all_zip}
use Rattle.mg_value.specs.Payload.{Plain}
use Rattle.mg_value.specs.Packet.{Stamped}
use Rattle.mg_settled.specs.Prefix.{StreamPrefix, empty_prefix}
use Rattle.mg_settled.specs.Settled.{port_of}
use Rattle.mg_settled.specs.Extension.{IsExtendedBy, AreExtendedBy}
use Rattle.mg_settled.proofs.Lemmas.{extended_by_itself}
use Rattle.mg_calc.specs.Equations.{stream_of}
use Rattle.mg_free.specs.declared.node.FreeNode.{FreeNode}
use Rattle.mg_free.specs.Free.{Arrival}
use Rattle.mg_free.specs.Logs.{arrived_at, IsLawfulSoFar, IsLawful}
use Rattle.mg_free.specs.Rounds.{Taken, free_inputs, next_arrivals, last_of, with_next, turn}
use Rattle.mg_free.specs.Turns.{AreLawfulSoFar, AreLawful, taken_by, taken_by_all, room_of, room_of_all}
use Rattle.mg_free.proofs.Counting.{logs_are_short}
use Rattle.mg_free.proofs.Turning.{turns, arrivals_from}

-- Streams that grow.
take_front : {X : Type 0} (n : ℕ) (xs more : List X) → n ≤ length xs → take n (xs ++ more) ≡ take n xs
take_front zero xs more le = refl
take_front (suc n) [] more le = absurd (omega (arith, le))
take_front (suc n) (x ∷ xs) more le = ap (λ l. x ∷ l) (take_front n xs more (omega (arith, le)))

pub take_long : {X : Type 0} (n : ℕ) (xs : List X) → length (take n xs) ≤ length xs
take_long zero xs = omega arith
take_long (suc n) [] = omega arith
take_long (suc n) (x ∷ xs) = (let r = take_long n xs in omega (arith, r))

pub port_extended : (ss ts : List (StreamPrefix Plain)) (i : ℕ) → AreExtendedBy ss ts → i < length ss → IsExtendedBy (port_of ss i) (port_of ts i)
port_extended [] ts i e le = absurd (omega (arith, le))
port_extended (s ∷ ss) [] i e le = absurd e
port_extended (s ∷ ss) (t ∷ ts) zero e le = e.0
port_extended (s ∷ ss) (t ∷ ts) (suc i) e le = port_extended ss ts i e.1 (omega (arith, le))

stream_extended : (ss ts : List (StreamPrefix Plain)) (i : ℕ) → AreExtendedBy ss ts → IsExtendedBy (stream_of ss i) (stream_of ts i)
stream_extended [] [] i e = extended_by_itself empty_prefix
stream_extended [] (t ∷ ts) i e = absurd e
stream_extended (s ∷ ss) [] i e = absurd e
stream_extended (s ∷ ss) (t ∷ ts) zero e = e.0
stream_extended (s ∷ ss) (t ∷ ts) (suc i) e = stream_extended ss ts i e.1

pub inputs_extended : (ss ts : List (StreamPrefix Plain)) (ports : List ℕ) → AreExtendedBy ss ts → AreExtendedBy (map (stream_of ss) ports) (map (stream_of ts) ports)
inputs_extended ss ts [] e = tt
inputs_extended ss ts (p ∷ ports) e = (stream_extended ss ts p e, inputs_extended ss ts ports e)

-- so many packets of a port have arrived
pub port_short : (inputs : List (StreamPrefix Plain)) (log : List (Arrival Plain)) (port : ℕ) → IsLawfulSoFar inputs log → port < length inputs → length (arrived_at port log) ≤ length (port_of inputs port).packets
port_short inputs log port lawful le =
    let first = ap length (lawful.first port le) in
    let most = take_long (length (arrived_at port log)) (port_of inputs port).packets in
    omega (arith, first, most)

pub lawful_later : (inputs later : List (StreamPrefix Plain)) (log : List (Arrival Plain)) → AreExtendedBy inputs later → IsLawfulSoFar inputs log → IsLawfulSoFar later log
lawful_later inputs later log e lawful =
    let long : length inputs ≡ length later = length_all_zip IsExtendedBy inputs later e in
    record {
      ports = subst (λ (n : ℕ). All (λ a. a.port < n) log) long lawful.ports;
      first = λ port le.
          let here : port < length inputs = omega (arith, le, long) in
          let ext = port_extended inputs later port e here in
          let count = length (arrived_at port log) in
          lawful.first port here
          ∙ (sym (take_front count (port_of inputs port).packets ext.further (port_short inputs log port lawful here))
          ∙ sym (ap (λ (l : List (Stamped Plain)). take count l) ext.packets));
    }

pub all_lawful_later : (streams later : List (StreamPrefix Plain)) (frees : List FreeNode) (takens : List Taken) → AreExtendedBy streams later → AreLawfulSoFar streams frees takens → AreLawfulSoFar later frees takens
all_lawful_later streams later [] [] e lawful = tt
all_lawful_later streams later [] (t ∷ takens) e lawful = absurd lawful
all_lawful_later streams later (f ∷ frees) [] e lawful = absurd lawful
all_lawful_later streams later (f ∷ frees) (t ∷ takens) e lawful =
    (lawful_later (free_inputs streams f) (free_inputs later f) t.log (inputs_extended streams later f.inputs e) lawful.0, all_lawful_later streams later frees takens e lawful.1)

-- No more is taken than there is.
one_most : (b : Bool) → cond {A = ℕ} b 1 0 ≤ 1
one_most true = omega arith
one_most false = omega arith

pub all_short : (streams : List (StreamPrefix Plain)) (frees : List FreeNode) (takens : List Taken) → AreLawfulSoFar streams frees takens → taken_by_all takens ≤ room_of_all streams frees
all_short streams [] [] lawful = omega arith
all_short streams [] (t ∷ takens) lawful = absurd lawful
all_short streams (f ∷ frees) [] lawful = absurd lawful
all_short streams (f ∷ frees) (t ∷ takens) lawful =
    let here = logs_are_short (free_inputs streams f) t.log lawful.0 in
    let shut = one_most t.closed in
    let rest = all_short streams frees takens lawful.1 in
    let taken = sum_by-cons taken_by t takens in
    let room = sum_by-cons (room_of streams) f frees in
    omega (arith, here, shut, rest, taken, room)

-- At rest nothing is left.
pub log_longer : (streams : List (StreamPrefix Plain)) (free : FreeNode) (taken : Taken) (next : Option (Arrival Plain)) → with_next streams free taken next ≡ taken → next ≡ None
log_longer streams free taken None e = refl
log_longer streams free taken (Some a) e = (let long = length-append taken.log (a ∷ []) in let same = ap (λ (t : Taken). length t.log) e in absurd (omega (arith, long, same)))

pub last_none : {X : Type 0} (xs : List X) → last_of xs ≡ None → xs ≡ []
last_none [] e = refl
last_none (x ∷ []) e = absurd cc
last_none (x ∷ y ∷ xs) e = absurd (more y xs e)
  where
    more : {X : Type 0} (y : X) (xs : List X) → last_of (y ∷ xs) ≡ None → ⊥
    more y [] e = cc
    more y (z ∷ xs) e = more z xs e

pub none_left : (log : List (Arrival Plain)) (n i : ℕ) (inputs : List (StreamPrefix Plain)) → arrivals_from log n inputs ≡ [] → i < length inputs → slice_get (port_of inputs i).packets (length (arrived_at (n + i) log)) ≡ None
none_left log n i [] e le = absurd (omega (arith, le))
none_left log n i (s ∷ inputs) e le = by (slice_get s.packets (length (arrived_at n log))) i (λ k. none_left log (n + 1) k inputs) refl e le
  where
    by : (o : Option (Stamped Plain)) (i : ℕ)
        → ((k : ℕ) → arrivals_from log (n + 1) inputs ≡ [] → k < length inputs → slice_get (port_of inputs k).packets (length (arrived_at (n + 1 + k) log)) ≡ None)
        → slice_get s.packets (length (arrived_at n log)) ≡ o
        → cons_option (option_map (λ p. record { port = n; packet = p }) o) (arrivals_from log (n + 1) inputs) ≡ []
        → i < length (s ∷ inputs) → slice_get (port_of (s ∷ inputs) i).packets (length (arrived_at (n + i) log)) ≡ None
    by (Some p) i later at rest le = absurd cc
    by None zero later at rest le = subst (λ (k : ℕ). slice_get s.packets (length (arrived_at k log)) ≡ None) (let z : n ≡ n + 0 = omega arith in z) at
    by None (suc i) later at rest le =
        subst (λ (k : ℕ). slice_get (port_of inputs i).packets (length (arrived_at k log)) ≡ None) (let z : n + 1 + i ≡ n + suc i = omega arith in z) (later i rest (omega (arith, le)))

pub past : {X : Type 0} (xs : List X) (n : ℕ) → slice_get xs n ≡ None → length xs ≤ n
past [] n e = omega arith
past (x ∷ xs) zero e = absurd cc
past (x ∷ xs) (suc n) e = (let r = past xs n e in omega (arith, r))

pub take_whole : {X : Type 0} (n : ℕ) (xs : List X) → length xs ≤ n → take n xs ≡ xs
take_whole zero [] le = refl
take_whole zero (x ∷ xs) le = absurd (omega (arith, le))
take_whole (suc n) [] le = refl
take_whole (suc n) (x ∷ xs) le = ap (λ l. x ∷ l) (take_whole n xs (omega (arith, le)))

rest_lawful : (streams : List (StreamPrefix Plain)) (free : FreeNode) (taken : Taken) → turn streams free taken ≡ taken → IsLawfulSoFar (free_inputs streams free) taken.log → IsLawful (free_inputs streams free) taken.log
rest_lawful streams free taken rests lawful = record {
  ports = lawful.ports;
  all = λ port le.
      let inputs = free_inputs streams free in
      let none = last_none (next_arrivals streams free taken) (log_longer streams free taken (last_of (next_arrivals streams free taken)) rests) in
      let left : slice_get (port_of inputs port).packets (length (arrived_at port taken.log)) ≡ None =
      subst (λ (k : ℕ). slice_get (port_of inputs port).packets (length (arrived_at k taken.log)) ≡ None) (let z : 0 + port ≡ port = omega arith in z) (none_left taken.log 0 port inputs none le) in
      lawful.first port le ∙ take_whole (length (arrived_at port taken.log)) (port_of inputs port).packets (past (port_of inputs port).packets (length (arrived_at port taken.log)) left);
}

pub heads : (x y : Taken) (xs ys : List Taken) → x ∷ xs ≡ y ∷ ys → x ≡ y
heads x y xs ys e = ap (λ (l : List Taken). (elim l [ [] ↦ x | z ∷ zs ↦ z ])) e

pub tails : (x y : Taken) (xs ys : List Taken) → x ∷ xs ≡ y ∷ ys → xs ≡ ys
tails x y xs ys e = ap (λ (l : List Taken). (elim l [ [] ↦ xs | z ∷ zs ↦ zs ])) e

pub all_rest_lawful : (streams : List (StreamPrefix Plain)) (frees : List FreeNode) (takens : List Taken) → turns streams frees takens ≡ takens → AreLawfulSoFar streams frees takens → AreLawful streams frees takens
all_rest_lawful streams [] [] rests lawful = tt
all_rest_lawful streams [] (t ∷ takens) rests lawful = absurd lawful
all_rest_lawful streams (f ∷ frees) [] rests lawful = absurd lawful
all_rest_lawful streams (f ∷ frees) (t ∷ takens) rests lawful = (
  rest_lawful streams f t (heads (turn streams f t) t (turns streams frees takens) takens rests) lawful.0,
  all_rest_lawful streams frees takens (tails (turn streams f t) t (turns streams frees takens) takens rests) lawful.1,
)
