-- How many packets a free node lays, and how many of them are in flight.
use Rattle.std.proofs.Common.{◌≡◌, ℕ, suc, ◌+◌, ◌<◌, ◌≤◌, Bool, true, false, cond, ◌==◌, nat_lt, nat_le, List, [], ◌∷◌, filter, take, sum_by, length, length-append, refl, sym, ap, ap₂, ◌∙◌, subst, inl, inr, arith}
use Rattle.std.specs.List.{AllByRecursion, fold}
use Rattle.std.proofs.Math.Nat.{add-zero}
use Rattle.std.proofs.lemmas.List.{length-map, length-take}
use Rattle.std.proofs.lemmas.List.Sums.{sum_by-cons}
use Rattle.std.proofs.lemmas.List.Elements.{recursion_from_All}
use Rattle.std.proofs.lemmas.Bool.{cases_Bool}
use Rattle.std.proofs.lemmas.Bool.Decides.{nat_tests}
use Rattle.mg_settled.specs.Prefix.{StreamPrefix}
use Rattle.mg_settled.specs.Settled.{port_of}
use Rattle.mg_free.specs.declared.law.FreeLaw.{FreeLaw}
use Rattle.mg_free.specs.declared.law.FreeLaw.TheVariants.{FirstCome, Limiter}
use Rattle.mg_free.specs.Free.{Arrival, Flow, begun, ports_of, arrived, can_follow}
use Rattle.mg_free.specs.Logs.{flow_of, arrived_at, IsLawfulSoFar, ending}
use Rattle.mg_free.proofs.Arriving.{limiter_laid, limiter_dropped, limiter_finished}

-- FirstCome lays one packet at most for each arrival
first_come_step : {X : Type 0} (lanes : ℕ) (flow : Flow X) (a : Arrival X) → length (arrived (FirstCome lanes) flow a).output.packets ≤ suc (length flow.output.packets)
first_come_step lanes flow a = elim (cases_Bool (can_follow flow.output a.packet.at)) [
  | inl can ↦ rw can (omega (arith, length-append flow.output.packets (a.packet ∷ [])))
  | inr cannot ↦ rw cannot (omega arith)
]

pub first_come_count : {X : Type 0} (lanes : ℕ) (flow : Flow X) (log : List (Arrival X)) → length (fold (arrived (FirstCome lanes)) flow log).output.packets ≤ length flow.output.packets + length log
first_come_count lanes flow [] = omega arith
first_come_count lanes flow (a ∷ log) =
    let step = first_come_step lanes flow a in
    let rest = first_come_count lanes (arrived (FirstCome lanes) flow a) log in
    omega (arith, step, rest)

-- and Limiter one at most for each arrival at its first port
limiter_first : {X : Type 0} (most : ℕ) (flow : Flow X) (a : Arrival X) → (a.port == 0) ≡ true → length (arrived (Limiter most) flow a).output.packets ≤ suc (length flow.output.packets)
limiter_first {X} most flow a first = elim (cases_Bool (nat_lt flow.in_flight most)) [
  | inl few ↦ subst (λ (f : Flow X). length f.output.packets ≤ suc (length flow.output.packets)) (sym (limiter_laid most flow a first few)) (omega (arith, length-append flow.output.packets (a.packet ∷ [])))
  | inr many ↦ subst (λ (f : Flow X). length f.output.packets ≤ suc (length flow.output.packets)) (sym (limiter_dropped most flow a first many)) (omega arith)
]

pub limiter_count : {X : Type 0} (most : ℕ) (flow : Flow X) (log : List (Arrival X))
    → length (fold (arrived (Limiter most)) flow log).output.packets ≤ length flow.output.packets + length (arrived_at 0 log)
limiter_count most flow [] = omega arith
limiter_count {X} most flow (a ∷ log) = elim (cases_Bool (a.port == 0)) [
  | inl first ↦ (let step = limiter_first most flow a first in
      let rest = limiter_count most (arrived (Limiter most) flow a) log in
      let more : length (arrived_at 0 (a ∷ log)) ≡ suc (length (arrived_at 0 log)) = rw first refl in
      omega (arith, step, rest, more))
  | inr finished ↦ (let rest = limiter_count most (arrived (Limiter most) flow a) log in
      let same : length (arrived (Limiter most) flow a).output.packets ≡ length flow.output.packets =
      subst (λ (f : Flow X). length f.output.packets ≡ length flow.output.packets) (sym (limiter_finished most flow a finished)) refl in
      let less : length (arrived_at 0 (a ∷ log)) ≡ length (arrived_at 0 log) = rw finished refl in
      omega (arith, rest, same, less))
]

-- no more than may be are in flight
flight_step : {X : Type 0} (most : ℕ) (flow : Flow X) (a : Arrival X) → flow.in_flight ≤ most → (arrived (Limiter most) flow a).in_flight ≤ most
flight_step {X} most flow a le = elim (cases_Bool (a.port == 0)) [
  | inl first ↦ elim (cases_Bool (nat_lt flow.in_flight most)) [
    | inl few ↦ subst (λ (f : Flow X). f.in_flight ≤ most) (sym (limiter_laid most flow a first few)) (grind (arith, nat_tests))
    | inr many ↦ subst (λ (f : Flow X). f.in_flight ≤ most) (sym (limiter_dropped most flow a first many)) le
  ]
  | inr finished ↦ subst (λ (f : Flow X). f.in_flight ≤ most) (sym (limiter_finished most flow a finished)) (omega (arith, le))
]

pub limiter_flight : {X : Type 0} (most : ℕ) (flow : Flow X) (log : List (Arrival X)) → flow.in_flight ≤ most → (fold (arrived (Limiter most)) flow log).in_flight ≤ most
limiter_flight most flow [] le = le
limiter_flight most flow (a ∷ log) le = limiter_flight most (arrived (Limiter most) flow a) log (flight_step most flow a le)

-- The arrivals at the ports from some one on.
length-if : {X : Type 0} (t : Bool) (x : X) (xs : List X) → length (cond t (x ∷ xs) xs) ≡ cond t 1 0 + length xs
length-if true x xs = omega arith
length-if false x xs = omega arith

one_of : (port n : ℕ) → cond {A = ℕ} (nat_le port n) 1 0 ≡ cond {A = ℕ} (n == port) 1 0 + cond {A = ℕ} (nat_le (port + 1) n) 1 0
one_of port n = grind (arith, nat_tests)

-- the arrivals from a port on: those at the port, and those at the ports after it
pub split_one : {X : Type 0} (port : ℕ) (log : List (Arrival X))
    → length (filter (λ a. nat_le port a.port) log) ≡ length (filter (λ a. a.port == port) log) + length (filter (λ a. nat_le (port + 1) a.port) log)
split_one port [] = refl
split_one {X} port (a ∷ log) =
    let rest = split_one port log in
    let these = length-if (nat_le port a.port) a (filter (λ (b : Arrival X). nat_le port b.port) log) in
    let here = length-if (a.port == port) a (filter (λ (b : Arrival X). b.port == port) log) in
    let later = length-if (nat_le (port + 1) a.port) a (filter (λ (b : Arrival X). nat_le (port + 1) b.port) log) in
    let one = one_of port a.port in
    these ∙ (omega (arith, rest, one) ∙ sym (ap₂ (λ (m n : ℕ). m + n) here later))

none_past : {X : Type 0} (port : ℕ) (log : List (Arrival X)) → AllByRecursion (λ a. a.port < port) log → length (filter (λ a. nat_le port a.port) log) ≡ 0
none_past port [] ports = refl
none_past {X} port (a ∷ log) ports =
    let past : nat_le port a.port ≡ false = (let less = ports.0 in grind (arith, nat_tests)) in
    rw past (none_past port log ports.1)

-- if at each port no more packets have arrived than its stream has, no more have arrived than all streams have
count_from : {X : Type 0} (port : ℕ) (inputs : List (StreamPrefix X)) (log : List (Arrival X)) → AllByRecursion (λ a. a.port < port + length inputs) log
    → ((i : ℕ) → i < length inputs → length (arrived_at (port + i) log) ≤ length (port_of inputs i).packets)
    → length (filter (λ a. nat_le port a.port) log) ≤ sum_by (λ s. length s.packets) inputs
count_from {X} port [] log ports most =
    let all : AllByRecursion (λ (a : Arrival X). a.port < port) log = rw (add-zero port) at ports in
    let none = none_past port log all in
    omega (arith, none)
count_from {X} port (s ∷ inputs) log ports most =
    let one = split_one port log in
    let here : length (arrived_at (port + 0) log) ≤ length s.packets = most 0 (omega arith) in
    let same : length (arrived_at (port + 0) log) ≡ length (filter (λ (a : Arrival X). a.port == port) log) = rw (add-zero port) (length-map (filter (λ (a : Arrival X). a.port == port) log) (λ a. a.packet)) in
    let rest = count_from (port + 1) inputs log
    (subst (λ (m : ℕ). AllByRecursion (λ (a : Arrival X). a.port < m) log) (omega arith) ports)
    (λ i less. subst (λ (p : ℕ). length (arrived_at p log) ≤ length (port_of inputs i).packets) (omega arith) (most (suc i) (omega (arith, less)))) in
    let total = sum_by-cons (λ (t : StreamPrefix X). length t.packets) s inputs in
    omega (arith, one, here, same, rest, total)

all_from_first : {X : Type 0} (log : List (Arrival X)) → filter (λ a. nat_le 0 a.port) log ≡ log
all_from_first [] = refl
all_from_first {X} (a ∷ log) = rw (first_test a.port) (ap (λ (l : List (Arrival X)). a ∷ l) (all_from_first log))
  where
    first_test : (n : ℕ) → nat_le 0 n ≡ true
    first_test n = grind (arith, nat_tests)

take-most : {X : Type 0} (k : ℕ) (xs : List X) → length (take k xs) ≤ length xs
take-most k xs = omega (arith, length-take k xs)

-- A log that is lawful so far is at most as long as all streams together.
pub logs_are_short : {X : Type 0} (inputs : List (StreamPrefix X)) (log : List (Arrival X)) → IsLawfulSoFar inputs log → length log ≤ sum_by (λ s. length s.packets) inputs
logs_are_short {X} inputs log lawful =
    let up : length inputs ≡ 0 + length inputs = omega arith in
    let all = count_from 0 inputs log
    (subst (λ (m : ℕ). AllByRecursion (λ (a : Arrival X). a.port < m) log) up (recursion_from_All (λ (a : Arrival X). a.port < length inputs) log lawful.ports))
    (λ i less. (let first = ap length (lawful.first i less) in let most = take-most (length (arrived_at i log)) (port_of inputs i).packets in
    let here : length (arrived_at i log) ≤ length (port_of inputs i).packets = omega (arith, first, most) in
    let same_port : i ≡ 0 + i = omega arith in
    subst (λ (p : ℕ). length (arrived_at p log) ≤ length (port_of inputs i).packets) same_port here)) in
    let same = ap length (all_from_first log) in
    omega (arith, all, same)

pub lawful_count : {X : Type 0} (law : FreeLaw) (inputs : List (StreamPrefix X)) (log : List (Arrival X)) → length inputs ≡ ports_of law → IsLawfulSoFar inputs log
    → length (flow_of law log).output.packets ≤ sum_by (λ s. length s.packets) (ending law inputs)
lawful_count {X} (FirstCome lanes) inputs log many lawful =
    let all = logs_are_short inputs log lawful in
    let count = first_come_count lanes begun log in
    omega (arith, all, count)
lawful_count {X} (Limiter most) (s ∷ inputs) log many lawful =
    let total = sum_by-cons (λ (t : StreamPrefix X). length t.packets) s [] in
    let count = limiter_count most begun log in
    let first = ap length (lawful.first 0 (omega arith)) in
    let within = take-most (length (arrived_at 0 log)) s.packets in
    omega (arith, count, first, within, total)
lawful_count (Limiter most) [] log many lawful = absurd (omega (arith, many))
