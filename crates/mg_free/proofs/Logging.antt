-- A lawful log may arrive, one arrival after the other, and what it makes of the output is a prefix.
use Rattle.std.proofs.Common.{◌≡◌, ℕ, zero, suc, ◌+◌, ◌<◌, ◌≤◌, true, false, ◌==◌, List, [], ◌∷◌, ◌++◌, nat_lt, take, length, length-append, refl, sym, subst, inl, inr, arith, eq-eqb}
use Rattle.std.specs.List.{AllByRecursion, fold}
use Rattle.std.proofs.lemmas.Bool.{cases_Bool}
use Rattle.std.proofs.lemmas.Bool.Decides.{nat_tests}
use Rattle.std.proofs.lemmas.List.Elements.{recursion_from_All}
use Rattle.std.proofs.lemmas.List.Sums.{fold-append}
use Rattle.mg_time.specs.Time.{next, pre_stream, post_stream, IsAllowed}
use Rattle.mg_value.specs.Packet.{Stamped}
use Rattle.mg_settled.specs.Prefix.{StreamPrefix, IsPrefix, Ascends, first_time}
use Rattle.mg_settled.specs.Settled.{port_of}
use Rattle.mg_settled.specs.Extension.{IsExtendedBy}
use Rattle.mg_settled.proofs.Lemmas.{empty_is_prefix, closed_is_prefix, extended_by_itself, extended_further}
use Rattle.mg_free.specs.declared.law.FreeLaw.{FreeLaw}
use Rattle.mg_free.specs.declared.law.FreeLaw.TheVariants.{FirstCome, Limiter}
use Rattle.mg_free.specs.Free.{Arrival, Flow, begun, ports_of, arrived}
use Rattle.mg_free.specs.Logs.{flow_of, arrived_at, MayAllArrive, IsLawfulSoFar, has_ended, output_of}
use Rattle.mg_free.proofs.Arriving.{next_over, limiter_laid, limiter_dropped, limiter_finished, arrived_prefix, arrived_extends}

-- packets that come in time after n others, the first of them at a bound or above
abbrev pub OnTime : {X : Type 0} → ℕ → ℕ → List (Stamped X) → Type 0
OnTime b n [] = Unit {0}
OnTime b n (p ∷ ps) = (b ≤ p.at) × ((p.at ≡ post_stream → n ≡ 0) × OnTime (next p.at) (suc n) ps)

pub on_time_take : {X : Type 0} (k b n : ℕ) (ps : List (Stamped X)) → OnTime b n ps → OnTime b n (take k ps)
on_time_take zero b n ps h = tt
on_time_take (suc k) b n [] h = tt
on_time_take (suc k) b n (p ∷ ps) h = (h.0, (h.1.0, on_time_take k (next p.at) (suc n) ps h.1.1))

on_time_from : {X : Type 0} (b n total bound : ℕ) (ps : List (Stamped X)) → Ascends ps bound → AllByRecursion (λ p. p.at ≡ post_stream → total ≡ 1) ps → n + length ps ≡ total → b ≤ first_time ps bound → OnTime b n ps
on_time_from b n total bound [] up alone many le = tt
on_time_from b n total bound (p ∷ ps) up alone many le =
    (le, ((λ e. let one = alone.0 e in omega (arith, one, many)), on_time_from (next p.at) (suc n) total bound ps up.1 alone.1 (omega (arith, many)) up.0))

-- the packets of a prefix
pub prefix_on_time : {X : Type 0} (s : StreamPrefix X) → IsPrefix s → OnTime pre_stream 0 s.packets
prefix_on_time {X} s h =
    on_time_from pre_stream 0 (length s.packets) s.bound s.packets h.ascends (recursion_from_All (λ (p : Stamped X). p.at ≡ post_stream → length s.packets ≡ 1) s.packets h.alone) (omega arith)
    (first_from s.packets (recursion_from_All (λ (p : Stamped X). IsAllowed p.at) s.packets h.allowed))
  where
    first_from : (ps : List (Stamped X)) → AllByRecursion (λ p. IsAllowed p.at) ps → pre_stream ≤ first_time ps s.bound
    first_from [] allowed = h.opened
    first_from (p ∷ ps) allowed = allowed.0.0

-- what holds of the packets at each port holds of each arrival
here_at : {X : Type 0} (a : Arrival X) (log : List (Arrival X)) → arrived_at a.port (a ∷ log) ≡ a.packet ∷ arrived_at a.port log
here_at a log = rw (eq-eqb a.port a.port refl) refl

rest_at : {X : Type 0} (P : Stamped X → Type 0) (port : ℕ) (a : Arrival X) (log : List (Arrival X)) → AllByRecursion P (arrived_at port (a ∷ log)) → AllByRecursion P (arrived_at port log)
rest_at P port a log h = elim (cases_Bool (a.port == port)) [
  | inl is ↦ (let k : AllByRecursion P (a.packet ∷ arrived_at port log) = rw is at h in k.1)
  | inr isnt ↦ rw isnt at h
]

pub each_arrival : {X : Type 0} (P : Stamped X → Type 0) (many : ℕ) (log : List (Arrival X)) → AllByRecursion (λ a. a.port < many) log
    → ((port : ℕ) → port < many → AllByRecursion P (arrived_at port log)) → AllByRecursion (λ a. P a.packet) log
each_arrival P many [] ports all = tt
each_arrival P many (a ∷ log) ports all =
    let here : AllByRecursion P (a.packet ∷ arrived_at a.port log) = rw (here_at a log) at (all a.port ports.0) in
    (here.0, each_arrival P many log ports.1 (λ port le. rest_at P port a log (all port le)))

-- FirstCome takes whatever comes
pub first_come_may : {X : Type 0} (lanes : ℕ) (flow : Flow X) (log : List (Arrival X)) → AllByRecursion (λ a. a.port < lanes) log → AllByRecursion (λ a. IsAllowed a.packet.at) log
    → MayAllArrive (FirstCome lanes) flow log
first_come_may lanes flow [] ports allowed = tt
first_come_may lanes flow (a ∷ log) ports allowed =
    (record { port = ports.0; allowed = allowed.0; in_time = tt }, first_come_may lanes (arrived (FirstCome lanes) flow a) log ports.1 allowed.1)

-- what Limiter's output is after a packet of its first port
pub record Limited {X : Type 0} (most : ℕ) (flow : Flow X) (a : Arrival X) : Type 0 where
  pub bound : (arrived (Limiter most) flow a).output.bound ≤ next a.packet.at
  pub count : length (arrived (Limiter most) flow a).output.packets ≤ suc (length flow.output.packets)

pub limited : {X : Type 0} (most : ℕ) (flow : Flow X) (a : Arrival X) → (a.port == 0) ≡ true → flow.output.bound ≤ next a.packet.at → Limited most flow a
limited {X} most flow a first le = elim (cases_Bool (nat_lt flow.in_flight most)) [
  | inl few ↦ (let is = limiter_laid most flow a first few in record {
    bound = subst (λ (f : Flow X). f.output.bound ≤ next a.packet.at) (sym is) (omega arith);
    count = subst (λ (f : Flow X). length f.output.packets ≤ suc (length flow.output.packets)) (sym is) (omega (arith, length-append flow.output.packets (a.packet ∷ [])));
  })
  | inr many ↦ (let is = limiter_dropped most flow a first many in record {
    bound = subst (λ (f : Flow X). f.output.bound ≤ next a.packet.at) (sym is) (omega (arith, le));
    count = subst (λ (f : Flow X). length f.output.packets ≤ suc (length flow.output.packets)) (sym is) (omega arith);
  })
]

-- Limiter takes what comes in time on its first port, whatever comes on FINISHED
pub limiter_may : {X : Type 0} (most : ℕ) (flow : Flow X) (b n : ℕ) (log : List (Arrival X)) → flow.output.bound ≤ b → length flow.output.packets ≤ n
    → AllByRecursion (λ a. a.port < 2) log → AllByRecursion (λ a. IsAllowed a.packet.at) log → OnTime b n (arrived_at 0 log) → MayAllArrive (Limiter most) flow log
limiter_may most flow b n [] le few ports allowed times = tt
limiter_may {X} most flow b n (a ∷ log) le few ports allowed times = elim (cases_Bool (a.port == 0)) [
  | inl first ↦ (let here : OnTime b n (a.packet ∷ arrived_at 0 log) = rw first at times in
      let up : a.packet.at < next a.packet.at = next_over a.packet.at allowed.0 in
      let after : Limited most flow a = limited most flow a first (omega (arith, le, here.0, up)) in (
        record { port = ports.0; allowed = allowed.0; in_time = λ e. (omega (arith, le, here.0), (λ post. (let none = here.1.0 post in omega (arith, none, few)))) },
        limiter_may most (arrived (Limiter most) flow a) (next a.packet.at) (suc n) log after.bound (let count = after.count in omega (arith, count, few)) ports.1 allowed.1 here.1.1,
      ))
  | inr finished ↦ (let rest : OnTime b n (arrived_at 0 log) = rw finished at times in
      let is = limiter_finished most flow a finished in (
        record { port = ports.0; allowed = allowed.0; in_time = λ e. absurd (ne_from a.port finished e) },
        limiter_may most (arrived (Limiter most) flow a) b n log
            (subst (λ (f : Flow X). f.output.bound ≤ b) (sym is) le) (subst (λ (f : Flow X). length f.output.packets ≤ n) (sym is) few) ports.1 allowed.1 rest,
      ))
]
  where
    ne_from : (port : ℕ) → (port == 0) ≡ false → port ≡ 0 → ⊥
    ne_from port isnt is = grind (arith, nat_tests)

taken_by : {X : Type 0} (P : X → Type 0) (k : ℕ) (xs : List X) → AllByRecursion P xs → AllByRecursion P (take k xs)
taken_by P zero xs h = tt
taken_by P (suc k) [] h = tt
taken_by P (suc k) (x ∷ xs) h = (h.0, taken_by P k xs h.1)

port_keeps : {X : Type 0} (inputs : List (StreamPrefix X)) (port : ℕ) → AllByRecursion IsPrefix inputs → port < length inputs → IsPrefix (port_of inputs port)
port_keeps [] port keeps le = absurd (omega (arith, le))
port_keeps (s ∷ inputs) zero keeps le = keeps.0
port_keeps (s ∷ inputs) (suc port) keeps le = port_keeps inputs port keeps.1 (omega (arith, le))

-- A lawful log may arrive.
allowed_at : {X : Type 0} (inputs : List (StreamPrefix X)) (log : List (Arrival X)) → AllByRecursion IsPrefix inputs → IsLawfulSoFar inputs log
    → (port : ℕ) → port < length inputs → AllByRecursion (λ p. IsAllowed p.at) (arrived_at port log)
allowed_at {X} inputs log keeps lawful port le =
    let s = port_of inputs port in
    rw (lawful.first port le)
    (taken_by (λ (p : Stamped X). IsAllowed p.at) (length (arrived_at port log)) s.packets
    (recursion_from_All (λ (p : Stamped X). IsAllowed p.at) s.packets (port_keeps inputs port keeps le).allowed))

pub lawful_may : {X : Type 0} (law : FreeLaw) (inputs : List (StreamPrefix X)) (log : List (Arrival X)) → length inputs ≡ ports_of law → AllByRecursion IsPrefix inputs → IsLawfulSoFar inputs log
    → MayAllArrive law begun log
lawful_may {X} (FirstCome lanes) inputs log many keeps lawful =
    first_come_may lanes begun log
    (rw many at (recursion_from_All (λ (a : Arrival X). a.port < length inputs) log lawful.ports))
    (each_arrival (λ p. IsAllowed p.at) (length inputs) log (recursion_from_All (λ (a : Arrival X). a.port < length inputs) log lawful.ports) (allowed_at inputs log keeps lawful))
lawful_may {X} (Limiter most) inputs log many keeps lawful =
    let some : 0 < length inputs = omega (arith, many) in
    limiter_may most begun pre_stream 0 log (omega arith) (omega arith)
    (rw many at (recursion_from_All (λ (a : Arrival X). a.port < length inputs) log lawful.ports))
    (each_arrival (λ p. IsAllowed p.at) (length inputs) log (recursion_from_All (λ (a : Arrival X). a.port < length inputs) log lawful.ports) (allowed_at inputs log keeps lawful))
    (rw (lawful.first 0 some) (on_time_take (length (arrived_at 0 log)) pre_stream 0 (port_of inputs 0).packets (prefix_on_time (port_of inputs 0) (port_keeps inputs 0 keeps some))))

-- What arrivals make of an output.
pub all_arrived_prefix : {X : Type 0} (law : FreeLaw) (flow : Flow X) (log : List (Arrival X)) → MayAllArrive law flow log → IsPrefix flow.output → IsPrefix (fold (arrived law) flow log).output
all_arrived_prefix law flow [] may h = h
all_arrived_prefix law flow (a ∷ log) may h = all_arrived_prefix law (arrived law flow a) log may.1 (arrived_prefix law flow a may.0 h)

pub all_arrived_extend : {X : Type 0} (law : FreeLaw) (flow : Flow X) (log : List (Arrival X)) → MayAllArrive law flow log → IsExtendedBy flow.output (fold (arrived law) flow log).output
all_arrived_extend law flow [] may = extended_by_itself flow.output
all_arrived_extend law flow (a ∷ log) may =
    extended_further flow.output (arrived law flow a).output _ (arrived_extends law flow a may.0) (all_arrived_extend law (arrived law flow a) log may.1)

pub log_prefix : {X : Type 0} (law : FreeLaw) (log : List (Arrival X)) → MayAllArrive law begun log → IsPrefix (flow_of law log).output
log_prefix law log may = all_arrived_prefix law begun log may empty_is_prefix

later_may : {X : Type 0} (law : FreeLaw) (flow : Flow X) (log more : List (Arrival X)) → MayAllArrive law flow (log ++ more) → MayAllArrive law (fold (arrived law) flow log) more
later_may law flow [] more may = may
later_may law flow (a ∷ log) more may = later_may law (arrived law flow a) log more may.1

pub log_extends : {X : Type 0} (law : FreeLaw) (log more : List (Arrival X)) → MayAllArrive law begun (log ++ more) → IsExtendedBy (flow_of law log).output (flow_of law (log ++ more)).output
log_extends law log more may =
    rw (fold-append (arrived law) begun log more)
    (all_arrived_extend law (flow_of law log) more (later_may law begun log more may))

pub ended_prefix : {X : Type 0} (law : FreeLaw) (inputs : List (StreamPrefix X)) (log : List (Arrival X)) → MayAllArrive law begun log → IsPrefix (output_of law inputs log)
ended_prefix law inputs log may = elim (cases_Bool (has_ended law inputs)) [
  | inl has ↦ rw has (closed_is_prefix (flow_of law log).output (log_prefix law log may))
  | inr hasnt ↦ rw hasnt (log_prefix law log may)
]
