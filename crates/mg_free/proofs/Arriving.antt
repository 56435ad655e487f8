-- What an arrival does to an output: it stays a prefix, and is extended.
use Rattle.std.proofs.Common.{◌≡◌, ℕ, ◌+◌, ◌-◌, ◌<◌, ◌≤◌, true, false, ◌==◌, ◌&&◌, nat_lt, nat_le, refl, inl, inr, arith, leb-true, le-leb}
use Rattle.std.proofs.lemmas.Bool.Decides.{nat_tests, eqb_tells}
use Rattle.std.proofs.lemmas.Bool.{cases_Bool, and_parts, and_from}
use Rattle.mg_time.specs.Time.{next, pre_stream, post_stream, done, IsAllowed}
use Rattle.mg_value.specs.Packet.{Stamped}
use Rattle.mg_settled.specs.Prefix.{StreamPrefix, IsPrefix, MayFollow, appended, raised}
use Rattle.mg_settled.specs.Extension.{IsExtendedBy}
use Rattle.mg_settled.proofs.Lemmas.{appended_is_prefix, raised_is_prefix, appended_extends, raised_extends, extended_by_itself}
use Rattle.mg_free.specs.declared.law.FreeLaw.{FreeLaw}
use Rattle.mg_free.specs.declared.law.FreeLaw.TheVariants.{FirstCome, Limiter}
use Rattle.mg_free.specs.Free.{Arrival, Flow, ports_of, IsInTime, can_follow, is_laid, with_laid, without_laid, arrived, MayArrive}

-- what may follow an allowed time is a time
pub next_done : (t : ℕ) → IsAllowed t → next t ≤ done
next_done t a = grind (arith, nat_tests)

pub next_over : (t : ℕ) → IsAllowed t → t < next t
next_over t a = grind (arith, nat_tests)

-- what can follow and may carry its time may follow
pub follows : {X : Type 0} (s : StreamPrefix X) (p : Stamped X) → IsAllowed p.at → can_follow s p.at ≡ true → MayFollow s p
follows s p allowed can = record {
  allowed = allowed;
  above = grind (arith, nat_tests);
  alone = λ e. grind (arith, nat_tests);
}

-- an arrival that is laid may follow the output
pub laid_follows : {X : Type 0} (law : FreeLaw) (flow : Flow X) (a : Arrival X) → MayArrive law flow a → is_laid law flow a ≡ true → MayFollow flow.output a.packet
laid_follows (FirstCome lanes) flow a may is = follows flow.output a.packet may.allowed is
laid_follows (Limiter most) flow a may is =
    let first : a.port ≡ 0 = grind (arith, nat_tests) in
    let in_time = may.in_time first in
    record { allowed = may.allowed; above = in_time.0; alone = in_time.1 }

-- what is laid and what isn't keep the rule of streams
pub laid_output : {X : Type 0} (law : FreeLaw) (flow : Flow X) (p : Stamped X) → (with_laid law flow p).output ≡ appended flow.output p
laid_output law flow p = refl

pub unlaid_prefix : {X : Type 0} (law : FreeLaw) (flow : Flow X) (a : Arrival X) → IsAllowed a.packet.at → IsPrefix flow.output → IsPrefix (without_laid law flow a).output
unlaid_prefix (FirstCome lanes) flow a allowed h = h
unlaid_prefix (Limiter most) flow a allowed h = elim (cases_Bool (a.port == 0)) [
  | inl first ↦ rw first (raised_is_prefix flow.output (next a.packet.at) h (next_done a.packet.at allowed))
  | inr finished ↦ rw finished h
]

pub unlaid_extends : {X : Type 0} (law : FreeLaw) (flow : Flow X) (a : Arrival X) → IsExtendedBy flow.output (without_laid law flow a).output
unlaid_extends (FirstCome lanes) flow a = extended_by_itself flow.output
unlaid_extends (Limiter most) flow a = elim (cases_Bool (a.port == 0)) [
  | inl first ↦ rw first (raised_extends flow.output (next a.packet.at))
  | inr finished ↦ rw finished (extended_by_itself flow.output)
]

-- an arrival keeps the rule of streams, and extends the output
pub arrived_prefix : {X : Type 0} (law : FreeLaw) (flow : Flow X) (a : Arrival X) → MayArrive law flow a → IsPrefix flow.output → IsPrefix (arrived law flow a).output
arrived_prefix law flow a may h = elim (cases_Bool (is_laid law flow a)) [
  | inl is ↦ rw is (rw (laid_output law flow a.packet) (appended_is_prefix flow.output a.packet h (laid_follows law flow a may is)))
  | inr isnt ↦ rw isnt (unlaid_prefix law flow a may.allowed h)
]

pub arrived_extends : {X : Type 0} (law : FreeLaw) (flow : Flow X) (a : Arrival X) → MayArrive law flow a → IsExtendedBy flow.output (arrived law flow a).output
arrived_extends law flow a may = elim (cases_Bool (is_laid law flow a)) [
  | inl is ↦ rw is (rw (laid_output law flow a.packet) (appended_extends flow.output a.packet (laid_follows law flow a may is)))
  | inr isnt ↦ rw isnt (unlaid_extends law flow a)
]

-- Limiter by its three cases
pub limiter_laid : {X : Type 0} (most : ℕ) (flow : Flow X) (a : Arrival X) → (a.port == 0) ≡ true → nat_lt flow.in_flight most ≡ true
    → arrived (Limiter most) flow a ≡ record { output = appended flow.output a.packet; in_flight = flow.in_flight + 1 }
limiter_laid most flow a first few = rw (first, few) refl

pub limiter_dropped : {X : Type 0} (most : ℕ) (flow : Flow X) (a : Arrival X) → (a.port == 0) ≡ true → nat_lt flow.in_flight most ≡ false
    → arrived (Limiter most) flow a ≡ record { output = raised flow.output (next a.packet.at); in_flight = flow.in_flight }
limiter_dropped most flow a first many = rw (first, many) refl

pub limiter_finished : {X : Type 0} (most : ℕ) (flow : Flow X) (a : Arrival X) → (a.port == 0) ≡ false
    → arrived (Limiter most) flow a ≡ record { output = flow.output; in_flight = flow.in_flight - 1 }
limiter_finished most flow a finished = rw finished refl
