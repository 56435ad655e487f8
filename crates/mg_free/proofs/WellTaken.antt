-- What holds of a free node's log and of its output while rounds go on.
use Rattle.std.proofs.Common.{◌≡◌, ℕ, zero, suc, ◌+◌, ◌<◌, ◌≤◌, Bool, true, false, ◌==◌, List, [], ◌∷◌, ◌++◌, length, slice_get, Option, None, Some, IfSome, refl, sym, ap, ap₂, ◌∙◌, subst, inl, inr, arith}
use Rattle.std.specs.List.{AllByRecursion, list_all}
use Rattle.std.proofs.lemmas.Bool.{and_parts}
use Rattle.std.proofs.lemmas.Bool.Decides.{nat_tests, eqb_tells}
use Rattle.std.proofs.lemmas.List.{append-nil}
use Rattle.std.proofs.lemmas.List.Sums.{fold-append}
use Rattle.std.proofs.lemmas.List.Elements.{length_all_zip}
use Rattle.mg_time.specs.Time.{done}
use Rattle.mg_value.specs.Payload.{Plain}
use Rattle.mg_value.specs.Packet.{Stamped}
use Rattle.mg_settled.specs.Prefix.{StreamPrefix, IsPrefix, closed}
use Rattle.mg_settled.specs.Settled.{port_of}
use Rattle.mg_settled.specs.Extension.{IsExtendedBy, AreExtendedBy}
use Rattle.mg_settled.proofs.Lemmas.{extended_by_itself, ended_stays, closed_extends, closed_is_prefix}
use Rattle.mg_free.specs.declared.law.FreeLaw.{FreeLaw}
use Rattle.mg_free.specs.declared.law.FreeLaw.TheVariants.{FirstCome, Limiter}
use Rattle.mg_free.specs.declared.node.FreeNode.{FreeNode}
use Rattle.mg_free.specs.Free.{Arrival, Flow, begun, arrived, ports_of}
use Rattle.mg_free.specs.Logs.{flow_of, arrived_at, MayAllArrive, IsLawfulSoFar, ending, has_ended}
use Rattle.mg_free.specs.Rounds.{Taken, free_inputs, output_so_far, next_arrivals, last_of, with_next, turn}
use Rattle.mg_free.proofs.Arriving.{limiter_finished}
use Rattle.mg_free.proofs.Logging.{lawful_may, log_prefix, log_extends}
use Rattle.mg_free.proofs.Turning.{IsNext, all_next, last_keeps, lawful_with, arrived-both, none_at}
use Rattle.mg_free.proofs.TurnEnds.{lawful_later, none_left, last_none, past, take_whole}

-- the streams after whose ends the output ends have ended, and all of them has arrived
pub record IsOver (inputs : List (StreamPrefix Plain)) (law : FreeLaw) (log : List (Arrival Plain)) : Type 0 where
  pub ended : has_ended law inputs ≡ true
  pub arrived : (port : ℕ) → port < length (ending law inputs) → arrived_at port log ≡ (port_of inputs port).packets

-- a free node has taken what it may, and its output was closed at the end alone
pub record IsWell (inputs : List (StreamPrefix Plain)) (free : FreeNode) (taken : Taken) : Type 0 where
  pub ports : length inputs ≡ ports_of free.law
  pub lawful : IsLawfulSoFar inputs taken.log
  pub shut : taken.closed ≡ true → IsOver inputs free.law taken.log

-- The ports that end the output.
ending_long : (law : FreeLaw) (inputs : List (StreamPrefix Plain)) → length (ending law inputs) ≤ length inputs
ending_long (FirstCome lanes) inputs = omega arith
ending_long (Limiter most) [] = omega arith
ending_long (Limiter most) (s ∷ inputs) = omega arith

ending_port : (law : FreeLaw) (inputs : List (StreamPrefix Plain)) (port : ℕ) → port < length (ending law inputs) → port_of (ending law inputs) port ≡ port_of inputs port
ending_port (FirstCome lanes) inputs port le = refl
ending_port (Limiter most) [] port le = absurd (omega (arith, le))
ending_port (Limiter most) (s ∷ inputs) zero le = refl
ending_port (Limiter most) (s ∷ inputs) (suc port) le = absurd (omega (arith, le))

ending_extended : (law : FreeLaw) (inputs later : List (StreamPrefix Plain)) → AreExtendedBy inputs later → AreExtendedBy (ending law inputs) (ending law later)
ending_extended (FirstCome lanes) inputs later e = e
ending_extended (Limiter most) [] [] e = tt
ending_extended (Limiter most) [] (t ∷ later) e = absurd e
ending_extended (Limiter most) (s ∷ inputs) [] e = absurd e
ending_extended (Limiter most) (s ∷ inputs) (t ∷ later) e = (e.0, tt)

ending_prefixes : (law : FreeLaw) (inputs : List (StreamPrefix Plain)) → AllByRecursion IsPrefix inputs → AllByRecursion IsPrefix (ending law inputs)
ending_prefixes (FirstCome lanes) inputs all = all
ending_prefixes (Limiter most) [] all = tt
ending_prefixes (Limiter most) (s ∷ inputs) all = (all.0, tt)

-- what has ended doesn't grow
ended_same : (ss ts : List (StreamPrefix Plain)) → AreExtendedBy ss ts → AllByRecursion IsPrefix ts → list_all (λ s. s.bound == done) ss ≡ true → ss ≡ ts
ended_same [] [] e all ends = refl
ended_same [] (t ∷ ts) e all ends = absurd e
ended_same (s ∷ ss) [] e all ends = absurd e
ended_same (s ∷ ss) (t ∷ ts) e all ends =
    let parts = and_parts (s.bound == done) (list_all (λ z. z.bound == done) ss) ends in
    let here : s.bound ≡ done = grind (arith, nat_tests, parts) in
    ap₂ (λ (a : StreamPrefix Plain) (b : List (StreamPrefix Plain)). a ∷ b) (ended_stays s t here all.0 e.0) (ended_same ss ts e.1 all.1 parts.1)

over_later : (law : FreeLaw) (inputs later : List (StreamPrefix Plain)) (log : List (Arrival Plain)) → AreExtendedBy inputs later → AllByRecursion IsPrefix later → IsOver inputs law log → IsOver later law log
over_later law inputs later log e all over =
    let same : ending law inputs ≡ ending law later = ended_same (ending law inputs) (ending law later) (ending_extended law inputs later e) (ending_prefixes law later all) over.ended in
    record {
      ended = ap (λ (l : List (StreamPrefix Plain)). list_all (λ s. s.bound == done) l) (sym same) ∙ over.ended;
      arrived = λ port le.
          let here : port < length (ending law inputs) = subst (λ (l : List (StreamPrefix Plain)). port < length l) (sym same) le in
          over.arrived port here
          ∙ ap (λ (s : StreamPrefix Plain). s.packets) (sym (ending_port law inputs port here) ∙ (ap (λ (l : List (StreamPrefix Plain)). port_of l port) same ∙ ending_port law later port le));
    }

-- If the streams grow, all stays well.
pub well_later : (inputs later : List (StreamPrefix Plain)) (free : FreeNode) (taken : Taken) → AreExtendedBy inputs later → AllByRecursion IsPrefix later → IsWell inputs free taken → IsWell later free taken
well_later inputs later free taken e all well = record {
  ports = sym (length_all_zip IsExtendedBy inputs later e) ∙ well.ports;
  lawful = lawful_later inputs later taken.log e well.lawful;
  shut = λ is. over_later free.law inputs later taken.log e all (well.shut is);
}

-- A turn keeps it.
past_none : {X : Type 0} (xs : List X) (x : X) → slice_get xs (length xs) ≡ Some x → ⊥
past_none [] x e = cc
past_none (y ∷ xs) x e = past_none xs x e

-- what is over at a port doesn't arrive there again
elsewhere : (inputs : List (StreamPrefix Plain)) (law : FreeLaw) (log : List (Arrival Plain)) (a : Arrival Plain) → IsOver inputs law log → IsNext inputs log a → (port : ℕ) → port < length (ending law inputs) → (a.port == port) ≡ false
elsewhere inputs law log a over next port le = elim (eqb_tells a.port port) [
  | inl (is, same) ↦ absurd (past_none (port_of inputs port).packets a.packet
      (subst (λ (l : List (Stamped Plain)). slice_get (port_of inputs port).packets (length l) ≡ Some a.packet) (over.arrived port le)
      (subst (λ (n : ℕ). slice_get (port_of inputs n).packets (length (arrived_at n log)) ≡ Some a.packet) same next.next)))
  | inr (isnt, other) ↦ isnt
]

over_with : (inputs : List (StreamPrefix Plain)) (law : FreeLaw) (log : List (Arrival Plain)) (a : Arrival Plain) → IsOver inputs law log → IsNext inputs log a → IsOver inputs law (log ++ a ∷ [])
over_with inputs law log a over next = record {
  ended = over.ended;
  arrived = λ port le.
      arrived-both port log a
      ∙ (ap (λ (l : List (Stamped Plain)). arrived_at port log ++ l) (none_at port a (elsewhere inputs law log a over next port le))
      ∙ (append-nil (arrived_at port log) ∙ over.arrived port le));
}

-- if nothing is left to take, all has arrived
all_arrived : (inputs : List (StreamPrefix Plain)) (log : List (Arrival Plain)) → IsLawfulSoFar inputs log
    → ((port : ℕ) → port < length inputs → slice_get (port_of inputs port).packets (length (arrived_at port log)) ≡ None)
    → (port : ℕ) → port < length inputs → arrived_at port log ≡ (port_of inputs port).packets
all_arrived inputs log lawful left port le =
    lawful.first port le ∙ take_whole (length (arrived_at port log)) (port_of inputs port).packets (past (port_of inputs port).packets (length (arrived_at port log)) (left port le))

abbrev pub after : Taken → Bool → Taken
after taken ended = elim ended [ true ↦ record { log = taken.log; closed = true } | false ↦ taken ]

well_closing : (inputs : List (StreamPrefix Plain)) (free : FreeNode) (taken : Taken) (ended : Bool) → has_ended free.law inputs ≡ ended → IsWell inputs free taken
    → ((port : ℕ) → port < length inputs → slice_get (port_of inputs port).packets (length (arrived_at port taken.log)) ≡ None) → IsWell inputs free (after taken ended)
well_closing inputs free taken false is well left = well
well_closing inputs free taken true is well left = record {
  ports = well.ports;
  lawful = well.lawful;
  shut = λ e. record {
    ended = is;
    arrived = λ port le. all_arrived inputs taken.log well.lawful left port (let long = ending_long free.law inputs in omega (arith, le, long));
  };
}

well_by : (streams : List (StreamPrefix Plain)) (free : FreeNode) (taken : Taken) (next : Option (Arrival Plain)) → IsWell (free_inputs streams free) free taken
    → IfSome next (IsNext (free_inputs streams free) taken.log)
    → (next ≡ None → (port : ℕ) → port < length (free_inputs streams free) → slice_get (port_of (free_inputs streams free) port).packets (length (arrived_at port taken.log)) ≡ None)
    → IsWell (free_inputs streams free) free (with_next streams free taken next)
well_by streams free taken (Some a) well next left = record {
  ports = well.ports;
  lawful = lawful_with (free_inputs streams free) taken.log a well.lawful next;
  shut = λ is. over_with (free_inputs streams free) free.law taken.log a (well.shut is) next;
}
well_by streams free taken None well next left = well_closing (free_inputs streams free) free taken (has_ended free.law (free_inputs streams free)) refl well (left refl)

next_of : (streams : List (StreamPrefix Plain)) (free : FreeNode) (taken : Taken) → IfSome (last_of (next_arrivals streams free taken)) (IsNext (free_inputs streams free) taken.log)
next_of streams free taken = last_keeps (IsNext (free_inputs streams free) taken.log) (next_arrivals streams free taken) (all_next [] (free_inputs streams free) taken.log)

pub left_none : (streams : List (StreamPrefix Plain)) (free : FreeNode) (taken : Taken) → last_of (next_arrivals streams free taken) ≡ None
    → (port : ℕ) → port < length (free_inputs streams free) → slice_get (port_of (free_inputs streams free) port).packets (length (arrived_at port taken.log)) ≡ None
left_none streams free taken none port le =
    subst (λ (k : ℕ). slice_get (port_of (free_inputs streams free) port).packets (length (arrived_at k taken.log)) ≡ None) (let z : 0 + port ≡ port = omega arith in z)
    (none_left taken.log 0 port (free_inputs streams free) (last_none (next_arrivals streams free taken) none) le)

pub well_turn : (streams : List (StreamPrefix Plain)) (free : FreeNode) (taken : Taken) → IsWell (free_inputs streams free) free taken → IsWell (free_inputs streams free) free (turn streams free taken)
well_turn streams free taken well = well_by streams free taken (last_of (next_arrivals streams free taken)) well (next_of streams free taken) (left_none streams free taken)

-- The output.
abbrev pub shown : Bool → StreamPrefix Plain → StreamPrefix Plain
shown shut s = elim shut [ true ↦ closed s | false ↦ s ]

shown_prefix : (shut : Bool) (s : StreamPrefix Plain) → IsPrefix s → IsPrefix (shown shut s)
shown_prefix true s h = closed_is_prefix s h
shown_prefix false s h = h

shown_closes : (shut : Bool) (s : StreamPrefix Plain) → IsPrefix s → IsExtendedBy (shown shut s) (closed s)
shown_closes true s h = extended_by_itself (closed s)
shown_closes false s h = closed_extends s h

may : (inputs : List (StreamPrefix Plain)) (free : FreeNode) (taken : Taken) → AllByRecursion IsPrefix inputs → IsWell inputs free taken → MayAllArrive free.law begun taken.log
may inputs free taken all well = lawful_may free.law inputs taken.log well.ports all well.lawful

pub well_prefix : (inputs : List (StreamPrefix Plain)) (free : FreeNode) (taken : Taken) → AllByRecursion IsPrefix inputs → IsWell inputs free taken → IsPrefix (output_so_far free taken)
well_prefix inputs free taken all well = shown_prefix taken.closed (flow_of free.law taken.log).output (log_prefix free.law taken.log (may inputs free taken all well))

-- once the output was closed, what arrives changes it no more
no_more : (inputs : List (StreamPrefix Plain)) (law : FreeLaw) (log : List (Arrival Plain)) (a : Arrival Plain) → length inputs ≡ ports_of law → IsOver inputs law log → IsNext inputs log a
    → (flow_of law (log ++ a ∷ [])).output ≡ (flow_of law log).output
no_more inputs (FirstCome lanes) log a ports over next =
    let isnt = elsewhere inputs (FirstCome lanes) log a over next a.port next.port in
    absurd (let is : (a.port == a.port) ≡ true = grind (arith, nat_tests) in cc)
no_more (s ∷ inputs) (Limiter most) log a ports over next =
    let isnt = elsewhere (s ∷ inputs) (Limiter most) log a over next 0 (omega arith) in
    ap (λ (f : Flow Plain). f.output) (fold-append (arrived (Limiter most)) begun log (a ∷ []) ∙ limiter_finished most (flow_of (Limiter most) log) a isnt)
no_more [] (Limiter most) log a ports over next = absurd (omega (arith, ports))

further_shown : (shut : Bool) (s t : StreamPrefix Plain) → IsExtendedBy s t → (shut ≡ true → t ≡ s) → IsExtendedBy (shown shut s) (shown shut t)
further_shown true s t e same = subst (λ (z : StreamPrefix Plain). IsExtendedBy (closed s) (closed z)) (sym (same refl)) (extended_by_itself (closed s))
further_shown false s t e same = e

further_by : (streams : List (StreamPrefix Plain)) (free : FreeNode) (taken : Taken) (next : Option (Arrival Plain)) → AllByRecursion IsPrefix (free_inputs streams free) → IsWell (free_inputs streams free) free taken
    → IfSome next (IsNext (free_inputs streams free) taken.log) → IsExtendedBy (output_so_far free taken) (output_so_far free (with_next streams free taken next))
further_by streams free taken (Some a) all well next =
    let inputs = free_inputs streams free in
    let longer = lawful_may free.law inputs (taken.log ++ a ∷ []) well.ports all (lawful_with inputs taken.log a well.lawful next) in
    further_shown taken.closed (flow_of free.law taken.log).output (flow_of free.law (taken.log ++ a ∷ [])).output (log_extends free.law taken.log (a ∷ []) longer)
    (λ is. no_more inputs free.law taken.log a well.ports (well.shut is) next)
further_by streams free taken None all well next = by (has_ended free.law (free_inputs streams free))
  where
    by : (ended : Bool) → IsExtendedBy (output_so_far free taken) (output_so_far free (after taken ended))
    by true = shown_closes taken.closed (flow_of free.law taken.log).output (log_prefix free.law taken.log (may (free_inputs streams free) free taken all well))
    by false = extended_by_itself (output_so_far free taken)

pub turn_extends : (streams : List (StreamPrefix Plain)) (free : FreeNode) (taken : Taken) → AllByRecursion IsPrefix (free_inputs streams free) → IsWell (free_inputs streams free) free taken
    → IsExtendedBy (output_so_far free taken) (output_so_far free (turn streams free taken))
turn_extends streams free taken all well = further_by streams free taken (last_of (next_arrivals streams free taken)) all well (next_of streams free taken)
