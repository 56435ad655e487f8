-- What some sets tell of the outputs, set by set, and the lines of it.
use Rattle.std.proofs.Common.{◌≡◌, ◌+◌, ◌+ℤ◌, ℕ, zero, suc, List, [], ◌∷◌, ◌++◌, length, map, replicate, drop, false, Option, None, Some, slice_index_or, unwrap_or, refl, sym, ap, ◌∙◌, arith, append_assoc, append-nil, length-append}
use Rattle.std.specs.List.{flat_map, enumerate_from}
use Rattle.std.proofs.lemmas.Int.{ints}
use Rattle.std.proofs.lemmas.List.{reverse-append}
use Rattle.mg_edge.specs.Edge.{SinkTold}
use Rattle.mg_edge.proofs.Runs.{TookAll-start}
use Rattle.mg_value.specs.Payload.{Plain}
use Rattle.mg_value.specs.Packet.{Stamped}
use Rattle.mg_settled.specs.Settled.{TimedSet}
use Rattle.mg_answer.specs.Put.{TextView, HasPut}
use Rattle.mg_answer.specs.Summary.{addend, sum_of, first_time_of, last_time_of, total_of, packets_at, total_line, summary_text, SummaryView, totals_of, HasSummed}
use Rattle.mg_answer.specs.Code.Adding.{with_place, with_set, total_lines}
use Rattle.mg_answer.specs.declared.total.Total.{Total}
use Rattle.mg_answer.proofs.AddingSets.{set-none}

-- One packet more --

abbrev listed : Option (Stamped Plain) → List (Stamped Plain)
listed None = []
listed (Some p) = p ∷ []

sum-more : (ps : List (Stamped Plain)) (p : Stamped Plain) → sum_of (ps ++ p ∷ []) ≡ sum_of ps +ℤ addend p.value
sum-more [] p = omega (arith, ints)
sum-more (q ∷ ps) p = let rest = sum-more ps p in omega (arith, ints, rest)

first-more : (ps : List (Stamped Plain)) (p : Stamped Plain) → first_time_of (ps ++ p ∷ []) ≡ Some (unwrap_or (first_time_of ps) p.at)
first-more [] p = refl
first-more (q ∷ ps) p = refl

last-more : (ps : List (Stamped Plain)) (p : Stamped Plain) → last_time_of (ps ++ p ∷ []) ≡ Some p.at
last-more ps p = ap first_time_of (reverse-append ps (p ∷ []))

total-by : (ps : List (Stamped Plain)) (o : Option (Stamped Plain)) → total_of (ps ++ listed o) ≡ with_place (total_of ps) o
total-by ps None = ap total_of (append-nil ps)
total-by ps (Some p) = λ i. record { packets = length-append ps (p ∷ []) i; first = first-more ps p i; last = last-more ps p i; sum = sum-more ps p i }

-- One set more --

packets-cons : (o : Option (Stamped Plain)) (k : ℕ) (e : TimedSet Plain) (more : List (TimedSet Plain)) → slice_index_or e.set k None ≡ o → packets_at k (e ∷ more) ≡ listed o ++ packets_at k more
packets-cons None k e more is = rw is refl
packets-cons (Some p) k e more is = rw is refl

packets-more : (k : ℕ) (sets : List (TimedSet Plain)) (timed : TimedSet Plain) → packets_at k (sets ++ timed ∷ []) ≡ packets_at k sets ++ listed (slice_index_or timed.set k None)
packets-more k [] timed = packets-cons (slice_index_or timed.set k None) k timed [] refl ∙ append-nil (listed (slice_index_or timed.set k None))
packets-more k (e ∷ es) timed =
    let o = slice_index_or e.set k None in
    packets-cons o k e (es ++ timed ∷ []) refl ∙ ap (λ l. listed o ++ l) (packets-more k es timed)
    ∙ sym (append_assoc (listed o) (packets_at k es) (listed (slice_index_or timed.set k None)))
    ∙ ap (λ l. l ++ listed (slice_index_or timed.set k None)) (sym (packets-cons o k e es refl))

-- what the first of the outputs from a number on has in a set
place-here : (places : List (Option (Stamped Plain))) (k : ℕ) (t : Total) (ts : List Total)
    → with_set (t ∷ ts) (drop k places) ≡ with_place t (slice_index_or places k None) ∷ with_set ts (drop (suc k) places)
place-here [] zero t ts = ap (λ l. t ∷ l) (sym (set-none ts))
place-here [] (suc k) t ts = ap (λ l. t ∷ l) (sym (set-none ts))
place-here (p ∷ ps) zero t ts = refl
place-here (p ∷ ps) (suc k) t ts = place-here ps k t ts

abbrev totals_from : ℕ → List (List ℕ) → List (TimedSet Plain) → List Total
totals_from k names sets = map (λ entry. total_of (packets_at entry.0 sets)) (enumerate_from k names)

totals-more : (k : ℕ) (names : List (List ℕ)) (sets : List (TimedSet Plain)) (timed : TimedSet Plain)
    → totals_from k names (sets ++ timed ∷ []) ≡ with_set (totals_from k names sets) (drop k timed.set)
totals-more k [] sets timed = refl
totals-more k (name ∷ names) sets timed =
    let here : total_of (packets_at k (sets ++ timed ∷ [])) ≡ with_place (total_of (packets_at k sets)) (slice_index_or timed.set k None) =
    ap total_of (packets-more k sets timed) ∙ total-by (packets_at k sets) (slice_index_or timed.set k None) in
    let one : k + 1 ≡ suc k = omega arith in
    ap (λ (t : Total). t ∷ totals_from (k + 1) names (sets ++ timed ∷ [])) here
    ∙ ap (λ (l : List Total). with_place (total_of (packets_at k sets)) (slice_index_or timed.set k None) ∷ l)
    (totals-more (k + 1) names sets timed ∙ ap (λ (n : ℕ). with_set (totals_from (k + 1) names sets) (drop n timed.set)) one)
    ∙ sym (place-here timed.set k (total_of (packets_at k sets)) (totals_from (k + 1) names sets))

pub summed-more : (view now : SummaryView) (places : List (Option (Stamped Plain))) → now.names ≡ view.names → now.totals ≡ with_set view.totals places → now.sets ≡ view.sets + 1
    → (sets : List (TimedSet Plain)) (timed : TimedSet Plain) → timed.set ≡ places → HasSummed view sets → HasSummed now (sets ++ timed ∷ [])
summed-more view now places names totals more sets timed is has = record {
  told = totals ∙ ap (λ (l : List Total). with_set l places) has.told ∙ ap (λ (s : List (Option (Stamped Plain))). with_set (totals_of view.names sets) s) (sym is)
      ∙ sym (totals-more 0 view.names sets timed) ∙ ap (λ (l : List (List ℕ)). totals_of l (sets ++ timed ∷ [])) (sym names);
  counted = let long = length-append sets (timed ∷ []) in omega (arith, more, has.counted, long);
}

-- Nothing yet --

totals-none : (k : ℕ) (names : List (List ℕ)) → replicate (length names) (total_of []) ≡ totals_from k names []
totals-none k [] = refl
totals-none k (name ∷ names) = ap (λ (l : List Total). total_of [] ∷ l) (totals-none (k + 1) names)

pub summed-none : (view : SummaryView) → view.totals ≡ replicate (length view.names) (total_of []) → view.sets ≡ 0 → HasSummed view []
summed-none view totals none = record { told = totals ∙ totals-none 0 view.names; counted = none }

-- Lines --

lines-from : (k : ℕ) (names : List (List ℕ)) (sets : List (TimedSet Plain))
    → flat_map (λ entry. total_line entry.1 (total_of (packets_at entry.0 sets))) (enumerate_from k names) ≡ total_lines names (totals_from k names sets)
lines-from k [] sets = refl
lines-from k (name ∷ names) sets = ap (λ l. total_line name (total_of (packets_at k sets)) ++ l) (lines-from (k + 1) names sets)

-- the text of a summary is put whole
pub summary-put : (view : SummaryView) (first : SinkTold) (text : TextView) (sets : List (TimedSet Plain)) → text.failed ≡ false → text.kept ≡ total_lines view.names view.totals
    → HasSummed view sets → HasPut first first text (summary_text view.names sets)
summary-put view first text sets fine kept has =
    rw fine (
      [],
      record { whole = TookAll-start first.taken; steady = refl },
      lines-from 0 view.names sets ∙ ap (λ (l : List Total). total_lines view.names l) (sym has.told) ∙ sym kept,
    )
