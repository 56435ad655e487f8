-- How a summary is counted, set by set.
use Rattle.std.specs.Prelude.{ℕ, ◌+◌, ◌*◌, ◌≤◌, pos, neg_ℤ, ◌+ℤ◌, ◌≤ℤ◌, List, [], ◌∷◌, ◌++◌, Option, None, Some, unwrap_or}
use Rattle.mg_value.specs.Payload.{Plain}
use Rattle.mg_value.specs.Packet.{Stamped}
use Rattle.mg_answer.specs.Summary.{addend, total_line}
use Rattle.mg_answer.specs.declared.total.Total.{Total}

-- the totals of an output with one more packet, or as they were if there is none
abbrev pub with_place : Total → Option (Stamped Plain) → Total
with_place total None = total
with_place total (Some p) = record {
  packets = total.packets + 1;
  first = Some (unwrap_or total.first p.at);
  last = Some p.at;
  sum = total.sum +ℤ addend p.value;
}

-- the totals of outputs with one more set
abbrev pub with_set : List Total → List (Option (Stamped Plain)) → List Total
with_set [] set = []
with_set (total ∷ totals) [] = total ∷ totals
with_set (total ∷ totals) (place ∷ places) = with_place total place ∷ with_set totals places

-- The totals of an output after so many sets are in range. The output has no more packets than there were sets. Its sum is no
-- further from 0 than 2^63 times the number of sets.
abbrev pub IsWithin : ℕ → Total → Type 0
IsWithin sets total =
    (total.packets ≤ sets) × (neg_ℤ (pos (9223372036854775808 * sets)) ≤ℤ total.sum) × (total.sum ≤ℤ pos (9223372036854775808 * sets))

-- the lines of the totals of outputs
abbrev pub total_lines : List (List ℕ) → List Total → List ℕ
total_lines [] totals = []
total_lines (name ∷ names) [] = []
total_lines (name ∷ names) (total ∷ totals) = total_line name total ++ total_lines names totals
