-- The longest run of good lines, and the first line after it.
use Rattle.std.proofs.Common.{◌≡◌, ◌≢◌, ℕ, ◌+◌, ◌<◌, ◌≤◌, List, [], ◌∷◌, ◌++◌, length, nat_lt, nat_le, Bool, true, false, if◌then◌else◌, Option, None, Some, refl, sym, ap, ◌∙◌, subst, arith, append_assoc, append-nil, length-append}
use Rattle.std.proofs.lemmas.Bool.{lt-ltb, leb-false}
use Rattle.mg_feed.specs.Graph.{GraphInputs}
use Rattle.mg_feed.specs.Accepted.{Before, longest_line, most_lines, refusal, line_refusal, if_good, refused_at, accepted_after, first_refused_after}
use Rattle.mg_feed.specs.Lines.{all_lines, whole_lines}
use Rattle.mg_feed.specs.Came.{Judged}
use Rattle.mg_feed.specs.Batch.{EndsAs}
use Rattle.mg_feed.specs.Stands.{AllGood}
use Rattle.mg_feed.specs.declared.line_fault.LineFault.{LineFault}
use Rattle.mg_feed.specs.declared.line_fault.LineFault.TheVariants.{TooLong, TooManyLines}
use Rattle.mg_feed.specs.declared.feed_end.FeedEnd.{FeedEnd}
use Rattle.mg_feed.specs.declared.feed_end.FeedEnd.TheVariants.{Ended, Failed, Refused, OutOfMemory}

-- if lines are all good, so are the last of them, and so are the first
pub good-behind : (graph : GraphInputs) (before xs ys : List (List ℕ)) → AllGood graph before (xs ++ ys) → AllGood graph (before ++ xs) ys
good-behind graph before [] ys good = rw append-nil good
good-behind graph before (x ∷ xs) ys good = rw (sym (append_assoc before (x ∷ []) xs)) (good-behind graph (before ++ x ∷ []) xs ys good.1)

pub good-front : (graph : GraphInputs) (before xs ys : List (List ℕ)) → AllGood graph before (xs ++ ys) → AllGood graph before xs
good-front graph before [] ys good = tt
good-front graph before (x ∷ xs) ys good = (good.0, good-front graph (before ++ x ∷ []) xs ys good.1)

-- accepted lines are all good
pub good-accepted : (graph : GraphInputs) (before lines : List (List ℕ)) → AllGood graph before (accepted_after graph before lines)
good-accepted graph before [] = tt
good-accepted graph before (line ∷ lines) = by (refusal graph before line) refl (good-accepted graph (before ++ line ∷ []) lines)
  where
    by : (o : Option LineFault) → refusal graph before line ≡ o → AllGood graph (before ++ line ∷ []) (accepted_after graph (before ++ line ∷ []) lines)
        → AllGood graph before (if_good o (line ∷ accepted_after graph (before ++ line ∷ []) lines) [])
    by None is more = (is, more)
    by (Some fault) is more = tt

-- Good lines are accepted, and what follows is judged after them.
pub accepted-good : (graph : GraphInputs) (before xs ys : List (List ℕ)) → AllGood graph before xs → accepted_after graph before (xs ++ ys) ≡ xs ++ accepted_after graph (before ++ xs) ys
accepted-good graph before [] ys good = ap (λ b. accepted_after graph b ys) (sym (append-nil before))
accepted-good graph before (x ∷ xs) ys good =
    rw good.0 (ap (λ l. x ∷ l) (accepted-good graph (before ++ x ∷ []) xs ys good.1 ∙ ap (λ b. xs ++ accepted_after graph b ys) (append_assoc before (x ∷ []) xs)))

first-good : (graph : GraphInputs) (before xs ys : List (List ℕ)) → AllGood graph before xs → first_refused_after graph before (xs ++ ys) ≡ first_refused_after graph (before ++ xs) ys
first-good graph before [] ys good = ap (λ b. first_refused_after graph b ys) (sym (append-nil before))
first-good graph before (x ∷ xs) ys good =
    rw good.0 (first-good graph (before ++ x ∷ []) xs ys good.1 ∙ ap (λ b. first_refused_after graph b ys) (append_assoc before (x ∷ []) xs))

-- all lines are good
pub judged-good : (graph : GraphInputs) (first lines : List (List ℕ)) → AllGood graph [] (first ++ lines) → Judged graph first lines lines None
judged-good graph first lines all =
    let good = good-behind graph [] first lines all in (
      ap (accepted_after graph first) (sym (append-nil lines)) ∙ accepted-good graph first lines [] good ∙ append-nil lines,
      ap (first_refused_after graph first) (sym (append-nil lines)) ∙ first-good graph first lines [] good,
    )

-- a line that isn't good ends the accepted lines
pub judged-stop : (graph : GraphInputs) (first lines : List (List ℕ)) (line : List ℕ) (more all : List (List ℕ)) (fault : LineFault) (number : ℕ)
    → AllGood graph [] (first ++ lines) → refusal graph (first ++ lines) line ≡ Some fault → all ≡ lines ++ line ∷ more → number ≡ length (first ++ lines) + 1
    → Judged graph first all lines (Some (record { number = number; fault = fault }))
judged-stop graph first lines line more all fault number good bad is count =
    let good' = good-behind graph [] first lines good in (
      ap (accepted_after graph first) is ∙ accepted-good graph first lines (line ∷ more) good'
          ∙ ap (λ o. lines ++ if_good o (line ∷ accepted_after graph ((first ++ lines) ++ line ∷ []) more) []) bad ∙ append-nil lines,
      ap (first_refused_after graph first) is ∙ first-good graph first lines (line ∷ more) good'
          ∙ ap (λ o. refused_at (length (first ++ lines) + 1) o (first_refused_after graph ((first ++ lines) ++ line ∷ []) more)) bad
          ∙ ap (λ n. Some (record { number = n; fault = fault })) (sym count),
    )

-- a line that is too long isn't good, wherever it stands
pub long-refused : (b : Before) (line : List ℕ) → longest_line < length line → line_refusal b line ≡ Some TooLong
long-refused b line long = rw (lt-ltb longest_line (length line) long) refl

-- accepted lines are no more than an input may have
not-many : (long many : Bool) (later : Option LineFault) → (if long then Some TooLong else (if many then Some TooManyLines else later)) ≡ None → many ≡ false
not-many true many later is = cc
not-many false true later is = cc
not-many false false later is = refl

good-within : (graph : GraphInputs) (before lines : List (List ℕ)) → length before ≤ most_lines → AllGood graph before lines → length (before ++ lines) ≤ most_lines
good-within graph before [] few good = rw append-nil few
good-within graph before (line ∷ lines) few good =
    let none : nat_le most_lines (length before) ≡ false = not-many (nat_lt longest_line (length line)) (nat_le most_lines (length before)) _ good.0 in
    let fewer : length before < most_lines = leb-false most_lines (length before) none in
    subst (λ (l : List (List ℕ)). length l ≤ most_lines) (append_assoc before (line ∷ []) lines)
    (good-within graph (before ++ line ∷ []) lines (omega (arith, fewer, length-append before (line ∷ []))) good.1)

pub good-few : (graph : GraphInputs) (lines : List (List ℕ)) → AllGood graph [] lines → length lines ≤ most_lines
good-few graph lines good = good-within graph [] lines (omega arith) good

-- the accepted lines of an input are all good, unless memory ran out
pub good-ends : (end : FeedEnd) (graph : GraphInputs) (came : List ℕ) (lines : List (List ℕ)) (ended : Bool) → EndsAs end graph [] came lines ended → end ≢ OutOfMemory → AllGood graph [] lines
good-ends Ended graph came lines ended ends some = subst (λ (l : List (List ℕ)). AllGood graph [] l) ends.2.0 (good-accepted graph [] (all_lines came))
good-ends (Failed number) graph came lines ended ends some = subst (λ (l : List (List ℕ)). AllGood graph [] l) ends.2.0 (good-accepted graph [] (whole_lines came))
good-ends (Refused number cause) graph came lines ended ends some =
    subst (λ (l : List (List ℕ)). AllGood graph [] l) (ends [] (λ met. refl)).0 (good-accepted graph [] (all_lines (came ++ [])))
good-ends OutOfMemory graph came lines ended ends some = absurd (some refl)
