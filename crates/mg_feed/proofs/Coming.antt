-- What came to a feed, as bytes come and lines are taken.
use Rattle.std.proofs.Common.{◌≡◌, ℕ, ◌+◌, ◌<◌, List, [], ◌∷◌, ◌++◌, length, Bool, true, false, None, refl, sym, ap, ◌∙◌, subst, arith, append_assoc, append-nil, length-append}
use Rattle.std.proofs.lemmas.Bool.{false≢true}
use Rattle.mg_value.specs.Payload.{Plain}
use Rattle.mg_value.specs.Packet.{Stamped}
use Rattle.mg_feed.specs.Lines.{all_lines, whole_lines, with_feed, completed, NoFeed, IsCut}
use Rattle.mg_feed.specs.Accepted.{longest_line, accepted, accepted_after}
use Rattle.mg_feed.specs.View.{before_seen}
use Rattle.mg_feed.specs.Stands.{HasAccepted}
use Rattle.mg_feed.specs.Fed.{Fed, Reading}
use Rattle.mg_feed.specs.Came.{Came, Judged, arrived_bytes}
use Rattle.mg_feed.specs.Code.Moves.{Grows, EndsReading, TookLine, NextLine}
use Rattle.mg_feed.specs.declared.line_fault.LineFault.{LineFault}
use Rattle.mg_feed.specs.declared.line_fault.LineFault.TheVariants.{TooLong}
use Rattle.mg_feed.specs.declared.feed_end.FeedEnd.TheVariants.{Ended, Failed, Refused}
use Rattle.mg_feed.proofs.Holding.{stands-next, refusal-seen}
use Rattle.mg_feed.proofs.Cutting.{cut-more, cut-line, cut-all, cut-whole, cut-end, cut-ended, all_lines-line, all_lines-begin, all_lines-completed}
use Rattle.mg_feed.proofs.Accepting.{accepted-good, judged-good, judged-stop, long-refused}

-- One step --

-- a line was taken
pub grows-line : (named : Bool) (old new : Fed) (t : TookLine named old new) → Grows old new [] (t.line ∷ [])
grows-line named old new t first past lines gone c = record {
  stands = subst (λ (l : List (List ℕ)). HasAccepted l gone new.view) (append_assoc first lines (t.line ∷ []))
      (stands-next (first ++ lines) gone old.view new.view t.line c.stands t.good t.view).1;
  cut = rw (append-nil past, t.ended) (cut-line (arrived_bytes old.read.ended past) lines old.read.kept t.line new.read.kept c.cut t.cut t.none);
}

-- bytes came
pub grows-bytes : (old new : Fed) (came : List ℕ) → new.view ≡ old.view → old.read.ended ≡ false → new.read.ended ≡ false → new.read.kept ≡ old.read.kept ++ came
    → Grows old new came []
grows-bytes old new came view before ended kept first past lines gone c =
    let cut : IsCut past lines old.read.kept = subst (λ (b : Bool). IsCut (arrived_bytes b past) lines old.read.kept) before c.cut in
    record {
      stands = rw (append-nil lines, view) c.stands;
      cut = rw (ended, kept, append-nil lines) (cut-more past lines old.read.kept came cut);
    }

-- the source ended, and no line feed was left
pub grows-end : (old new : Fed) → new.view ≡ old.view → old.read.ended ≡ false → new.read.ended ≡ true → NoFeed old.read.kept
    → new.read.kept ≡ with_feed old.read.kept old.read.kept → Grows old new [] []
grows-end old new view before ended none kept first past lines gone c = record {
  stands = rw (append-nil lines, view) c.stands;
  cut = rw (ended, kept, append-nil lines, append-nil past) (cut-end past lines old.read.kept
      (subst (λ (b : Bool). IsCut (arrived_bytes b past) lines old.read.kept) before c.cut) none);
}

pub grows-same : (f : Fed) → Grows f f [] []
grows-same f first past lines gone c = rw (append-nil past, append-nil lines) c

pub grows-then : (a b c : Fed) (came came' : List ℕ) (taken taken' : List (List ℕ)) → Grows a b came taken → Grows b c came' taken' → Grows a c (came ++ came') (taken ++ taken')
grows-then a b c came came' taken taken' one two first past lines gone it =
    rw (sym (append_assoc past came came'), sym (append_assoc lines taken taken')) (two first (past ++ came) (lines ++ taken) gone (one first past lines gone it))

-- The end --

pub lines-by : (ended : Bool) (past : List ℕ) (lines : List (List ℕ)) (kept more : List ℕ) → IsCut (arrived_bytes ended past) lines kept → (ended ≡ true → more ≡ [])
    → all_lines (past ++ more) ≡ lines ++ all_lines (kept ++ more)
lines-by false past lines kept more cut fits = cut-all past lines kept more cut
lines-by true past lines kept more cut fits =
    rw (fits refl) (ap all_lines (append-nil past) ∙ sym (all_lines-completed past)
    ∙ ap all_lines (sym (append-nil (completed past))) ∙ cut-all (completed past) lines kept [] cut)

-- the source has ended, and nothing is left
ended-by : (ended : Bool) (first : List (List ℕ)) (past : List ℕ) (lines : List (List ℕ)) (gone : List (List (Stamped Plain))) (f : Fed) → ended ≡ true
    → IsCut (arrived_bytes ended past) lines f.read.kept → NoFeed f.read.kept → lines ≡ all_lines past
ended-by true first past lines gone f is cut none = cut-ended past lines f.read.kept cut none
ended-by false first past lines gone f is cut none = absurd (false≢true is)

pub ends-ended : (f : Fed) → f.read.ended ≡ true → NoFeed f.read.kept → EndsReading Ended f
ends-ended f ended none first past lines gone c =
    let all : lines ≡ all_lines past = ended-by f.read.ended first past lines gone f ended c.cut none in
    (ended, all, subst (λ (l : List (List ℕ)). Judged f.view.graph first l lines None) all (judged-good f.view.graph first lines c.stands.good))

-- a read failed, and no line feed was left
pub ends-failed : (f : Fed) → f.read.ended ≡ false → NoFeed f.read.kept → EndsReading (Failed f.view.lines) f
ends-failed f open_ none first past lines gone c =
    let all : lines ≡ whole_lines past = cut-whole past lines f.read.kept (subst (λ (b : Bool). IsCut (arrived_bytes b past) lines f.read.kept) open_ c.cut) none in
    (c.stands.number, all, subst (λ (l : List (List ℕ)). Judged f.view.graph first l lines None) all (judged-good f.view.graph first lines c.stands.good))

-- the next line isn't good
pub ends-line : (f : Fed) (fault : LineFault) → NextLine fault f → EndsReading (Refused (f.view.lines + 1) fault) f
ends-line f fault next first past lines gone c more fits =
    judged-stop f.view.graph first lines next.line (all_lines (next.rest ++ more)) (all_lines (past ++ more)) fault (f.view.lines + 1) c.stands.good
    (refusal-seen (first ++ lines) gone f.view next.line c.stands ∙ next.bad)
    (lines-by f.read.ended past lines f.read.kept more c.cut fits
    ∙ ap (λ l. lines ++ l) (ap (λ k. all_lines (k ++ more)) next.cut ∙ ap all_lines (append_assoc next.line (10 ∷ next.rest) more) ∙ all_lines-line next.line (next.rest ++ more) next.none))
    (ap (λ n. n + 1) c.stands.number)

-- the next line is too long already
pub ends-long : (f : Fed) → NoFeed f.read.kept → longest_line < length f.read.kept → EndsReading (Refused (f.view.lines + 1) TooLong) f
ends-long f none long first past lines gone c more fits =
    let b = all_lines-begin f.read.kept more none (omega (arith, long)) in
    judged-stop f.view.graph first lines (f.read.kept ++ b.0) b.1 (all_lines (past ++ more)) TooLong (f.view.lines + 1) c.stands.good
    (refusal-seen (first ++ lines) gone f.view (f.read.kept ++ b.0) c.stands
    ∙ long-refused (before_seen f.view) (f.read.kept ++ b.0) (omega (arith, long, length-append f.read.kept b.0)))
    (lines-by f.read.ended past lines f.read.kept more c.cut fits ∙ ap (λ l. lines ++ l) b.2)
    (ap (λ n. n + 1) c.stands.number)

-- What callers carry from one call to the next --

-- nothing came to a new feed
pub came-nothing : (lines : List (List ℕ)) (gone : List (List (Stamped Plain))) (f : Fed) → f.read ≡ record { kept = []; ended = false } → HasAccepted lines gone f.view → Came lines [] [] gone f
came-nothing lines gone f unread stands = record {
  stands = rw append-nil stands;
  cut = subst (λ (r : Reading). IsCut (arrived_bytes r.ended []) [] r.kept) (sym unread) (record { whole = tt; is = refl });
}

-- packets were taken
pub came-taken : (first : List (List ℕ)) (came : List ℕ) (lines : List (List ℕ)) (gone gone' : List (List (Stamped Plain))) (f g : Fed) → Came first came lines gone f → g.read ≡ f.read
    → HasAccepted (first ++ lines) gone' g.view → Came first came lines gone' g
came-taken first came lines gone gone' f g it same stands = record {
  stands = stands;
  cut = subst (λ (r : Reading). IsCut (arrived_bytes r.ended came) lines r.kept) (sym same) it.cut;
}

-- the lines that were accepted so far are the first accepted lines of the whole input
pub came-front : (past rest : List ℕ) (lines : List (List ℕ)) (gone : List (List (Stamped Plain))) (f : Fed) → Came [] past lines gone f → (f.read.ended ≡ true → rest ≡ [])
    → (more : List (List ℕ)) × (accepted f.view.graph (all_lines (past ++ rest)) ≡ lines ++ more)
came-front past rest lines gone f c fits =
    let left = all_lines (f.read.kept ++ rest) in (
      accepted_after f.view.graph lines left,
      ap (accepted f.view.graph) (lines-by f.read.ended past lines f.read.kept rest c.cut fits) ∙ accepted-good f.view.graph [] lines left c.stands.good,
    )
