-- What the code's steps do.
use Rattle.std.proofs.Common.{◌≡◌, ◌≢◌, inl, inr, ℕ, ◌+◌, ◌<◌, ◌≤◌, List, [], ◌∷◌, ◌++◌, take, drop, length, Bool, true, false, None, Some, refl, sym, ap, ◌∙◌, subst, arith, append_assoc, append-nil, length-append}
use Rattle.std.proofs.lemmas.List.{length-take-le}
use Rattle.mg_edge.specs.Edge.{SourceTold}
use Rattle.mg_edge.proofs.Runs.{Gave-start}
use Rattle.mg_feed.specs.Lines.{NoFeed}
use Rattle.mg_feed.specs.Accepted.{longest_line, line_refusal, names_stream, with_line}
use Rattle.mg_feed.specs.View.{before_seen, with_counted_line}
use Rattle.mg_feed.specs.Fed.{Fed}
use Rattle.mg_feed.specs.Ran.{EndCame, MetEnd, late, FailedBy}
use Rattle.mg_feed.specs.Batch.{HasCause}
use Rattle.mg_feed.specs.Code.LineEnd.{EndsLine, has_feed}
use Rattle.mg_feed.specs.Code.Filled.{GotBytes, GotEnd, GotFault}
use Rattle.mg_feed.specs.Code.Moves.{Moved, EndsReading, Stopped, StopsBy, TookLine, NextLine}
use Rattle.mg_feed.specs.declared.line_fault.LineFault.{LineFault}
use Rattle.mg_feed.specs.declared.line_fault.LineFault.TheVariants.{OutOfMemory as no_memory, TooLong}
use Rattle.mg_feed.specs.declared.feed_end.FeedEnd.{FeedEnd}
use Rattle.mg_feed.specs.declared.feed_end.FeedEnd.TheVariants.{Ended, Failed, Refused, OutOfMemory}
use Rattle.mg_feed.proofs.Cutting.{no_feed-of, no_feed-append}
use Rattle.mg_feed.proofs.Accepting.{long-refused}
use Rattle.mg_feed.proofs.Blocks.{drop-twice}
use Rattle.mg_feed.proofs.Coming.{grows-bytes, grows-end, ends-ended, ends-failed}
use Rattle.mg_feed.proofs.Timely.{timely-none, timely-block}
use Rattle.mg_feed.proofs.Moving.{met-same, spends-late, spends-read, unfailed-same}

-- Reads --

pub met-open : (a b : Bool) (before now : SourceTold) → a ≡ false → b ≡ false → now.ends ≡ before.ends → MetEnd a b before now
met-open a b before now was is same = rw (was, is) same

pub met-end : (a b : Bool) (before now : SourceTold) → a ≡ false → b ≡ true → EndCame before now → MetEnd a b before now
met-end a b before now was is same = rw (was, is) same

pub moved-bytes : (old new : Fed) (before now : SourceTold) → new.view ≡ old.view → old.read.ended ≡ false → NoFeed old.read.kept → length old.read.kept ≤ longest_line
    → (got : GotBytes old.read new.read before now) → Moved before now old new got.bytes []
moved-bytes old new before now view was none short got = record {
  gave = got.gave;
  grows = grows-bytes old new got.bytes view was got.ended got.kept;
  stops = timely-block before now old got.bytes was none short got.some got.few got.gave got.last;
  graph = ap (λ v. v.graph) view;
  number = let same : new.view.lines ≡ old.view.lines = ap (λ v. v.lines) view in omega (arith, same);
  met = met-open old.read.ended new.read.ended before now was got.ended got.ends;
  spent =
      let none : late old.read.ended ≡ 0 = ap late was in
      spends-read (late old.read.ended) (late new.read.ended) before.left now.left before.reads now.reads got.bytes got.gave got.counted (omega (arith, none, got.some));
  unfailed = got.unfailed;
}

pub moved-end : (old new : Fed) (before now : SourceTold) → new.view ≡ old.view → old.read.ended ≡ false → NoFeed old.read.kept → GotEnd old.read new.read before now
    → Moved before now old new [] []
moved-end old new before now view was none got = record {
  gave = got.gave;
  grows = grows-end old new view was got.ended none got.kept;
  stops = timely-none before now old got.gave got.last;
  graph = ap (λ v. v.graph) view;
  number = let same : new.view.lines ≡ old.view.lines = ap (λ v. v.lines) view in omega (arith, same);
  met = met-end old.read.ended new.read.ended before now was got.ended got.came;
  spent =
      let zero_late : late old.read.ended ≡ 0 = ap late was in
      let one_late : late new.read.ended ≡ 1 = ap late got.ended in
      spends-read (late old.read.ended) (late new.read.ended) before.left now.left before.reads now.reads [] got.gave got.counted (omega (arith, zero_late, one_late));
  unfailed = got.unfailed;
}

pub stopped-failed : (old new : Fed) (before now : SourceTold) → new ≡ old → old.read.ended ≡ false → NoFeed old.read.kept → GotFault old.read new.read before now
    → Stopped (Failed old.view.lines) before now old new
stopped-failed old new before now same was none got =
    let is : new.read.ended ≡ false = ap (λ f. f.read.ended) same ∙ was in
    record {
      gave = got.gave;
      last = got.last;
      same = same;
      met = met-open old.read.ended new.read.ended before now was is got.ends;
      spent =
          let zero_late : late old.read.ended ≡ 0 = ap late was in
          spends-read (late old.read.ended) 1 before.left now.left before.reads now.reads [] got.gave got.counted (omega (arith, zero_late));
      failed = got.failed;
      cause = tt;
      ends = subst (EndsReading (Failed old.view.lines)) (sym same) (ends-failed old was none);
    }

-- Lines --

-- the reading stops if nothing was read
stopped-here : (end : FeedEnd) (old new : Fed) (told : SourceTold) → new ≡ old → (FailedBy end told told) → HasCause end → EndsReading end old → Stopped end told told old new
stopped-here end old new told same failed cause ends = record {
  gave = Gave-start told.left;
  last = refl;
  same = same;
  met = subst (λ (f : Fed). MetEnd old.read.ended f.read.ended told told) (sym same) (met-same old.read.ended told);
  spent = spends-late old.read.ended told.left told.reads;
  failed = failed;
  cause = cause;
  ends = subst (EndsReading end) (sym same) ends;
}

-- the source has ended, and nothing is left
pub stopped-ended : (f : Fed) (told : SourceTold) → f.read.ended ≡ true → NoFeed f.read.kept → Stopped Ended told told f f
stopped-ended f told ended none = stopped-here Ended f f told refl (unfailed-same told) tt (ends-ended f ended none)

-- the next line isn't good, or there is no memory for it
pub stopped-by : (end : FeedEnd) (old new : Fed) (told : SourceTold) (fault : LineFault) (lines : ℕ) → lines ≡ old.view.lines → StopsBy fault lines end → new ≡ old
    → (fault ≢ no_memory → EndsReading (Refused (old.view.lines + 1) fault) old) → Stopped end told told old new
stopped-by end old new told fault lines count (inl out) same ends =
    subst (λ (e : FeedEnd). Stopped e told told old new) (sym out.1) (stopped-here OutOfMemory old new told same (unfailed-same told) tt (λ first past ls gone c. tt))
stopped-by end old new told fault lines count (inr refused) same ends =
    subst (λ (e : FeedEnd). Stopped e told told old new) (sym (refused.1 ∙ ap (λ n. Refused (n + 1) fault) count))
    (stopped-here (Refused (old.view.lines + 1) fault) old new told same (unfailed-same told) refused.0 (ends refused.0))

-- what is kept if no line feed is left
pub kept-none : (cut left : List ℕ) → has_feed cut ≡ false → NoFeed left → NoFeed (cut ++ left)
kept-none cut left none more = no_feed-append cut left (no_feed-of cut none) more

-- and if nothing is left of the block
pub kept-short : (cut left : List ℕ) → left ≡ [] → length cut ≤ longest_line → length (cut ++ left) ≤ longest_line
kept-short cut left passed short = rw (passed, append-nil cut) short

-- a line feed of the block ends the bytes that were kept before it
pub line-cut : (cut line left after : List ℕ) (i : ℕ) → EndsLine left i → line ≡ cut ++ take i left → after ≡ drop (i + 1) left → cut ++ left ≡ line ++ 10 ∷ after
line-cut cut line left after i ends is behind =
    ap (λ l. cut ++ l) (ends.cut ∙ ap (λ l. take i left ++ 10 ∷ l) (sym behind)) ∙ sym (append_assoc cut (take i left) (10 ∷ after)) ∙ ap (λ l. l ++ 10 ∷ after) (sym is)

pub line-none : (cut line left : List ℕ) (i : ℕ) → has_feed cut ≡ false → EndsLine left i → line ≡ cut ++ take i left → NoFeed line
line-none cut line left i none ends is = rw is (no_feed-append cut (take i left) (no_feed-of cut none) ends.none)

-- a line that is too long
pub next-long : (f : Fed) (fault : LineFault) (cut left : List ℕ) (i : ℕ) → f.read.kept ≡ cut ++ left → has_feed cut ≡ false → EndsLine left i
    → fault ≡ TooLong → longest_line < length cut + i → NextLine fault f
next-long f fault cut left i kept none ends is long = record {
  line = cut ++ take i left;
  rest = drop (i + 1) left;
  cut = kept ∙ line-cut cut (cut ++ take i left) left (drop (i + 1) left) i ends refl refl;
  none = line-none cut (cut ++ take i left) left i none ends refl;
  bad = long-refused (before_seen f.view) (cut ++ take i left)
      (let some : length (take i left) ≡ i = length-take-le i left (omega (arith, ends.within)) in
      omega (arith, long, length-append cut (take i left), some)) ∙ ap (λ x. Some x) (sym is);
}

-- a line that isn't good
pub next-bad : (f : Fed) (fault : LineFault) (cut line left : List ℕ) (i : ℕ) → f.read.kept ≡ cut ++ left → has_feed cut ≡ false → EndsLine left i
    → line ≡ cut ++ take i left → line_refusal (before_seen f.view) line ≡ Some fault → NextLine fault f
next-bad f fault cut line left i kept none ends is bad = record {
  line = line;
  rest = drop (i + 1) left;
  cut = kept ∙ line-cut cut line left (drop (i + 1) left) i ends is refl;
  none = line-none cut line left i none ends is;
  bad = bad;
}

-- a good line
pub took-cut : (named : Bool) (old new : Fed) (cut line left held after : List ℕ) (i : ℕ) → old.read.kept ≡ cut ++ left → has_feed cut ≡ false → EndsLine left i
    → line ≡ cut ++ take i left → held ≡ drop i left → after ≡ drop 1 held → new.read.kept ≡ after → new.read.ended ≡ old.read.ended
    → named ≡ names_stream line → line_refusal (before_seen old.view) line ≡ None → new.view ≡ with_counted_line old.view (with_line old.view.graph old.view.given line)
    → TookLine named old new
took-cut named old new cut line left held after i kept none ends is passed behind now ended names good view = record {
  line = line;
  cut = kept ∙ line-cut cut line left new.read.kept i ends is
      (now ∙ behind ∙ ap (drop 1) passed ∙ sym (drop-twice i 1 (i + 1) left refl));
  none = line-none cut line left i none ends is;
  names = names;
  ended = ended;
  good = good;
  view = view;
}
