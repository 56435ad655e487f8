-- Steps of a call that reads lines, one after the other.
use Rattle.std.proofs.Common.{◌≡◌, ◌⊎◌, inr, ℕ, ◌+◌, ◌<◌, ◌≤◌, List, [], ◌∷◌, ◌++◌, length, count_by, Bool, true, false, Option, None, Some, IfSome, option_map, refl, sym, ap, ◌∙◌, subst, arith, append_assoc, append-nil, length-append}
use Rattle.std.proofs.lemmas.List.Sums.{sum_by-append, count_by-le-length}
use mir.Val.{bool_byte}
use Rattle.mg_edge.specs.Edge.{SourceTold, CountsOne, one_more}
use Rattle.mg_edge.specs.Runs.{Gave}
use Rattle.mg_edge.proofs.Runs.{Gave-start}
use Rattle.mg_edge.proofs.Counts.{one_more-few}
use Rattle.mg_feed.specs.Graph.{GraphInputs}
use Rattle.mg_feed.specs.Lines.{with_feed, but_last}
use Rattle.mg_feed.specs.Accepted.{names_stream}
use Rattle.mg_feed.specs.Fed.{Fed}
use Rattle.mg_feed.specs.Ran.{EndCame, MetEnd, late, Spends, Unfailed, ReadFailed, FailedBy}
use Rattle.mg_feed.specs.Batch.{EndsAs, CutsAt, ReadsInTime, HasReadBatch, naming}
use Rattle.mg_feed.specs.Code.Moves.{Grows, TookLine, Moved, Stopped, weight}
use Rattle.mg_feed.specs.declared.feed_end.FeedEnd.{FeedEnd}
use Rattle.mg_feed.specs.declared.feed_end.FeedEnd.TheVariants.{Ended, Failed, Refused, OutOfMemory}
use Rattle.mg_feed.specs.declared.feed_end.BatchEnd.TheVariants.{More, End}
use Rattle.mg_feed.proofs.Coming.{grows-line, grows-same, grows-then}
use Rattle.mg_feed.proofs.Timely.{timely-none, timely-then}

-- Sources --

pub met-same : (b : Bool) (told : SourceTold) → MetEnd b b told told
met-same true told = refl
met-same false told = refl

-- the bytes that are told stay told
none-on : (first before now : Option (List ℕ)) (came : List ℕ) → Gave first before came → IfSome before (λ bytes. now ≡ Some []) → IfSome first (λ bytes. now ≡ Some [])
none-on None before now came gave none = tt
none-on (Some all) before now came (left, was, split) none = rw was at none

end-after : (first before now : SourceTold) → EndCame first before → now ≡ before → EndCame first now
end-after first before now came same = subst (λ (told : SourceTold). EndCame first told) (sym same) came

end-then : (first before now : SourceTold) (came : List ℕ) → Gave first.left before.left came → before.ends ≡ first.ends → EndCame before now → EndCame first now
end-then first before now came gave same ended = record {
  rose = ended.rose ∙ ap one_more same;
  none = none-on first.left before.left now.left came gave ended.none;
}

pub met-then : (a b c : Bool) (first before now : SourceTold) (came : List ℕ) → Gave first.left before.left came → MetEnd a b first before → MetEnd b c before now → MetEnd a c first now
met-then true true true first before now came gave one two = two ∙ one
met-then true true false first before now came gave one two = absurd two
met-then true false c first before now came gave one two = absurd one
met-then false true true first before now came gave one two = end-after first before now one two
met-then false true false first before now came gave one two = absurd two
met-then false false true first before now came gave one two = end-then first before now came gave one two
met-then false false false first before now came gave one two = two ∙ one

-- bytes came one after the other
gave-on : (first now : List ℕ) (came came' left rest : List ℕ) → first ≡ came ++ left → left ≡ came' ++ rest → first ≡ (came ++ came') ++ rest
gave-on first now came came' left rest one two = one ∙ ap (λ l. came ++ l) two ∙ sym (append_assoc came came' rest)

pub gave-then : (first before now : Option (List ℕ)) (came came' : List ℕ) → Gave first before came → Gave before now came' → Gave first now (came ++ came')
gave-then None before now came came' one two = tt
gave-then (Some all) before now came came' (left, was, split) two =
    let more : Gave (Some left) now came' = subst (λ (b : Option (List ℕ)). Gave b now came') was two in
    (more.0, more.1, gave-on all all came came' left more.0 split more.2)

pub spends-same : (a : ℕ) (left : Option (List ℕ)) (reads : Option ℕ) → Spends a a left left reads reads
spends-same a None reads = tt
spends-same a (Some bytes) None = tt
spends-same a (Some bytes) (Some was) = (bytes, was, refl, refl, omega arith)

pub spends-then : (a b c : ℕ) (first before now : Option (List ℕ)) (firsts befores nows : Option ℕ)
    → Spends a b first before firsts befores → Spends b c before now befores nows → Spends a c first now firsts nows
spends-then a b c None before now firsts befores nows one two = tt
spends-then a b c (Some bytes) before now None befores nows one two = tt
spends-then a b c (Some bytes) before now (Some was) befores nows (left, is, told, counted, few) two =
    let more : Spends b c (Some left) now (Some is) nows =
    subst (λ (r : Option ℕ). Spends b c (Some left) now r nows) counted (subst (λ (l : Option (List ℕ)). Spends b c l now befores nows) told two) in
    (more.0, more.1, more.2, more.3, omega (arith, few, more.4))

-- one read, at which so many bytes came
pub spends-read : (a b : ℕ) (first now : Option (List ℕ)) (reads counted : Option ℕ) (came : List ℕ)
    → Gave first now came → CountsOne reads counted → a + 1 ≤ length came + b → Spends a b first now reads counted
spends-read a b None now reads counted came gave counts some = tt
spends-read a b (Some bytes) now None counted came gave counts some = tt
spends-read a b (Some bytes) now (Some was) counted came (left, told, split) counts some =
    (left, one_more was, told, counts, omega (arith, one_more-few was, some, ap length split, length-append came left))

pub unfailed-same : (told : SourceTold) → Unfailed told told
unfailed-same told = record { steady = refl; last = refl }

pub unfailed-then : (first before now : SourceTold) → Unfailed first before → Unfailed before now → Unfailed first now
unfailed-then first before now one two = record { steady = two.steady ∙ one.steady; last = two.last ∙ one.last }

-- Steps --

pub moved-same : (told : SourceTold) (f : Fed) → Moved told told f f [] []
moved-same told f = record {
  gave = Gave-start told.left;
  grows = grows-same f;
  stops = timely-none told told f (Gave-start told.left) refl;
  graph = refl;
  number = omega arith;
  met = met-same f.read.ended told;
  spent = spends-same (late f.read.ended) told.left told.reads;
  unfailed = unfailed-same told;
}

pub moved-then : (first before now : SourceTold) (a b c : Fed) (came came' : List ℕ) (taken taken' : List (List ℕ))
    → Moved first before a b came taken → Moved before now b c came' taken' → Moved first now a c (came ++ came') (taken ++ taken')
moved-then first before now a b c came came' taken taken' one two = record {
  gave = gave-then first.left before.left now.left came came' one.gave two.gave;
  grows = grows-then a b c came came' taken taken' one.grows two.grows;
  stops = timely-then first before now a b came came' taken one.grows one.graph one.gave one.stops two.stops;
  graph = two.graph ∙ one.graph;
  number = omega (arith, one.number, two.number, length-append taken taken');
  met = met-then a.read.ended b.read.ended c.read.ended first before now came one.gave one.met two.met;
  spent = spends-then (late a.read.ended) (late b.read.ended) (late c.read.ended) first.left before.left now.left first.reads before.reads now.reads one.spent two.spent;
  unfailed = unfailed-then first before now one.unfailed two.unfailed;
}

met-line : (a b : Bool) (told : SourceTold) → b ≡ a → MetEnd a b told told
met-line a b told is = rw is (met-same a told)

pub spends-late : (b : Bool) (left : Option (List ℕ)) (reads : Option ℕ) → Spends (late b) 1 left left reads reads
spends-late b None reads = tt
spends-late b (Some bytes) None = tt
spends-late true (Some bytes) (Some was) = (bytes, was, refl, refl, omega arith)
spends-late false (Some bytes) (Some was) = (bytes, was, refl, refl, omega arith)

spends-line : (a b : Bool) (left : Option (List ℕ)) (reads : Option ℕ) → b ≡ a → Spends (late a) (late b) left left reads reads
spends-line a b left reads is = rw is (spends-same (late a) left reads)

-- a line was taken
pub moved-line : (named : Bool) (told : SourceTold) (a b : Fed) (t : TookLine named a b) → Moved told told a b [] (t.line ∷ [])
moved-line named told a b t = record {
  gave = Gave-start told.left;
  grows = grows-line named a b t;
  stops = timely-none told told a (Gave-start told.left) refl;
  graph = ap (λ v. v.graph) t.view;
  number = ap (λ v. v.lines) t.view;
  met = met-line a.read.ended b.read.ended told t.ended;
  spent = spends-line a.read.ended b.read.ended told.left told.reads t.ended;
  unfailed = unfailed-same told;
}

-- Each step is heavier --

pub heavier-bytes : (a b : Fed) (came : List ℕ) → b.view ≡ a.view → a.read.ended ≡ false → b.read.ended ≡ false → b.read.kept ≡ a.read.kept ++ came → 1 ≤ length came → weight a < weight b
heavier-bytes a b came view before ended kept some =
    let lines : b.view.lines ≡ a.view.lines = ap (λ v. v.lines) view in
    let more : length b.read.kept ≡ length a.read.kept + length came = ap length kept ∙ length-append a.read.kept came in
    let late_a : late a.read.ended ≡ 0 = ap late before in
    let late_b : late b.read.ended ≡ 0 = ap late ended in
    omega (arith, lines, more, late_a, late_b, some)

pub with_feed-grows : (rest bytes : List ℕ) → length bytes ≤ length (with_feed rest bytes)
with_feed-grows [] bytes = omega arith
with_feed-grows (b ∷ rest) bytes = omega (arith, length-append bytes (10 ∷ []))

pub heavier-end : (a b : Fed) → b.view ≡ a.view → a.read.ended ≡ false → b.read.ended ≡ true → b.read.kept ≡ with_feed a.read.kept a.read.kept → weight a < weight b
heavier-end a b view before ended kept =
    let lines : b.view.lines ≡ a.view.lines = ap (λ v. v.lines) view in
    let more : length b.read.kept ≡ length (with_feed a.read.kept a.read.kept) = ap length kept in
    let grows = with_feed-grows a.read.kept a.read.kept in
    let late_a : late a.read.ended ≡ 0 = ap late before in
    let late_b : late b.read.ended ≡ 1 = ap late ended in
    omega (arith, lines, more, grows, late_a, late_b)

-- Batches --

-- one more line
pub naming-push : (taken : List (List ℕ)) (line : List ℕ) → naming (taken ++ line ∷ []) ≡ naming taken + naming (line ∷ [])
naming-push taken line = sum_by-append _ taken (line ∷ [])

pub reads-stop : (end : FeedEnd) (first before now : SourceTold) (a b c : Fed) (came : List ℕ) (taken : List (List ℕ)) → Moved first before a b came taken → Stopped end before now b c
    → Spends (late a.read.ended) 1 first.left now.left first.reads now.reads
reads-stop end first before now a b c came taken m s =
    spends-then (late a.read.ended) (late b.read.ended) 1 first.left before.left now.left first.reads before.reads now.reads m.spent s.spent

-- a read that fails after others that didn't
left-told : (first before now : Option (List ℕ)) (came : List ℕ) (first_last before_last now_last : Option (Option (List ℕ))) → Gave first before came → before_last ≡ first_last
    → IfSome before (λ bytes. now_last ≡ option_map (λ last. now) before_last) → IfSome first (λ bytes. now_last ≡ option_map (λ last. now) first_last)
left-told None before now came first_last before_last now_last gave same is = tt
left-told (Some all) before now came first_last before_last now_last (left, was, split) same is =
    (rw was at is) ∙ ap (option_map (λ last. now)) same

pub failed-stop : (first before now : SourceTold) (came : List ℕ) → Gave first.left before.left came → Unfailed first before → ReadFailed before now → ReadFailed first now
failed-stop first before now came gave un failed = record {
  once = failed.once ∙ ap one_more un.steady;
  last = left-told first.left before.left now.left came first.left_at_fault before.left_at_fault now.left_at_fault gave un.last failed.last;
}

pub failed-by : (end : FeedEnd) (first before now : SourceTold) (came : List ℕ) → Gave first.left before.left came → Unfailed first before → FailedBy end before now → FailedBy end first now
failed-by Ended first before now came gave un failed = unfailed-then first before now un failed
failed-by (Failed lines) first before now came gave un failed = failed-stop first before now came gave un failed
failed-by (Refused line cause) first before now came gave un failed = unfailed-then first before now un failed
failed-by OutOfMemory first before now came gave un failed = unfailed-then first before now un failed

-- without its last line a batch isn't full
abbrev pub IsShort : ℕ → List (List ℕ) → Type 0
IsShort most taken = (taken ≡ []) ⊎ (naming (but_last taken) < most)

but_last-push : (xs : List (List ℕ)) (y : List ℕ) → but_last (xs ++ y ∷ []) ≡ xs
but_last-push [] y = refl
but_last-push (x ∷ []) y = refl
but_last-push (x ∷ z ∷ xs) y = ap (λ l. x ∷ l) (but_last-push (z ∷ xs) y)

pub short-push : (most : ℕ) (taken : List (List ℕ)) (line : List ℕ) → naming taken < most → IsShort most (taken ++ line ∷ [])
short-push most taken line few = inr (rw (but_last-push taken line) few)

-- a full batch is cut as it may be
full-cut : (early : Bool) (most : ℕ) (taken : List (List ℕ)) → naming taken ≡ most → IsShort most taken → CutsAt early More most taken
full-cut true most taken full short = (omega (arith, full), λ some. subst (λ (n : ℕ). 0 < n) (sym full) some)
full-cut false most taken full short = (full, short)

end-cut : (early : Bool) (end : FeedEnd) (most : ℕ) (taken : List (List ℕ)) → naming taken < most → CutsAt early (End end) most taken
end-cut true end most taken few = few
end-cut false end most taken few = few

batch-cut : (early : Bool) (most : ℕ) (first now : SourceTold) (a b : Fed) (came : List ℕ) (taken : List (List ℕ)) → Moved first now a b came taken → CutsAt early More most taken
    → HasReadBatch early most More first now a b
batch-cut early most first now a b came taken m cut = record {
  came = came;
  taken = taken;
  gave = m.gave;
  number = m.number;
  filled = cut;
  accepted = λ start past lines gone c. (m.grows start past lines gone c, tt);
  stops = m.stops;
}

pub batch-more : (early : Bool) (most : ℕ) (first now : SourceTold) (a b : Fed) (came : List ℕ) (taken : List (List ℕ)) → Moved first now a b came taken → naming taken ≡ most → IsShort most taken
    → HasReadBatch early most More first now a b
batch-more early most first now a b came taken m full short = batch-cut early most first now a b came taken m (full-cut early most taken full short)

-- a batch that ends early has a line that names a stream
pub batch-early : (early : Bool) (most : ℕ) (first now : SourceTold) (a b : Fed) (came : List ℕ) (taken : List (List ℕ)) → Moved first now a b came taken → early ≡ true → naming taken ≤ most → 0 < naming taken
    → HasReadBatch early most More first now a b
batch-early early most first now a b came taken m is few some =
    batch-cut early most first now a b came taken m (subst (λ (e : Bool). CutsAt e More most taken) (sym is) (few, λ _. some))

pub batch-stop : (early : Bool) (most : ℕ) (end : FeedEnd) (first before now : SourceTold) (a b c : Fed) (came : List ℕ) (taken : List (List ℕ))
    → Moved first before a b came taken → Stopped end before now b c → naming taken < most → HasReadBatch early most (End end) first now a c
batch-stop early most end first before now a b c came taken m s few =
    let grows : Grows a c came taken = subst (λ (f : Fed). Grows a f came taken) (sym s.same) m.grows in
    let graph : c.view.graph ≡ a.view.graph = ap (λ f. f.view.graph) s.same ∙ m.graph in
    record {
      came = came;
      taken = taken;
      gave = subst (λ (l : List ℕ). Gave first.left now.left l) (append-nil came) (gave-then first.left before.left now.left came [] m.gave s.gave);
      number = ap (λ f. f.view.lines) s.same ∙ m.number;
      filled = end-cut early end most taken few;
      accepted = λ start past lines gone it.
          let now_it = grows start past lines gone it in
          (now_it, subst (λ (g : GraphInputs). EndsAs end g start (past ++ came) (lines ++ taken) c.read.ended) graph (s.ends start (past ++ came) (lines ++ taken) gone now_it));
      stops = subst (λ (l : List ℕ). ReadsInTime first now a l) (append-nil came) (timely-then first before now a b came [] taken m.grows m.graph m.gave m.stops (timely-none before now b s.gave s.last));
    }

-- a batch takes no more lines that name a stream than it takes lines
pub naming-few : (taken : List (List ℕ)) → naming taken ≤ length taken
naming-few taken = count_by-le-length names_stream taken

number-by : (names : List ℕ → Bool) (line : List ℕ) (b : Bool) → names line ≡ b → bool_byte b ≡ count_by names (line ∷ [])
number-by names line true is = rw is refl
number-by names line false is = rw is refl

-- a line was taken after others
pub moved-on : (named : Bool) (most number more : ℕ) (first before now : SourceTold) (a b c : Fed) (came : List ℕ) (taken : List (List ℕ)) → Moved first before a b came taken
    → number ≡ naming taken → number < most → now ≡ before → TookLine named b c → more ≡ bool_byte named
    → (came' : List ℕ) × (taken' : List (List ℕ)) × Moved first now a c came' taken' × (number + more ≡ naming taken') × IsShort most taken'
moved-on named most number more first before now a b c came taken m count few same t one = (
  came ++ [],
  taken ++ t.line ∷ [],
  subst (λ (told : SourceTold). Moved first told a c (came ++ []) (taken ++ t.line ∷ [])) (sym same)
      (moved-then first before before a b c came [] taken (t.line ∷ []) m (moved-line named before b c t)),
  omega (arith, count, one, number-by names_stream t.line named (sym t.names), naming-push taken t.line),
  short-push most taken t.line (omega (arith, count, few)),
)

pub byte-small : (b : Bool) → bool_byte b ≤ 1
byte-small true = omega arith
byte-small false = omega arith
