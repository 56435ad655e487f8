-- How lines are handed out of the bytes that come.
use Rattle.std.proofs.Common.{◌≡◌, ◌≢◌, ℕ, ◌+◌, ◌-◌, ◌^◌, ◌<◌, ◌≤◌, List, [], ◌∷◌, ◌++◌, length, take, drop, Bool, true, false, refl, sym, ap, ◌∙◌, subst, arith, append_assoc, append-nil, length-append}
use Rattle.std.proofs.lemmas.List.{length-take, length-take-le}
use Rattle.mg_edge.specs.Edge.{SourceTold}
use Rattle.mg_edge.specs.Runs.{Gave}
use Rattle.mg_edge.proofs.Runs.{Gave-start}
use Rattle.mg_feed.specs.Lines.{NoFeed, IsCut, all_lines, with_feed}
use Rattle.mg_feed.specs.Fed.{Reading}
use Rattle.mg_feed.specs.Came.{arrived_bytes}
use Rattle.mg_feed.specs.Ran.{MetEnd, Unfailed}
use Rattle.mg_feed.specs.Handed.{HasHanded, MovesOn, EndsReads, ComesAs, NextComes}
use Rattle.mg_feed.specs.Code.LineEnd.{EndsLine, has_feed}
use Rattle.mg_feed.specs.Code.Filled.{GotEnd, GotFault}
use Rattle.mg_feed.specs.Code.Readers.{left_of, reading_of}
use Rattle.mg_feed.specs.Ran.{late}
use Rattle.mg_feed.specs.Code.Handing.{LacksLine, SearchStops, StopsLater, HandsOutLine, weight_of}
use Rattle.mg_feed.specs.Once.{longest_block}
use Rattle.mg_feed.specs.declared.lines.NextLine.{NextLine}
use Rattle.mg_feed.specs.declared.lines.NextLine.TheVariants.{Line, TooLong, Ended, Failed}
use Rattle.mg_feed.specs.declared.reader.Reader.{Reader}
use Rattle.mg_feed.proofs.Cutting.{cut-line, cut-whole, cut-end, cut-ended, all_lines-line, all_lines-begin}
use Rattle.mg_feed.proofs.Blocks.{drop-twice}
use Rattle.mg_feed.proofs.Coming.{lines-by}
use Rattle.mg_feed.proofs.Moving.{met-same, met-then, gave-then, unfailed-same, unfailed-then, failed-stop, with_feed-grows}
use Rattle.mg_feed.proofs.Stepping.{met-open, met-end, line-cut, line-none}

-- Bytes --

pub moves-same : (told : SourceTold) (r : Reading) → MovesOn told told r r
moves-same told r = record {
  came = [];
  gave = Gave-start told.left;
  met = met-same r.ended told;
  unfailed = unfailed-same told;
  grows = λ past lines has. subst (λ (l : List ℕ). HasHanded l lines r) (sym (append-nil past)) has;
}

pub moves-then : (first before now : SourceTold) (a b c : Reading) → MovesOn first before a b → MovesOn before now b c → MovesOn first now a c
moves-then first before now a b c one two = record {
  came = one.came ++ two.came;
  gave = gave-then first.left before.left now.left one.came two.came one.gave two.gave;
  met = met-then a.ended b.ended c.ended first before now one.came one.gave one.met two.met;
  unfailed = unfailed-then first before now one.unfailed two.unfailed;
  grows = λ past lines has. subst (λ (l : List ℕ). HasHanded l lines c) (append_assoc past one.came two.came) (two.grows (past ++ one.came) lines (one.grows past lines has));
}

pub moves-end : (old new : Reading) (before now : SourceTold) → old.ended ≡ false → NoFeed old.kept → GotEnd old new before now → MovesOn before now old new × (weight_of old < weight_of new)
moves-end old new before now was none got =
    let long : length new.kept ≡ length (with_feed old.kept old.kept) = ap length got.kept in
    let more = with_feed-grows old.kept old.kept in
    let late_old : late old.ended ≡ 0 = ap late was in
    let late_new : late new.ended ≡ 1 = ap late got.ended in (
      record {
        came = [];
        gave = got.gave;
        met = met-end old.ended new.ended before now was got.ended got.came;
        unfailed = got.unfailed;
        grows = λ past lines has.
            subst (λ (l : List ℕ). HasHanded l lines new) (sym (append-nil past))
            (subst (λ (b : Bool). IsCut (arrived_bytes b past) lines new.kept) (sym got.ended)
            (subst (λ (k : List ℕ). IsCut (arrived_bytes true past) lines k) (sym got.kept)
            (cut-end past lines old.kept (subst (λ (b : Bool). IsCut (arrived_bytes b past) lines old.kept) was has) none)));
      },
      omega (arith, long, more, late_old, late_new),
    )

-- The search stops --

pub stops-failed : (longest : ℕ) (old new : Reading) (before now : SourceTold) → old.ended ≡ false → NoFeed old.kept → GotFault old new before now → SearchStops longest Failed before now old new
stops-failed longest old new before now was none got = record {
  same = got.same;
  gave = got.gave;
  met = met-open old.ended new.ended before now was (ap (λ (r : Reading). r.ended) got.same ∙ was) got.ends;
  reads = got.failed;
  lacks = (was, none);
}

pub stops-ended : (longest : ℕ) (told : SourceTold) (r : Reading) → r.ended ≡ true → NoFeed r.kept → SearchStops longest Ended told told r r
stops-ended longest told r ended none = record {
  same = refl;
  gave = Gave-start told.left;
  met = met-same r.ended told;
  reads = unfailed-same told;
  lacks = (ended, none);
}

pub stops-long : (longest : ℕ) (told : SourceTold) (r s : Reading) (next : NextLine) → next ≡ TooLong → s ≡ r → NoFeed r.kept → longest < length r.kept → SearchStops longest next told told r s
stops-long longest told r s next is same none long = subst (λ (n : NextLine). SearchStops longest n told told r s) (sym is) (record {
  same = same;
  gave = Gave-start told.left;
  met = subst (λ (t : Reading). MetEnd r.ended t.ended told told) (sym same) (met-same r.ended told);
  reads = unfailed-same told;
  lacks = (none, long);
})

-- What comes --

reads-then : (next : NextLine) (first before now : SourceTold) (came : List ℕ) → Gave first.left before.left came → Unfailed first before → EndsReads next before now → EndsReads next first now
reads-then Line first before now came gave one two = unfailed-then first before now one two
reads-then TooLong first before now came gave one two = unfailed-then first before now one two
reads-then Ended first before now came gave one two = unfailed-then first before now one two
reads-then Failed first before now came gave one two = failed-stop first before now came gave one two

-- a line that is too long already, whatever comes
long-comes : (longest : ℕ) (r : Reading) (past : List ℕ) (lines : List (List ℕ)) → NoFeed r.kept → longest < length r.kept → HasHanded past lines r → (line : List ℕ) → ComesAs longest TooLong line past lines r
long-comes longest r past lines none long has line more fits =
    let b = all_lines-begin r.kept more none (omega (arith, long)) in (
      r.kept ++ b.0,
      b.1,
      lines-by r.ended past lines r.kept more has fits ∙ ap (λ (l : List (List ℕ)). lines ++ l) b.2,
      (let more_long = length-append r.kept b.0 in omega (arith, long, more_long)),
    )

ended-by : (ended : Bool) (past : List ℕ) (lines : List (List ℕ)) (kept : List ℕ) → ended ≡ true → IsCut (arrived_bytes ended past) lines kept → NoFeed kept → lines ≡ all_lines past
ended-by true past lines kept is cut none = cut-ended past lines kept cut none
ended-by false past lines kept is cut none = absurd cc

lacks-comes : (longest : ℕ) (next : NextLine) (r : Reading) (line past : List ℕ) (lines : List (List ℕ)) → LacksLine longest next r → HasHanded past lines r → ComesAs longest next line past lines r
lacks-comes longest Line r line past lines lacks has = absurd lacks
lacks-comes longest TooLong r line past lines lacks has = long-comes longest r past lines lacks.0 lacks.1 has line
lacks-comes longest Ended r line past lines lacks has = (lacks.0, ended-by r.ended past lines r.kept lacks.0 has lacks.1)
lacks-comes longest Failed r line past lines lacks has = cut-whole past lines r.kept (subst (λ (b : Bool). IsCut (arrived_bytes b past) lines r.kept) lacks.0 has) lacks.1

pub next-stops : (longest : ℕ) (next : NextLine) (line : List ℕ) (before now : SourceTold) (old new : Reading) → StopsLater longest next before now old new → NextComes longest next line before now old new
next-stops longest next line before now old new s =
    let m = s.moves in
    let t = s.stops in
    let same : new ≡ s.read = t.same in
    record {
      came = m.came;
      gave = subst (λ (l : List ℕ). Gave before.left now.left l) (append-nil m.came) (gave-then before.left s.between.left now.left m.came [] m.gave t.gave);
      met = met-then old.ended s.read.ended new.ended before s.between now m.came m.gave m.met t.met;
      reads = reads-then next before s.between now m.came m.gave m.unfailed t.reads;
      comes = λ past lines has. subst (ComesAs longest next line (past ++ m.came) lines) (sym same) (lacks-comes longest next s.read line (past ++ m.came) lines t.lacks (m.grows past lines has));
    }

takes-comes : (longest : ℕ) (next : NextLine) (line past : List ℕ) (lines : List (List ℕ)) (r s : Reading) → HandsOutLine longest next line r s → HasHanded past lines r → ComesAs longest next line past lines s
takes-comes longest Line line past lines r s (cut, none, ended, short) has =
    (subst (λ (b : Bool). IsCut (arrived_bytes b past) (lines ++ line ∷ []) s.kept) (sym ended) (cut-line (arrived_bytes r.ended past) lines r.kept line s.kept has cut none), short)
takes-comes longest TooLong line past lines r s (same, (long, rest, cut, none, far)) has = λ more fits. (
  long,
  all_lines (rest ++ more),
  lines-by r.ended past lines r.kept more has (λ ended. fits (ap (λ (t : Reading). t.ended) same ∙ ended))
      ∙ ap (λ (l : List (List ℕ)). lines ++ l) (ap (λ (k : List ℕ). all_lines (k ++ more)) cut ∙ ap all_lines (append_assoc long (10 ∷ rest) more) ∙ all_lines-line long (rest ++ more) none),
  far,
)
takes-comes longest Ended line past lines r s takes has = absurd takes
takes-comes longest Failed line past lines r s takes has = absurd takes

takes-reads : (longest : ℕ) (next : NextLine) (line : List ℕ) (r s : Reading) (before now : SourceTold) → HandsOutLine longest next line r s → Unfailed before now → EndsReads next before now
takes-reads longest Line line r s before now takes un = un
takes-reads longest TooLong line r s before now takes un = un
takes-reads longest Ended line r s before now takes un = absurd takes
takes-reads longest Failed line r s before now takes un = absurd takes

takes-ended : (longest : ℕ) (next : NextLine) (line : List ℕ) (r s : Reading) → HandsOutLine longest next line r s → s.ended ≡ r.ended
takes-ended longest Line line r s (cut, none, ended, short) = ended
takes-ended longest TooLong line r s (same, long) = ap (λ (t : Reading). t.ended) same
takes-ended longest Ended line r s takes = absurd takes
takes-ended longest Failed line r s takes = absurd takes

pub next-takes : (longest : ℕ) (next : NextLine) (line : List ℕ) (before now : SourceTold) (old read new : Reading) → MovesOn before now old read → HandsOutLine longest next line read new → NextComes longest next line before now old new
next-takes longest next line before now old read new m takes = record {
  came = m.came;
  gave = m.gave;
  met = subst (λ (b : Bool). MetEnd old.ended b before now) (sym (takes-ended longest next line read new takes)) m.met;
  reads = takes-reads longest next line read new before now takes m.unfailed;
  comes = λ past lines has. takes-comes longest next line (past ++ m.came) lines read new takes (m.grows past lines has);
}

-- A line in the block --

-- a line that was held, and whose line feed was passed
pub took-line : (longest : ℕ) (cut left line held after : List ℕ) (old new : Reading) (i : ℕ) → old.kept ≡ cut ++ left → has_feed cut ≡ false → EndsLine left i → line ≡ cut ++ take i left → held ≡ drop i left → after ≡ drop 1 held
    → new.kept ≡ after → new.ended ≡ old.ended → length line ≤ longest → HandsOutLine longest Line line old new
took-line longest cut left line held after old new i is none ends line_is passed behind now ended short = (
  is ∙ line-cut cut line left new.kept i ends line_is (now ∙ behind ∙ ap (drop 1) passed ∙ sym (drop-twice i 1 (i + 1) left refl)),
  line-none cut line left i none ends line_is,
  ended,
  short,
)

-- a line that can't be held
pub took-long : (longest : ℕ) (cut left : List ℕ) (old new : Reading) (next : NextLine) (i : ℕ) (line : List ℕ) → next ≡ TooLong → new ≡ old → old.kept ≡ cut ++ left → has_feed cut ≡ false → EndsLine left i → longest < length cut + i → HandsOutLine longest next line old new
took-long longest cut left old new next i line next_is same is none ends long = subst (λ (n : NextLine). HandsOutLine longest n line old new) (sym next_is) (
  same,
  (
    cut ++ take i left,
    drop (i + 1) left,
    is ∙ line-cut cut (cut ++ take i left) left (drop (i + 1) left) i ends refl refl,
    line-none cut (cut ++ take i left) left i none ends refl,
    (let some : length (take i left) ≡ i = length-take-le i left (let within = ends.within in omega (arith, within)) in
        let all = length-append cut (take i left) in
        omega (arith, long, all, some)),
  ),
)

-- How much is read --

-- more bytes than a reader keeps, as its memory holds fewer
abbrev pub heaviest_of : ℕ
heaviest_of = 2 ^ 63 + longest_block + 1

few-left : (r : Reader) → length (left_of r) ≤ longest_block
few-left r = (let part = length-take (r.filled - r.at) (drop r.at r.block.items) in let within = r.within in let small = r.small in omega (arith, part, within, small))

pub few-kept : (r : Reader) → length (reading_of r).kept < 2 ^ 63 + longest_block
few-kept r =
    let whole = length-append r.cut.items (left_of r) in
    let long = r.cut.ok.0 in
    let room = r.cut.ok.1 in
    let small = r.cut.small in
    let few = few-left r in
    omega (arith, whole, long, room, small, few)

late-few : (b : Bool) → late b ≤ 1
late-few true = omega arith
late-few false = omega arith

-- so less is left once more was read
pub lighter : (now : Reader) (before : Reading) → weight_of before < weight_of (reading_of now) → heaviest_of - weight_of (reading_of now) < heaviest_of - weight_of before
lighter now before more = (let few = few-kept now in let end = late-few now.ended in omega (arith, more, few, end))

-- so no line is longer than 2^64 - 1 bytes
pub stops-any : (longest : ℕ) (next : NextLine) (before now : SourceTold) (old new : Reading) (r : Reader) → new ≡ reading_of r → StopsLater longest next before now old new → longest ≡ 2 ^ 64 - 1 → next ≢ TooLong
stops-any longest Line before now old new r is s any same = cc
stops-any longest TooLong before now old new r is s any same =
    let far = s.stops.lacks.1 in
    let kept : length s.read.kept ≡ length (reading_of r).kept = ap (λ (x : Reading). length x.kept) (sym s.stops.same ∙ is) in
    let few = few-kept r in
    omega (arith, far, kept, few, any)
stops-any longest Ended before now old new r is s any same = cc
stops-any longest Failed before now old new r is s any same = cc

pub takes-any : (longest : ℕ) (next : NextLine) (line : List ℕ) (old new : Reading) (r : Reader) → new ≡ reading_of r → HandsOutLine longest next line old new → longest ≡ 2 ^ 64 - 1 → next ≢ TooLong
takes-any longest Line line old new r is h any same = cc
takes-any longest TooLong line old new r is (kept, (long, rest, cut, none, far)) any same =
    let whole : length old.kept ≡ length (reading_of r).kept = ap (λ (x : Reading). length x.kept) (sym kept ∙ is) in
    let split : length old.kept ≡ length (long ++ 10 ∷ rest) = ap length cut in
    let parts = length-append long (10 ∷ rest) in
    let few = few-kept r in
    omega (arith, far, whole, split, parts, few, any)
takes-any longest Ended line old new r is h any same = cc
takes-any longest Failed line old new r is h any same = cc
