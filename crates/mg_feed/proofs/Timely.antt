-- How far an input was read, call by call.
use Rattle.std.proofs.Common.{◌≡◌, ◌≤◌, ℕ, List, [], ◌∷◌, ◌++◌, length, Bool, false, Option, None, Some, IfSome, option_map, refl, sym, ap, ◌∙◌, subst, arith, append_assoc, append-nil}
use Rattle.mg_edge.specs.Edge.{SourceTold}
use Rattle.mg_edge.specs.Runs.{Gave}
use Rattle.mg_feed.specs.Lines.{NoFeed, IsCut}
use Rattle.mg_feed.specs.Accepted.{longest_line}
use Rattle.mg_feed.specs.Graph.{GraphInputs}
use Rattle.mg_feed.specs.Stands.{AllGood}
use Rattle.mg_feed.specs.Fed.{Fed}
use Rattle.mg_feed.specs.Once.{longest_block, IsLastRead, StopsInTime}
use Rattle.mg_feed.specs.Came.{arrived_bytes}
use Rattle.mg_feed.specs.Batch.{ReadsInTime}
use Rattle.mg_feed.specs.Code.Moves.{Grows}
use Rattle.mg_feed.proofs.Cutting.{cut-whole, cut-rest}
use Rattle.mg_feed.proofs.Accepting.{good-behind}

-- nothing was read
pub stops-nothing : (graph : GraphInputs) (first : List (List ℕ)) (told : SourceTold) → StopsInTime graph first told told []
stops-nothing graph first told = record { front = []; block = []; split = refl; few = omega arith; last = (refl, refl); good = tt; open_line = omega arith }

-- Nothing more came --

-- what is told to be left stays
left-stays : (first before now : Option (List ℕ)) (past : List ℕ) → Gave first before past → Gave before now [] → IfSome first (λ bytes. now ≡ before)
left-stays None before now past gave none = tt
left-stays (Some bytes) before now past (left, was, split) none =
    let more : Gave (Some left) now [] = subst (λ (b : Option (List ℕ)). Gave b now []) was none in
    more.1 ∙ ap (λ l. Some l) (sym more.2) ∙ sym was

kept-if : (first : Option (List ℕ)) (block : List ℕ) (before now : Option (List ℕ)) (at_first at_before at_now : Option (Option (List ℕ))) → IfSome first (λ bytes. now ≡ before) → at_now ≡ at_before
    → IfSome first (λ bytes. at_before ≡ option_map (λ last. option_map (λ rest. block ++ rest) before) at_first)
    → IfSome first (λ bytes. at_now ≡ option_map (λ last. option_map (λ rest. block ++ rest) now) at_first)
kept-if None block before now at_first at_before at_now same last was = tt
kept-if (Some bytes) block before now at_first at_before at_now same last was =
    last ∙ was ∙ ap (λ o. option_map (λ last. option_map (λ rest. block ++ rest) o) at_first) (sym same)

last-stays : (origin before now : SourceTold) (past front block : List ℕ) → Gave origin.left before.left past → Gave before.left now.left [] → now.left_at_bytes ≡ before.left_at_bytes
    → IsLastRead origin before front block → IsLastRead origin now front block
last-stays origin before now past front [] gave none last was = (was.0, last ∙ was.1)
last-stays origin before now past front (b ∷ block) gave none last was =
    kept-if origin.left (b ∷ block) before.left now.left origin.left_at_bytes before.left_at_bytes now.left_at_bytes (left-stays origin.left before.left now.left past gave none) last was

pub timely-none : (before now : SourceTold) (old : Fed) → Gave before.left now.left [] → now.left_at_bytes ≡ before.left_at_bytes → ReadsInTime before now old []
timely-none before now old none last origin first past lines gone c gave stops = record {
  front = stops.front;
  block = stops.block;
  split = append-nil past ∙ stops.split;
  few = stops.few;
  last = last-stays origin before now past stops.front stops.block gave none last stops.last;
  good = stops.good;
  open_line = stops.open_line;
}

-- Bytes came --

-- a source that told what was left before the last read that gave bytes goes on to tell it
tells-on : (block : List ℕ) (left : Option (List ℕ)) (at_first at_before : Option (Option (List ℕ))) (now : Option (List ℕ))
    → at_before ≡ option_map (λ last. option_map (λ rest. block ++ rest) left) at_first → option_map (λ last. now) at_before ≡ option_map (λ last. now) at_first
tells-on block left None at_before now is = ap (option_map (λ last. now)) is
tells-on block left (Some at) at_before now is = ap (option_map (λ last. now)) is

if-some : (o : Option (List ℕ)) (P : Type 0) → P → IfSome o (λ bytes. P)
if-some None P holds = tt
if-some (Some bytes) P holds = holds

tells-by : (o : Option (List ℕ)) (block : List ℕ) (left : Option (List ℕ)) (at_first at_before : Option (Option (List ℕ))) (now : Option (List ℕ))
    → IfSome o (λ bytes. at_before ≡ option_map (λ last. option_map (λ rest. block ++ rest) left) at_first) → IfSome o (λ bytes. option_map (λ last. now) at_before ≡ option_map (λ last. now) at_first)
tells-by None block left at_first at_before now is = tt
tells-by (Some bytes) block left at_first at_before now is = tells-on block left at_first at_before now is

tells-first : (origin before : SourceTold) (front block : List ℕ) (now : Option (List ℕ)) → IsLastRead origin before front block
    → IfSome origin.left (λ bytes. option_map (λ last. now) before.left_at_bytes ≡ option_map (λ last. now) origin.left_at_bytes)
tells-first origin before front [] now last = if-some origin.left _ (ap (option_map (λ last. now)) last.1)
tells-first origin before front (b ∷ block) now last = tells-by origin.left (b ∷ block) before.left origin.left_at_bytes before.left_at_bytes now last

-- what is left before a read is what it gives and what is left after it
left-gave : (first before now : Option (List ℕ)) (past came : List ℕ) → Gave first before past → Gave before now came → IfSome first (λ bytes. before ≡ option_map (λ rest. came ++ rest) now)
left-gave None before now past came gave more = tt
left-gave (Some bytes) before now past came (left, was, split) more =
    let on : Gave (Some left) now came = subst (λ (b : Option (List ℕ)). Gave b now came) was more in
    was ∙ ap (λ l. Some l) on.2 ∙ ap (option_map (λ rest. came ++ rest)) (sym on.1)

block-if : (first : Option (List ℕ)) (block : List ℕ) (before now : Option (List ℕ)) (at_first at_before at_now : Option (Option (List ℕ))) → IfSome first (λ bytes. before ≡ option_map (λ rest. block ++ rest) now)
    → IfSome first (λ bytes. option_map (λ last. before) at_before ≡ option_map (λ last. before) at_first) → at_now ≡ option_map (λ last. before) at_before
    → IfSome first (λ bytes. at_now ≡ option_map (λ last. option_map (λ rest. block ++ rest) now) at_first)
block-if None block before now at_first at_before at_now is told last = tt
block-if (Some bytes) block before now at_first at_before at_now is told last = last ∙ told ∙ ap (λ o. option_map (λ last. o) at_first) is

last-block : (origin before now : SourceTold) (past front block came : List ℕ) → Gave origin.left before.left past → Gave before.left now.left came → 1 ≤ length came
    → now.left_at_bytes ≡ option_map (λ last. before.left) before.left_at_bytes → IsLastRead origin before front block → IsLastRead origin now past came
last-block origin before now past front block [] gave more some last was = absurd (omega (arith, some))
last-block origin before now past front block (b ∷ came) gave more some last was =
    block-if origin.left (b ∷ came) before.left now.left origin.left_at_bytes before.left_at_bytes now.left_at_bytes (left-gave origin.left before.left now.left past (b ∷ came) gave more)
    (tells-first origin before front block before.left was) last

-- a block came after good lines, and the line that these leave open isn't too long
pub timely-block : (before now : SourceTold) (old : Fed) (came : List ℕ) → old.read.ended ≡ false → NoFeed old.read.kept → length old.read.kept ≤ longest_line → 1 ≤ length came
    → length came ≤ longest_block → Gave before.left now.left came → now.left_at_bytes ≡ option_map (λ last. before.left) before.left_at_bytes → ReadsInTime before now old came
timely-block before now old came open_ none short some few more last origin first past lines gone c gave stops =
    let cut : IsCut past lines old.read.kept = subst (λ (b : Bool). IsCut (arrived_bytes b past) lines old.read.kept) open_ c.cut in
    record {
      front = past;
      block = came;
      split = refl;
      few = few;
      last = last-block origin before now past stops.front stops.block came gave more some last stops.last;
      good = subst (λ (l : List (List ℕ)). AllGood old.view.graph first l) (cut-whole past lines old.read.kept cut none) (good-behind old.view.graph [] first lines c.stands.good);
      open_line = subst (λ (l : List ℕ). length l ≤ longest_line) (sym (cut-rest past lines old.read.kept cut none)) short;
    }

-- One call after the other --

gives-on : (first before now : Option (List ℕ)) (came came' : List ℕ) → Gave first before came → Gave before now came' → Gave first now (came ++ came')
gives-on None before now came came' one two = tt
gives-on (Some all) before now came came' (left, was, split) two =
    let more : Gave (Some left) now came' = subst (λ (b : Option (List ℕ)). Gave b now came') was two in
    (more.0, more.1, split ∙ ap (λ l. came ++ l) more.2 ∙ sym (append_assoc came came' more.0))

pub timely-then : (start before now : SourceTold) (a b : Fed) (came came' : List ℕ) (taken : List (List ℕ)) → Grows a b came taken → b.view.graph ≡ a.view.graph → Gave start.left before.left came
    → ReadsInTime start before a came → ReadsInTime before now b came' → ReadsInTime start now a (came ++ came')
timely-then start before now a b came came' taken grows graph gave one two origin first past lines gone c had stops =
    let middle : StopsInTime b.view.graph first origin before (past ++ came) = subst (λ (g : GraphInputs). StopsInTime g first origin before (past ++ came)) (sym graph) (one origin first past lines gone c had stops) in
    let end : StopsInTime b.view.graph first origin now ((past ++ came) ++ came') =
    two origin first (past ++ came) (lines ++ taken) gone (grows first past lines gone c) (gives-on origin.left start.left before.left past came had gave) middle in
    subst (λ (g : GraphInputs). StopsInTime g first origin now (past ++ (came ++ came'))) graph
    (subst (λ (l : List ℕ). StopsInTime b.view.graph first origin now l) (append_assoc past came came') end)
