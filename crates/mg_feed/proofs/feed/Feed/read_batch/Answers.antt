use Rattle.std.proofs.Common.{[], ◌++◌, List, ℕ, refl, subst, arith, inl, append-nil}
use Rattle.mg_feed.specs.FeedSeen.{fed}
use Rattle.mg_feed.specs.Code.Moves.{Moved}
use Rattle.mg_feed.proofs.Moving.{moved-same, moved-then, moved-on, byte-small, reads-stop, batch-more, batch-early, batch-stop}
use Rattle.mg_feed.proofs.feed.Feed.read_batch.Goals as goal

pub lines-init : goal.lines-init
lines-init g c = record {
  moved = ([], [], moved-same (g.S.Source.told c.args.source.now) (fed c.args.self.now), refl, inl refl);
  within = omega arith;
}

pub lines-preserved-in-Line : goal.lines-preserved-in-Line
lines-preserved-in-Line g c =
    let (came, taken, moved, count, short) = c.lines.invariant.moved in
    let step = c.in-Line.ensures in
    record {
      moved = moved-on c.in-Line.named c.args.most c.lines.naming c.from-naming.result _ _ _ _ _ _ came taken moved count c.lines-test.true step.0 step.1 c.from-naming.ensures;
      within = omega (arith, c.lines-test.true, c.from-naming.ensures, byte-small c.in-Line.named);
    }

pub lines-preserved : goal.lines-preserved
lines-preserved g c =
    let (came, taken, moved, count, short) = c.lines.invariant.moved in
    let step = c.in-Read.ensures in
    record {
      moved = (
        came ++ step.0,
        taken,
        subst (λ (l : List (List ℕ)). Moved (g.S.Source.told c.args.source.now) (g.S.Source.told c.step.new.source) (fed c.args.self.now) (fed c.step.new.self) (came ++ step.0) l)
            (append-nil taken) (moved-then _ _ _ _ _ _ came step.0 taken [] moved step.1),
        count,
        short,
      );
      within = c.lines.invariant.within;
    }

pub returns-in-Stop-clause-read : goal.returns-in-Stop-clause-read
returns-in-Stop-clause-read g c =
    let (came, taken, moved, count, short) = c.lines.invariant.moved in
    batch-stop c.args.early c.args.most c.in-Stop.end _ _ _ _ _ _ came taken moved c.in-Stop.ensures (omega (arith, count, c.lines-test.true))

pub returns-clause-read : goal.returns-clause-read
returns-clause-read g c =
    let (came, taken, moved, count, short) = c.lines.invariant.moved in
    batch-more c.args.early c.args.most _ _ _ _ came taken moved (omega (arith, count, c.lines-test.false, c.lines.invariant.within)) short

pub returns-in-Stop-clause-reads : goal.returns-in-Stop-clause-reads
returns-in-Stop-clause-reads g c =
    let (came, taken, moved, count, short) = c.lines.invariant.moved in
    reads-stop c.in-Stop.end _ _ _ _ _ _ came taken moved c.in-Stop.ensures

pub returns-clause-reads : goal.returns-clause-reads
returns-clause-reads g c =
    let (came, taken, moved, count, short) = c.lines.invariant.moved in
    moved.spent

pub returns-then-is_drained-clause-read : goal.returns-then-is_drained-clause-read
returns-then-is_drained-clause-read g c =
    let (came, taken, moved, count, short) = c.lines.invariant.moved in
    batch-early c.args.early c.args.most _ _ _ _ came taken moved c.if-early.true (omega (arith, count, c.lines.invariant.within)) (omega (arith, count, c.if-naming-gt0.true))

pub returns-then-is_drained-clause-reads : goal.returns-then-is_drained-clause-reads
returns-then-is_drained-clause-reads g c =
    let (came, taken, moved, count, short) = c.lines.invariant.moved in
    moved.spent
