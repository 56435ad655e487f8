use Rattle.std.proofs.Common.{◌≡◌, ◌≤◌, ◌-◌, ℕ, List}
use Rattle.mg_feed.specs.FeedSeen.{fed}
use Rattle.mg_feed.specs.Batch.{naming}
use Rattle.mg_feed.specs.Code.Moves.{Moved, weight, heaviest}
use Rattle.mg_feed.proofs.Moving.{IsShort}
use Rattle.mg_feed.proofs.feed.Feed.read_batch.Given as goal

-- bytes came, and lines were taken; so many of these lines name a stream
abbrev pub invariant-lines : goal.invariant-lines
invariant-lines g l =
    record {
      moved : (came : List ℕ) × (taken : List (List ℕ))
          × Moved (g.S.Source.told l.fn.source) (g.S.Source.told l.source) (fed l.fn.self) (fed l.self) came taken
          × (l.naming ≡ naming taken) × IsShort l.most taken;
      within : l.naming ≤ l.most;
    }

abbrev pub decreases-lines : goal.decreases-lines
decreases-lines g l = heaviest - weight (fed l.self)
