-- Free nodes that may have a round in the given streams.
use Rattle.std.specs.Prelude.{◌≡◌, List, [], ◌∷◌}
use Rattle.std.specs.List.{range_with_len}
use Rattle.mg_value.specs.Payload.{Plain}
use Rattle.mg_settled.specs.Prefix.{StreamPrefix}
use Rattle.mg_free.specs.declared.law.FreeLaw.{FreeLaw}
use Rattle.mg_free.specs.declared.node.FreeNode.{FreeNode}
use Rattle.mg_free.specs.Free.{ports_of}
use Rattle.mg_free.specs.Rounds.{Taken}
use Rattle.mg_live.specs.declared.taker.Taker.{Taker}
use Rattle.mg_live.specs.Takes.{HaveTaken, MayAllTurn}

-- takers stand for what their free nodes have taken, and all of these may have their turns in the given streams
pub record IsReady (frees : List FreeNode) (takers : List Taker) (streams : List (StreamPrefix Plain)) : Type 0 where
  pub takens : List Taken
  pub have_taken : HaveTaken frees takens takers
  pub may : MayAllTurn streams frees takens

-- the free nodes are one node of a law, which reads the first streams
pub record IsOneNode (law : FreeLaw) (frees : List FreeNode) : Type 0 where
  pub free : FreeNode
  pub alone : frees ≡ free ∷ []
  pub law_is : free.law ≡ law
  pub inputs : free.inputs ≡ range_with_len 0 (ports_of law)
