-- Packets that are made piece by piece.
use Rattle.std.proofs.Common.{◌≡◌, ◌≤◌, ◌<◌, ◌+◌, ◌==◌, ◌%◌, ℕ, zero, suc, List, [], ◌∷◌, ◌++◌, length, map, replicate, min, max, get_or, Bool, true, refl, sym, ap, ◌∙◌, subst, append-nil, arith, eq-eqb}
use Rattle.std.proofs.lemmas.List.{length-map, length-replicate}
use Rattle.std.proofs.lemmas.List.Elements.{AllZip-get_or}
use Rattle.mg_value.specs.Payload.{Plain}
use Rattle.mg_value.specs.Packet.{Stamped}
use Rattle.mg_settled.specs.Prefix.{StreamPrefix, empty_prefix, appended}
use Rattle.mg_settled.specs.Extension.{IsExtendedBy, AreExtendedBy}
use Rattle.mg_settled.proofs.Lemmas.{same_prefix}
use Rattle.mg_calc.specs.declared.inputs.Inputs.{Inputs}
use Rattle.mg_value.specs.declared.kind.Kind.{Kind}
use Rattle.mg_feed.specs.Graph.{GraphInputs}
use Rattle.mg_feed.specs.Accepted.{fresh, stepped}
use Rattle.mg_feed.specs.Given.{ended_stream, ended_streams}
use Rattle.mg_feed.specs.View.{View, without_packets, after_taking}
use Rattle.mg_feed.specs.Stands.{with_gone, behind_all, packets_of}
use Rattle.mg_feed.specs.Generated.{generated, generated_streams, generated_packet, generated_sides}
use Rattle.mg_feed.specs.Pieces.{Making, HasHandedOn, IsPiece}
use Rattle.mg_feed.specs.Code.MadeSoFar.{AreMade}
use Rattle.mg_feed.proofs.Holding.{behind-stepped, behind-appended, behind-none, length-stepped}
use Rattle.mg_feed.proofs.Joining.{ended-behind, behind-at, joined}
use Rattle.mg_feed.proofs.Making.{made-none}

-- Streams --

pub size-generated : (kinds : List Kind) (n : ℕ) → length (generated_streams kinds n) ≡ length kinds
size-generated kinds zero = length-replicate (length kinds) empty_prefix
size-generated kinds (suc n) =
    length-stepped (n % length kinds) (λ s. appended s (generated_packet kinds n)) (generated_streams kinds n) ∙ size-generated kinds n

-- what a taking leaves, after what it took
behind-left : (ss : List (StreamPrefix Plain)) → behind_all (packets_of ss) (map without_packets ss) ≡ ss
behind-left [] = refl
behind-left (s ∷ ss) =
    ap (λ x. x ∷ behind_all (packets_of ss) (map without_packets ss)) (same_prefix (with_gone s.packets (without_packets s)) s (append-nil s.packets) refl)
    ∙ ap (λ l. s ∷ l) (behind-left ss)

left-behind : (ts : List (List (Stamped Plain))) (ss : List (StreamPrefix Plain)) → length ts ≡ length ss → map without_packets (behind_all ts ss) ≡ map without_packets ss
left-behind [] [] is = refl
left-behind [] (s ∷ ss) is = absurd (omega (arith, is))
left-behind (t ∷ ts) [] is = absurd (omega (arith, is))
left-behind (t ∷ ts) (s ∷ ss) is = let same : length ts ≡ length ss = omega (arith, is) in ap (λ l. without_packets s ∷ l) (left-behind ts ss same)

all-ended-behind : (ended : Bool) (ts : List (List (Stamped Plain))) (ss : List (StreamPrefix Plain)) → ended_streams ended (behind_all ts ss) ≡ behind_all ts (ended_streams ended ss)
all-ended-behind ended [] ss = refl
all-ended-behind ended (t ∷ ts) [] = refl
all-ended-behind ended (t ∷ ts) (s ∷ ss) =
    ap (λ x. x ∷ ended_streams ended (behind_all ts ss)) (ended-behind ended t s) ∙ ap (λ l. with_gone t (ended_stream ended s) ∷ l) (all-ended-behind ended ts ss)

none-packets : (n : ℕ) → packets_of (replicate n (empty_prefix {X = Plain})) ≡ replicate n []
none-packets zero = refl
none-packets (suc n) = ap (λ l. [] ∷ l) (none-packets n)

none-left : (n : ℕ) → map without_packets (replicate n (empty_prefix {X = Plain})) ≡ replicate n empty_prefix
none-left zero = refl
none-left (suc n) = ap (λ l. empty_prefix ∷ l) (none-left n)

-- One packet more --

made-step : (gone : List (List (Stamped Plain))) (i : ℕ) (v w : View) → w.graph ≡ v.graph
    → w.given.streams ≡ stepped (i % length v.graph.kinds) (λ s. appended s (generated_packet v.graph.kinds i)) v.given.streams → AreMade gone i v → AreMade gone (suc i) w
made-step gone i v w same is made =
    let k = v.graph.kinds in
    let p = generated_packet k i in
    let place = i % length k in
    record {
      count = ap length is ∙ length-stepped place (λ s. appended s p) v.given.streams ∙ made.count ∙ ap (λ (g : GraphInputs). length g.kinds) (sym same);
      streams = ap (behind_all gone) is ∙ behind-stepped (λ s. appended s p) (behind-appended p) place gone v.given.streams
          ∙ ap (stepped place (λ s. appended s p)) made.streams ∙ ap (λ (g : GraphInputs). generated_streams g.kinds (suc i)) (sym same);
    }

pub step-made : (gone : List (List (Stamped Plain))) (i n : ℕ) (v w : View) → n ≡ suc i → w.graph ≡ v.graph
    → w.given.streams ≡ stepped (i % length v.graph.kinds) (λ s. appended s (generated_packet v.graph.kinds i)) v.given.streams → AreMade gone i v → AreMade gone n w
step-made gone i n v w one same is made = subst (λ m. AreMade gone m w) (sym one) (made-step gone i v w same is made)

-- there is no input
pub made-nowhere : (gone : List (List (Stamped Plain))) (from to : ℕ) (v : View) → length v.graph.kinds ≡ 0 → AreMade gone from v → AreMade gone to v
made-nowhere gone from to v none made = record {
  count = made.count;
  streams = made.streams ∙ sym (made-none v.graph.kinds from none) ∙ made-none v.graph.kinds to none;
}

-- Pieces --

-- a generator's streams, with what it handed on, are the streams that it made
begun : (graph : GraphInputs) (number : ℕ) (m : Making) → HasHandedOn graph number m → AreMade (packets_of (generated_streams graph.kinds m.made)) m.made m.view
begun graph number m has =
    let ss = generated_streams graph.kinds m.made in
    record {
      count = ap length has.streams ∙ length-map ss without_packets ∙ size-generated graph.kinds m.made ∙ ap (λ (g : GraphInputs). length g.kinds) (sym has.graph_is);
      streams = ap (behind_all (packets_of ss)) has.streams ∙ behind-left ss ∙ ap (λ (g : GraphInputs). generated_streams g.kinds m.made) (sym has.graph_is);
    }

-- none is made yet
pub none-made : (graph : GraphInputs) (number : ℕ) (m : Making) → m.view.graph ≡ graph → m.number ≡ number → m.made ≡ 0 → m.view.given.streams ≡ (fresh graph).streams
    → m.view.given.sides ≡ generated_sides (length graph.sides) → HasHandedOn graph number m
none-made graph number m same all none streams sides = record {
  graph_is = same;
  number_is = all;
  few = omega (arith, none);
  streams = streams ∙ sym (none-left (length graph.kinds)) ∙ ap (λ n. map without_packets (generated_streams graph.kinds n)) (sym none);
  sides = sides;
}

-- So many packets are made by now. The last of them are still to be handed on.
pub record Makes (old mid : Making) (now : ℕ) : Type 0 where
  pub made : (gone : List (List (Stamped Plain))) → AreMade gone old.made old.view → AreMade gone now mid.view
  pub sides : mid.view.given.sides ≡ old.view.given.sides
  pub graph : mid.view.graph ≡ old.view.graph

pub made_now : (graph : GraphInputs) (number : ℕ) (old mid : Making) (now : ℕ) → HasHandedOn graph number old → Makes old mid now → AreMade (packets_of (generated_streams graph.kinds old.made)) now mid.view
made_now graph number old mid now has makes = makes.made (packets_of (generated_streams graph.kinds old.made)) (begun graph number old has)

pub is-piece : (graph : GraphInputs) (number now : ℕ) (ended : Bool) (old mid : Making) (piece : Inputs) → HasHandedOn graph number old → Makes old mid now
    → piece.streams ≡ ended_streams ended mid.view.given.streams → piece.sides ≡ mid.view.given.sides → piece.ended ≡ ended → IsPiece graph old.made now ended piece
is-piece graph number now ended old mid piece has makes streams sides is =
    let gone = packets_of (generated_streams graph.kinds old.made) in
    let made = made_now graph number old mid now has makes in
    let same : mid.view.graph ≡ graph = makes.graph ∙ has.graph_is in
    record {
      many = ap length streams ∙ length-map mid.view.given.streams (ended_stream ended) ∙ made.count ∙ ap (λ (g : GraphInputs). length g.kinds) same;
      streams = ap (λ (g : GraphInputs). ended_streams ended (generated_streams g.kinds now)) (sym same) ∙ ap (ended_streams ended) (sym made.streams)
          ∙ all-ended-behind ended gone mid.view.given.streams ∙ ap (behind_all gone) (sym streams);
      sides = sides ∙ makes.sides ∙ has.sides;
      ended_is = is;
    }

pub handed-on : (graph : GraphInputs) (number : ℕ) (old mid new : Making) → HasHandedOn graph number old → Makes old mid new.made → new.number ≡ old.number → new.made ≤ new.number
    → new.view ≡ after_taking mid.view → HasHandedOn graph number new
handed-on graph number old mid new has makes all few is =
    let ss = generated_streams graph.kinds old.made in
    let made = made_now graph number old mid new.made has makes in
    let same : mid.view.graph ≡ graph = makes.graph ∙ has.graph_is in
    let count : length (packets_of ss) ≡ length mid.view.given.streams =
    length-map ss (λ s. s.packets) ∙ size-generated graph.kinds old.made ∙ ap (λ (g : GraphInputs). length g.kinds) (sym same) ∙ sym made.count in
    let in_all : new.number ≡ number = all ∙ has.number_is in
    record {
      graph_is = ap (λ (v : View). v.graph) is ∙ same;
      number_is = in_all;
      few = omega (arith, few, in_all);
      streams = ap (λ (v : View). v.given.streams) is ∙ sym (left-behind (packets_of ss) mid.view.given.streams count) ∙ ap (map without_packets) made.streams
          ∙ ap (λ (g : GraphInputs). map without_packets (generated_streams g.kinds new.made)) same;
      sides = ap (λ (v : View). v.given.sides) is ∙ makes.sides ∙ has.sides;
    }

pub next-piece : (graph : GraphInputs) (number : ℕ) (old mid new : Making) (piece : Inputs) → HasHandedOn graph number old → Makes old mid new.made
    → piece.streams ≡ ended_streams (new.made == old.number) mid.view.given.streams → piece.sides ≡ mid.view.given.sides → piece.ended ≡ (new.made == old.number)
    → IsPiece graph old.made new.made (new.made == number) piece
next-piece graph number old mid new piece has makes streams sides is =
    subst (λ n. IsPiece graph old.made new.made (new.made == n) piece) has.number_is (is-piece graph number new.made (new.made == old.number) old mid piece has makes streams sides is)

-- the first piece is all that came
pub first-piece : (graph : GraphInputs) (before now : ℕ) (ended : Bool) (piece : Inputs) → IsPiece graph before now ended piece → before ≡ 0 → piece.streams ≡ ended_streams ended (generated_streams graph.kinds now)
first-piece graph before now ended piece is none =
    let n = length graph.kinds in
    sym (behind-none n piece.streams (sym is.many)) ∙ ap (λ (ts : List (List (Stamped Plain))). behind_all ts piece.streams) (sym (none-packets n))
    ∙ ap (λ m. behind_all (packets_of (generated_streams graph.kinds m)) piece.streams) (sym none) ∙ sym is.streams

-- a piece that is the first and the last
pub whole-piece : (graph : GraphInputs) (number before now all : ℕ) (piece : Inputs) → IsPiece graph before now (now == number) piece → before ≡ 0 → all ≡ number → now ≡ min (before + number) all
    → (piece.streams ≡ generated graph.kinds number) × (piece.ended ≡ true)
whole-piece graph number before now all piece is none same reached =
    let last : now ≡ number = omega (arith, none, same, reached) in
    let closed_now : (now == number) ≡ true = eq-eqb now number last in (
      first-piece graph before now (now == number) piece is none ∙ ap (λ m. ended_streams (now == number) (generated_streams graph.kinds m)) last
          ∙ ap (λ b. ended_streams b (generated_streams graph.kinds number)) closed_now,
      is.ended_is ∙ closed_now,
    )

-- what came before and a piece, joined stream by stream
pub piece-joined : (gs ss ws : List (StreamPrefix Plain)) (input : ℕ) → ws ≡ behind_all (packets_of gs) ss → AreExtendedBy gs ws → input < length gs → input < length ss
    → get_or ws input empty_prefix ≡ record {
      packets = (get_or gs input empty_prefix).packets ++ (get_or ss input empty_prefix).packets;
      bound = max (get_or gs input empty_prefix).bound (get_or ss input empty_prefix).bound;
    }
piece-joined gs ss ws input cut grow here there =
    joined (get_or gs input empty_prefix) (get_or ss input empty_prefix) (get_or ws input empty_prefix)
    (ap (λ (l : List (StreamPrefix Plain)). get_or l input empty_prefix) cut ∙ behind-at gs ss input here there)
    (AllZip-get_or IsExtendedBy gs ws input empty_prefix empty_prefix grow here)
