use Rattle.std.proofs.Common.{◌++◌, ◌∷◌, [], List, map, take, sym, ap, ◌∙◌, arith, add-one}
use Rattle.std.proofs.Math.ListN.{length-set}
use Rattle.mg_feed.specs.declared.feed_stream.FeedStream.{FeedStream}
use Rattle.mg_value.specs.Payload.{Plain}
use Rattle.mg_settled.specs.Prefix.{StreamPrefix}
use Rattle.mg_feed.specs.Given.{ended_stream}
use Rattle.mg_feed.proofs.Emptying.{both, emptied, in-place, in-place-at, taken-whole, taken-prefixes, all-waiting, all-flags, pair_of}
use Rattle.mg_feed.proofs.streams.take_prefixes.Goals as goal

pub loop-i-preserved : goal.loop-i-preserved
loop-i-preserved c =
    let kept = c.loop-i.invariant in
    let i = c.loop-i.i in
    let old = map both c.args.streams.now in
    let lt = c.loop-i-test.true in
    record {
      prefixes = rw add-one
          (c.push_within.ensures.items ∙ ap (λ (l : List (StreamPrefix Plain)). l ++ c.take_prefix-prefix.result ∷ []) kept.prefixes
          ∙ ap (λ (p : StreamPrefix Plain). map (λ p. ended_stream c.args.ended p.0) (take i old) ++ p ∷ []) c.take_prefix-prefix.ensures.prefix
          ∙ sym (in-place-at both emptied (λ p. ended_stream c.args.ended p.0) c.loop-i.streams old i c.index-streams-i.result (omega arith) kept.streams));
      number = omega arith;
      room = omega (arith, length-set {A = FeedStream});
      streams = rw add-one (in-place both emptied c.loop-i.streams old i c.take_prefix-prefix.new.stream c.index-streams-i.result (omega arith) kept.streams
          (pair_of _ _ _ _ c.take_prefix-prefix.ensures.waiting c.take_prefix-prefix.ensures.taken));
    }

pub returns-clause-prefixes : goal.returns-clause-prefixes
returns-clause-prefixes c = taken-prefixes c.args.ended c.args.streams.now c.loop-i.prefixes.items c.loop-i.i (omega arith) c.loop-i.invariant.prefixes

pub returns-clause-waiting : goal.returns-clause-waiting
returns-clause-waiting c = all-waiting c.args.streams.now c.loop-i.streams (taken-whole c.args.streams.now c.loop-i.streams c.loop-i.i (omega arith) c.loop-i.invariant.streams)

pub returns-clause-taken : goal.returns-clause-taken
returns-clause-taken c = all-flags c.args.streams.now c.loop-i.streams (taken-whole c.args.streams.now c.loop-i.streams c.loop-i.i (omega arith) c.loop-i.invariant.streams)
