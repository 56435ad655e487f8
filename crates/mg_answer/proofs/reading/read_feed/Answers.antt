use Rattle.std.proofs.Common.{refl}
use Rattle.mg_feed.specs.FeedSeen.{seen, fed}
use Rattle.mg_answer.proofs.Gathering.{some-read, gathered}
use Rattle.mg_answer.proofs.reading.read_feed.Goals as goal

pub returns-clause-read : goal.returns-clause-read
returns-clause-read g c =
    some-read (seen c.args.feed).graph c.read_all-end.result (g.S.Source.told c.args.input.now) (g.S.Source.told c.read_all-end.new.source) (fed c.args.feed) (fed c.read_all-end.new.self)
    refl c.read_all-end.ensures.graph c.requires.stands c.requires.unread c.read_all-end.ensures.read c.read_all-end.ensures.fault c.read_all-end.ensures.reads

pub returns-clause-gathered : goal.returns-clause-gathered
returns-clause-gathered g c some =
    gathered (seen c.args.feed).graph c.read_all-end.result (g.S.Source.told c.args.input.now) (g.S.Source.told c.read_all-end.new.source) (fed c.args.feed) (fed c.read_all-end.new.self)
    c.is_ended.result c.into_inputs-inputs.result some refl c.read_all-end.ensures.graph c.requires.stands c.requires.unread
    c.read_all-end.ensures.read c.read_all-end.ensures.end c.read_all-end.ensures.fault c.read_all-end.ensures.reads c.is_ended.ensures
    c.into_inputs-inputs.ensures.streams c.into_inputs-inputs.ensures.sides c.into_inputs-inputs.ensures.ended
