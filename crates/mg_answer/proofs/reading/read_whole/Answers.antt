use Rattle.std.proofs.Common.{[], sym, subst}
use Rattle.std.proofs.lemmas.Result.{err_from_is_err_and}
use Rattle.mg_feed.specs.FeedSeen.{seen}
use Rattle.mg_feed.specs.Graph.{GraphInputs, inputs_of}
use Rattle.mg_feed.specs.Stands.{HasAccepted, nothing_taken}
use Rattle.mg_answer.specs.Devices.{device}
use Rattle.mg_answer.specs.Gathered.{GatheredInputs}
use Rattle.mg_answer.specs.Ran.{ReadSome}
use Rattle.mg_answer.proofs.Gathering.{read-none}
use Rattle.mg_answer.proofs.Fitting.{inputs-fit}
use Rattle.mg_answer.proofs.reading.read_whole.Goals as goal

pub read_feed-whole-requires-clause-stands : goal.read_feed-whole-requires-clause-stands
read_feed-whole-requires-clause-stands g c =
    subst (λ (graph : GraphInputs). HasAccepted [] (nothing_taken graph) (seen c.in_ok-feed.feed)) (sym c.in_ok-feed.ensures.graph) c.in_ok-feed.ensures.stands

pub returns-in_err-feed-clause-short : goal.returns-in_err-feed-clause-short
returns-in_err-feed-clause-short g c =
    let is = err_from_is_err_and c.from_residual.result c.from_residual.ensures.1 in
    rw is.1 (read-none (inputs_of c.args.plan.now) (g.S.Source.told c.args.input.now))

pub returns-then-ran_out-clause-short : goal.returns-then-ran_out-clause-short
returns-then-ran_out-clause-short g c =
    subst (λ (graph : GraphInputs). ReadSome graph (device (g.S.Source.told c.args.input.now) (g.S.Source.told c.read_feed-whole.new.input))) c.in_ok-feed.ensures.graph c.read_feed-whole.ensures.read

pub returns-clause-gathered : goal.returns-clause-gathered
returns-clause-gathered g c =
    subst (λ (graph : GraphInputs). GatheredInputs graph (device (g.S.Source.told c.args.input.now) (g.S.Source.told c.read_feed-whole.new.input)) c.read_feed-whole.result.end c.read_feed-whole.result.inputs) c.in_ok-feed.ensures.graph
    (c.read_feed-whole.ensures.gathered (c.ran_out.ensures.0 c.if-ran_out.false))

pub returns-clause-fits : goal.returns-clause-fits
returns-clause-fits g c =
    let gathered = subst (λ (graph : GraphInputs). GatheredInputs graph (device (g.S.Source.told c.args.input.now) (g.S.Source.told c.read_feed-whole.new.input)) c.read_feed-whole.result.end c.read_feed-whole.result.inputs) c.in_ok-feed.ensures.graph
    (c.read_feed-whole.ensures.gathered (c.ran_out.ensures.0 c.if-ran_out.false)) in
    inputs-fit c.args.plan.now gathered.read c.read_feed-whole.result.inputs c.requires gathered.good gathered.given
