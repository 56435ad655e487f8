use Rattle.std.proofs.Common.{◌++◌, ◌∷◌, [], None, sym, ap, ◌∙◌, append_assoc}
use Rattle.std.proofs.lemmas.Result.{err_from_is_err_and}
use Rattle.std.specs.String.{string_bytes}
use Rattle.serde_json.specs.View.{view}
use Rattle.mg_feed.specs.Graph.{place_of}
use Rattle.mg_feed.specs.Form.{time_of}
use Rattle.mg_feed.specs.View.{before_seen}
use Rattle.mg_feed.specs.Seen.{input_buffer}
use Rattle.mg_feed.proofs.Several.{Member, several-next, several-stop, judged, due-next}
use Rattle.mg_feed.proofs.input_buffer.InputBuffer.due.Goals as goal

pub returns-in_err-packet-clause-fault : goal.returns-in_err-packet-clause-fault
returns-in_err-packet-clause-fault c =
    let p = err_from_is_err_and c.from_residual-in_err-packet.result c.from_residual-in_err-packet.ensures.1 in
    let b = before_seen (input_buffer c.args.self.now) in
    let m : Member = (c.in-Some.name.now, c.in-Some.value.now) in
    rw (p.1, p.2)
    (λ other. several-stop b (time_of (view c.args.time.now)) c.args.members.now.entries c.loop-name.name-iterator c.next.new.self m c.in_err-packet.field-0.0
    c.loop-name.invariant.3 c.in-Some.ensures.steps
    (judged b (string_bytes c.in-Some.name.now) c.find-place.result c.kind_of.result c.standing_of.result c.time_by.result (view c.args.time.now) (view c.in-Some.value.now) _
    (c.find-place.ensures ∙ ap (place_of c.args.self.now.graph.streams) c.as_str.ensures.value) c.kind_of.ensures c.standing_of.ensures c.time_by.ensures
    (c.in_err-packet.ensures.fault other)))

pub loop-name-preserved : goal.loop-name-preserved
loop-name-preserved c =
    let kept = c.loop-name.invariant in
    let b = before_seen (input_buffer c.args.self.now) in
    let m : Member = (c.in-Some.name.now, c.in-Some.value.now) in
    let there = c.find-place.ensures ∙ ap (place_of c.args.self.now.graph.streams) c.as_str.ensures.value in (
      kept.0 ++ m ∷ [],
      kept.1 ∙ ap (λ ms. kept.0 ++ ms) c.in-Some.ensures.steps ∙ sym (append_assoc kept.0 (m ∷ []) c.next.new.self),
      due-next b.graph (view c.args.time.now) kept.0 c.loop-name.due.items c.push.new.self.items m (record { place = c.find-place.result; packet = c.in_ok-packet.packet }) c.time_by.result
          kept.2 there c.time_by.ensures c.in_ok-packet.ensures.packet c.in_ok-push.ensures.items,
      several-next b (time_of (view c.args.time.now)) c.args.members.now.entries c.loop-name.name-iterator c.next.new.self m kept.3 c.in-Some.ensures.steps
          (judged b (string_bytes c.in-Some.name.now) c.find-place.result c.kind_of.result c.standing_of.result c.time_by.result (view c.args.time.now) (view c.in-Some.value.now) None
          there c.kind_of.ensures c.standing_of.ensures c.time_by.ensures c.in_ok-packet.ensures.good),
    )
