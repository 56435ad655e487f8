use Rattle.std.proofs.Common.{◌∙◌, ap, map}
use Rattle.mg_check.specs.Code.Meets.{begun}
use Rattle.mg_check.specs.Joining.{edges, written_kinds, read_kinds}
use Rattle.mg_config.specs.Config.{graph_view}
use Rattle.mg_check.specs.DraftView.{drafts_view}
use Rattle.mg_check.proofs.InferredKinds.{all_meetings}
use Rattle.mg_check.proofs.meeting.meetings_of.Goals as goal

pub returns : goal.returns
returns c = λ same.
    let graph = graph_view c.args.graph.now in
    let ds = drafts_view c.args.drafts.now in
    all_meetings c.meet_all.new.mets.items c.in_ok-mets.mets.items (written_kinds graph ds) (read_kinds graph ds) (edges graph ds) c.args.edges.now c.as_slice-2.result.now
    c.meet_all.ensures (c.in_ok-mets.ensures ∙ ap (map begun) (c.as_slice.ensures.value ∙ c.in_ok-written.ensures)) (c.as_slice-2.ensures.value ∙ c.in_ok-read.ensures) same
