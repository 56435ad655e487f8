use Rattle.std.proofs.Common.{List, ℕ, map, subst}
use Rattle.std.specs.Global.{Vec}
use Rattle.std.proofs.lemmas.Result.{IfOk-weaker}
use Rattle.mg_config.specs.Config.{graph_view}
use Rattle.mg_config.specs.Sound.{IsSound, IsPrintable}
use Rattle.mg_files.specs.Files.{graphs, AreGraphs}
use Rattle.mg_words.specs.Command.{command}
use Rattle.mg_run.specs.Invocation.{invocation}
use Rattle.mg_files.specs.Reads.{contents_of, AreNotedOf}
use Rattle.mg_files.proofs.Together.{all-graphs}
use Rattle.mg_files.proofs.Texts.{sound_graph, printable_graph}
use Rattle.mg_run.proofs.action.action_of.Goals as goal

pub graphs_action-requires-clause-sound : goal.graphs_action-requires-clause-sound
graphs_action-requires-clause-sound c = all-graphs IsSound sound_graph (contents_of c.deref.result.now) c.in-Ok.graphs.items c.in-Ok.ensures.graphs

pub graphs_action-requires-clause-printable : goal.graphs_action-requires-clause-printable
graphs_action-requires-clause-printable c = all-graphs IsPrintable printable_graph (contents_of c.deref.result.now) c.in-Ok.graphs.items c.in-Ok.ensures.graphs

pub returns-in-Ok-clause-due : goal.returns-in-Ok-clause-due
returns-in-Ok-clause-due c =
    let gs = map graph_view c.in-Ok.graphs.items in
    let are = subst (λ (contents : List (Vec ℕ)). AreGraphs (contents_of contents) gs) c.deref.ensures.value c.in-Ok.ensures.graphs in
    IfOk-weaker c.graphs_action.result _ _ (λ job same. (graphs gs, are, same)) c.graphs_action.ensures.due

pub returns-in-Err-clause-due : goal.returns-in-Err-clause-due
returns-in-Err-clause-due c =
    IfOk-weaker c.refused.result _ _
    (λ job due. due (invocation (command c.args.instruction c.args.names.now) c.args.outers.now) (contents_of c.args.contents.items)
    (subst (λ (contents : List (Vec ℕ)). AreNotedOf c.in-Err.fault c.args.names.now (contents_of contents)) c.deref.ensures.value c.in-Err.ensures.refused)) c.refused.ensures.due

pub returns-in-Err-clause-valid : goal.returns-in-Err-clause-valid
returns-in-Err-clause-valid c = IfOk-weaker c.refused.result _ _ (λ job can. can c.args.outers.now) c.refused.ensures.valid
