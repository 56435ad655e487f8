use Rattle.std.proofs.Common.{length, map, All, ◌<◌, inr, refl, sym, ap, ◌∙◌, subst}
use Rattle.std.proofs.lemmas.List.{length-map}
use Rattle.std.proofs.lemmas.Result.{err_from_is_err_and}
use Rattle.mg_settled.specs.Ends.{end_of}
use Rattle.mg_calc.specs.Rules.{no_laws}
use Rattle.mg_calc.specs.Meaning.{count_of}
use Rattle.mg_answer.specs.Text.{output_text_of}
use Rattle.mg_answer.specs.Answer.{packet_lines}
use Rattle.mg_answer.proofs.Telling.{faults-below, solved-prefixes, solved-each, ends-each}
use Rattle.mg_answer.proofs.solving.answer.Goals as goal

pub write_output-requires-clause-streams : goal.write_output-requires-clause-streams
write_output-requires-clause-streams g c =
    solved-prefixes no_laws c.args.run.now.plan.now c.args.inputs.now c.in_ok-solved.solved.prefixes c.requires.plan c.requires.inputs (c.in_ok-solved.ensures.solution no_laws)

pub write_output-requires-clause-many : goal.write_output-requires-clause-many
write_output-requires-clause-many g c =
    solved-each no_laws c.args.run.now.plan.now c.args.inputs.now c.in_ok-solved.solved.prefixes c.requires.plan c.requires.inputs (c.in_ok-solved.ensures.solution no_laws)

pub conclude-requires-clause-many : goal.conclude-requires-clause-many
conclude-requires-clause-many g c =
    ends-each c.in_ok-ends.ends.items c.as_slice.result.now c.in_ok-ends.ensures ∙ ap length c.as_slice.ensures
    ∙ solved-each no_laws c.args.run.now.plan.now c.args.inputs.now c.in_ok-solved.solved.prefixes c.requires.plan c.requires.inputs (c.in_ok-solved.ensures.solution no_laws)

pub conclude-requires-clause-nodes : goal.conclude-requires-clause-nodes
conclude-requires-clause-nodes g c =
    subst (λ fs. All (λ fault. fault.node < length c.args.run.now.plan.now.nodes) fs) (sym (c.in_ok-solved.ensures.faults no_laws))
    (faults-below (record { plan = c.args.run.now.plan.now; inputs = c.args.inputs.now; laws = no_laws }) c.in_ok-solved.solved.prefixes)

pub conclude-requires-clause-sets : goal.conclude-requires-clause-sets
conclude-requires-clause-sets g c =
    ap length (c.in_ok-solved.ensures.sets no_laws)
    ∙ length-map c.args.run.now.plan.now.nodes (count_of (record { plan = c.args.run.now.plan.now; inputs = c.args.inputs.now; laws = no_laws }) c.in_ok-solved.solved.prefixes)

pub returns-in_err-status-clause-wrote : goal.returns-in_err-status-clause-wrote
returns-in_err-status-clause-wrote g c =
    let is = err_from_is_err_and c.from_residual-in_err-status.result c.from_residual-in_err-status.ensures.1 in
    rw is.1
    (λ laws. inr (record {
      streams = c.in_ok-solved.solved.prefixes;
      solution = c.in_ok-solved.ensures.solution laws;
      front = c.in_err-status.ensures.front (g.K.Sink.told c.args.output.now) (output_text_of c.args.run.now.plan.now c.in_ok-solved.solved.prefixes) c.in_ok-text.ensures;
    }))

pub returns-clause-wrote : goal.returns-clause-wrote
returns-clause-wrote g c = λ laws.
    c.in_ok-status.ensures.wrote packet_lines (record { plan = c.args.run.now.plan.now; inputs = c.args.inputs.now; laws = laws }) c.in_ok-solved.solved.prefixes (g.K.Sink.told c.args.output.now) refl (c.in_ok-solved.ensures.solution laws)
    (record {
      faults = c.in_ok-solved.ensures.faults laws;
      sets = c.in_ok-solved.ensures.sets laws;
      ends = c.in_ok-ends.ensures ∙ ap (map end_of) c.as_slice.ensures;
      arrivals = c.new.ensures.items;
    })
    c.in_ok-text.ensures
