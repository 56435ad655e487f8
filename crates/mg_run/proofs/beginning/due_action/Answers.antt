use Rattle.std.proofs.Common.{◌∙◌, sym, map, List, All, subst}
use Rattle.std.proofs.lemmas.Result.{err_from_is_err_and}
use Rattle.mg_calc.specs.declared.shape.OuterShape.{OuterShape}
use Rattle.mg_check.specs.Check.{IsOuterShape}
use Rattle.mg_subgraph.proofs.Steps.{length-map}
use Rattle.mg_words.specs.Command.{command}
use Rattle.mg_run.specs.Boxes.{outers_told, MayBeHandedIn}
use Rattle.mg_run.specs.Devices.{device}
use Rattle.mg_run.specs.Code.Action.{action_view, CanBeDone}
use Rattle.mg_files.specs.Reads.{contents_of}
use Rattle.mg_files.proofs.Loading.{loaded-count}
use Rattle.mg_run.proofs.Duty.{due_by}
use Rattle.mg_run.proofs.Loaded.{none_loaded, all_loaded}
use Rattle.mg_run.proofs.beginning.due_action.Goals as goal

pub action_of-requires-clause-each : goal.action_of-requires-clause-each
action_of-requires-clause-each g c =
    sym (length-map (λ v. v.items) c.in_ok-contents.contents.items)
    ∙ loaded-count (g.T.Store.told c.args.store.now).content c.args.ordered.now.files.now (contents_of c.in_ok-contents.contents.items) c.in_ok-contents.ensures.all.given

pub returns-clause-due : goal.returns-clause-due
returns-clause-due g c =
    due_by (command c.args.ordered.now.instruction c.args.ordered.now.files.now) c.deref.result.now (outers_told (map g.C.NodeCalculator.told c.args.boxes.now)) (contents_of c.in_ok-contents.contents.items) _ (action_view c.in_ok-action.action)
    (c.deref.ensures.value ∙ c.in_ok-outers.ensures.outers) (subst (λ (outers : List OuterShape). All IsOuterShape outers) (sym c.deref.ensures.value) c.in_ok-outers.ensures.shaped) c.in_ok-contents.ensures.all c.in_ok-action.ensures.due

pub returns-clause-can : goal.returns-clause-can
returns-clause-can g c = subst (λ (outers : List OuterShape). CanBeDone outers (action_view c.in_ok-action.action)) (c.deref.ensures.value ∙ c.in_ok-outers.ensures.outers) c.in_ok-action.ensures.valid

pub returns-clause-lawful : goal.returns-clause-lawful
returns-clause-lawful g c = subst (λ (outers : List OuterShape). All MayBeHandedIn outers) c.in_ok-outers.ensures.outers c.in_ok-outers.ensures.lawful

pub returns-in_err-contents-clause-failed : goal.returns-in_err-contents-clause-failed
returns-in_err-contents-clause-failed g c =
    let p = err_from_is_err_and c.from_residual-in_err-contents.result c.from_residual-in_err-contents.ensures.1 in
    rw (p.1, p.2) c.in_err-contents.ensures.failed

-- Memory ran out --

pub returns-in_err-outers-clause-failed : goal.returns-in_err-outers-clause-failed
returns-in_err-outers-clause-failed g c =
    let p = err_from_is_err_and c.from_residual.result c.from_residual.ensures.1 in
    rw (p.1, p.2) (none_loaded c.args.ordered.now.files.now (g.T.Store.told c.args.store.now))

pub returns-in_err-action-clause-failed : goal.returns-in_err-action-clause-failed
returns-in_err-action-clause-failed g c =
    let p = err_from_is_err_and c.from_residual-in_err-action.result c.from_residual-in_err-action.ensures.1 in
    rw (p.1, p.2) (all_loaded c.args.ordered.now.files.now (contents_of c.in_ok-contents.contents.items) (device (g.T.Store.told c.args.store.now) (g.T.Store.told c.load_all.new.store)) c.in_ok-contents.ensures.all)
