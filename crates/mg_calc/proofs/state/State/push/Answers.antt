use Rattle.std.proofs.Common.{◌∷◌, ◌++◌, [], map, ap, sym, ◌∙◌}
use Rattle.std.proofs.lemmas.Result.{IfOk-weaker}
use Rattle.mg_calc.specs.State.{kept_list, full_places}
use Rattle.mg_calc.specs.Code.StateView.{shared_plain, payloads_of}
use Rattle.mg_calc.proofs.StateLists.{kept-full_places}
use Rattle.mg_calc.proofs.state.State.push.Goals as goal

pub returns-in-Full-clause-more : goal.returns-in-Full-clause-more
returns-in-Full-clause-more c =
    IfOk-weaker c.put.result _ _
    (λ x more. ap full_places (more ∙ ap (λ l. l ++ shared_plain c.args.payload ∷ []) (sym (kept-full_places (map shared_plain c.in-Full.list.items)) ∙ ap kept_list (sym (ap payloads_of c.in-Full.is) ∙ c.self.view_is))))
    c.put.ensures.more
