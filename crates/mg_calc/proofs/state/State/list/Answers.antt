use Rattle.std.proofs.Common.{map, ap, sym, ◌∙◌}
use Rattle.std.proofs.lemmas.Result.{IfOk-weaker}
use Rattle.mg_calc.specs.State.{kept_list}
use Rattle.mg_calc.specs.Code.StateView.{shared_plain, payloads_of}
use Rattle.mg_calc.proofs.StateLists.{kept-full_places}
use Rattle.mg_calc.proofs.state.State.list.Goals as goal

pub returns-in-Full : goal.returns-in-Full
returns-in-Full c =
    IfOk-weaker c.all_shared.result _ _
    (λ list same.
    same ∙ ap (map shared_plain) c.deref-in-Full.ensures.value ∙ sym (kept-full_places (map shared_plain c.in-Full.list.items)) ∙ ap kept_list (sym (ap payloads_of c.in-Full.is) ∙ c.self.view_is))
    c.all_shared.ensures
