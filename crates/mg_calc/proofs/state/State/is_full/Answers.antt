use Rattle.std.proofs.Common.{◌≡◌, List, map, ap, sym, subst, ◌∙◌}
use Rattle.mg_value.specs.Plain.{Plain}
use Rattle.mg_calc.specs.State.{kept_list, full_places}
use Rattle.mg_calc.specs.Code.StateView.{shared_plain, payloads_of}
use Rattle.mg_calc.proofs.StateLists.{kept-full_places}
use Rattle.mg_calc.proofs.state.State.is_full.Goals as goal

pub returns-in-Full : goal.returns-in-Full
returns-in-Full c is =
    let view = ap payloads_of c.in-Full.is in
    subst (λ (s : List Plain). s ≡ full_places (kept_list s)) (sym view ∙ c.self.view_is) (ap full_places (sym (kept-full_places (map shared_plain c.in-Full.field-0.items))))
