use Rattle.std.proofs.Common.{◌∙◌, sym}
use Rattle.std.proofs.lemmas.Result.{IfOk-weaker}
use Rattle.mg_kinds.proofs.Sorted.{none_alone, one_alone}
use Rattle.mg_kinds.proofs.port_order.alone.Goals as goal

pub returns-in-Some : goal.returns-in-Some
returns-in-Some c = IfOk-weaker c.one_port.result _ _ (λ list made. made ∙ one_alone c.args.ports.now c.in-Some.port.now c.requires (sym c.in-Some.ensures)) c.one_port.ensures

pub returns-in-None : goal.returns-in-None
returns-in-None c = IfOk-weaker c.no_ports.result _ _ (λ list made. made ∙ none_alone c.args.ports.now (sym c.in-None.ensures)) c.no_ports.ensures
