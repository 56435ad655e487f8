use Rattle.std.proofs.Common.{List, sym, subst}
use Rattle.mg_node.specs.Views.{EngineView}
use Rattle.mg_sched.specs.Views.{NetView}
use Rattle.mg_sched.specs.Code.Outputs.{HaveOutputs}
use Rattle.mg_sched.specs.Looks.{IsOutputAmong}
use Rattle.mg_sched.proofs.StreamOutputs.{have_outputs}
use Rattle.mg_sched.proofs.net.Net.bound.Goals as goal

pub bound_of-requires-clause-outputs : goal.bound_of-requires-clause-outputs
bound_of-requires-clause-outputs g c =
    subst (HaveOutputs c.self.inside.plan) (sym c.deref.ensures.value)
    (subst (λ (v : NetView). HaveOutputs v.plan v.engines) (sym c.self.view_is) (have_outputs c.requires.stands.job c.args.self.now c.requires.stands.stands))

pub returns : goal.returns
returns g c = λ output is.
    c.bound_of.ensures output
    (subst (λ (es : List EngineView). IsOutputAmong c.self.inside.plan es c.args.stream output) (sym c.deref.ensures.value)
    (subst (λ (v : NetView). IsOutputAmong v.plan v.engines c.args.stream output) (sym c.self.view_is) is))
