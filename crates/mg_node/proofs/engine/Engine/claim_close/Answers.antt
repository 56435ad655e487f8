use Rattle.std.proofs.Common.{◌≡◌, ap, sym, refl, subst, ◌∙◌, inl, inr}
use Rattle.mg_calc.specs.declared.node_fault.Phase.TheVariants.{Close}
use Rattle.mg_node.specs.Views.{WorkView, EngineView}
use Rattle.mg_node.proofs.engine.Engine.claim_close.Goals as goal

pub returns : goal.returns
returns g c = λ intake over. inr (
  c.requires,
  inr (inl (
    record {
      over = over;
      laid = sym (ap (λ (v : EngineView). v.window) c.self.view_is) ∙ c.is_empty.ensures.none c.if-not-is_empty.false;
      context = c.take_context-context.result;
      hands = c.take_context-context.ensures;
      work_is =
          (let node = ap (λ (v : EngineView). v.node) c.self-2.view_is ∙ ap (λ (v : EngineView). v.node) c.take_context-context.ensures.now in
          let number = ap (λ (v : EngineView). v.claimed) c.self.view_is in
          subst (λ (w : WorkView). c.new.result ≡ w) (λ i. record { node = node i; number = number i; phase = Close; context = c.take_context-context.result }) c.new.ensures);
    },
    refl,
  )),
)
