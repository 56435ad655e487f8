-- A set that is shown to a calculator in its context, while the context stays idle, and what is laid of the answer.
use Rattle.std.specs.Prelude.{◌≡◌, ℕ, ◌+◌, List, [], ◌∷◌, ◌++◌, map, Option, option_map, IfSome, IfNone, Result}
use Rattle.mg_value.specs.Payload.{Plain}
use Rattle.mg_settled.specs.Prefix.{StreamPrefix}
use Rattle.mg_calc.specs.Rules.{Laws}
use Rattle.mg_calc.specs.declared.cause.Cause.{Cause}
use Rattle.mg_calc.specs.declared.emission.Laid.{Laid}
use Rattle.mg_calc.specs.declared.node_fault.Phase.TheVariants.{Process}
use Rattle.mg_node.specs.Views.{IntakeView, ContextView, WorkView, EngineView}
use Rattle.mg_node.specs.Lawful.{StandForAll}
use Rattle.mg_node.specs.Claims.{Takes, Hands, work_of}
use Rattle.mg_node.specs.Commits.{raised_before, laid_by, outputs_by, failure_by, fault_at}
use Rattle.mg_node.specs.Running.{IsPerformed}

-- the work of a set, in a context
abbrev pub work_at : ℕ → ℕ → ℕ → ContextView → WorkView
work_at node number at context = record { node = node; number = number; phase = Process at; context = context }

-- a context's calculator was shown the context's set at a time. This performs a work of that set in the context, whatever its node and
-- number.
abbrev pub HasShown : Laws → ℕ → Result (List Laid) Cause → ContextView → ContextView → Type 0
HasShown laws at answer before now = (node number : ℕ) → IsPerformed laws (work_at node number at before) (record { work = work_at node number at now; answer = answer })

-- the last idle context takes the next set, and its calculator is shown that; if memory is short, only the set has changed there
pub record Shows (laws : Laws) (answer : Option (Result (List Laid) Cause)) (at : ℕ) (engine engine_now : EngineView) (intake intake_now : IntakeView) : Type 0 where
  pub rest : List ContextView
  pub context : ContextView
  pub filled : ContextView
  pub context_now : ContextView
  pub idle : engine.idle ≡ rest ++ context ∷ []
  pub now_is : engine_now ≡ record engine { idle = rest ++ context_now ∷ [] }
  pub told : filled.told ≡ context.told
  pub takes : Takes intake intake_now filled.set
  pub shown : IfSome answer (λ a. HasShown laws at a filled context_now)
  pub unchanged : IfNone answer (context_now ≡ filled)

-- an answer to the set at a time is laid, whatever whole prefixes the outputs stood for
pub record LaysAnswer (at : ℕ) (answer : Result (List Laid) Cause) (before now : EngineView) : Type 0 where
  pub now_is : now ≡ record before { outputs = now.outputs; laid = before.laid + 1; claimed = before.claimed + 1; fault = now.fault }
  pub given_up : map (λ b. b.gone) now.outputs ≡ map (λ b. b.gone) before.outputs
  pub laid : (whole : List (StreamPrefix Plain)) → StandForAll before.outputs whole
      → StandForAll now.outputs (outputs_by (raised_before before.offset (Process at) whole) (laid_by before.offset (Process at) (raised_before before.offset (Process at) whole) answer))
      × (now.fault ≡ option_map (fault_at before.node) (failure_by (Process at) (laid_by before.offset (Process at) (raised_before before.offset (Process at) whole) answer)))

-- the work of the set that the last idle context has is handed out
pub record HandsShown (at : ℕ) (work : WorkView) (engine engine_now : EngineView) : Type 0 where
  pub hands : Hands engine engine_now (Process at) 1 work.context
  pub work_is : work ≡ work_of engine (Process at) work.context
