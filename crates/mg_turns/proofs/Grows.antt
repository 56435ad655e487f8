-- Standings grow, and what was seen stays seen.
use Rattle.std.proofs.Common.{ℕ, List, [], ◌∷◌, ◌++◌, Option, Some, None, refl, arith}
use Rattle.mg_node.specs.Views.{IntakeView, EngineView}
use Rattle.mg_node.specs.Ports.{port_queue}
use Rattle.mg_node.specs.IntakeStanding.{IntakeGrows}
use Rattle.mg_node.specs.Standing.{EngineGrows}
use Rattle.mg_node.proofs.Growing.{grown_by_itself, grown_further, engine_same, engine_further}
use Rattle.mg_turns.specs.Parts.{PartView, Grown, PartGrows}
use Rattle.mg_turns.specs.Turns.{Sight}
use Rattle.mg_turns.specs.Rule.{Sights}
use Rattle.mg_turns.specs.Code.Plays.{Like, Joins}

pub intake_same : (i : IntakeView) → IntakeGrows i i
intake_same i = record { claimed = omega arith; ports = λ port. grown_by_itself (port_queue i.waits port) }

pub intake_further : (i j k : IntakeView) → IntakeGrows i j → IntakeGrows j k → IntakeGrows i k
intake_further i j k g h = (let a = g.claimed in let b = h.claimed in record {
  claimed = omega (arith, a, b);
  ports = λ port. grown_further (port_queue i.waits port) (port_queue j.waits port) (port_queue k.waits port) (g.ports port) (h.ports port);
})

engine_by : (e : Option EngineView) → Grown EngineGrows e e
engine_by None = tt
engine_by (Some e) = engine_same e e refl

intake_by : (i : Option IntakeView) → Grown IntakeGrows i i
intake_by None = tt
intake_by (Some i) = intake_same i

pub part_same : (p : PartView) → PartGrows p p
part_same p = record { engine = engine_by p.engine; intake = intake_by p.intake }

engine_on : (e f g : Option EngineView) → Grown EngineGrows e f → Grown EngineGrows f g → Grown EngineGrows e g
engine_on None None None a b = tt
engine_on None None (Some g) a b = absurd b
engine_on None (Some f) g a b = absurd a
engine_on (Some e) None g a b = absurd a
engine_on (Some e) (Some f) None a b = absurd b
engine_on (Some e) (Some f) (Some g) a b = engine_further e f g a b

intake_on : (e f g : Option IntakeView) → Grown IntakeGrows e f → Grown IntakeGrows f g → Grown IntakeGrows e g
intake_on None None None a b = tt
intake_on None None (Some g) a b = absurd b
intake_on None (Some f) g a b = absurd a
intake_on (Some e) None g a b = absurd a
intake_on (Some e) (Some f) None a b = absurd b
intake_on (Some e) (Some f) (Some g) a b = intake_further e f g a b

pub part_further : (p q r : PartView) → PartGrows p q → PartGrows q r → PartGrows p r
part_further p q r g h = record { engine = engine_on p.engine q.engine r.engine g.engine h.engine; intake = intake_on p.intake q.intake r.intake g.intake h.intake }

pub sights_further : (i : ℕ) (p q : PartView) (xs : List Sight) → Sights i p xs → PartGrows p q → Sights i q xs
sights_further i p q [] s g = tt
sights_further i p q (x ∷ xs) s g = ((λ e. part_further x.part p q (s.0 e) g), sights_further i p q xs s.1 g)

pub sights_both : (i : ℕ) (p : PartView) (xs ys : List Sight) → Sights i p xs → Sights i p ys → Sights i p (xs ++ ys)
sights_both i p [] ys s t = t
sights_both i p (x ∷ xs) ys s t = (s.0, sights_both i p xs ys s.1 t)

pub like_self : (p : PartView) → Like p p
like_self p = record { agree = λ r h. h; agree_there = λ r h. h; out = λ x h. h; only = λ k h. h }

pub joins_self : (p : PartView) → Joins p p
joins_self p = record { from = λ e r h. h; to = λ e r h. h }
