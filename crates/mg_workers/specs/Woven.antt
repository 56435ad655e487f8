-- The parts of a net in the order of their words. First come of each node its intake and its engine, then the collector's
-- intake, and then the engines of the graph inputs.
use Rattle.std.specs.Prelude.{ℕ, zero, suc, List, [], ◌∷◌, ◌++◌, map, length}
use Rattle.mg_node.specs.Views.{IntakeView, EngineView}
use Rattle.mg_calc.specs.declared.plan.Plan.{Plan}
use Rattle.mg_sched.specs.ComesApart.{PartsView}
use Rattle.mg_turns.specs.Parts.{PartView, LayoutView, an_engine, an_intake}

-- the intakes and engines of a net as one list, in the order of their words. Those of each node in turn come first, and then
-- the others
abbrev pub woven : ℕ → List EngineView → List IntakeView → List PartView
woven zero es is = map an_intake is ++ map an_engine es
woven (suc n) [] is = map an_intake is
woven (suc n) (e ∷ es) [] = map an_engine (e ∷ es)
woven (suc n) (e ∷ es) (i ∷ is) = an_intake i ∷ an_engine e ∷ woven n es is

-- the layout of a plan and the parts of its net
abbrev pub layout_by : Plan → List EngineView → List IntakeView → LayoutView
layout_by plan es is = record { plan = plan; parts = woven (length plan.nodes) es is }

-- the layout of the parts into which a net came apart
abbrev pub layout_of : PartsView → LayoutView
layout_of parts = layout_by parts.plan parts.engines parts.intakes
