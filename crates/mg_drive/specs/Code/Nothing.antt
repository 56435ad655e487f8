-- A plan of no node, and its inputs.
use Rattle.std.specs.Prelude.{[], negsuc, true}
use Rattle.mg_calc.specs.declared.inputs.Inputs.{Inputs}
use Rattle.mg_calc.specs.declared.plan.Plan.{Plan}

abbrev pub no_plan : Plan
no_plan = record { nodes = []; streams = []; edges = []; order = []; inputs = []; outputs = []; sides = []; limit = negsuc 0; workers = 0 }

abbrev pub no_inputs : Inputs
no_inputs = record { streams = []; sides = []; ended = true }
