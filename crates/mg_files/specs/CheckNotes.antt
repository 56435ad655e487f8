-- The notes of a check, and the text of a graph that passes it.
use Rattle.std.specs.Prelude.{ℕ, List, [], ◌++◌, length, codes, decimal}
use Rattle.std.specs.List.{flat_map}
use Rattle.mg_calc.specs.declared.plan.Plan.{Plan}
use Rattle.mg_check.specs.declared.fault.Many.{Many}
use Rattle.mg_check.specs.declared.fault.Many.TheVariants.{Edges, Outputs}
use Rattle.mg_check.specs.declared.fault.CheckFault.{CheckFault}
use Rattle.mg_check.specs.declared.fault.CheckFault.TheVariants.{UnknownCalculator, NoMoreBoxes, BadPorts, BadOptions, Unsupported, TwoProducers, NoProducer, SideMissing, KindClash, BackEdgeMisplaced, Cycle, TooMany, OutOfMemory}
use Rattle.mg_answer.specs.Shown.{escaped}

abbrev pub many_name : Many → List ℕ
many_name Edges = codes "Edges"
many_name Outputs = codes "Outputs"

-- the words for why the check refuses a graph: what is wrong, and the fault's fields, each after a space
abbrev pub check_refusal : CheckFault → List ℕ
check_refusal (UnknownCalculator node) = codes "UnknownCalculator " ++ decimal node
check_refusal (NoMoreBoxes name has needs) = codes "NoMoreBoxes " ++ escaped name ++ codes " " ++ decimal has ++ codes " " ++ decimal needs
check_refusal (BadPorts node) = codes "BadPorts " ++ decimal node
check_refusal (BadOptions node) = codes "BadOptions " ++ decimal node
check_refusal (Unsupported node field) = codes "Unsupported " ++ decimal node ++ codes " " ++ escaped field
check_refusal (TwoProducers name) = codes "TwoProducers " ++ escaped name
check_refusal (NoProducer name) = codes "NoProducer " ++ escaped name
check_refusal (SideMissing name) = codes "SideMissing " ++ escaped name
check_refusal (KindClash name) = codes "KindClash " ++ escaped name
check_refusal (BackEdgeMisplaced node) = codes "BackEdgeMisplaced " ++ decimal node
check_refusal (Cycle nodes) = codes "Cycle" ++ flat_map (λ node. codes " " ++ decimal node) nodes
check_refusal (TooMany what) = codes "TooMany " ++ many_name what
check_refusal OutOfMemory = []

-- the note that the check refuses a graph
abbrev pub check_note : CheckFault → List ℕ
check_note fault = codes "refused: check " ++ check_refusal fault ++ codes "\n"

-- what `check` writes of a graph that has a plan
abbrev pub check_text : Plan → List ℕ
check_text plan = codes "ok nodes=" ++ decimal (length plan.nodes) ++ codes " streams=" ++ decimal (length plan.streams) ++ codes "\n"
