-- The calculators of loops over lists that the program supplies.
use Rattle.std.specs.Prelude.{ℕ, Bool, [], ◌++◌, None, codes, false, if◌then◌else◌}
use Rattle.mg_value.specs.declared.kind.Kind.TheVariants.{Any, Int, Items}
use Rattle.mg_calc.specs.declared.law.Law.TheVariants.{BeginLoop, EndLoop}
use Rattle.mg_calc.specs.declared.shape.Shape.{Shape}
use Rattle.mg_calc.specs.Shape.{tagged, clone_ports}
use Rattle.mg_calc.specs.Told.{BoxTold}
use Rattle.mg_batch.specs.Logged.{told_log}

-- how many ports CLONE these calculators have: one, or none
abbrev pub clones_of : Bool → ℕ
clones_of clone = if clone then 1 else 0

-- the shape of a BeginLoopCalculator, or, with CLONE, of a BeginLoopCloneCalculator
abbrev pub begin_shape : Bool → Shape
begin_shape clone = record {
  name = if clone then codes "BeginLoopCloneCalculator" else codes "BeginLoopCalculator";
  inputs = clone_ports (clones_of clone) ++ tagged (codes "ITERABLE") Items;
  outputs = tagged (codes "BATCH_END") Int ++ (clone_ports (clones_of clone) ++ tagged (codes "ITEM") Any);
  sides = [];
  offset = None;
  stateless = false;
}

-- the shape of an EndLoopCalculator
abbrev pub end_shape : Shape
end_shape = record {
  name = codes "EndLoopCalculator";
  inputs = tagged (codes "BATCH_END") Int ++ tagged (codes "ITEM") Any;
  outputs = tagged (codes "ITERABLE") Items;
  sides = [];
  offset = None;
  stateless = false;
}

-- what a new BeginLoop calculator tells of itself: it hasn't been opened, and its log is empty, if it is kept
abbrev pub new_begin : Bool → Bool → BoxTold
new_begin clone telling = record { law = BeginLoop (clones_of clone) false; shape = begin_shape clone; state = []; log = told_log telling [] }

-- what a new EndLoopCalculator tells of itself
abbrev pub new_end : Bool → BoxTold
new_end telling = record { law = EndLoop false; shape = end_shape; state = []; log = told_log telling [] }
