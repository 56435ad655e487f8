-- What a `Tree` stands for.
use Rattle.std.specs.Prelude.{ℕ, List, [], ◌∷◌, map}
use Rattle.mg_text.specs.Tree.{Kind, word, number, quoted, Fields, none, scalar, message}
use Rattle.mg_text.specs.declared.tree.Scalar.{Scalar}
use Rattle.mg_text.specs.declared.tree.Scalar.TheVariants as scalars
use Rattle.mg_text.specs.declared.tree.Field.{Field, fold-Field}
use Rattle.mg_text.specs.declared.tree.Tree.{Tree, fold-Tree}
use Rattle.mg_text.specs.declared.tree.TreeValue.{TreeValue, fold-TreeValue}
use Rattle.mg_text.specs.declared.tree.TreeValue.TheOpen.{TreeValue-F, Field-F, Tree-F}

-- the value of a field, without the field's name
pub data Value : Type 0 where
  simple : Kind → List ℕ → Value
  inner : Fields → Value

pub record Entry : Type 0 where
  pub name : List ℕ
  pub value : Value

abbrev pub scalar_view : Scalar → Value
scalar_view (scalars.Word t) = simple word t
scalar_view (scalars.Number t) = simple number t
scalar_view (scalars.Quoted t) = simple quoted t

-- a field before others
abbrev pub put : List ℕ → Value → Fields → Fields
put n (simple kind bytes) rest = scalar n kind bytes rest
put n (inner fields) rest = message n fields rest

abbrev pub fields_of : List Entry → Fields
fields_of [] = none
fields_of (e ∷ es) = put e.name e.value (fields_of es)

-- what a value stands for, if it is already known what the fields inside it stand for
abbrev pub value_step : TreeValue-F Value Entry Fields → Value
value_step (TreeValue-F.Scalar s) = scalar_view s
value_step (TreeValue-F.Message fields) = inner fields

abbrev pub field_step : Field-F Value Entry Fields → Entry
field_step f = record { name = f.name; value = f.value }

abbrev pub tree_step : Tree-F Value Entry Fields → Fields
tree_step t = fields_of t.fields.value.items

abbrev pub view : Tree → Fields
view = fold-Tree Value Entry Fields value_step field_step tree_step

abbrev pub value_view : TreeValue → Value
value_view = fold-TreeValue Value Entry Fields value_step field_step tree_step

abbrev pub field_view : Field → Entry
field_view = fold-Field Value Entry Fields value_step field_step tree_step

abbrev pub fields_view : List Field → Fields
fields_view fs = fields_of (map field_view fs)
