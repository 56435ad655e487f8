-- What a draft stands for: the same with texts of its own instead of texts that are lent, and plain payloads.
use Rattle.std.specs.Prelude.{List, map}
use Rattle.mg_kinds.specs.Kinds.{names_of}
use Rattle.mg_kinds.specs.Views.{plain_of}
use Rattle.mg_check.specs.Drafts.{DraftView}
use Rattle.mg_check.specs.declared.draft.Draft.{Draft}

abbrev pub draft_view : Draft → DraftView
draft_view draft = record {
  label = draft.label;
  law = draft.law;
  shape = draft.shape;
  inputs = names_of draft.inputs.items;
  outputs = names_of draft.outputs.items;
  sides = names_of draft.sides.items;
  side_outputs = names_of draft.side_outputs.items;
  constants = plain_of draft.constants.items;
  in_flight = draft.in_flight;
  box_number = draft.box_number;
  policy = draft.policy;
  back = draft.back;
  misplaced = draft.misplaced;
}

abbrev pub drafts_view : List Draft → List DraftView
drafts_view drafts = map draft_view drafts
