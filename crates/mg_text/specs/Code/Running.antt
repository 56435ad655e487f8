-- What the parser's own types stand for in the machine.
use Rattle.std.specs.Prelude.{ℕ, List, [], ◌∷◌, Bool, true, false, Option, Some, None, ◌≡◌, ◌≤◌, map, reverse, Result, Ok, Err}
use Rattle.mg_text.specs.declared.machine.Frame.{Frame}
use Rattle.mg_text.specs.declared.machine.Machine.{Machine}
use Rattle.mg_text.specs.declared.state.Kind.{Kind}
use Rattle.mg_text.specs.declared.state.Kind.TheVariants as kinds
use Rattle.mg_text.specs.declared.parts.Slot.{Slot}
use Rattle.mg_text.specs.declared.state.Between.{Between}
use Rattle.mg_text.specs.declared.state.Between.TheVariants as between
use Rattle.mg_text.specs.declared.state.Reading.{Reading}
use Rattle.mg_text.specs.declared.state.Reading.TheVariants as reading
use Rattle.mg_text.specs.declared.state.Inside.{Inside}
use Rattle.mg_text.specs.Grammar.{Gives, Place, start, named, valued, opened, element, behind, joined}
use Rattle.mg_text.specs.Code.Machine as model
use Rattle.mg_text.specs.Code.Machine.{Spot, at, comment, naming, token, piece, State}
use Rattle.mg_text.specs.Tree as tree
use Rattle.mg_text.specs.Tree.{depth}
use Rattle.mg_text.specs.View.{view, fields_view}
use Rattle.mg_text.specs.Answer.{max_depth, IsFault}
use Rattle.mg_text.specs.declared.tree.Tree.{Tree}
use Rattle.mg_text.specs.declared.fault.TextFault.{TextFault}
use Rattle.mg_text.specs.declared.fault.TextFault.TheVariants.{Syntax, TooLong, OutOfMemory}

abbrev pub place_of : Between → List ℕ → List ℕ → Place
place_of (between.Start f) name bytes = start f
place_of between.Named name bytes = named name
place_of between.Valued name bytes = valued name
place_of (between.Opened c) name bytes = opened name c
place_of (between.Element m) name bytes = element name m
place_of (between.Behind m) name bytes = behind name m
place_of (between.Joined slot) name bytes = joined name slot bytes

abbrev pub spot_of : Reading → List ℕ → List ℕ → Spot
spot_of (reading.At p) name bytes = at (place_of p name bytes)
spot_of (reading.Comment p t) name bytes = comment (place_of p name bytes) t
spot_of (reading.Name part) name bytes = naming part bytes
spot_of (reading.Scalar slot part) name bytes = token name slot part bytes
spot_of (reading.Piece slot q i) name bytes = piece name slot bytes q i

-- a slot with the name of the field
abbrev pub named_slot : List ℕ → Option Slot → Option (List ℕ × Slot)
named_slot name None = None
named_slot name (Some slot) = Some (name, slot)

abbrev pub named_list : List ℕ → Option Bool → Option (List ℕ × Bool)
named_list name None = None
named_list name (Some colon) = Some (name, colon)

-- the bytes that a string gets, if it gets one byte or none
abbrev pub spelled : Option ℕ → List ℕ
spelled None = []
spelled (Some b) = b ∷ []

-- what is read next of a piece, and the bytes that the string gets
abbrev pub spelling_of : Inside × Option ℕ → Inside × List ℕ
spelling_of next = (next.0, spelled next.1)

abbrev pub kind_view : Kind → tree.Kind
kind_view kinds.Word = tree.word
kind_view kinds.Number = tree.number
kind_view kinds.Quoted = tree.quoted

abbrev pub frame_of : Frame → model.Frame
frame_of f = record { before = fields_view f.before.items; name = f.name; slot = f.slot; mark = f.mark }

-- the open messages, the innermost first
abbrev pub frames_of : List Frame → List model.Frame
frames_of fs = map frame_of (reverse fs)

abbrev pub state_of : Machine → State
state_of m = record { done = fields_view m.done.items; frames = frames_of m.frames.items; spot = spot_of m.reading m.name m.token.items }

-- The flag is whether there is a state after the step. If there is, it is the given state.
abbrev pub Stepped : Option State → Bool → State → Type 0
Stepped o true s = o ≡ Some s
Stepped o false s = o ≡ None

-- The answer is due if a file ends in this state, at this place.
abbrev pub FileEnds : State → ℕ → Result Tree TextFault → Type 0
FileEnds s place (Ok tree) = model.outcome s (10 ∷ []) ≡ Some (view tree)
FileEnds s place (Err (Syntax where_is)) = (where_is ≡ place) × (model.outcome s (10 ∷ []) ≡ None)
FileEnds s place (Err OutOfMemory) = Unit {0}
FileEnds s place (Err fault) = ⊥

-- The answer is due for a file that isn't too long.
abbrev pub IsAnswered : List ℕ → Result Tree TextFault → Type 0
IsAnswered file (Ok tree) = Gives file (view tree) × (depth (view tree) ≤ max_depth)
IsAnswered file (Err TooLong) = ⊥
IsAnswered file (Err fault) = IsFault file fault

-- From one state these bytes lead to another, each of them taken, and no message opens or closes.
abbrev pub Lasts : State → List ℕ → State → Type 0
Lasts s [] t = s ≡ t
Lasts s (b ∷ bytes) t = (next : State) × (model.step s b ≡ Some next) × (next.frames ≡ s.frames) × Lasts next bytes t
