-- The ports of a list of texts, and the text of a port.
use Rattle.std.specs.Prelude.{ℕ, ◌-◌, ◌≡◌, ◌<◌, ◌⊎◌, List, [], ◌∷◌, ◌++◌, Bool, false, ◌&&◌, ◌||◌, not, ◌==◌, nat_le, Option, unwrap_or, Result, Ok, Err, if◌then◌else◌, count_by, length, position, IsTrue, ◌≢◌}
use Rattle.std.specs.List.{list_any}
use Rattle.std.specs.Str.{bytes_eq}
use Rattle.std.specs.Fmt.{decimal}
use Rattle.mg_names.specs.Grammar.{is_name, is_tag, index_count}
use Rattle.mg_names.specs.Spelling.{spelling_of, is_untagged}
use Rattle.mg_names.specs.declared.spelling.Spelling.{Spelling}
use Rattle.mg_names.specs.declared.port.Port.{Port}
use Rattle.mg_names.specs.declared.fault.NameFault.{NameFault}
use Rattle.mg_names.specs.declared.fault.NameFault.TheVariants as fault
use Rattle.mg_names.specs.declared.fault.NameFault.TheVariants.{BadIndex, Gap, Twice}
use Rattle.mg_names.specs.declared.placed_fault.PlacedFault.{PlacedFault}
use Rattle.mg_names.specs.declared.placed_fault.PlacedFault.TheVariants.{At, Whole, OutOfMemory}

-- goes on with the value of a result, or keeps its refusal
abbrev pub after : {A B E : Type 0} → Result A E → (A → Result B E) → Result B E
after (Ok value) next = next value
after (Err refusal) next = Err refusal

-- the index of a port: the running number of an untagged port; the spelled index of a tagged port, or 0 if none is spelled
abbrev pub index_in : ℕ → Spelling → ℕ
index_in number spelling = if bytes_eq spelling.tag [] then number else unwrap_or spelling.index 0

-- the port that a spelling makes with this number of untagged ports before it
abbrev pub port_of : ℕ → Spelling → Port
port_of number spelling = record { tag = spelling.tag; index = index_in number spelling; name = spelling.name }

-- whether a text is an untagged port for which no index is left, since 64 stand before it
abbrev pub lacks_index : ℕ → List ℕ → Bool
lacks_index number text = is_untagged text && nat_le index_count number

-- The port of a text with this number of untagged ports before it, or its refusal. That no index is left is tested before the text.
abbrev pub port_at : ℕ → List ℕ → Result Port NameFault
port_at number text = if lacks_index number text then Err BadIndex else after (spelling_of text) (λ spelling. Ok (port_of number spelling))

-- the port of a text that stands after others
abbrev pub port_after : List (List ℕ) → List ℕ → Result Port NameFault
port_after before text = port_at (count_by is_untagged before) text

-- the result of the text at a place, whose refusal gets that place
abbrev pub placed_at : {A : Type 0} → ℕ → Result A NameFault → Result A PlacedFault
placed_at place (Ok value) = Ok value
placed_at place (Err cause) = Err (At place cause)

-- The ports of texts that stand after others, in the order of spelling, or the first refusal of a text. The place in
-- the refusal is the number of texts before that text.
abbrev pub ports_after : List (List ℕ) → List (List ℕ) → Result (List Port) PlacedFault
ports_after before [] = Ok []
ports_after before (text ∷ texts) =
    after (placed_at (length before) (port_after before text)) (λ port. after (ports_after (before ++ text ∷ []) texts) (λ ports. Ok (port ∷ ports)))

-- whether a port has this tag and index
abbrev pub is_at : List ℕ → ℕ → Port → Bool
is_at tag index port = bytes_eq tag port.tag && (index == port.index)

-- whether one of the ports has this tag and index
abbrev pub has_port : List ℕ → ℕ → List Port → Bool
has_port tag index ports = list_any (is_at tag index) ports

-- whether two of the ports have the same tag and index
abbrev pub stands_twice : List Port → Bool
stands_twice [] = false
stands_twice (port ∷ ports) = has_port port.tag port.index ports || stands_twice ports

-- whether a port has an index above 0 while none of the ports has its tag and the index one lower
abbrev pub has_gap : List Port → Bool
has_gap ports = list_any (λ port. not (port.index == 0) && not (has_port port.tag (port.index - 1) ports)) ports

-- the ports, unless the list as a whole is refused: for a tag and index that stand twice, or else for a gap
abbrev pub checked : List Port → Result (List Port) PlacedFault
checked ports = if stands_twice ports then Err (Whole Twice) else (if has_gap ports then Err (Whole Gap) else Ok ports)

-- the ports of a list of texts, or the first refusal with its place: the texts in order, and then the whole list
abbrev pub placed_ports_of : List (List ℕ) → Result (List Port) PlacedFault
placed_ports_of texts = after (ports_after [] texts) checked

-- a refusal without its place
abbrev pub cause_of : PlacedFault → NameFault
cause_of (At place cause) = cause
cause_of (Whole cause) = cause
cause_of OutOfMemory = fault.OutOfMemory

abbrev pub without_place : {A : Type 0} → Result A PlacedFault → Result A NameFault
without_place (Ok value) = Ok value
without_place (Err refusal) = Err (cause_of refusal)

-- the ports of a list of texts, or the first refusal
abbrev pub ports_of : List (List ℕ) → Result (List Port) NameFault
ports_of texts = without_place (placed_ports_of texts)

-- The cause that a refusal gives of a text or of the list isn't out of memory.
abbrev pub HasCause : PlacedFault → Type 0
HasCause (At place cause) = cause ≢ fault.OutOfMemory
HasCause (Whole cause) = cause ≢ fault.OutOfMemory
HasCause OutOfMemory = Unit {0}

-- the place of the port with a tag and index
abbrev pub place_of : List ℕ → ℕ → List Port → Option ℕ
place_of tag index ports = position (is_at tag index) ports

-- the text of a tagged port: the index is left out at 0
abbrev pub tagged_text : List ℕ → ℕ → List ℕ → List ℕ
tagged_text tag index name =
    if index == 0 then tag ++ (58 ∷ name) else tag ++ (58 ∷ decimal index) ++ (58 ∷ name)

-- the text of a port: `name` if it is untagged, `TAG:name` at index 0, and `TAG:index:name` otherwise
abbrev pub text_of : Port → List ℕ
text_of port = if bytes_eq port.tag [] then port.name else tagged_text port.tag port.index port.name

-- The port can be spelled: its tag is empty or a tag, its index is below 64, and its name is a name.
pub record IsSpelled (port : Port) : Type 0 where
  pub tag : (port.tag ≡ []) ⊎ IsTrue (is_tag port.tag)
  pub index : port.index < index_count
  pub name : IsTrue (is_name port.name)
