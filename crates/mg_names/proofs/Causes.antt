-- A refusal's cause is never out of memory.
use Rattle.std.proofs.Common.{ℕ, ◌≡◌, ◌≢◌, List, [], ◌∷◌, ◌++◌, Bool, true, false, Option, None, Some, Result, Ok, Err, if◌then◌else◌, length, subst}
use Rattle.mg_names.specs.Grammar.{is_name, is_tag, index_of}
use Rattle.mg_names.specs.Spelling.{parts_of, spelling_of, spelling_of_parts, named, named_at}
use Rattle.mg_names.specs.Ports.{after, port_of, lacks_index, port_at, port_after, placed_at, ports_after, stands_twice, has_gap, checked, placed_ports_of, HasCause}
use Rattle.mg_names.specs.TagIndex.{is_tag_or_empty, tag_with, tag_index_of_parts, tag_index_of}
use Rattle.mg_names.specs.declared.spelling.Spelling.{Spelling}
use Rattle.mg_names.specs.declared.port.Port.{Port}
use Rattle.mg_names.specs.declared.fault.NameFault.{NameFault}
use Rattle.mg_names.specs.declared.fault.NameFault.TheVariants as fault
use Rattle.mg_names.specs.declared.fault.NameFault.TheVariants.{BadName, BadTag, BadIndex, Gap, Twice}
use Rattle.mg_names.specs.declared.placed_fault.PlacedFault.{PlacedFault}
use Rattle.mg_names.specs.declared.placed_fault.PlacedFault.TheVariants.{At, Whole, OutOfMemory}
use Rattle.mg_names.specs.declared.placed_fault.PlacedFault.TheVariants as placed

-- a refusal of one text
abbrev pub IsCaused : {A : Type 0} → Result A NameFault → Type 0
IsCaused (Ok value) = Unit {0}
IsCaused (Err cause) = cause ≢ fault.OutOfMemory

unless_refused : {A : Type 0} (test : Bool) (result : Result A NameFault) (cause : NameFault) → cause ≢ fault.OutOfMemory → IsCaused result → IsCaused (if test then result else Err cause)
unless_refused true result cause other caused = caused
unless_refused false result cause other caused = other

named_caused : (tag : List ℕ) (index : Option ℕ) (name : List ℕ) → IsCaused (named tag index name)
named_caused tag index name = unless_refused (is_name name) (Ok (record { tag = tag; index = index; name = name })) BadName (λ same. cc) tt

named_at_caused : (tag : List ℕ) (index : Option ℕ) (name : List ℕ) → IsCaused (named_at tag index name)
named_at_caused tag None name = λ same. cc
named_at_caused tag (Some index) name = named_caused tag (Some index) name

spelling_caused : (parts : List (List ℕ)) → IsCaused (spelling_of_parts parts)
spelling_caused [] = λ same. cc
spelling_caused (name ∷ []) = named_caused [] None name
spelling_caused (tag ∷ name ∷ []) = unless_refused (is_tag tag) (named tag None name) BadTag (λ same. cc) (named_caused tag None name)
spelling_caused (tag ∷ index ∷ name ∷ []) = unless_refused (is_tag tag) (named_at tag (index_of index) name) BadTag (λ same. cc) (named_at_caused tag (index_of index) name)
spelling_caused (tag ∷ index ∷ name ∷ other ∷ more) = λ same. cc

port_at_caused : (number : ℕ) (text : List ℕ) → IsCaused (port_at number text)
port_at_caused number text = by (lacks_index number text) (spelling_of text) (spelling_caused (parts_of text))
  where
    by : (full : Bool) (read : Result Spelling NameFault) → IsCaused read → IsCaused (if full then Err BadIndex else after read (λ spelling. Ok (port_of number spelling)))
    by true read caused = λ same. cc
    by false (Ok spelling) caused = tt
    by false (Err cause) caused = caused

with_index_caused : (tag : List ℕ) (index : Option ℕ) → IsCaused (tag_with tag index)
with_index_caused tag None = λ same. cc
with_index_caused tag (Some index) = tt

tag_parts_caused : (parts : List (List ℕ)) → IsCaused (tag_index_of_parts parts)
tag_parts_caused [] = λ same. cc
tag_parts_caused (tag ∷ []) = unless_refused (is_tag tag) (Ok (tag, 0)) BadTag (λ same. cc) tt
tag_parts_caused (tag ∷ index ∷ []) = unless_refused (is_tag_or_empty tag) (tag_with tag (index_of index)) BadTag (λ same. cc) (with_index_caused tag (index_of index))
tag_parts_caused (a ∷ b ∷ c ∷ more) = λ same. cc

pub tag_index_caused : (text : List ℕ) → IsCaused (tag_index_of text)
tag_index_caused text = tag_parts_caused (parts_of text)

-- a refusal with its place
abbrev pub IsPlaced : {A : Type 0} → Result A PlacedFault → Type 0
IsPlaced (Ok value) = Unit {0}
IsPlaced (Err refusal) = HasCause refusal

after_placed : {A B : Type 0} (result : Result A PlacedFault) (next : A → Result B PlacedFault) → IsPlaced result → ((value : A) → IsPlaced (next value)) → IsPlaced (after result next)
after_placed (Ok value) next placed each = each value
after_placed (Err refusal) next placed each = placed

placed_caused : (place : ℕ) (result : Result Port NameFault) → IsCaused result → IsPlaced (placed_at place result)
placed_caused place (Ok port) caused = tt
placed_caused place (Err cause) caused = caused

after_caused : (texts before : List (List ℕ)) → IsPlaced (ports_after before texts)
after_caused [] before = tt
after_caused (text ∷ texts) before =
    after_placed (placed_at (length before) (port_after before text)) (λ port. after (ports_after (before ++ text ∷ []) texts) (λ ports. Ok (port ∷ ports)))
    (placed_caused (length before) (port_after before text) (port_at_caused _ text))
    (λ port. after_placed (ports_after (before ++ text ∷ []) texts) (λ ports. Ok (port ∷ ports)) (after_caused texts (before ++ text ∷ [])) (λ ports. tt))

checked_caused : (ports : List Port) → IsPlaced (checked ports)
checked_caused ports = by (stands_twice ports) (has_gap ports)
  where
    by : (twice gap : Bool) → IsPlaced (if twice then Err (Whole Twice) else (if gap then Err (Whole Gap) else Ok ports))
    by true gap = λ same. cc
    by false true = λ same. cc
    by false false = tt

pub placed_ports_caused : (texts : List (List ℕ)) → IsPlaced (placed_ports_of texts)
placed_ports_caused texts = after_placed (ports_after [] texts) checked (after_caused texts []) checked_caused

pub refusal_has_cause : (texts : List (List ℕ)) (refusal : PlacedFault) → placed_ports_of texts ≡ Err refusal → HasCause refusal
refusal_has_cause texts refusal refused = subst IsPlaced refused (placed_ports_caused texts)

-- a fault that is the refusal of texts, or out of memory
pub has_cause : (texts : List (List ℕ)) (refusal : PlacedFault) → (refusal ≢ placed.OutOfMemory → placed_ports_of texts ≡ Err refusal) → HasCause refusal
has_cause texts (At place cause) refused = refusal_has_cause texts (At place cause) (refused (λ same. cc))
has_cause texts (Whole cause) refused = refusal_has_cause texts (Whole cause) (refused (λ same. cc))
has_cause texts OutOfMemory refused = tt
