-- What words ask for, by the faults and the matches of a command whose names lie anywhere.
use Rattle.std.proofs.Common.{◌≡◌, ◌≢◌, ◌∙◌, ◌⊎◌, inl, inr, refl, sym, ap, ap₂, subst, true, false, List, [], ◌∷◌, map}
use Rattle.std.specs.Borrow.{Bor}
use Rattle.clap.specs.Words.{App, Row, Text, fault_of, matches_of, is_simple, is_simple_and_free, IsAmong, Kinds}
use Rattle.clap.specs.Simple.{Shape, built}
use Rattle.clap.specs.Walk.{nothing_held}
use Rattle.clap.specs.Faults.{level_fault}
use Rattle.clap.specs.declared.error.kind.ErrorKind.{ErrorKind}
use Rattle.clap.specs.declared.error.kind.ErrorKind.TheVariants.{OutOfMemory}
use Rattle.clap.proofs.FaultLemmas.{leaf_fault}
use Rattle.mg_words.specs.CommandLine.{command_with, command, placed, verbs}
use Rattle.mg_words.specs.Words.{request_at, request_from, request_of}
use Rattle.mg_words.proofs.Laid.{laid, rows-laid}
use Rattle.mg_words.proofs.Singles.{Agree, IsSingle, level-fault, laid_shape}

abbrev top_with : Bor (List (Bor Text)) → Shape
top_with names = (built (command_with names)).top

simple-with : (names : Bor (List (Bor Text))) → is_simple (command_with names) ≡ true
simple-with names = refl

free-with : (names : Bor (List (Bor Text))) → is_simple_and_free (command_with names) ≡ true
free-with names = refl

fault-with : (names : Bor (List (Bor Text))) (words : List Text) → fault_of (command_with names) words ≡ level_fault (top_with names) [] nothing_held words false []
fault-with names words = leaf_fault (built (command_with names)) nothing_held words refl

-- The slice has the names of the command.
abbrev pub HasVerbs : Bor (List (Bor Text)) → Type 0
HasVerbs names = map (λ (name : Bor Text). name.now) names.now ≡ verbs

laid-verbs : (names : Bor (List (Bor Text))) → HasVerbs names → laid names ≡ placed (map placed verbs)
laid-verbs names are = ap (λ (texts : List Text). placed (map placed texts)) are

faults-laid : (names : Bor (List (Bor Text))) (words : List Text) → Agree (fault_of (command_with (laid names)) words) (fault_of (command_with names) words)
faults-laid names words =
    let agree : Agree (level_fault (laid_shape (top_with names)) [] nothing_held words false []) (level_fault (top_with names) [] nothing_held words false []) = level-fault (top_with names) refl words in
    record {
      same = fault-with (laid names) words ∙ agree.same ∙ sym (fault-with names words);
      single = subst IsSingle (sym (fault-with names words)) agree.single;
    }

matches-laid : (names : Bor (List (Bor Text))) (words : List Text) → matches_of (command_with (laid names)) words ≡ matches_of (command_with names) words
matches-laid names words = rows-laid (top_with names).rules [] words

module _ (names : Bor (List (Bor Text))) (are : HasVerbs names) (words : List Text) where
  same-faults : fault_of command words ≡ fault_of (command_with names) words
  same-faults = ap (λ (at : Bor (List (Bor Text))). fault_of (command_with at) words) (sym (laid-verbs names are)) ∙ (faults-laid names words).same

  same-matches : matches_of command words ≡ matches_of (command_with names) words
  same-matches = ap (λ (at : Bor (List (Bor Text))). matches_of (command_with at) words) (sym (laid-verbs names are)) ∙ matches-laid names words

  taken-asks : (rows : List Row) → rows ≡ matches_of (command_with names) words → fault_of (command_with names) words ≡ [] → request_from [] rows ≡ request_of words
  unfolding request_of
  taken-asks rows found none = sym (ap₂ request_from (same-faults ∙ none) (same-matches ∙ sym found))

  among-asks : (kinds : Kinds) (kind : ErrorKind) (rows : List Row) → IsSingle kinds → IsAmong kind kinds → request_at kind ≡ request_from kinds rows
  among-asks [] kind rows single among = absurd among
  among-asks (k ∷ ks) kind rows single (inl is) = ap request_at is
  among-asks (k ∷ ks) kind rows single (inr more) = absurd (subst (IsAmong kind) single more)

  refused-asks : (kind : ErrorKind) → (kind ≡ OutOfMemory) ⊎ IsAmong kind (fault_of (command_with names) words) → kind ≢ OutOfMemory → request_at kind ≡ request_of words
  unfolding request_of
  refused-asks kind (inl short) some = absurd (some short)
  refused-asks kind (inr among) some =
      among-asks (fault_of (command_with names) words) kind (matches_of command words) (faults-laid names words).single among
      ∙ ap (λ (kinds : Kinds). request_from kinds (matches_of command words)) (sym same-faults)

-- The laws of the program's own command, told of any command that equals it.
module _ (names : Bor (List (Bor Text))) (are : HasVerbs names) (app : App) (is : app ≡ command_with names) (words : List Text) where
  pub is-simple : is_simple app ≡ true
  is-simple = ap is_simple is ∙ simple-with names

  pub is-free : is_simple_and_free app ≡ true
  is-free = ap is_simple_and_free is ∙ free-with names

  pub taken-request : (rows : List Row) → rows ≡ matches_of app words → fault_of app words ≡ [] → request_from [] rows ≡ request_of words
  taken-request rows found none = taken-asks names are words rows (found ∙ ap (λ (a : App). matches_of a words) is) (ap (λ (a : App). fault_of a words) (sym is) ∙ none)

  pub refused-request : (kind : ErrorKind) → (kind ≡ OutOfMemory) ⊎ IsAmong kind (fault_of app words) → kind ≢ OutOfMemory → request_at kind ≡ request_of words
  refused-request kind has some = refused-asks names are words kind (subst (λ (a : App). (kind ≡ OutOfMemory) ⊎ IsAmong kind (fault_of a words)) is has) some
