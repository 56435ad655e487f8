-- Plain payloads: what a payload says, as a tree. That a record's keys ascend is kept by its type (`KeysAscend`).
use Rattle.std.specs.Prelude.{ℕ, suc, ℤ, Bool, max, List, [], ◌∷◌, FitsSigned}
use Rattle.std.specs.Int.{w64}

mutual
  -- a truth value, a whole number, a text by its bytes, a list, or a record
  pub data Plain : Type 0 where
    flag : Bool → Plain
    int : ℤ → Plain
    text : List ℕ → Plain
    items : Items → Plain
    entries : Entries → Plain

  -- the payloads of a list
  pub data Items : Type 0 where
    no_items : Items
    item : Plain → Items → Items

  -- the entries of a record
  pub data Entries : Type 0 where
    no_entries : Entries
    entry : List ℕ → Plain → Entries → Entries

-- an entry of a record
pub record PlainEntry : Type 0 where
  pub key : List ℕ
  pub value : Plain

-- the payloads of a list, as `Items`
abbrev pub items_of : List Plain → Items
items_of [] = no_items
items_of (p ∷ ps) = item p (items_of ps)

-- the entries of a record, as `Entries`
abbrev pub entries_of : List PlainEntry → Entries
entries_of [] = no_entries
entries_of (e ∷ es) = entry e.key e.value (entries_of es)

-- how deep the lists and records of a payload nest
abbrev mutual
  pub depth : Plain → ℕ
  depth (flag b) = 0
  depth (int n) = 0
  depth (text s) = 0
  depth (items is) = suc (items_depth is)
  depth (entries es) = suc (entries_depth es)

  pub items_depth : Items → ℕ
  items_depth no_items = 0
  items_depth (item p ps) = max (depth p) (items_depth ps)

  pub entries_depth : Entries → ℕ
  entries_depth no_entries = 0
  entries_depth (entry k p es) = max (depth p) (entries_depth es)

-- all whole numbers of a payload have 64 signed bits
abbrev mutual
  pub NumbersFit : Plain → Type 0
  NumbersFit (flag b) = Unit {0}
  NumbersFit (int n) = FitsSigned w64 n
  NumbersFit (text s) = Unit {0}
  NumbersFit (items is) = ItemsFit is
  NumbersFit (entries es) = EntriesFit es

  pub ItemsFit : Items → Type 0
  ItemsFit no_items = Unit {0}
  ItemsFit (item p ps) = NumbersFit p × ItemsFit ps

  pub EntriesFit : Entries → Type 0
  EntriesFit no_entries = Unit {0}
  EntriesFit (entry k p es) = NumbersFit p × EntriesFit es
