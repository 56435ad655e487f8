-- The ports of the fields of a name, one field after another.
use Rattle.std.proofs.Common.{ℕ, ◌+◌, ◌<◌, ◌≤◌, ◌≡◌, List, [], ◌∷◌, ◌++◌, true, false, Ok, Err, length, get_or, map, append_assoc, refl, sym, ap, ◌∙◌}
use Rattle.mg_names.specs.Ports.{after, ports_after, checked, placed_ports_of}
use Rattle.mg_names.specs.declared.port.Port.{Port}
use Rattle.mg_names.specs.declared.placed_fault.PlacedFault.{PlacedFault}
use Rattle.mg_text.specs.declared.tree.Field.{Field}
use Rattle.mg_text.specs.View.{field_view, value_view}
use Rattle.mg_config.specs.Values.{has_name, texts_in, text_of_value}
use Rattle.mg_config.proofs.Loops.{texts_from, texts_here, texts_skip, texts_end}

-- these ports are read of the fields before a place
pub record HasRead (name : List ℕ) (fs : List Field) (i : ℕ) (ports : List Port) : Type 0 where
  pub texts : List (List ℕ)
  pub read : ports_after [] texts ≡ Ok ports
  pub whole : texts_in name (map field_view fs) ≡ texts ++ texts_from name fs i

pub read_none : (name : List ℕ) (fs : List Field) → HasRead name fs 0 []
read_none name fs = record { texts = []; read = refl; whole = refl }

pub read_more : (name : List ℕ) (fs : List Field) (i : ℕ) (d : Field) (text : List ℕ) (ports more : List Port) → i < length fs → d ≡ get_or fs i d → has_name name (field_view d) ≡ true
    → text ≡ text_of_value (value_view d.value) → HasRead name fs i ports
    → ((texts : List (List ℕ)) → ports_after [] texts ≡ Ok ports → ports_after [] (texts ++ text ∷ []) ≡ Ok more) → HasRead name fs (i + 1) more
read_more name fs i d text ports more inside same here is so_far next = record {
  texts = so_far.texts ++ text ∷ [];
  read = next so_far.texts so_far.read;
  whole = texts_here name fs i d (texts_in name (map field_view fs)) so_far.texts text inside same here is so_far.whole;
}

pub read_skip : (name : List ℕ) (fs : List Field) (i : ℕ) (d : Field) (ports : List Port) → i < length fs → d ≡ get_or fs i d → has_name name (field_view d) ≡ false
    → HasRead name fs i ports → HasRead name fs (i + 1) ports
read_skip name fs i d ports inside same here so_far = record {
  texts = so_far.texts;
  read = so_far.read;
  whole = texts_skip name fs i d (texts_in name (map field_view fs)) so_far.texts inside same here so_far.whole;
}

-- the text of a field is the first that spells no port
pub read_stop : (name : List ℕ) (fs : List Field) (i : ℕ) (d : Field) (text : List ℕ) (ports : List Port) (fault : PlacedFault) → i < length fs → d ≡ get_or fs i d
    → has_name name (field_view d) ≡ true → text ≡ text_of_value (value_view d.value) → HasRead name fs i ports
    → ((texts more : List (List ℕ)) → ports_after [] texts ≡ Ok ports → ports_after [] (texts ++ text ∷ more) ≡ Err fault)
    → placed_ports_of (texts_in name (map field_view fs)) ≡ Err fault
read_stop name fs i d text ports fault inside same here is so_far stop =
    ap placed_ports_of (texts_here name fs i d (texts_in name (map field_view fs)) so_far.texts text inside same here is so_far.whole
    ∙ append_assoc so_far.texts (text ∷ []) (texts_from name fs (i + 1)))
    ∙ ap (λ r. after r checked) (stop so_far.texts (texts_from name fs (i + 1)) so_far.read)

pub read_all : (name : List ℕ) (fs : List Field) (i : ℕ) (ports : List Port) → length fs ≤ i → HasRead name fs i ports → placed_ports_of (texts_in name (map field_view fs)) ≡ checked ports
read_all name fs i ports past so_far =
    ap placed_ports_of (sym (texts_end name fs i (texts_in name (map field_view fs)) so_far.texts past so_far.whole)) ∙ ap (λ r. after r checked) so_far.read
