-- Fields in pieces, each of one name: the values of a name are those of its pieces.
use Rattle.std.proofs.Common.{ℕ, ◌≡◌, List, [], ◌∷◌, ◌++◌, Bool, true, false, map, filter, refl, ap, ◌∙◌, if◌then◌else◌}
use Rattle.std.proofs.lemmas.List.{map-append}
use Rattle.std.proofs.lemmas.List.Elements.{filter-append}
use Rattle.mg_text.specs.View.{Value, Entry}
use Rattle.mg_config.specs.Values.{entry}

abbrev pub values : List Entry → List Value
values fields = map (λ field. field.value) fields

-- the values under one name
abbrev pub all_named : List ℕ → List Value → List Entry
all_named name vs = map (entry name) vs

-- fields that all have one name
pub record Piece : Type 0 where
  pub name : List ℕ
  pub fields : List Entry
  pub named : fields ≡ all_named name (values fields)

abbrev pub piece : (name : List ℕ) (fields : List Entry) → fields ≡ all_named name (values fields) → Piece
piece name fields named = record { name = name; fields = fields; named = named }

-- the fields of the pieces, one piece after another
abbrev pub spread : List Piece → List Entry
spread [] = []
spread (p ∷ ps) = p.fields ++ spread ps

-- the fields whose name passes a test
abbrev pub passing : (List ℕ → Bool) → List Entry → List Entry
passing test fields = filter (λ field. test field.name) fields

-- the values of the pieces whose name passes a test
abbrev pub look : (List ℕ → Bool) → List Piece → List Value
look test [] = []
look test (p ∷ ps) = if test p.name then values p.fields ++ look test ps else look test ps

pass_all : (test : List ℕ → Bool) (name : List ℕ) (vs : List Value) → test name ≡ true → values (passing test (all_named name vs)) ≡ vs
pass_all test name [] passes = refl
pass_all test name (v ∷ vs) passes =
    ap (λ b. values (if b then entry name v ∷ passing test (all_named name vs) else passing test (all_named name vs))) passes ∙ ap (λ more. v ∷ more) (pass_all test name vs passes)

pass_none : (test : List ℕ → Bool) (name : List ℕ) (vs : List Value) → test name ≡ false → values (passing test (all_named name vs)) ≡ []
pass_none test name [] fails = refl
pass_none test name (v ∷ vs) fails =
    ap (λ b. values (if b then entry name v ∷ passing test (all_named name vs) else passing test (all_named name vs))) fails ∙ pass_none test name vs fails

pub spread_passing : (test : List ℕ → Bool) (ps : List Piece) → values (passing test (spread ps)) ≡ look test ps
spread_passing test [] = refl
spread_passing test (p ∷ ps) =
    ap values (filter-append (λ field. test field.name) p.fields (spread ps))
    ∙ map-append (λ field. field.value) (passing test p.fields) (passing test (spread ps))
    ∙ ap (λ vs. values (passing test p.fields) ++ vs) (spread_passing test ps)
    ∙ by (test p.name) refl
  where
    by : (b : Bool) → test p.name ≡ b → values (passing test p.fields) ++ look test ps ≡ (if b then values p.fields ++ look test ps else look test ps)
    by true passes = ap (λ vs. vs ++ look test ps) (ap (λ fields. values (passing test fields)) p.named ∙ pass_all test p.name (values p.fields) passes)
    by false fails = ap (λ vs. vs ++ look test ps) (ap (λ fields. values (passing test fields)) p.named ∙ pass_none test p.name (values p.fields) fails)
