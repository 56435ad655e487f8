-- The ports of texts, and those of their own texts.
use Rattle.std.proofs.Common.{not, ◌&&◌, ◌-◌, ◌==◌, ◌||◌, Bool, Err, List, None, Ok, Option, Result, Some, [], ap, arith, count_by, false, if◌then◌else◌, inl, inr, length, map, refl, subst, suc, sym, true, unwrap_or, zero, zero-add, ℕ, ◌++◌, ◌+◌, ◌<◌, ◌∙◌, ◌∷◌, ◌≡◌, ◌⊎◌}
use Rattle.std.specs.Prelude.{IsTrue}
use Rattle.std.specs.List.{All, list_all, list_any}
use Rattle.std.specs.Str.{bytes_eq}
use Rattle.std.proofs.lemmas.Bool.{false≢true}
use Rattle.std.proofs.lemmas.Bool.Decides.{nat_tests}
use Rattle.std.proofs.lemmas.List.Sums.{sum_by-append}
use Rattle.mg_names.specs.Grammar.{is_name, is_tag, index_of}
use Rattle.mg_names.specs.Spelling.{parts_of, spelling_of_parts, named, named_at, is_untagged}
use Rattle.mg_names.specs.Ports.{after, port_at, port_after, placed_at, ports_after, has_port, stands_twice, has_gap, checked, placed_ports_of, without_place, ports_of, text_of, IsSpelled}
use Rattle.mg_names.specs.Renaming.{with_names}
use Rattle.mg_names.specs.declared.spelling.Spelling.{Spelling}
use Rattle.mg_names.specs.declared.fault.NameFault.{NameFault}
use Rattle.mg_names.specs.declared.fault.NameFault.TheVariants.{BadName, BadTag, Gap, Twice}
use Rattle.mg_names.specs.declared.placed_fault.PlacedFault.{PlacedFault}
use Rattle.mg_names.specs.declared.placed_fault.PlacedFault.TheVariants.{Whole}
use Rattle.mg_names.specs.declared.port.Port.{Port}
use Rattle.mg_names.proofs.Counting.{if_ok, after_ok, placed_ok, comes_from, untagged_is_empty, untagged_has_room}
use Rattle.mg_names.proofs.ReadBack.{port_read_back}

-- an index is below 64
pub index_below : (text : List ℕ) (index : ℕ) → index_of text ≡ Some index → index < 64
index_below [] index spelled = cc
index_below (ones ∷ []) index spelled = grind (arith, nat_tests)
index_below (tens ∷ ones ∷ []) index spelled = grind (arith, nat_tests)
index_below (a ∷ b ∷ c ∷ more) index spelled = cc

-- what a spelling has passed
pub record IsGood (spelling : Spelling) : Type 0 where
  pub tag : (spelling.tag ≡ []) ⊎ IsTrue (is_tag spelling.tag)
  pub index : unwrap_or spelling.index 0 < 64
  pub name : IsTrue (is_name spelling.name)

abbrev spelled_as : Spelling → Result Spelling NameFault
spelled_as spelling = Ok spelling

same_spelling : (first second : Spelling) → spelled_as first ≡ spelled_as second → first ≡ second
same_spelling first second same = cc

named_passes : (tag : List ℕ) (index : Option ℕ) (name : List ℕ) (spelling : Spelling) → named tag index name ≡ Ok spelling → (tag ≡ []) ⊎ IsTrue (is_tag tag) → unwrap_or index 0 < 64 → IsGood spelling
named_passes tag index name spelling made good_tag good_index =
    let passed = if_ok (is_name name) (Ok (record { tag = tag; index = index; name = name })) BadName spelling made in
    subst IsGood (same_spelling (record { tag = tag; index = index; name = name }) spelling passed.1) (record { tag = good_tag; index = good_index; name = passed.0 })

named_at_passes : (tag : List ℕ) (index : Option ℕ) (name : List ℕ) (spelling : Spelling) → named_at tag index name ≡ Ok spelling → (tag ≡ []) ⊎ IsTrue (is_tag tag) → ((k : ℕ) → index ≡ Some k → k < 64) → IsGood spelling
named_at_passes tag None name spelling made good_tag below = cc
named_at_passes tag (Some index) name spelling made good_tag below = named_passes tag (Some index) name spelling made good_tag (below index refl)

parts_pass : (parts : List (List ℕ)) (spelling : Spelling) → spelling_of_parts parts ≡ Ok spelling → IsGood spelling
parts_pass [] spelling made = cc
parts_pass (name ∷ []) spelling made = named_passes [] None name spelling made (inl refl) (omega arith)
parts_pass (tag ∷ name ∷ []) spelling made =
    let passed = if_ok (is_tag tag) (named tag None name) BadTag spelling made in
    named_passes tag None name spelling passed.1 (inr passed.0) (omega arith)
parts_pass (tag ∷ index ∷ name ∷ []) spelling made =
    let passed = if_ok (is_tag tag) (named_at tag (index_of index) name) BadTag spelling made in
    named_at_passes tag (index_of index) name spelling passed.1 (inr passed.0) (index_below index)
parts_pass (tag ∷ index ∷ name ∷ other ∷ more) spelling made = cc

-- a port that was made: a text can spell it, and an untagged one has the number that it was given
pub record IsMade (number : ℕ) (port : Port) : Type 0 where
  pub spelled : IsSpelled port
  pub numbered : port.tag ≡ [] → number ≡ port.index

numbered_by : (test : Bool) (number other : ℕ) → test ≡ true → number ≡ (if test then number else other)
numbered_by true number other empty = refl
numbered_by false number other empty = absurd (false≢true empty)

index_small : (test : Bool) (number other : ℕ) → (test ≡ true → number < 64) → other < 64 → (if test then number else other) < 64
index_small true number other room small = room refl
index_small false number other room small = small

pub port_is_made : (number : ℕ) (text : List ℕ) (port : Port) → port_at number text ≡ Ok port → IsMade number port
port_is_made number text port made =
    let from = comes_from number text port made in
    let spelling : Spelling = from.0 in
    let good : IsGood spelling = parts_pass (parts_of text) spelling from.1.spelled in
    let same : bytes_eq spelling.tag [] ≡ bytes_eq port.tag [] = ap (λ (p : Port). bytes_eq p.tag []) from.1.made in
    let room : bytes_eq spelling.tag [] ≡ true → number < 64 = λ empty. untagged_has_room number text port made (sym same ∙ empty) in
    subst (IsMade number) from.1.made
    (record {
      spelled = record { tag = good.tag; index = index_small (bytes_eq spelling.tag []) number (unwrap_or spelling.index 0) room good.index; name = good.name };
      numbered = λ empty. numbered_by (bytes_eq spelling.tag []) number (unwrap_or spelling.index 0) (ap (λ tag. bytes_eq tag []) empty);
    })

-- the count of untagged ports, one more text
counted_push : (before : List (List ℕ)) (text : List ℕ) → count_by is_untagged (before ++ text ∷ []) ≡ count_by is_untagged before + (if is_untagged text then 1 else 0)
counted_push before text = sum_by-append (λ t. if is_untagged t then 1 else 0) before (text ∷ []) ∙ ap (λ n. count_by is_untagged before + n) (zero-add (if is_untagged text then 1 else 0))

abbrev listed : List Port → Result (List Port) PlacedFault
listed ports = Ok ports

same_ports : (first second : List Port) → listed first ≡ listed second → first ≡ second
same_ports first second same = cc

-- the first port of texts, and the others
first_port : (before : List (List ℕ)) (text : List ℕ) (texts : List (List ℕ)) (ports : List Port) → ports_after before (text ∷ texts) ≡ Ok ports
    → (port : Port) × (others : List Port) × (port_after before text ≡ Ok port) × (ports_after (before ++ text ∷ []) texts ≡ Ok others) × (port ∷ others ≡ ports)
first_port before text texts ports made =
    let one = after_ok (placed_at (length before) (port_after before text)) (λ port. after (ports_after (before ++ text ∷ []) texts) (λ more. Ok (port ∷ more))) ports made in
    let rest = after_ok (ports_after (before ++ text ∷ []) texts) (λ more. Ok (one.0 ∷ more)) ports one.2 in
    (one.0, rest.0, placed_ok (length before) (port_after before text) one.0 one.1, rest.1, same_ports (one.0 ∷ rest.0) ports rest.2)

-- a port's text is read as that port after as many untagged ones
again_one : (before again : List (List ℕ)) (text : List ℕ) (port : Port) → count_by is_untagged before ≡ count_by is_untagged again → port_after before text ≡ Ok port
    → port_after again (text_of port) ≡ Ok port
again_one before again text port same read =
    let known = port_is_made (count_by is_untagged before) text port read in
    port_read_back port (text_of port) refl known.spelled again (λ empty. sym same ∙ known.numbered empty)

again_count : (before again : List (List ℕ)) (text : List ℕ) (port : Port) → count_by is_untagged before ≡ count_by is_untagged again → port_after before text ≡ Ok port
    → count_by is_untagged (before ++ text ∷ []) ≡ count_by is_untagged (again ++ text_of port ∷ [])
again_count before again text port same read =
    let here : bytes_eq port.tag [] ≡ is_untagged text = untagged_is_empty (count_by is_untagged before) text port read in
    let there : bytes_eq port.tag [] ≡ is_untagged (text_of port) = untagged_is_empty (count_by is_untagged again) (text_of port) port (again_one before again text port same read) in
    counted_push before text
    ∙ (ap (λ n. n + (if is_untagged text then 1 else 0)) same
    ∙ (ap (λ b. count_by is_untagged again + (if b then 1 else 0)) (sym here ∙ there) ∙ sym (counted_push again (text_of port))))

-- the ports made of texts are those of their own texts
pub made_again : (texts before again : List (List ℕ)) (ports : List Port) → count_by is_untagged before ≡ count_by is_untagged again
    → ports_after before texts ≡ Ok ports → ports_after again (map text_of ports) ≡ Ok ports
made_again [] before again [] same made = refl
made_again [] before again (port ∷ ports) same made = cc
made_again (text ∷ texts) before again ports same made =
    let first = first_port before text texts ports made in
    let P : List Port → Type 0 = λ all. ports_after again (map text_of all) ≡ Ok all in
    let others : ports_after (again ++ text_of first.0 ∷ []) (map text_of first.1) ≡ Ok first.1 =
    made_again texts (before ++ text ∷ []) (again ++ text_of first.0 ∷ []) first.1 (again_count before again text first.0 same first.2) first.3 in
    subst P first.4
    (ap (λ r. after (placed_at (length again) r) (λ port. after (ports_after (again ++ text_of first.0 ∷ []) (map text_of first.1)) (λ more. Ok (port ∷ more)))) (again_one before again text first.0 same first.2)
    ∙ ap (λ r. after r (λ more. Ok (first.0 ∷ more))) others)

made_spelled : (texts before : List (List ℕ)) (ports : List Port) → ports_after before texts ≡ Ok ports → All IsSpelled ports
made_spelled [] before [] made = λ k d inside. absurd (omega arith)
made_spelled [] before (port ∷ ports) made = cc
made_spelled (text ∷ texts) before ports made =
    let first = first_port before text texts ports made in
    subst (All IsSpelled) first.4 (all_cons first.0 first.1 (port_is_made (count_by is_untagged before) text first.0 first.2).spelled (made_spelled texts (before ++ text ∷ []) first.1 first.3))
  where
    all_cons : (port : Port) (others : List Port) → IsSpelled port → All IsSpelled others → All IsSpelled (port ∷ others)
    all_cons port others here more zero d inside = here
    all_cons port others here more (suc k) d inside = more k d (omega arith)

checked_by : (twice gap : Bool) (made ports : List Port) → (if twice then Err (Whole Twice) else (if gap then Err (Whole Gap) else Ok made)) ≡ Ok ports → (twice ≡ false) × (gap ≡ false) × (made ≡ ports)
checked_by true gap made ports passed = cc
checked_by false true made ports passed = cc
checked_by false false made ports passed = (refl, refl, same_ports made ports passed)

-- ports that are checked stay as they are
checked_same : (made ports : List Port) → checked made ≡ Ok ports → (stands_twice made ≡ false) × (has_gap made ≡ false) × (made ≡ ports)
checked_same made ports passed = checked_by (stands_twice made) (has_gap made) made ports passed

-- a result that is no refusal without its place is no refusal with it
unplaced : (result : Result (List Port) PlacedFault) (ports : List Port) → without_place result ≡ Ok ports → result ≡ Ok ports
unplaced (Ok made) ports passed =
    let same : made ≡ ports = cc in
    ap Ok same
unplaced (Err fault) ports passed = cc

pub placed_ports : (texts : List (List ℕ)) (ports : List Port) → ports_of texts ≡ Ok ports → placed_ports_of texts ≡ Ok ports
placed_ports texts ports passed = unplaced (placed_ports_of texts) ports passed

-- the ports of texts, before they were checked
pub made_of : (texts : List (List ℕ)) (ports : List Port) → ports_of texts ≡ Ok ports → (ports_after [] texts ≡ Ok ports) × (stands_twice ports ≡ false) × (has_gap ports ≡ false)
made_of texts ports passed =
    let from = after_ok (ports_after [] texts) checked ports (placed_ports texts ports passed) in
    let known = checked_same from.0 ports from.2 in
    let P : List Port → Type 0 = λ all. (ports_after [] texts ≡ Ok all) × (stands_twice all ≡ false) × (has_gap all ≡ false) in
    subst P known.2 (from.1, known.0, known.1)

-- if the texts are read, so are the texts of their ports
pub read_again : (texts : List (List ℕ)) (ports : List Port) → ports_of texts ≡ Ok ports → ports_of (map text_of ports) ≡ Ok ports
read_again texts ports made =
    let known = made_of texts ports made in
    let same : checked ports ≡ Ok ports = rw (known.1, known.2) refl in
    ap without_place (ap (λ r. after r checked) (made_again texts [] [] ports refl known.0) ∙ same)

pub all_spelled : (texts : List (List ℕ)) (ports : List Port) → ports_of texts ≡ Ok ports → All IsSpelled ports
all_spelled texts ports made = made_spelled texts [] ports (made_of texts ports made).0

-- a port under another name is read back from its own text after as many untagged ones
named_one : (before again : List (List ℕ)) (text : List ℕ) (port : Port) (name : List ℕ) → count_by is_untagged before ≡ count_by is_untagged again → port_after before text ≡ Ok port → is_name name ≡ true
    → port_after again (text_of (record port { name = name })) ≡ Ok (record port { name = name })
named_one before again text port name same read good =
    let known = port_is_made (count_by is_untagged before) text port read in
    port_read_back (record port { name = name }) (text_of (record port { name = name })) refl (record { tag = known.spelled.tag; index = known.spelled.index; name = good }) again (λ empty. sym same ∙ known.numbered empty)

named_count : (before again : List (List ℕ)) (text : List ℕ) (port : Port) (name : List ℕ) → count_by is_untagged before ≡ count_by is_untagged again → port_after before text ≡ Ok port → is_name name ≡ true
    → count_by is_untagged (before ++ text ∷ []) ≡ count_by is_untagged (again ++ text_of (record port { name = name }) ∷ [])
named_count before again text port name same read good =
    let other : Port = record port { name = name } in
    let here : bytes_eq port.tag [] ≡ is_untagged text = untagged_is_empty (count_by is_untagged before) text port read in
    let there : bytes_eq port.tag [] ≡ is_untagged (text_of other) = untagged_is_empty (count_by is_untagged again) (text_of other) other (named_one before again text port name same read good) in
    counted_push before text
    ∙ (ap (λ n. n + (if is_untagged text then 1 else 0)) same
    ∙ (ap (λ b. count_by is_untagged again + (if b then 1 else 0)) (sym here ∙ there) ∙ sym (counted_push again (text_of other))))

-- texts with other names are read back as the ports with these names, all of them
pub named_again : (texts before again : List (List ℕ)) (ports : List Port) (names : List (List ℕ)) → count_by is_untagged before ≡ count_by is_untagged again
    → ports_after before texts ≡ Ok ports → list_all is_name names ≡ true → ports_after again (map text_of (with_names ports names)) ≡ Ok (with_names ports names)
named_again [] before again [] names same made good = refl
named_again [] before again (port ∷ ports) names same made good = cc
named_again (text ∷ texts) before again ports [] same made good =
    let first = first_port before text texts ports made in
    let P : List Port → Type 0 = λ all. ports_after again (map text_of (with_names all [])) ≡ Ok (with_names all []) in
    subst P first.4 (subst (λ all. ports_after again (map text_of all) ≡ Ok all) (sym first.4) (made_again (text ∷ texts) before again ports same made))
named_again (text ∷ texts) before again ports (name ∷ names) same made good =
    let first = first_port before text texts ports made in
    let goods = both_good (is_name name) (list_all is_name names) good in
    let other : Port = record first.0 { name = name } in
    let rest = with_names first.1 names in
    let P : List Port → Type 0 = λ all. ports_after again (map text_of (with_names all (name ∷ names))) ≡ Ok (with_names all (name ∷ names)) in
    let others : ports_after (again ++ text_of other ∷ []) (map text_of rest) ≡ Ok rest =
    named_again texts (before ++ text ∷ []) (again ++ text_of other ∷ []) first.1 names (named_count before again text first.0 name same first.2 goods.0) first.3 goods.1 in
    subst P first.4
    (ap (λ r. after (placed_at (length again) r) (λ port. after (ports_after (again ++ text_of other ∷ []) (map text_of rest)) (λ more. Ok (port ∷ more)))) (named_one before again text first.0 name same first.2 goods.0)
    ∙ ap (λ r. after r (λ more. Ok (other ∷ more))) others)
  where
    both_good : (a b : Bool) → (a && b) ≡ true → (a ≡ true) × (b ≡ true)
    both_good true b good = (refl, good)
    both_good false b good = absurd (false≢true good)

-- whether a tag and index stand twice, and whether there is a gap, doesn't depend on the names
any_named : (test : List ℕ → ℕ → Bool) (ports : List Port) (names : List (List ℕ)) → list_any (λ port. test port.tag port.index) (with_names ports names) ≡ list_any (λ port. test port.tag port.index) ports
any_named test [] names = refl
any_named test (port ∷ ports) [] = refl
any_named test (port ∷ ports) (name ∷ names) = ap (λ b. test port.tag port.index || b) (any_named test ports names)

twice_named : (ports : List Port) (names : List (List ℕ)) → stands_twice (with_names ports names) ≡ stands_twice ports
twice_named [] names = refl
twice_named (port ∷ ports) [] = refl
twice_named (port ∷ ports) (name ∷ names) =
    ap (λ b. b || stands_twice (with_names ports names)) (any_named (λ tag index. bytes_eq port.tag tag && (port.index == index)) ports names)
    ∙ ap (λ b. has_port port.tag port.index ports || b) (twice_named ports names)

lower_same : (first second all : List Port) → ((tag : List ℕ) (index : ℕ) → has_port tag index first ≡ has_port tag index second)
    → list_any (λ port. not (port.index == 0) && not (has_port port.tag (port.index - 1) first)) all ≡ list_any (λ port. not (port.index == 0) && not (has_port port.tag (port.index - 1) second)) all
lower_same first second [] same = refl
lower_same first second (port ∷ all) same =
    ap (λ b. (not (port.index == 0) && not b) || list_any (λ p. not (p.index == 0) && not (has_port p.tag (p.index - 1) first)) all) (same port.tag (port.index - 1))
    ∙ ap (λ b. (not (port.index == 0) && not (has_port port.tag (port.index - 1) second)) || b) (lower_same first second all same)

gap_named : (ports : List Port) (names : List (List ℕ)) → has_gap (with_names ports names) ≡ has_gap ports
gap_named ports names =
    any_named (λ tag index. not (index == 0) && not (has_port tag (index - 1) (with_names ports names))) ports names
    ∙ lower_same (with_names ports names) ports ports (λ tag index. any_named (λ t i. bytes_eq tag t && (index == i)) ports names)

-- if the texts are read, so are the texts of their ports under other names
pub read_named : (texts : List (List ℕ)) (ports : List Port) (names : List (List ℕ)) → ports_of texts ≡ Ok ports → list_all is_name names ≡ true → ports_of (map text_of (with_names ports names)) ≡ Ok (with_names ports names)
read_named texts ports names made good =
    let known = made_of texts ports made in
    let other = with_names ports names in
    let same : checked other ≡ Ok other = rw (twice_named ports names ∙ known.1, gap_named ports names ∙ known.2) refl in
    ap without_place (ap (λ r. after r checked) (named_again texts [] [] ports names refl known.0 good) ∙ same)
