-- Which tags and indexes stand in a list of ports, and where.
use Rattle.std.proofs.Common.{ℕ, ◌+◌, ◌-◌, ◌<◌, ◌≡◌, ⊎_elim, if◌then◌else◌, List, [], ◌∷◌, ◌++◌, Bool, true, false, not, ◌&&◌, ◌||◌, ◌==◌, cond, Option, None, Some, Ok, Err, is_some, is_none, length, get_or, take, drop, arith, refl, sym, ◌∙◌, ap, subst, nat_lt, eqb}
use Rattle.std.specs.Prelude.{position}
use Rattle.std.specs.List.{list_any, position_or_len}
use Rattle.std.specs.Str.{bytes_eq}
use Rattle.std.specs.Cmp.Lexicographic.{nat_list_eq_equiv}
use Rattle.std.proofs.lemmas.Bool.{cases_Bool, cond-true, cond-false, eqb-true}
use Rattle.std.proofs.lemmas.Bool.Decides.{nat_tests}
use Rattle.std.proofs.lemmas.Slice.Eq.{bytes_eq-Decides}
use Rattle.std.proofs.lemmas.List.{take_more, take-append-drop, length-take-le, length-append}
use Rattle.std.proofs.lemmas.List.Folds.{position_or_len_push, list_any-append}
use Rattle.std.proofs.lemmas.List.Sums.{prefix_len-le-length}
use Rattle.mg_names.specs.Ports.{is_at, has_port, stands_twice, has_gap, place_of, after, ports_after, checked, placed_ports_of}
use Rattle.mg_names.specs.declared.fault.NameFault.TheVariants.{Gap}
use Rattle.mg_names.specs.declared.placed_fault.PlacedFault.{PlacedFault}
use Rattle.mg_names.specs.declared.placed_fault.PlacedFault.TheVariants.{Whole}
use Rattle.mg_names.specs.Code.Places.{kept_place, lacks_lower}
use Rattle.mg_names.specs.declared.places.Places.{Places}
use Rattle.mg_names.specs.declared.port.Port.{Port}

-- an element passes exactly if one has a place
any_before_end : {X : Type 0} (p : X → Bool) (xs : List X) → list_any p xs ≡ nat_lt (position_or_len p xs) (length xs)
any_before_end p [] = refl
any_before_end p (x ∷ xs) = grind (arith, nat_tests, any_before_end p xs)

some_of_test : (test : Bool) (n : ℕ) → test ≡ is_some (cond test (Some n) None)
some_of_test true n = refl
some_of_test false n = refl

pub any_has_place : {X : Type 0} (p : X → Bool) (xs : List X) → list_any p xs ≡ is_some (position p xs)
any_has_place p xs = any_before_end p xs ∙ some_of_test (nat_lt (position_or_len p xs) (length xs)) (position_or_len p xs)

-- the place after one more element
place_push_other : {X : Type 0} (p : X → Bool) (xs : List X) (y : X) → p y ≡ false → position p (xs ++ y ∷ []) ≡ position p xs
place_push_other p xs y other = grind (arith, nat_tests, position_or_len_push, prefix_len-le-length, length-append)

place_push_here : {X : Type 0} (p : X → Bool) (xs : List X) (y : X) → position p xs ≡ None → p y ≡ true → position p (xs ++ y ∷ []) ≡ Some (length xs)
place_push_here p xs y none here = grind (arith, nat_tests, position_or_len_push, prefix_len-le-length, length-append)

eqb_symmetric : (m n : ℕ) → eqb m n ≡ eqb n m
eqb_symmetric m n = grind (arith, nat_tests)

-- two ports stand at one place in either order
pub is_at_symmetric : (first second : Port) → is_at first.tag first.index second ≡ is_at second.tag second.index first
is_at_symmetric first second =
    ap (λ same. same && (first.index == second.index)) (nat_list_eq_equiv.symm first.tag second.tag)
    ∙ ap (λ same. bytes_eq second.tag first.tag && same) (eqb_symmetric first.index second.index)

regroup : (a b c d : Bool) → ((a || (b || false)) || (c || d)) ≡ ((a || c) || (b || d))
regroup true b c d = refl
regroup false true true d = refl
regroup false true false d = refl
regroup false false c d = refl

-- With one more port, a tag and index stand twice if they did before. They also do if a port before has the tag and index of the new port.
pub twice_push : (ports : List Port) (port : Port) → stands_twice (ports ++ port ∷ []) ≡ (stands_twice ports || has_port port.tag port.index ports)
twice_push [] port = refl
twice_push (first ∷ ports) port =
    ap (λ b. b || stands_twice (ports ++ port ∷ [])) (list_any-append (is_at first.tag first.index) ports (port ∷ []) ∙ ap (λ b. has_port first.tag first.index ports || (b || false)) (is_at_symmetric first port))
    ∙ (ap (λ b. (has_port first.tag first.index ports || (is_at port.tag port.index first || false)) || b) (twice_push ports port)
    ∙ regroup (has_port first.tag first.index ports) (is_at port.tag port.index first) (stands_twice ports) (has_port port.tag port.index ports))

either_true : (a b c d : Bool) → (c ≡ true → d ≡ true) → (a || c) ≡ true → ((a || b) || d) ≡ true
either_true true b c d next some = refl
either_true false true c d next some = refl
either_true false false c d next some = next some

-- what stands twice in a list stands twice in a longer one
pub twice_append : (ports more : List Port) → stands_twice ports ≡ true → stands_twice (ports ++ more) ≡ true
twice_append [] more twice = cc
twice_append (first ∷ ports) more twice =
    ap (λ b. b || stands_twice (ports ++ more)) (list_any-append (is_at first.tag first.index) ports more)
    ∙ either_true (has_port first.tag first.index ports) (has_port first.tag first.index more) (stands_twice ports) (stands_twice (ports ++ more)) (twice_append ports more) twice

-- what the loop over the ports keeps: the places of the ports so far, none of them twice
pub record IsTable (ports : List Port) (count : ℕ) (places : Places) : Type 0 where
  pub kept : (tag : List ℕ) (index : ℕ) → kept_place places tag index ≡ place_of tag index (take count ports)
  pub once : stands_twice (take count ports) ≡ false

both_true : (a b : Bool) → (a && b) ≡ true → (a ≡ true) × (b ≡ true)
both_true true b both = (refl, both)
both_true false b both = cc

pub same_place : (tag : List ℕ) (index : ℕ) (port : Port) → is_at tag index port ≡ true → (tag ≡ port.tag) × (index ≡ port.index)
same_place tag index port here =
    let parts = both_true (bytes_eq tag port.tag) (index == port.index) here in
    ((bytes_eq-Decides tag port.tag).0 parts.0, eqb-true index port.index parts.1)

-- a place of one more port
place_more : (ports : List Port) (port : Port) (tag : List ℕ) (index : ℕ) → place_of port.tag port.index ports ≡ None
    → place_of tag index (ports ++ port ∷ []) ≡ (if is_at tag index port then Some (length ports) else place_of tag index ports)
place_more ports port tag index absent =
    ⊎_elim
    (λ here.
    let same = same_place tag index port here in
    let P : List ℕ → Type 0 = λ t. place_of t port.index ports ≡ None in
    let Q : ℕ → Type 0 = λ i. place_of tag i ports ≡ None in
    let none : place_of tag index ports ≡ None = subst Q (sym same.1) (subst P (sym same.0) absent) in
    place_push_here (is_at tag index) ports port none here ∙ sym (cond-true (is_at tag index port) (Some (length ports)) (place_of tag index ports) here))
    (λ other. place_push_other (is_at tag index) ports port other ∙ sym (cond-false (is_at tag index port) (Some (length ports)) (place_of tag index ports) other))
    (cases_Bool (is_at tag index port))

none_of_test : {X : Type 0} (o : Option X) → is_some o ≡ false → o ≡ None
none_of_test None absent = refl
none_of_test (Some x) absent = cc

none_is_not_some : {X : Type 0} (o : Option X) → is_none o ≡ not (is_some o)
none_is_not_some None = refl
none_is_not_some (Some x) = refl

-- the ports up to one
take_port : (ports : List Port) (i : ℕ) (port : Port) → i < length ports → port ≡ get_or ports i port → take (i + 1) ports ≡ take i ports ++ port ∷ []
take_port ports i port inside here = take_more ports i port inside ∙ ap (λ p. take i ports ++ p ∷ []) (sym here)

no_place : (ports : List Port) (i : ℕ) (port : Port) (places : Places) → IsTable ports i places → has_port port.tag port.index (take i ports) ≡ is_some (kept_place places port.tag port.index)
no_place ports i port places table = any_has_place (is_at port.tag port.index) (take i ports) ∙ ap is_some (sym (table.kept port.tag port.index))

-- the table stands for one more port, if it had no place of the port's tag and index
pub table_more : (ports : List Port) (i : ℕ) (port : Port) (old new : Places) → i < length ports → port ≡ get_or ports i port → IsTable ports i old
    → is_some (kept_place old port.tag port.index) ≡ false
    → ((tag : List ℕ) (index : ℕ) → kept_place new tag index ≡ (if bytes_eq tag port.tag && index == port.index then Some i else kept_place old tag index))
    → IsTable ports (i + 1) new
table_more ports i port old new inside here table absent put =
    let upto : take (i + 1) ports ≡ take i ports ++ port ∷ [] = take_port ports i port inside here in
    let count : length (take i ports) ≡ i = length-take-le i ports (omega arith) in
    let none : place_of port.tag port.index (take i ports) ≡ None = none_of_test (place_of port.tag port.index (take i ports)) (ap is_some (sym (table.kept port.tag port.index)) ∙ absent) in
    record {
      kept = λ tag index.
          put tag index
          ∙ (ap (λ o. if is_at tag index port then Some i else o) (table.kept tag index)
          ∙ (ap (λ n. if is_at tag index port then Some n else place_of tag index (take i ports)) (sym count)
          ∙ (sym (place_more (take i ports) port tag index none) ∙ ap (place_of tag index) (sym upto))));
      once =
          ap stands_twice upto
          ∙ (twice_push (take i ports) port
          ∙ (ap (λ b. b || has_port port.tag port.index (take i ports)) table.once ∙ (no_place ports i port old table ∙ absent)));
    }

-- a port whose tag and index have a place
pub table_twice : (ports : List Port) (i : ℕ) (port : Port) (places : Places) → i < length ports → port ≡ get_or ports i port → IsTable ports i places
    → is_some (kept_place places port.tag port.index) ≡ true → stands_twice ports ≡ true
table_twice ports i port places inside here table present =
    let front : stands_twice (take (i + 1) ports) ≡ true =
    ap stands_twice (take_port ports i port inside here)
    ∙ (twice_push (take i ports) port
    ∙ (ap (λ b. b || has_port port.tag port.index (take i ports)) table.once ∙ (no_place ports i port places table ∙ present))) in
    sym (ap stands_twice (take-append-drop (i + 1) ports)) ∙ twice_append (take (i + 1) ports) (drop (i + 1) ports) front

-- tests that agree everywhere
any_same : {X : Type 0} (p q : X → Bool) → ((x : X) → p x ≡ q x) → (xs : List X) → list_any p xs ≡ list_any q xs
any_same p q same [] = refl
any_same p q same (x ∷ xs) = ap (λ b. b || list_any p xs) (same x) ∙ ap (λ b. q x || b) (any_same p q same xs)

-- a gap by the places kept
pub gap_by_places : (ports : List Port) (places : Places) → ((tag : List ℕ) (index : ℕ) → kept_place places tag index ≡ place_of tag index ports) → list_any (lacks_lower places) ports ≡ has_gap ports
gap_by_places ports places kept =
    any_same (lacks_lower places) (λ port. not (port.index == 0) && not (has_port port.tag (port.index - 1) ports))
    (λ port. ap (λ b. not (port.index == 0) && b)
    (ap is_none (kept port.tag (port.index - 1)) ∙ (none_is_not_some (place_of port.tag (port.index - 1) ports) ∙ ap not (sym (any_has_place (is_at port.tag (port.index - 1)) ports)))))
    ports

-- the test of ports by their table, if none of them stands twice
checked_by_places : (ports : List Port) (places : Places) → stands_twice ports ≡ false
    → ((tag : List ℕ) (index : ℕ) → kept_place places tag index ≡ place_of tag index ports)
    → checked ports ≡ (if list_any (lacks_lower places) ports then Err (Whole Gap) else Ok ports)
checked_by_places ports places once kept =
    let gap : checked ports ≡ (if has_gap ports then Err (Whole Gap) else Ok ports) = rw once refl in
    gap ∙ ap (λ b. if b then Err (Whole Gap) else Ok ports) (sym (gap_by_places ports places kept))

pub table_ok : (ports : List Port) (places : Places) → stands_twice ports ≡ false
    → ((tag : List ℕ) (index : ℕ) → kept_place places tag index ≡ place_of tag index ports)
    → list_any (lacks_lower places) ports ≡ false → checked ports ≡ Ok ports
table_ok ports places once kept filled = checked_by_places ports places once kept ∙ ap (λ b. if b then Err (Whole Gap) else Ok ports) filled

pub table_gap : (ports : List Port) (places : Places) → stands_twice ports ≡ false
    → ((tag : List ℕ) (index : ℕ) → kept_place places tag index ≡ place_of tag index ports)
    → list_any (lacks_lower places) ports ≡ true → checked ports ≡ Err (Whole Gap)
table_gap ports places once kept gap = checked_by_places ports places once kept ∙ ap (λ b. if b then Err (Whole Gap) else Ok ports) gap

-- the ports of texts, each spelled, and what the test of the whole list says
pub judged_ok : (texts : List (List ℕ)) (made ports slice : List Port) → ports_after [] texts ≡ Ok made → ports ≡ made → slice ≡ ports
    → checked slice ≡ Ok slice → placed_ports_of texts ≡ Ok ports
judged_ok texts made ports slice spelled same sliced fine =
    ap (λ r. after r checked) spelled ∙ (ap checked (sym same ∙ sym sliced) ∙ (fine ∙ ap (λ l. Ok l) sliced))

pub judged_err : (texts : List (List ℕ)) (made ports slice : List Port) (fault : PlacedFault) → ports_after [] texts ≡ Ok made → ports ≡ made → slice ≡ ports
    → checked slice ≡ Err fault → placed_ports_of texts ≡ Err fault
judged_err texts made ports slice fault spelled same sliced refused =
    ap (λ r. after r checked) spelled ∙ (ap checked (sym same ∙ sym sliced) ∙ refused)
