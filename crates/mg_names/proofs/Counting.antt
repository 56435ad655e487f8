-- The ports of texts, one text after another.
use Rattle.std.proofs.Common.{Bool, Err, List, None, Ok, Option, Result, Some, [], ap, ap₂, append-nil, append_assoc, arith, cond, count_by, drop, false, get_or, if◌then◌else◌, length, nat_le, refl, subst, suc, sym, take, true, ℕ, ◌&&◌, ◌++◌, ◌+◌, ◌<◌, ◌∙◌, ◌∷◌, ◌≡◌, ◌≤◌}
use Rattle.std.specs.Str.{bytes_eq}
use Rattle.std.proofs.lemmas.Bool.Decides.{nat_tests}
use Rattle.std.proofs.lemmas.Bool.{false≢true}
use Rattle.std.proofs.lemmas.List.{take_more, take_all, drop_more, take-append-drop}
use Rattle.std.proofs.lemmas.List.Sums.{sum_by-append, sum_by-cons}
use Rattle.mg_names.specs.Grammar.{is_tag, index_of}
use Rattle.mg_names.specs.Spelling.{parts_of, spelling_of, spelling_of_parts, named, tagged, named_at, indexed, is_untagged, is_one}
use Rattle.mg_names.specs.Ports.{after, port_of, lacks_index, port_at, port_after, placed_at, ports_after, checked, placed_ports_of}
use Rattle.mg_names.specs.declared.spelling.Spelling.{Spelling}
use Rattle.mg_names.specs.declared.fault.NameFault.{NameFault}
use Rattle.mg_names.specs.declared.placed_fault.PlacedFault.{PlacedFault}
use Rattle.mg_names.specs.declared.fault.NameFault.TheVariants.{BadTag, BadIndex}
use Rattle.mg_names.specs.declared.port.Port.{Port}
use Rattle.mg_names.proofs.ReadBack.{tag_is_some}

-- what is spelled has the tag that was read
named_tag : (tag : List ℕ) (index : Option ℕ) (name : List ℕ) (spelling : Spelling) → named tag index name ≡ Ok spelling → spelling.tag ≡ tag
named_tag tag index name spelling made = grind (arith, nat_tests)

named_at_tag : (tag : List ℕ) (index : Option ℕ) (name : List ℕ) (spelling : Spelling) → named_at tag index name ≡ Ok spelling → spelling.tag ≡ tag
named_at_tag tag None name spelling made = cc
named_at_tag tag (Some index) name spelling made = named_tag tag (Some index) name spelling made

-- if a test refuses, what is answered has passed the test
pub if_ok : {A : Type 0} (test : Bool) (result : Result A NameFault) (fault : NameFault) (value : A) → (if test then result else Err fault) ≡ Ok value → (test ≡ true) × (result ≡ Ok value)
if_ok true result fault value made = (refl, made)
if_ok false result fault value made = cc

tagged_tag : (tag name : List ℕ) (spelling : Spelling) → tagged tag name ≡ Ok spelling → (is_tag tag ≡ true) × (spelling.tag ≡ tag)
tagged_tag tag name spelling made =
    let passed = if_ok (is_tag tag) (named tag None name) BadTag spelling made in
    (passed.0, named_tag tag None name spelling passed.1)

indexed_tag : (tag index name : List ℕ) (spelling : Spelling) → indexed tag index name ≡ Ok spelling → (is_tag tag ≡ true) × (spelling.tag ≡ tag)
indexed_tag tag index name spelling made =
    let passed = if_ok (is_tag tag) (named_at tag (index_of index) name) BadTag spelling made in
    (passed.0, named_at_tag tag (index_of index) name spelling passed.1)

-- a spelling's tag is empty exactly if its text has one part
tag_of_parts : (parts : List (List ℕ)) (spelling : Spelling) → spelling_of_parts parts ≡ Ok spelling → bytes_eq spelling.tag [] ≡ is_one parts
tag_of_parts [] spelling made = cc
tag_of_parts (name ∷ []) spelling made = ap (λ tag. bytes_eq tag []) (named_tag [] None name spelling made)
tag_of_parts (tag ∷ name ∷ []) spelling made =
    let known : (is_tag tag ≡ true) × (spelling.tag ≡ tag) = tagged_tag tag name spelling made in
    ap (λ t. bytes_eq t []) known.1 ∙ tag_is_some tag known.0
tag_of_parts (tag ∷ index ∷ name ∷ []) spelling made =
    let known : (is_tag tag ≡ true) × (spelling.tag ≡ tag) = indexed_tag tag index name spelling made in
    ap (λ t. bytes_eq t []) known.1 ∙ tag_is_some tag known.0
tag_of_parts (tag ∷ index ∷ name ∷ other ∷ more) spelling made = cc

abbrev pub okay : Port → Result Port NameFault
okay port = Ok port

pub same_port : (first second : Port) → okay first ≡ okay second → first ≡ second
same_port first second same = cc

-- what follows a result that is no refusal
pub after_ok : {A B E : Type 0} (result : Result A E) (next : A → Result B E) (value : B) → after result next ≡ Ok value → (first : A) × (result ≡ Ok first) × (next first ≡ Ok value)
after_ok (Ok first) next value made = (first, refl, made)
after_ok (Err fault) next value made = cc

-- a test that refuses, and what is answered if it does not
unless_ok : {A : Type 0} (test : Bool) (fault : NameFault) (result : Result A NameFault) (value : A) → (if test then Err fault else result) ≡ Ok value → (test ≡ false) × (result ≡ Ok value)
unless_ok true fault result value made = cc
unless_ok false fault result value made = (refl, made)

-- where a port comes from
pub record ComesFrom (number : ℕ) (text : List ℕ) (port : Port) (spelling : Spelling) : Type 0 where
  pub room : lacks_index number text ≡ false
  pub spelled : spelling_of text ≡ Ok spelling
  pub made : port_of number spelling ≡ port

pub comes_from : (number : ℕ) (text : List ℕ) (port : Port) → port_at number text ≡ Ok port → (spelling : Spelling) × ComesFrom number text port spelling
comes_from number text port made =
    let passed = unless_ok (lacks_index number text) BadIndex (after (spelling_of text) (λ spelling. Ok (port_of number spelling))) port made in
    let from = after_ok (spelling_of text) (λ spelling. Ok (port_of number spelling)) port passed.1 in
    (from.0, record { room = passed.0; spelled = from.1; made = same_port (port_of number from.0) port from.2 })

pub untagged_is_empty : (number : ℕ) (text : List ℕ) (port : Port) → port_at number text ≡ Ok port → bytes_eq port.tag [] ≡ is_untagged text
untagged_is_empty number text port made =
    let from = comes_from number text port made in
    sym (ap (λ (p : Port). bytes_eq p.tag []) from.1.made) ∙ tag_of_parts (parts_of text) from.0 from.1.spelled

room_of : (test : Bool) (number : ℕ) → (test && nat_le 64 number) ≡ false → test ≡ true → number < 64
room_of true number room here = grind (arith, nat_tests)
room_of false number room here = absurd (false≢true here)

pub untagged_has_room : (number : ℕ) (text : List ℕ) (port : Port) → port_at number text ≡ Ok port → bytes_eq port.tag [] ≡ true → number < 64
untagged_has_room number text port made empty =
    let from = comes_from number text port made in
    room_of (is_untagged text) number from.1.room (sym (untagged_is_empty number text port made) ∙ empty)

-- what is placed and no refusal
pub placed_ok : {A : Type 0} (place : ℕ) (result : Result A NameFault) (value : A) → placed_at place result ≡ Ok value → result ≡ Ok value
placed_ok place (Ok first) value made =
    let same : first ≡ value = cc in
    ap Ok same
placed_ok place (Err cause) value made = cc

-- the ports of a text and of the texts after it
record Goes (before : List (List ℕ)) (text : List ℕ) (texts : List (List ℕ)) (made : List Port) (port : Port) (ports : List Port) : Type 0 where
  first : port_after before text ≡ Ok port
  rest : ports_after (before ++ text ∷ []) texts ≡ Ok ports
  all : port ∷ ports ≡ made

abbrev okays : List Port → Result (List Port) PlacedFault
okays ports = Ok ports

same_ports : (first second : List Port) → okays first ≡ okays second → first ≡ second
same_ports first second same = cc

goes : (before : List (List ℕ)) (text : List ℕ) (texts : List (List ℕ)) (made : List Port) → ports_after before (text ∷ texts) ≡ Ok made
    → (port : Port) × (ports : List Port) × Goes before text texts made port ports
goes before text texts made read =
    let first = after_ok (placed_at (length before) (port_after before text)) (λ port. after (ports_after (before ++ text ∷ []) texts) (λ ports. Ok (port ∷ ports))) made read in
    let rest = after_ok (ports_after (before ++ text ∷ []) texts) (λ ports. Ok (first.0 ∷ ports)) made first.2 in
    let both : Goes before text texts made first.0 rest.0 = record {
      first = placed_ok (length before) (port_after before text) first.0 first.1;
      rest = rest.1;
      all = same_ports (first.0 ∷ rest.0) made rest.2;
    } in
    (first.0, rest.0, both)

-- the ports of texts that spell ports, and then those of further texts
ports_behind : (texts before more : List (List ℕ)) (made : List Port) → ports_after before texts ≡ Ok made
    → ports_after before (texts ++ more) ≡ after (ports_after (before ++ texts) more) (λ ports. Ok (made ++ ports))
ports_behind [] before more made read =
    sym (kept (ports_after before more))
    ∙ ap (λ b. after (ports_after b more) (λ ports. Ok ([] ++ ports))) (sym (append-nil before))
    ∙ ap (λ m. after (ports_after (before ++ []) more) (λ ports. Ok (m ++ ports))) (same_ports [] made read)
  where
    kept : (r : Result (List Port) PlacedFault) → after r (λ ports. Ok ([] ++ ports)) ≡ r
    kept (Ok ports) = refl
    kept (Err fault) = refl
ports_behind (text ∷ texts) before more made read =
    let step = goes before text texts made read in
    let here = step.2 in
    ap (λ r. after (placed_at (length before) r) (λ p. after (ports_after (before ++ text ∷ []) (texts ++ more)) (λ ports. Ok (p ∷ ports)))) here.first
    ∙ ap (λ r. after r (λ ports. Ok (step.0 ∷ ports))) (ports_behind texts (before ++ text ∷ []) more step.1 here.rest)
    ∙ ap (λ b. after (after (ports_after b more) (λ ports. Ok (step.1 ++ ports))) (λ ports. Ok (step.0 ∷ ports))) (append_assoc before (text ∷ []) texts)
    ∙ joined (ports_after (before ++ text ∷ texts) more) step.0 step.1
    ∙ ap (λ m. after (ports_after (before ++ text ∷ texts) more) (λ ports. Ok (m ++ ports))) here.all
  where
    joined : (r : Result (List Port) PlacedFault) (p : Port) (m : List Port) → after (after r (λ ports. Ok (m ++ ports))) (λ ports. Ok (p ∷ ports)) ≡ after r (λ ports. Ok ((p ∷ m) ++ ports))
    joined (Ok ports) p m = refl
    joined (Err fault) p m = refl

-- how many ports there are, and how many of them are untagged
ports_known : (texts before : List (List ℕ)) (made : List Port) → ports_after before texts ≡ Ok made
    → (length made ≡ length texts) × (count_by (λ port. bytes_eq port.tag []) made ≡ count_by is_untagged texts)
ports_known [] before made read =
    subst (λ ports. (length ports ≡ 0) × (count_by (λ port. bytes_eq port.tag []) ports ≡ 0)) (same_ports [] made read) (refl, refl)
ports_known (text ∷ texts) before made read =
    let step = goes before text texts made read in
    let here = step.2 in
    let known = ports_known texts (before ++ text ∷ []) step.1 here.rest in
    subst (λ ports. (length ports ≡ suc (length texts)) × (count_by (λ port. bytes_eq port.tag []) ports ≡ count_by is_untagged (text ∷ texts))) here.all (
      ap suc known.0,
      sum_by-cons (λ port. cond (bytes_eq port.tag []) 1 0) step.0 step.1
          ∙ ap₂ (λ one more. cond {A = ℕ} one 1 0 + more) (untagged_is_empty (count_by is_untagged before) text step.0 here.first) known.1
          ∙ sym (sum_by-cons (λ t. cond (is_untagged t) 1 0) text texts),
    )

-- the next text spells a port
pub ports_next : (texts : List (List ℕ)) (text : List ℕ) (made more : List Port) (untagged : ℕ) (port : Port) → untagged ≡ count_by (λ p. bytes_eq p.tag []) made
    → port_at untagged text ≡ Ok port → more ≡ made ++ port ∷ [] → ports_after [] texts ≡ Ok made → ports_after [] (texts ++ text ∷ []) ≡ Ok more
ports_next texts text made more untagged port counted read are before =
    let known = ports_known texts [] made before in
    let here : port_after texts text ≡ Ok port = ap (λ n. port_at n text) (sym (counted ∙ known.1)) ∙ read in
    ports_behind texts [] (text ∷ []) made before
    ∙ ap (λ r. after (after (placed_at (length texts) r) (λ p. after (ports_after (texts ++ text ∷ []) []) (λ ports. Ok (p ∷ ports)))) (λ ports. Ok (made ++ ports))) here
    ∙ ap Ok (sym are)

-- it spells none, and is the first refusal
pub ports_stop : (texts more : List (List ℕ)) (text : List ℕ) (made : List Port) (place untagged : ℕ) (fault : PlacedFault) → untagged ≡ count_by (λ p. bytes_eq p.tag []) made
    → place ≡ length made → placed_at place (port_at untagged text) ≡ Err fault → ports_after [] texts ≡ Ok made → ports_after [] (texts ++ text ∷ more) ≡ Err fault
ports_stop texts more text made place untagged fault counted at refused before =
    let known = ports_known texts [] made before in
    let here : placed_at (length texts) (port_after texts text) ≡ Err fault =
    ap₂ (λ n k. placed_at n (port_at k text)) (sym (at ∙ known.0)) (sym (counted ∙ known.1)) ∙ refused in
    ports_behind texts [] (text ∷ more) made before
    ∙ ap (λ r. after (after r (λ p. after (ports_after (texts ++ text ∷ []) more) (λ ports. Ok (p ∷ ports)))) (λ ports. Ok (made ++ ports))) here

-- how many untagged ports there are with one port more
pub counted_more : (made more : List Port) (port : Port) (untagged count : ℕ) → untagged ≡ count_by (λ p. bytes_eq p.tag []) made → more ≡ made ++ port ∷ []
    → count ≡ untagged + (if bytes_eq port.tag [] then 1 else 0) → count ≡ count_by (λ p. bytes_eq p.tag []) more
counted_more made more port untagged count counted are one =
    one ∙ (ap (λ n. n + (if bytes_eq port.tag [] then 1 else 0)) counted
    ∙ (ap (λ n. count_by (λ p. bytes_eq p.tag []) made + n) (alone (bytes_eq port.tag []))
    ∙ (sym (sum_by-append (λ p. cond (bytes_eq p.tag []) 1 0) made (port ∷ []))
    ∙ ap (count_by (λ p. bytes_eq p.tag [])) (sym are))))
  where
    alone : (here : Bool) → (if here then 1 else 0) ≡ 0 + cond {A = ℕ} here 1 0
    alone true = refl
    alone false = refl

-- The texts of a list up to a place spell ports: so do those with the next text.
pub placed_more : (texts : List (List ℕ)) (i : ℕ) (d text : List ℕ) (ports : List Port) → i < length texts → text ≡ get_or texts i d
    → ports_after [] (take i texts ++ text ∷ []) ≡ Ok ports → ports_after [] (take (i + 1) texts) ≡ Ok ports
placed_more texts i d text ports inside same read =
    ap (ports_after []) (take_more texts i d inside) ∙ ap (λ t. ports_after [] (take i texts ++ t ∷ [])) (sym same) ∙ read

-- or the next text is the first refusal
pub placed_stop : (texts : List (List ℕ)) (i : ℕ) (d text : List ℕ) (fault : PlacedFault) → i < length texts → text ≡ get_or texts i d
    → ports_after [] (take i texts ++ text ∷ drop (i + 1) texts) ≡ Err fault → placed_ports_of texts ≡ Err fault
placed_stop texts i d text fault inside same read =
    let whole : texts ≡ take i texts ++ text ∷ drop (i + 1) texts =
    sym (take-append-drop i texts) ∙ ap (λ rest. take i texts ++ rest) (drop_more texts i d inside ∙ ap (λ t. t ∷ drop (i + 1) texts) (sym same)) in
    ap (λ ts. after (ports_after [] ts) checked) whole ∙ ap (λ r. after r checked) read

-- all texts have been read
pub placed_all : (texts : List (List ℕ)) (i : ℕ) (ports : List Port) → length texts ≤ i → ports_after [] (take i texts) ≡ Ok ports → placed_ports_of texts ≡ checked ports
placed_all texts i ports past read = ap (λ ts. after (ports_after [] ts) checked) (sym (take_all i texts past)) ∙ ap (λ r. after r checked) read
