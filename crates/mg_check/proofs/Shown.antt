-- The streams of a plan, place by place.
use Rattle.std.proofs.Common.{ℕ, suc, zero, ◌+◌, ◌≤◌, ◌≡◌, List, [], ◌∷◌, ◌++◌, Some, None, length, take, drop, refl, sym, ap, ◌∙◌, arith}
use Rattle.std.specs.Prelude.{slice_get}
use Rattle.mg_names.specs.declared.port.Port.{Port}
use Rattle.mg_subgraph.specs.Refusals.{port_names}
use Rattle.mg_calc.specs.Side.{PlainSide, given_at}
use Rattle.mg_calc.specs.declared.plan_stream.PlanStream.{PlanStream}
use Rattle.mg_calc.specs.declared.plan_stream.Producer.{Producer}
use Rattle.mg_check.specs.Code.Streams.{streams_of, given_from}
use Rattle.mg_check.specs.declared.inferred.Inferred.{Inferred}
use Rattle.mg_check.proofs.Filling.{moved_over, found}

none_at : {Y : Type 0} (xs : List Y) (i : ℕ) → length xs ≤ i → slice_get xs i ≡ None
none_at [] i past = refl
none_at (x ∷ xs) zero past = absurd (omega arith)
none_at (x ∷ xs) (suc i) past = none_at xs i (omega arith)

pub no_name : (names : List (List ℕ)) (mets : List Inferred) (writers : List Producer) (i : ℕ) → None ≡ slice_get names i → None ≡ slice_get (streams_of names mets writers) i
no_name [] mets writers i none = refl
no_name (n ∷ names) [] writers i none = refl
no_name (n ∷ names) (m ∷ mets) [] i none = refl
no_name (n ∷ names) (m ∷ mets) (w ∷ writers) zero none = cc
no_name (n ∷ names) (m ∷ mets) (w ∷ writers) (suc i) none = no_name names mets writers i none

pub no_inferred : (names : List (List ℕ)) (mets : List Inferred) (writers : List Producer) (i : ℕ) → None ≡ slice_get mets i → None ≡ slice_get (streams_of names mets writers) i
no_inferred [] mets writers i none = refl
no_inferred (n ∷ names) [] writers i none = refl
no_inferred (n ∷ names) (m ∷ mets) [] i none = refl
no_inferred (n ∷ names) (m ∷ mets) (w ∷ writers) zero none = cc
no_inferred (n ∷ names) (m ∷ mets) (w ∷ writers) (suc i) none = no_inferred names mets writers i none

pub no_writer : (names : List (List ℕ)) (mets : List Inferred) (writers : List Producer) (i : ℕ) → None ≡ slice_get writers i → None ≡ slice_get (streams_of names mets writers) i
no_writer [] mets writers i none = refl
no_writer (n ∷ names) [] writers i none = refl
no_writer (n ∷ names) (m ∷ mets) [] i none = refl
no_writer (n ∷ names) (m ∷ mets) (w ∷ writers) zero none = cc
no_writer (n ∷ names) (m ∷ mets) (w ∷ writers) (suc i) none = no_writer names mets writers i none

all_there : (names : List (List ℕ)) (mets : List Inferred) (writers : List Producer) (i : ℕ) (name : List ℕ) (inferred : Inferred) (writer : Producer) → Some name ≡ slice_get names i → Some inferred ≡ slice_get mets i → Some writer ≡ slice_get writers i
    → Some (record { name = name; kind = inferred.kind; producer = writer }) ≡ slice_get (streams_of names mets writers) i
all_there [] mets writers i name inferred writer a b c = cc
all_there (n ∷ names) [] writers i name inferred writer a b c = cc
all_there (n ∷ names) (m ∷ mets) [] i name inferred writer a b c = cc
all_there (n ∷ names) (m ∷ mets) (w ∷ writers) zero name inferred writer a b c =
    let same_name : name ≡ n = cc in
    let same_inferred : inferred ≡ m = cc in
    let same_writer : writer ≡ w = cc in
    ap (λ x. Some (record { name = x; kind = inferred.kind; producer = writer })) same_name
    ∙ (ap (λ x. Some (record { name = n; kind = x.kind; producer = writer })) same_inferred ∙ ap (λ x. Some (record { name = n; kind = m.kind; producer = x })) same_writer)
all_there (n ∷ names) (m ∷ mets) (w ∷ writers) (suc i) name inferred writer a b c = all_there names mets writers i name inferred writer a b c

pub all_named : (names : List (List ℕ)) (mets : List Inferred) (writers : List Producer) (i : ℕ) (text name : List ℕ) (inferred : Inferred) (writer : Producer) → text ≡ name → Some name ≡ slice_get names i → Some inferred ≡ slice_get mets i → Some writer ≡ slice_get writers i
    → Some (record { name = text; kind = inferred.kind; producer = writer }) ≡ slice_get (streams_of names mets writers) i
all_named names mets writers i text name inferred writer same a b c = ap (λ t. Some (record { name = t; kind = inferred.kind; producer = writer })) same ∙ all_there names mets writers i name inferred writer a b c

-- one more stream
take_suc : {X : Type 0} (xs : List X) (i : ℕ) (x : X) → Some x ≡ slice_get xs i → take (suc i) xs ≡ take i xs ++ x ∷ []
take_suc [] i x known = cc
take_suc (y ∷ xs) zero x known = let same : x ≡ y = cc in ap (λ z. z ∷ []) (sym same)
take_suc (y ∷ xs) (suc i) x known = ap (λ l. y ∷ l) (take_suc xs i x known)

take_found : {X : Type 0} (xs : List X) (i : ℕ) (x : X) → Some x ≡ slice_get xs i → take (i + 1) xs ≡ take i xs ++ x ∷ []
take_found xs i x known = let count : i + 1 ≡ suc i = omega arith in ap (λ k. take k xs) count ∙ take_suc xs i x known

pub one_stream_more : (new out all : List PlanStream) (i : ℕ) (stream : PlanStream) → new ≡ out ++ stream ∷ [] → Some stream ≡ slice_get all i → out ≡ take i all → new ≡ take (i + 1) all
one_stream_more new out all i stream put is known = put ∙ (ap (λ l. l ++ stream ∷ []) known ∙ sym (take_found all i stream is))

take_none : {X : Type 0} (xs : List X) (i : ℕ) → None ≡ slice_get xs i → take i xs ≡ xs
take_none [] zero none = refl
take_none [] (suc i) none = refl
take_none (x ∷ xs) zero none = cc
take_none (x ∷ xs) (suc i) none = ap (λ l. x ∷ l) (take_none xs i none)

pub streams_ended : (out all : List PlanStream) (i : ℕ) → None ≡ slice_get all i → out ≡ take i all → out ≡ all
streams_ended out all i none known = known ∙ take_none all i none

-- an input side packet of the graph
pub given_moved : (new out all : List PlainSide) (text : List ℕ) (ports : List Port) (i : ℕ) (port : Port) → new ≡ out ++ record { name = text; value = given_at i } ∷ [] → text ≡ port.name → Some port ≡ slice_get ports i
    → out ++ given_from i (port_names (drop i ports)) ≡ all → new ++ given_from (i + 1) (port_names (drop (i + 1) ports)) ≡ all
given_moved new out all text ports i port put same at known =
    moved_over new out (given_from i (port_names (drop i ports))) (given_from (i + 1) (port_names (drop (i + 1) ports))) all (record { name = port.name; value = given_at i })
    (put ∙ ap (λ n. out ++ record { name = n; value = given_at i } ∷ []) same)
    (ap (λ l. given_from i (port_names l)) (found ports i port at))
    known

pub streams_all : (out : List PlanStream) (names : List (List ℕ)) (mets : List Inferred) (writers : List Producer) (i : ℕ) → length names ≤ i → out ≡ take i (streams_of names mets writers) → out ≡ streams_of names mets writers
streams_all out names mets writers i past known = known ∙ take_none (streams_of names mets writers) i (no_name names mets writers i (sym (none_at names i past)))
