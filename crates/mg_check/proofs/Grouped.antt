-- Places that are kept by names, one more at a time.
use Rattle.std.proofs.Common.{ℕ, suc, zero, ◌+◌, ◌<◌, ◌≡◌, List, [], ◌∷◌, ◌++◌, Bool, true, false, Option, Some, cond, if◌then◌else◌, length, length-append, take, get_or, map, filter, ◌&&◌, is_none, None, refl, sym, ap, ◌∙◌, subst, arith}
use Rattle.std.specs.Prelude.{Vec}
use Rattle.std.specs.List.{enumerate_from}
use Rattle.std.specs.Ordering.{nat_cmp}
use Rattle.std.specs.Cmp.Lexicographic.{slice_cmp, nat_list_eq_equiv}
use Rattle.std.specs.Str.{bytes_eq}
use Rattle.std.specs.BTreeMap as tree
use Rattle.std.specs.BTreeMap.{BTreeMap}
use Rattle.std.proofs.lemmas.List.{take_more}
use Rattle.std.proofs.lemmas.List.Sums.{sum_by-append, sum_by-cons}
use Rattle.std.proofs.lemmas.Slice.Eq.{bytes_eq-Decides}
use Rattle.mg_config.specs.Config.{NodeView}
use Rattle.mg_calc.specs.declared.shape.OuterShape.{OuterShape}
use Rattle.mg_names.proofs.Keys.{at_bytes, updates_at_bytes}
use Rattle.mg_kinds.specs.Kinds.{kind_at}
use Rattle.mg_check.specs.Choosing.{outers_named, wants, wanted}
use Rattle.mg_check.specs.Code.Choices.{IsStock, IsWanted}
use Rattle.mg_check.specs.Code.Groups.{places_in, kept}
use Rattle.mg_check.specs.declared.groups.Groups.{Groups}

added : {B : Type 0} (test : Bool) (w : Vec ℕ B) (old : Option (Vec ℕ B)) (place : ℕ) → (test ≡ true → w.items ≡ places_in old ++ place ∷ [])
    → places_in (cond test (Some w) old) ≡ (if test then places_in old ++ place ∷ [] else places_in old)
added true w old place known = known refl
added false w old place known = refl

-- a map with one more place at the bytes of a name
pub place_added : {A B : Type 0} (bs name : List ℕ) (m before n : BTreeMap (Vec ℕ A) (Vec ℕ B)) (w : Vec ℕ B) (place : ℕ) → bs ≡ name → m ≡ before
    → tree.UpdatesBy (λ x y. slice_cmp nat_cmp x.items y.items) (λ k. slice_cmp nat_cmp bs k.items) m n (Some w)
    → w.items ≡ places_in (at_bytes before name) ++ place ∷ []
    → (cs : List ℕ) → places_in (at_bytes n cs) ≡ (if bytes_eq cs name then places_in (at_bytes before cs) ++ place ∷ [] else places_in (at_bytes before cs))
place_added {A} {B} bs name m before n w place copied kept updates put cs =
    let P : List ℕ → Type 0 = λ key. tree.UpdatesBy (λ x y. slice_cmp nat_cmp x.items y.items) (λ k. slice_cmp nat_cmp key k.items) before n (Some w) in
    let Q : BTreeMap (Vec ℕ A) (Vec ℕ B) → Type 0 = λ map. tree.UpdatesBy (λ x y. slice_cmp nat_cmp x.items y.items) (λ k. slice_cmp nat_cmp bs k.items) map n (Some w) in
    let here : P name = subst P copied (subst Q kept updates) in
    let flipped : bytes_eq name cs ≡ bytes_eq cs name = nat_list_eq_equiv.symm name cs in
    let found : at_bytes n cs ≡ cond (bytes_eq cs name) (Some w) (at_bytes before cs) = updates_at_bytes name before n (Some w) here cs ∙ ap (λ test. cond test (Some w) (at_bytes before cs)) flipped in
    ap places_in found
    ∙ added (bytes_eq cs name) w (at_bytes before cs) place (λ yes. put ∙ ap (λ l. places_in (at_bytes before l) ++ place ∷ []) (sym ((bytes_eq-Decides cs name).0 yes)))

-- the numbers of calculators of a name, counted from a number on
abbrev named_from : ℕ → List OuterShape → List ℕ → List ℕ
named_from k outers name = map (λ e. e.0) (filter (λ e. bytes_eq name e.1.shape.name) (enumerate_from k outers))

by_test : (test : Bool) (k : ℕ) (rest : List (ℕ × OuterShape)) (o : OuterShape) → map (λ e. e.0) (cond test ((k, o) ∷ rest) rest) ≡ (if test then k ∷ map (λ e. e.0) rest else map (λ e. e.0) rest)
by_test true k rest o = refl
by_test false k rest o = refl

named_cons : (k : ℕ) (o : OuterShape) (os : List OuterShape) (name : List ℕ) → named_from k (o ∷ os) name ≡ (if bytes_eq name o.shape.name then k ∷ named_from (k + 1) os name else named_from (k + 1) os name)
named_cons k o os name = by_test (bytes_eq name o.shape.name) k (filter (λ e. bytes_eq name e.1.shape.name) (enumerate_from (k + 1) os)) o

first_then : (here last : Bool) (k place place' : ℕ) (rest more : List ℕ) → place ≡ place' → more ≡ (if last then rest ++ place ∷ [] else rest)
    → (if here then k ∷ more else more) ≡ (if last then (if here then k ∷ rest else rest) ++ place' ∷ [] else (if here then k ∷ rest else rest))
first_then true true k place place' rest more count known = ap (λ l. k ∷ l) known ∙ ap (λ p. k ∷ (rest ++ p ∷ [])) count
first_then true false k place place' rest more count known = ap (λ l. k ∷ l) known
first_then false true k place place' rest more count known = known ∙ ap (λ p. rest ++ p ∷ []) count
first_then false false k place place' rest more count known = known

named_push : (k : ℕ) (os : List OuterShape) (o : OuterShape) (name : List ℕ)
    → named_from k (os ++ o ∷ []) name ≡ (if bytes_eq name o.shape.name then named_from k os name ++ (k + length os) ∷ [] else named_from k os name)
named_push k [] o name = named_cons k o [] name ∙ last (bytes_eq name o.shape.name) k (k + 0) (omega arith)
  where
    last : (test : Bool) (k place : ℕ) → k ≡ place → (if test then k ∷ [] else []) ≡ (if test then [] ++ place ∷ [] else [])
    last true k place count = ap (λ p. p ∷ []) count
    last false k place count = refl
named_push k (first ∷ os) o name =
    let count : (k + 1) + length os ≡ k + suc (length os) = omega arith in
    named_cons k first (os ++ o ∷ []) name
    ∙ (first_then (bytes_eq name first.shape.name) (bytes_eq name o.shape.name) k ((k + 1) + length os) (k + suc (length os)) (named_from (k + 1) os name) (named_from (k + 1) (os ++ o ∷ []) name) count (named_push (k + 1) os o name)
    ∙ ap (λ l. if bytes_eq name o.shape.name then l ++ (k + suc (length os)) ∷ [] else l) (sym (named_cons k first os name)))

length-take : {X : Type 0} (xs : List X) (i : ℕ) → i < length xs → length (take i xs) ≡ i
length-take [] i inside = absurd (omega arith)
length-take (x ∷ xs) zero inside = refl
length-take (x ∷ xs) (suc i) inside = ap suc (length-take xs i (omega arith))

-- one more user-supplied calculator
named_more : (os : List OuterShape) (i : ℕ) (o : OuterShape) (name : List ℕ) → i < length os → o ≡ get_or os i o
    → outers_named (take (i + 1) os) name ≡ (if bytes_eq name o.shape.name then outers_named (take i os) name ++ i ∷ [] else outers_named (take i os) name)
named_more os i o name inside here =
    let count : 0 + length (take i os) ≡ i = omega (arith, length-take os i inside) in
    ap (λ l. outers_named l name) (take_more os i o inside)
    ∙ (ap (λ p. outers_named (take i os ++ p ∷ []) name) (sym here)
    ∙ (named_push 0 (take i os) o name
    ∙ ap (λ n. if bytes_eq name o.shape.name then outers_named (take i os) name ++ n ∷ [] else outers_named (take i os) name) count))

pub stock_more : (old new : Groups) (os : List OuterShape) (i : ℕ) (o : OuterShape) (bytes : List ℕ) (number : ℕ) → i < length os → o ≡ get_or os i o → bytes ≡ o.shape.name → number ≡ i
    → ((name : List ℕ) → kept new name ≡ (if bytes_eq name bytes then kept old name ++ number ∷ [] else kept old name))
    → IsStock old (take i os) → IsStock new (take (i + 1) os)
stock_more old new os i o bytes number inside here is count put known = λ name.
    put name
    ∙ (ap (λ b. if bytes_eq name b then kept old name ++ number ∷ [] else kept old name) is
    ∙ (ap (λ n. if bytes_eq name o.shape.name then kept old name ++ n ∷ [] else kept old name) count
    ∙ (ap (λ l. if bytes_eq name o.shape.name then l ++ i ∷ [] else l) (known name) ∙ sym (named_more os i o name inside here))))

-- one more node that names a calculator
counted : (test : Bool) (old new : List ℕ) (place before after : ℕ) → new ≡ (if test then old ++ place ∷ [] else old) → length old ≡ before → after ≡ before + cond test 1 0 → length new ≡ after
counted true old new place before after put known count = ap length put ∙ (length-append old (place ∷ []) ∙ (ap (λ n. n + 1) known ∙ sym count))
counted false old new place before after put known count = ap length put ∙ (known ∙ (let same : before ≡ before + 0 = omega arith in same ∙ sym count))

wanted_push : (before : List NodeView) (node : NodeView) (name : List ℕ) → wanted (before ++ node ∷ []) name ≡ wanted before name + cond (wants name node) 1 0
wanted_push before node name =
    let f : NodeView → ℕ = λ n. cond (wants name n) 1 0 in
    let alone : f node + 0 ≡ f node = omega arith in
    sum_by-append f before (node ∷ []) ∙ ap (λ n. wanted before name + n) (sum_by-cons f node [] ∙ alone)

-- with a node that has no built-in calculator, and with one that has
pub wanted_more : (old new : Groups) (before : List NodeView) (node : NodeView) (bytes : List ℕ) (number : ℕ) → kind_at node ≡ None → bytes ≡ node.calculator
    → ((name : List ℕ) → kept new name ≡ (if bytes_eq name bytes then kept old name ++ number ∷ [] else kept old name))
    → IsWanted old before → IsWanted new (before ++ node ∷ [])
wanted_more old new before node bytes number none is put known = λ name.
    let added : kept new name ≡ (if bytes_eq name node.calculator then kept old name ++ number ∷ [] else kept old name) =
    put name ∙ ap (λ b. if bytes_eq name b then kept old name ++ number ∷ [] else kept old name) is in
    counted (bytes_eq name node.calculator) (kept old name) (kept new name) number (wanted before name) (wanted (before ++ node ∷ []) name) added (known name)
    (wanted_push before node name ∙ ap (λ k. wanted before name + cond (is_none k && bytes_eq name node.calculator) 1 0) none)

pub wanted_same : (groups : Groups) (before : List NodeView) (node : NodeView) → is_none (kind_at node) ≡ false → IsWanted groups before → IsWanted groups (before ++ node ∷ [])
wanted_same groups before node built known = λ name.
    let nothing : wanted before name + 0 ≡ wanted before name = omega arith in
    known name ∙ sym (wanted_push before node name ∙ ap (λ t. wanted before name + cond (t && bytes_eq name node.calculator) 1 0) built ∙ nothing)
