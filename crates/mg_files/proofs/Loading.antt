-- What loads gave.
use Rattle.std.proofs.Common.{◌≡◌, ◌⊎◌, inl, inr, ◌<◌, ℕ, zero, suc, ◌+◌, ◌∙◌, List, [], ◌∷◌, ◌++◌, length, take, drop, get_or, Option, None, Some, IfSome, option_map, sym, ap, subst, refl, arith, append_assoc}
use Rattle.std.specs.Global.{Vec}
use Rattle.std.specs.Option.{option_and_then}
use Rattle.std.proofs.lemmas.List.{take_more, take-append-drop}
use Rattle.mg_subgraph.proofs.Steps.{map-push}
use Rattle.mg_edge.specs.Edge.{StoreTold, LoadGives, most_loaded}
use Rattle.mg_edge.specs.declared.store.Loaded.TheVariants.{Bytes}
use Rattle.mg_files.specs.Reads.{contents_of}
use Rattle.mg_answer.specs.Devices.{device}
use Rattle.mg_files.specs.Loads.{FilesTold, IsLoaded, AreLoaded, LoadedFront, there, loads_of}

pub gives-loaded : (told : Option (Option (List ℕ))) (content : Vec ℕ) → LoadGives told (Bytes content) → IsLoaded told content.items
gives-loaded None content gives = tt
gives-loaded (Some None) content gives = elim gives [ ]
gives-loaded (Some (Some bytes)) content gives = gives

-- one more load
pub loaded-more : (told : FilesTold) (names contents : List (List ℕ)) (name content : List ℕ)
    → AreLoaded told names contents → IsLoaded (told name) content → AreLoaded told (names ++ name ∷ []) (contents ++ content ∷ [])
loaded-more told [] [] name content given one = (one, tt)
loaded-more told [] (c ∷ contents) name content given one = elim given [ ]
loaded-more told (n' ∷ names) [] name content given one = elim given [ ]
loaded-more told (n' ∷ names) (c ∷ contents) name content given one = (given.0, loaded-more told names contents name content given.1 one)

pub loaded-step : (told : FilesTold) (names : List (List ℕ)) (i : ℕ) (name : List ℕ) (contents grown : List (Vec ℕ)) (content : Vec ℕ) → i < length names → name ≡ get_or names i name
    → grown ≡ contents ++ content ∷ [] → AreLoaded told (take i names) (contents_of contents) → IsLoaded (told name) content.items → AreLoaded told (take (i + 1) names) (contents_of grown)
loaded-step told names i name contents grown content inside here same given one =
    subst (λ (ns : List (List ℕ)). AreLoaded told ns (contents_of grown)) (sym (take_more names i name inside ∙ ap (λ n. take i names ++ n ∷ []) (sym here)))
    (subst (AreLoaded told (take i names ++ name ∷ [])) (sym (ap contents_of same ∙ map-push (λ v. v.items) contents content))
    (loaded-more told (take i names) (contents_of contents) name content.items given one))

-- one more name was loaded
pub loaded-then : (first before now names : List (List ℕ)) (loaded name : List ℕ) → before ≡ first ++ names → now ≡ before ++ loaded ∷ [] → loaded ≡ name → now ≡ first ++ (names ++ name ∷ [])
loaded-then first before now names loaded name was more is =
    more ∙ ap (λ l. before ++ l ∷ []) is ∙ ap (λ l. l ++ name ∷ []) was ∙ append_assoc first names (name ∷ [])

pub once-more : (first before now names : List (List ℕ)) (i : ℕ) (loaded name : List ℕ) → i < length names → name ≡ get_or names i name → loaded ≡ name
    → before ≡ first ++ take i names → now ≡ before ++ loaded ∷ [] → now ≡ first ++ take (i + 1) names
once-more first before now names i loaded name inside here is was more =
    loaded-then first before now (take i names) loaded name was more is
    ∙ ap (λ l. first ++ l) (sym (take_more names i name inside ∙ ap (λ n. take i names ++ n ∷ []) (sym here)))

-- the first names were loaded
front-of : (names : List (List ℕ)) (i : ℕ) (first now : StoreTold) → ((name : List ℕ) → now.content name ≡ first.content name) → now.loaded ≡ first.loaded ++ take i names → LoadedFront names (device first now)
front-of names i first now kept loaded = record { kept = kept; front = take i names; rest = drop i names; order = sym (take-append-drop i names); loaded = loaded }

-- these names, and perhaps one more
pub front-then : (names : List (List ℕ)) (i : ℕ) (loaded name : List ℕ) (first before now : StoreTold) → i < length names → name ≡ get_or names i name → loaded ≡ name
    → ((other : List ℕ) → now.content other ≡ first.content other) → before.loaded ≡ first.loaded ++ take i names
    → (now.loaded ≡ before.loaded) ⊎ (now.loaded ≡ before.loaded ++ loaded ∷ []) → LoadedFront names (device first now)
front-then names i loaded name first before now inside here is kept was (inl same) = front-of names i first now kept (same ∙ was)
front-then names i loaded name first before now inside here is kept was (inr more) =
    front-of names (i + 1) first now kept (once-more first.loaded before.loaded now.loaded names i loaded name inside here is was more)

pub loaded-count : (told : FilesTold) (names contents : List (List ℕ)) → AreLoaded told names contents → length contents ≡ length names
loaded-count told [] [] given = refl
loaded-count told [] (c ∷ contents) given = elim given [ ]
loaded-count told (n' ∷ names) [] given = elim given [ ]
loaded-count told (n' ∷ names) (c ∷ contents) given = ap suc (loaded-count told names contents given.1)

-- a list around the element at a place
pub split-at : {X : Type 0} (xs : List X) (i : ℕ) (x : X) → i < length xs → x ≡ get_or xs i x → xs ≡ take i xs ++ x ∷ drop (suc i) xs
split-at [] i x inside here = absurd (omega arith)
split-at (y ∷ xs) zero x inside here = ap (λ z. z ∷ xs) (sym here)
split-at (y ∷ xs) (suc i) x inside here = ap (λ l. y ∷ l) (split-at xs i x (omega arith) here)

-- If the store tells what the names have, loads gave just that.
one-known : (o : Option (Option (List ℕ))) (rest : Option (List (List ℕ))) (content : List ℕ) (contents : List (List ℕ)) → IsLoaded o content → IfSome rest (λ known. known ≡ contents)
    → IfSome (option_and_then (λ bytes. option_map (λ known. take most_loaded bytes ∷ known) rest) (there o)) (λ known. known ≡ content ∷ contents)
one-known None rest content contents is same = tt
one-known (Some None) rest content contents is same = elim is [ ]
one-known (Some (Some bytes)) None content contents is same = tt
one-known (Some (Some bytes)) (Some known) content contents is same = cc

loaded-known : (told : FilesTold) (names contents : List (List ℕ)) → AreLoaded told names contents → IfSome (loads_of told names) (λ known. known ≡ contents)
loaded-known told [] [] given = refl
loaded-known told [] (c ∷ contents) given = elim given [ ]
loaded-known told (n' ∷ names) [] given = elim given [ ]
loaded-known told (n' ∷ names) (c ∷ contents) given = one-known (told n') (loads_of told names) c contents given.0 (loaded-known told names contents given.1)

as-known : (o : Option (List (List ℕ))) (contents : List (List ℕ)) (P : List (List ℕ) → Type 0) → IfSome o (λ known. known ≡ contents) → P contents → IfSome o P
as-known None contents P same holds = tt
as-known (Some known) contents P same holds = subst P (sym same) holds

-- So what holds of what was given holds of that.
pub of-loads : (told : FilesTold) (names contents : List (List ℕ)) (P : List (List ℕ) → Type 0) → AreLoaded told names contents → P contents → IfSome (loads_of told names) P
of-loads told names contents P given holds = as-known (loads_of told names) contents P (loaded-known told names contents given) holds
