-- The turns of free nodes: what they take, and what holds of the logs.
use Rattle.std.proofs.Common.{◌≡◌, ℕ, zero, suc, ◌+◌, ◌<◌, ◌⊎◌, Bool, true, false, cond, ◌==◌, List, [], ◌∷◌, ◌++◌, map, filter, take, length, length-append, zip, slice_get, Option, None, Some, IfSome, option_map, refl, sym, ap, ap₂, ◌∙◌, subst, inl, inr, arith}
use Rattle.std.specs.List.{AllByRecursion, enumerate_from, filter_map, cons_option}
use Rattle.std.proofs.lemmas.Bool.{cases_Bool}
use Rattle.std.proofs.lemmas.Bool.Decides.{eqb_tells}
use Rattle.std.proofs.lemmas.List.{map-append, append-nil, append_assoc}
use Rattle.std.proofs.lemmas.List.Sums.{sum_by-cons}
use Rattle.std.proofs.lemmas.List.Elements.{All-from_recursion, recursion_from_All}
use Rattle.mg_value.specs.Payload.{Plain}
use Rattle.mg_value.specs.Packet.{Stamped}
use Rattle.mg_settled.specs.Prefix.{StreamPrefix}
use Rattle.mg_settled.specs.Settled.{port_of}
use Rattle.mg_calc.proofs.Earlier.{some_same}
use Rattle.mg_free.specs.declared.node.FreeNode.{FreeNode}
use Rattle.mg_free.specs.Free.{Arrival}
use Rattle.mg_free.specs.Logs.{arrived_at, IsLawfulSoFar, has_ended}
use Rattle.mg_free.specs.Rounds.{Taken, free_inputs, next_arrivals, last_of, with_next, turn}
use Rattle.mg_free.specs.Turns.{AreLawfulSoFar, taken_by, taken_by_all}
use Rattle.mg_free.proofs.Placing.{filter-both}

-- A turn takes something or closes the output, or it leaves all as it was.
closing : (ended : Bool) (taken : Taken) → (cond ended (record { log = taken.log; closed = true }) taken ≡ taken) ⊎ (taken_by taken < taken_by (cond ended (record { log = taken.log; closed = true }) taken))
closing false taken = inl refl
closing true taken = elim (cases_Bool taken.closed) [
  | inl shut ↦ inl (ap (λ (b : Bool). record { log = taken.log; closed = b }) (sym shut))
  | inr still ↦ inr (let none : cond {A = ℕ} taken.closed 1 0 ≡ 0 = ap (λ b. cond {A = ℕ} b 1 0) still in omega (arith, none))
]

turn_by : (streams : List (StreamPrefix Plain)) (free : FreeNode) (taken : Taken) (next : Option (Arrival Plain)) → (with_next streams free taken next ≡ taken) ⊎ (taken_by taken < taken_by (with_next streams free taken next))
turn_by streams free taken (Some arrival) = inr (let long = length-append taken.log (arrival ∷ []) in omega (arith, long))
turn_by streams free taken None = closing_by (has_ended free.law (free_inputs streams free)) (closing (has_ended free.law (free_inputs streams free)) taken)
  where
    closing_by : (ended : Bool) → (cond ended (record { log = taken.log; closed = true }) taken ≡ taken) ⊎ (taken_by taken < taken_by (cond ended (record { log = taken.log; closed = true }) taken))
        → (elim ended [ true ↦ record { log = taken.log; closed = true } | false ↦ taken ] ≡ taken) ⊎ (taken_by taken < taken_by (elim ended [ true ↦ record { log = taken.log; closed = true } | false ↦ taken ]))
    closing_by true h = h
    closing_by false h = h

abbrev pub turns : List (StreamPrefix Plain) → List FreeNode → List Taken → List Taken
turns streams frees takens = map (λ e. turn streams e.0 e.1) (zip frees takens)

pub turns_rise : (streams : List (StreamPrefix Plain)) (frees : List FreeNode) (takens : List Taken) → length frees ≡ length takens
    → (turns streams frees takens ≡ takens) ⊎ (taken_by_all takens < taken_by_all (turns streams frees takens))
turns_rise streams [] [] long = inl refl
turns_rise streams [] (t ∷ takens) long = absurd (omega (arith, long))
turns_rise streams (f ∷ frees) [] long = absurd (omega (arith, long))
turns_rise streams (f ∷ frees) (t ∷ takens) long =
    let before = sum_by-cons taken_by t takens in
    let after = sum_by-cons taken_by (turn streams f t) (turns streams frees takens) in
    elim (turn_by streams f t (last_of (next_arrivals streams f t))) [
      | inl same ↦ elim (turns_rise streams frees takens (omega (arith, long))) [
        | inl rest ↦ inl (ap₂ (λ (a : Taken) (b : List Taken). a ∷ b) same rest)
        | inr less ↦ inr (let equal = ap taken_by same in omega (arith, before, after, less, equal))
      ]
      | inr here ↦ inr (elim (turns_rise streams frees takens (omega (arith, long))) [
        | inl rest ↦ (let equal = ap taken_by_all rest in omega (arith, before, after, here, equal))
        | inr less ↦ omega (arith, before, after, less, here)
      ])
    ]

-- What comes next at a port.
pub record IsNext (inputs : List (StreamPrefix Plain)) (log : List (Arrival Plain)) (arrival : Arrival Plain) : Type 0 where
  pub port : arrival.port < length inputs
  pub next : slice_get (port_of inputs arrival.port).packets (length (arrived_at arrival.port log)) ≡ Some arrival.packet

abbrev pub arrivals_from : List (Arrival Plain) → ℕ → List (StreamPrefix Plain) → List (Arrival Plain)
arrivals_from log n inputs =
    filter_map (λ e. option_map (λ p. record { port = e.0; packet = p }) (slice_get e.1.packets (length (arrived_at e.0 log)))) (enumerate_from n inputs)

at_front : (front inputs : List (StreamPrefix Plain)) (s : StreamPrefix Plain) → port_of (front ++ s ∷ inputs) (length front) ≡ s
at_front [] inputs s = refl
at_front (x ∷ front) inputs s = at_front front inputs s

next_here : (whole : List (StreamPrefix Plain)) (log : List (Arrival Plain)) (n : ℕ) (s : StreamPrefix Plain) (rest : List (Arrival Plain)) (o : Option (Stamped Plain)) → n < length whole → port_of whole n ≡ s
    → slice_get s.packets (length (arrived_at n log)) ≡ o → AllByRecursion (IsNext whole log) rest → AllByRecursion (IsNext whole log) (cons_option (option_map (λ p. record { port = n; packet = p }) o) rest)
next_here whole log n s rest None le is at all = all
next_here whole log n s rest (Some p) le is at all =
    (record { port = le; next = subst (λ (t : StreamPrefix Plain). slice_get t.packets (length (arrived_at n log)) ≡ Some p) (sym is) at }, all)

pub all_next : (front inputs : List (StreamPrefix Plain)) (log : List (Arrival Plain)) → AllByRecursion (IsNext (front ++ inputs) log) (arrivals_from log (length front) inputs)
all_next front [] log = tt
all_next front (s ∷ inputs) log =
    let again : (front ++ s ∷ []) ++ inputs ≡ front ++ s ∷ inputs = append_assoc front (s ∷ []) inputs in
    let long : length (front ++ s ∷ []) ≡ length front + 1 = length-append front (s ∷ []) in
    let whole : length (front ++ s ∷ inputs) ≡ length front + suc (length inputs) = length-append front (s ∷ inputs) in
    let rest = subst (λ (l : List (StreamPrefix Plain)). AllByRecursion (IsNext l log) (arrivals_from log (length front + 1) inputs)) again
    (subst (λ (n : ℕ). AllByRecursion (IsNext ((front ++ s ∷ []) ++ inputs) log) (arrivals_from log n inputs)) long (all_next (front ++ s ∷ []) inputs log)) in
    next_here (front ++ s ∷ inputs) log (length front) s (arrivals_from log (length front + 1) inputs) (slice_get s.packets (length (arrived_at (length front) log)))
    (omega (arith, whole)) (at_front front inputs s) refl rest

pub last_keeps : {X : Type 0} (P : X → Type 0) (xs : List X) → AllByRecursion P xs → IfSome (last_of xs) P
last_keeps P [] all = tt
last_keeps P (x ∷ []) all = all.0
last_keeps P (x ∷ y ∷ xs) all = last_keeps P (y ∷ xs) all.1

-- A lawful log with the next arrival is lawful.
take_next : {X : Type 0} (xs : List X) (n : ℕ) (x : X) → slice_get xs n ≡ Some x → take (suc n) xs ≡ take n xs ++ x ∷ []
take_next [] n x e = absurd cc
take_next (y ∷ xs) zero x e = ap (λ (z : _). z ∷ []) (some_same y x e)
take_next (y ∷ xs) (suc n) x e = ap (λ l. y ∷ l) (take_next xs n x e)

pub arrived-both : (port : ℕ) (log : List (Arrival Plain)) (a : Arrival Plain) → arrived_at port (log ++ a ∷ []) ≡ arrived_at port log ++ arrived_at port (a ∷ [])
arrived-both port log a =
    ap (λ (l : List (Arrival Plain)). map (λ b. b.packet) l) (filter-both (λ (b : Arrival Plain). b.port == port) log (a ∷ []))
    ∙ map-append (λ (b : Arrival Plain). b.packet) (filter (λ (b : Arrival Plain). b.port == port) log) (filter (λ (b : Arrival Plain). b.port == port) (a ∷ []))

ports_with : (n : ℕ) (log : List (Arrival Plain)) (a : Arrival Plain) → AllByRecursion (λ b. b.port < n) log → a.port < n → AllByRecursion (λ b. b.port < n) (log ++ a ∷ [])
ports_with n [] a all le = (le, tt)
ports_with n (b ∷ log) a all le = (all.0, ports_with n log a all.1 le)

one_at : (port : ℕ) (a : Arrival Plain) → (a.port == port) ≡ true → arrived_at port (a ∷ []) ≡ a.packet ∷ []
one_at port a is = ap (λ b. map (λ (x : Arrival Plain). x.packet) (cond b (a ∷ []) [])) is

pub none_at : (port : ℕ) (a : Arrival Plain) → (a.port == port) ≡ false → arrived_at port (a ∷ []) ≡ []
none_at port a isnt = ap (λ b. map (λ (x : Arrival Plain). x.packet) (cond b (a ∷ []) [])) isnt

pub lawful_with : (inputs : List (StreamPrefix Plain)) (log : List (Arrival Plain)) (a : Arrival Plain) → IsLawfulSoFar inputs log → IsNext inputs log a → IsLawfulSoFar inputs (log ++ a ∷ [])
lawful_with inputs log a lawful next = record {
  ports = All-from_recursion (λ (b : Arrival Plain). b.port < length inputs) (log ++ a ∷ [])
      (ports_with (length inputs) log a (recursion_from_All (λ (b : Arrival Plain). b.port < length inputs) log lawful.ports) next.port);
  first = λ port le. elim (eqb_tells a.port port) [
    | inl (is, same) ↦ at_port port le is same
    | inr (isnt, other) ↦ (
        let whole : arrived_at port (log ++ a ∷ []) ≡ arrived_at port log = arrived-both port log a ∙ (ap (λ (l : List (Stamped Plain)). arrived_at port log ++ l) (none_at port a isnt) ∙ append-nil (arrived_at port log)) in
        whole ∙ (lawful.first port le ∙ sym (ap (λ (l : List (Stamped Plain)). take (length l) (port_of inputs port).packets) whole))
        )
  ];
}
  where
    at_port : (port : ℕ) → port < length inputs → (a.port == port) ≡ true → a.port ≡ port → arrived_at port (log ++ a ∷ []) ≡ take (length (arrived_at port (log ++ a ∷ []))) (port_of inputs port).packets
    at_port port le is same =
        let whole : arrived_at port (log ++ a ∷ []) ≡ arrived_at port log ++ a.packet ∷ [] = arrived-both port log a ∙ ap (λ (l : List (Stamped Plain)). arrived_at port log ++ l) (one_at port a is) in
        let long : length (arrived_at port log ++ a.packet ∷ []) ≡ length (arrived_at port log) + 1 = length-append (arrived_at port log) (a.packet ∷ []) in
        let here : slice_get (port_of inputs port).packets (length (arrived_at port log)) ≡ Some a.packet =
        subst (λ (n : ℕ). slice_get (port_of inputs n).packets (length (arrived_at n log)) ≡ Some a.packet) same next.next in
        let further = take_next (port_of inputs port).packets (length (arrived_at port log)) a.packet here in
        whole ∙ (ap (λ (l : List (Stamped Plain)). l ++ a.packet ∷ []) (lawful.first port le)
        ∙ (sym further ∙ sym (ap (λ (n : ℕ). take n (port_of inputs port).packets) (ap length whole ∙ (long ∙ (let z : length (arrived_at port log) + 1 ≡ suc (length (arrived_at port log)) = omega arith in z))))))

-- So a turn leaves the log lawful.
turn_lawful_by : (streams : List (StreamPrefix Plain)) (free : FreeNode) (taken : Taken) (next : Option (Arrival Plain)) → IsLawfulSoFar (free_inputs streams free) taken.log
    → IfSome next (IsNext (free_inputs streams free) taken.log) → IsLawfulSoFar (free_inputs streams free) (with_next streams free taken next).log
turn_lawful_by streams free taken (Some a) lawful next = lawful_with (free_inputs streams free) taken.log a lawful next
turn_lawful_by streams free taken None lawful next = by (has_ended free.law (free_inputs streams free))
  where
    after : Bool → Taken
    after ended = elim ended [ true ↦ record { log = taken.log; closed = true } | false ↦ taken ]

    by : (ended : Bool) → IsLawfulSoFar (free_inputs streams free) (after ended).log
    by true = lawful
    by false = lawful

pub turn_lawful : (streams : List (StreamPrefix Plain)) (free : FreeNode) (taken : Taken) → IsLawfulSoFar (free_inputs streams free) taken.log → IsLawfulSoFar (free_inputs streams free) (turn streams free taken).log
turn_lawful streams free taken lawful =
    turn_lawful_by streams free taken (last_of (next_arrivals streams free taken)) lawful
    (last_keeps (IsNext (free_inputs streams free) taken.log) (next_arrivals streams free taken) (all_next [] (free_inputs streams free) taken.log))

pub turns_lawful : (streams : List (StreamPrefix Plain)) (frees : List FreeNode) (takens : List Taken) → AreLawfulSoFar streams frees takens → AreLawfulSoFar streams frees (turns streams frees takens)
turns_lawful streams [] [] lawful = tt
turns_lawful streams [] (t ∷ takens) lawful = absurd lawful
turns_lawful streams (f ∷ frees) [] lawful = absurd lawful
turns_lawful streams (f ∷ frees) (t ∷ takens) lawful = (turn_lawful streams f t lawful.0, turns_lawful streams frees takens lawful.1)
