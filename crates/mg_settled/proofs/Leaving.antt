-- Packets without those at the times that pass a test.
use Rattle.std.proofs.Common.{◌≡◌, ℕ, zero, suc, Bool, true, false, not, inl, inr, List, [], ◌∷◌, take, drop, filter, ap, refl, sym, ◌∙◌, eqb, eqb-true, subst}
use Rattle.std.specs.List.{AllByRecursion}
use Rattle.std.proofs.lemmas.Bool.{cases_Bool, false≢true}
use Rattle.std.proofs.lemmas.List.{take-map, drop-map}
use Rattle.mg_value.specs.Packet.{Stamped}
use Rattle.mg_settled.specs.Settled.{times_of, packet_at}
use Rattle.mg_settled.proofs.Times.{In}

abbrev pub left_of : {X : Type 0} → (ℕ → Bool) → List (Stamped X) → List (Stamped X)
left_of test ps = filter (λ p. not (test p.at)) ps

pub In-left_of_from : {X : Type 0} (test : ℕ → Bool) (t : ℕ) (ps : List (Stamped X)) → In t (times_of (left_of test ps)) → In t (times_of ps) × (test t ≡ false)
In-left_of_from test t [] i = absurd i
In-left_of_from test t (p ∷ ps) i = elim (cases_Bool (test p.at)) [
  | inl goes ↦ (let j : In t (times_of (left_of test ps)) = rw goes at i in let rest = In-left_of_from test t ps j in (inr rest.0, rest.1))
  | inr stays ↦ (let j : In t (p.at ∷ times_of (left_of test ps)) = rw stays at i in
      elim j [ inl e ↦ (inl e, rw (← e) stays) | inr k ↦ (let rest = In-left_of_from test t ps k in (inr rest.0, rest.1)) ])
]

pub In-left_of_to : {X : Type 0} (test : ℕ → Bool) (t : ℕ) (ps : List (Stamped X)) → test t ≡ false → In t (times_of ps) → In t (times_of (left_of test ps))
In-left_of_to test t [] out i = i
In-left_of_to test t (p ∷ ps) out i = elim (cases_Bool (test p.at)) [
  | inl goes ↦ rw goes (elim i [ inl e ↦ absurd (let clash : test t ≡ true = rw (← e) goes in false≢true (sym out ∙ clash)) | inr j ↦ In-left_of_to test t ps out j ])
  | inr stays ↦ rw stays (elim i [ inl e ↦ inl e | inr j ↦ inr (In-left_of_to test t ps out j) ])
]

pub packet_at-left_of : {X : Type 0} (test : ℕ → Bool) (t : ℕ) (ps : List (Stamped X)) → test t ≡ false → packet_at t (left_of test ps) ≡ packet_at t ps
packet_at-left_of test t [] out = refl
packet_at-left_of test t (p ∷ ps) out = elim (cases_Bool (test p.at)) [
  | inl goes ↦ (let other : eqb p.at t ≡ false = elim (cases_Bool (eqb p.at t)) [
    | inl same ↦ absurd (let clash : test t ≡ true = rw (eqb-true p.at t same) at goes in false≢true (sym out ∙ clash))
    | inr differs ↦ differs
  ] in
      rw (goes, other) (packet_at-left_of test t ps out))
  | inr stays ↦ rw stays (elim (cases_Bool (eqb p.at t)) [
    | inl same ↦ rw same refl
    | inr differs ↦ rw differs (packet_at-left_of test t ps out)
  ])
]

-- if the first packets go and no other packet does, the others are left
pub left_of-all : {X : Type 0} (test : ℕ → Bool) (ps : List (Stamped X)) → AllByRecursion (λ p. test p.at ≡ false) ps → left_of test ps ≡ ps
left_of-all test [] stay = refl
left_of-all {X} test (p ∷ ps) stay = rw stay.0 (ap (λ (rest : List (Stamped X)). p ∷ rest) (left_of-all test ps stay.1))

pub left_of-first : {X : Type 0} (test : ℕ → Bool) (n : ℕ) (ps : List (Stamped X)) → AllByRecursion (λ p. test p.at ≡ true) (take n ps) → AllByRecursion (λ p. test p.at ≡ false) (drop n ps) → left_of test ps ≡ drop n ps
left_of-first test zero ps go stay = left_of-all test ps stay
left_of-first test (suc n) [] go stay = refl
left_of-first test (suc n) (p ∷ ps) go stay = rw go.0 (left_of-first test n ps go.1 stay)

-- what is found after packets that go, at a time that doesn't
pub packet_at-drop : {X : Type 0} (test : ℕ → Bool) (t n : ℕ) (ps : List (Stamped X)) → AllByRecursion (λ p. test p.at ≡ true) (take n ps) → test t ≡ false → packet_at t (drop n ps) ≡ packet_at t ps
packet_at-drop test t zero ps go out = refl
packet_at-drop test t (suc n) [] go out = refl
packet_at-drop test t (suc n) (p ∷ ps) go out =
    let other : eqb p.at t ≡ false = elim (cases_Bool (eqb p.at t)) [
      | inl same ↦ absurd (let clash : test t ≡ true = rw (eqb-true p.at t same) at go.0 in false≢true (sym out ∙ clash))
      | inr differs ↦ differs
    ] in
    rw other (packet_at-drop test t n ps go.1 out)

-- what holds of each time of some packets, and of each packet's time
pub each-packet : {X : Type 0} (P : ℕ → Type 0) (ps : List (Stamped X)) → ((t : ℕ) → In t (times_of ps) → P t) → AllByRecursion (λ p. P p.at) ps
each-packet P [] each = tt
each-packet P (p ∷ ps) each = (each p.at (inl refl), each-packet P ps (λ t i. each t (inr i)))

pub each-time : {X : Type 0} (P : ℕ → Type 0) (ps : List (Stamped X)) → AllByRecursion (λ p. P p.at) ps → (t : ℕ) → In t (times_of ps) → P t
each-time P [] all t i = absurd i
each-time P (p ∷ ps) all t i = elim i [ inl e ↦ subst P e all.0 | inr j ↦ each-time P ps all.1 t j ]

-- the times of the first packets, and of the others
pub times-take : {X : Type 0} (n : ℕ) (ps : List (Stamped X)) → times_of (take n ps) ≡ take n (times_of ps)
times-take n ps = sym (take-map (λ p. p.at) n ps)

pub times-drop : {X : Type 0} (n : ℕ) (ps : List (Stamped X)) → times_of (drop n ps) ≡ drop n (times_of ps)
times-drop n ps = sym (drop-map (λ p. p.at) n ps)
