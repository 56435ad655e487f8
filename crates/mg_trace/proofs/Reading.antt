-- Which event a line is: what stands after its word is read as the numbers of that event, and of no other event.
use Rattle.std.proofs.Common.{◌≡◌, ◌<◌, ◌≤◌, ◌^◌, ◌↔◌, ℕ, List, [], ◌∷◌, ◌++◌, length, drop, get_or, codes, decimal, Option, Some, None, IsNone, option_map, refl, sym, ap, subst, ◌∙◌, arith}
use Rattle.std.proofs.lemmas.Fmt.{decimal_injective}
use Rattle.std.proofs.lemmas.List.{append_cancel_right}
use Rattle.mg_calc.specs.declared.event.Event.{Event}
use Rattle.mg_calc.specs.declared.event.Event.TheVariants.{Deliver, Advance, Claim, Perform, Commit, Relax}
use Rattle.mg_calc.specs.declared.plan.Plan.{Plan}
use Rattle.mg_trace.specs.Event.{event_line, event_text, IsEventOf}
use Rattle.mg_calc.specs.Plan.{IsValid}
use Rattle.mg_trace.proofs.Numerals.{IsNumberRead, IsPairRead, same_pair, one_pair}

-- what a line is read as, without its line feed and with it
abbrev pub IsRead : Plan → List ℕ → Option Event → Type 0
IsRead plan line r = (event : Event) → (r ≡ Some event) ↔ (IsEventOf plan event × (line ≡ event_line event))

abbrev pub IsTextRead : Plan → List ℕ → Option Event → Type 0
IsTextRead plan text r = (event : Event) → (r ≡ Some event) ↔ (IsEventOf plan event × (text ≡ event_text event))

-- the first byte of the line of an event, and the second
at : (k : ℕ) (xs ys : List ℕ) → xs ≡ ys → get_or xs k 0 ≡ get_or ys k 0
at k xs ys e = ap (λ l. get_or l k 0) e

-- What a line is read as, by what the part after its word is read as. If the line is that of an event with this word, the event has
-- such a part.
read_as : {X : Type 0} (plan : Plan) (line : List ℕ) (make : X → Event) (r : Option X)
    → ((x : X) → r ≡ Some x → IsEventOf plan (make x) × (line ≡ event_line (make x)))
    → ((event : Event) → IsEventOf plan event → line ≡ event_line event → (x : X) × (r ≡ Some x) × (make x ≡ event))
    → IsRead plan line (option_map make r)
read_as plan line make None is found event =
    (λ e. absurd (cc), λ p. let f = found event p.0 p.1 in let no : None ≡ Some f.0 = f.1 in absurd (cc))
read_as plan line make (Some x) is found event = (
  λ e. (let same : make x ≡ event = cc in subst (λ v. IsEventOf plan v × (line ≡ event_line v)) same (is x refl)),
  λ p. (let f = found event p.0 p.1 in let same : x ≡ f.0 = (let s : Some x ≡ Some f.0 = f.1 in cc) in ap Some (ap make same ∙ f.2)),
)

module _ (plan : Plan) (line rest : List ℕ) where
  pub read-deliver : (r : Option ℕ) → line ≡ codes "deliver " ++ rest → IsNumberRead (length plan.edges) rest r → IsRead plan line (option_map (λ n. Deliver n) r)
  read-deliver r is number = read_as plan line (λ n. Deliver n) r
      (λ n e. (let p = (number n).0 e in (p.0, is ∙ ap (λ l. codes "deliver " ++ l) p.1))) found
    where
      found : (event : Event) → IsEventOf plan event → line ≡ event_line event → (n : ℕ) × (r ≡ Some n) × (Deliver n ≡ event)
      found (Deliver n) of e = (n, (number n).1 (of, ap (drop 8) (sym is ∙ e)), refl)
      found (Advance n) of e = absurd (omega (arith, at 0 _ _ (sym is ∙ e)))
      found (Claim n) of e = absurd (omega (arith, at 0 _ _ (sym is ∙ e)))
      found (Perform n m) of e = absurd (omega (arith, at 0 _ _ (sym is ∙ e)))
      found (Commit n m) of e = absurd (omega (arith, at 0 _ _ (sym is ∙ e)))
      found Relax of e = absurd (omega (arith, at 0 _ _ (sym is ∙ e)))

  pub read-advance : (r : Option ℕ) → line ≡ codes "advance " ++ rest → IsNumberRead (length plan.nodes) rest r → IsRead plan line (option_map (λ n. Advance n) r)
  read-advance r is number = read_as plan line (λ n. Advance n) r
      (λ n e. (let p = (number n).0 e in (p.0, is ∙ ap (λ l. codes "advance " ++ l) p.1))) found
    where
      found : (event : Event) → IsEventOf plan event → line ≡ event_line event → (n : ℕ) × (r ≡ Some n) × (Advance n ≡ event)
      found (Advance n) of e = (n, (number n).1 (of, ap (drop 8) (sym is ∙ e)), refl)
      found (Deliver n) of e = absurd (omega (arith, at 0 _ _ (sym is ∙ e)))
      found (Claim n) of e = absurd (omega (arith, at 0 _ _ (sym is ∙ e)))
      found (Perform n m) of e = absurd (omega (arith, at 0 _ _ (sym is ∙ e)))
      found (Commit n m) of e = absurd (omega (arith, at 0 _ _ (sym is ∙ e)))
      found Relax of e = absurd (omega (arith, at 0 _ _ (sym is ∙ e)))

  pub read-claim : (r : Option ℕ) → line ≡ codes "claim " ++ rest → IsNumberRead (length plan.nodes) rest r → IsRead plan line (option_map (λ n. Claim n) r)
  read-claim r is number = read_as plan line (λ n. Claim n) r
      (λ n e. (let p = (number n).0 e in (p.0, is ∙ ap (λ l. codes "claim " ++ l) p.1))) found
    where
      found : (event : Event) → IsEventOf plan event → line ≡ event_line event → (n : ℕ) × (r ≡ Some n) × (Claim n ≡ event)
      found (Claim n) of e = (n, (number n).1 (of, ap (drop 6) (sym is ∙ e)), refl)
      found (Deliver n) of e = absurd (omega (arith, at 0 _ _ (sym is ∙ e)))
      found (Advance n) of e = absurd (omega (arith, at 0 _ _ (sym is ∙ e)))
      found (Perform n m) of e = absurd (omega (arith, at 0 _ _ (sym is ∙ e)))
      found (Commit n m) of e = absurd (omega (arith, at 1 _ _ (sym is ∙ e)))
      found Relax of e = absurd (omega (arith, at 0 _ _ (sym is ∙ e)))

  pub read-perform : (r : Option (ℕ × ℕ)) → line ≡ codes "perform " ++ rest → IsPairRead (length plan.nodes) rest r → IsRead plan line (option_map (λ p. Perform p.0 p.1) r)
  read-perform r is pair = read_as plan line (λ p. Perform p.0 p.1) r
      (λ x e. (let p = (pair x.0 x.1).0 e in ((p.0, p.1), is ∙ ap (λ l. codes "perform " ++ l) p.2))) found
    where
      found : (event : Event) → IsEventOf plan event → line ≡ event_line event → (x : ℕ × ℕ) × (r ≡ Some x) × (Perform x.0 x.1 ≡ event)
      found (Perform n m) of e = ((n, m), (pair n m).1 (of.0, of.1, ap (drop 8) (sym is ∙ e)), refl)
      found (Deliver n) of e = absurd (omega (arith, at 0 _ _ (sym is ∙ e)))
      found (Advance n) of e = absurd (omega (arith, at 0 _ _ (sym is ∙ e)))
      found (Claim n) of e = absurd (omega (arith, at 0 _ _ (sym is ∙ e)))
      found (Commit n m) of e = absurd (omega (arith, at 0 _ _ (sym is ∙ e)))
      found Relax of e = absurd (omega (arith, at 0 _ _ (sym is ∙ e)))

  pub read-commit : (r : Option (ℕ × ℕ)) → line ≡ codes "commit " ++ rest → IsPairRead (length plan.nodes) rest r → IsRead plan line (option_map (λ p. Commit p.0 p.1) r)
  read-commit r is pair = read_as plan line (λ p. Commit p.0 p.1) r
      (λ x e. (let p = (pair x.0 x.1).0 e in ((p.0, p.1), is ∙ ap (λ l. codes "commit " ++ l) p.2))) found
    where
      found : (event : Event) → IsEventOf plan event → line ≡ event_line event → (x : ℕ × ℕ) × (r ≡ Some x) × (Commit x.0 x.1 ≡ event)
      found (Commit n m) of e = ((n, m), (pair n m).1 (of.0, of.1, ap (drop 7) (sym is ∙ e)), refl)
      found (Deliver n) of e = absurd (omega (arith, at 0 _ _ (sym is ∙ e)))
      found (Advance n) of e = absurd (omega (arith, at 0 _ _ (sym is ∙ e)))
      found (Claim n) of e = absurd (omega (arith, at 1 _ _ (sym is ∙ e)))
      found (Perform n m) of e = absurd (omega (arith, at 0 _ _ (sym is ∙ e)))
      found Relax of e = absurd (omega (arith, at 0 _ _ (sym is ∙ e)))

pub read-relax : (plan : Plan) (line : List ℕ) → line ≡ codes "relax" → IsRead plan line (Some Relax)
read-relax plan line is event = (λ e. (let same : Relax ≡ event = cc in subst (λ v. IsEventOf plan v × (line ≡ event_line v)) same (tt, is)), λ p. ap Some (found event p.1))
  where
    found : (event : Event) → line ≡ event_line event → Relax ≡ event
    found Relax e = refl
    found (Deliver n) e = absurd (omega (arith, at 0 _ _ (sym is ∙ e)))
    found (Advance n) e = absurd (omega (arith, at 0 _ _ (sym is ∙ e)))
    found (Claim n) e = absurd (omega (arith, at 0 _ _ (sym is ∙ e)))
    found (Perform n m) e = absurd (omega (arith, at 0 _ _ (sym is ∙ e)))
    found (Commit n m) e = absurd (omega (arith, at 0 _ _ (sym is ∙ e)))

-- With its line feed --

pub read-fed : (plan : Plan) (line text : List ℕ) (r : Option Event) → text ≡ line ++ 10 ∷ [] → IsRead plan line r → IsTextRead plan text r
read-fed plan line text r is read event = (
  λ e. (let p = (read event).0 e in (p.0, is ∙ ap (λ l. l ++ 10 ∷ []) p.1)),
  λ p. (read event).1 (p.0, append_cancel_right line (event_line event) (10 ∷ []) (sym is ∙ p.1)),
)

-- nothing is read exactly if the text is that of no event
pub none_is : (plan : Plan) (text : List ℕ) (r : Option Event) → IsTextRead plan text r → IsNone r ↔ ((event : Event) → ¬ (IsEventOf plan event × (text ≡ event_text event)))
none_is plan text None read = (λ _ event p. (let no : None ≡ Some event = (read event).1 p in absurd (cc)), λ _. refl)
none_is plan text (Some x) read = (λ no. absurd (cc), λ none. absurd (none x ((read x).0 refl)))

-- Each event is what its own line is read as --

number_itself : (count n : ℕ) → count ≤ 2 ^ 64 → n < count → IsNumberRead count (decimal n) (Some n)
number_itself count n few lt m = (
  λ e. (let same : n ≡ m = cc in (subst (λ k. k < count) same lt, ap decimal same)),
  λ p. ap Some (decimal_injective n m (omega (arith, lt)) (omega (arith, p.0)) p.1),
)

pair_itself : (count n k : ℕ) → count ≤ 2 ^ 64 → n < count → k < 2 ^ 64 → IsPairRead count (decimal n ++ 32 ∷ decimal k) (Some (n, k))
pair_itself count n k few lt fits m l = (
  λ e. (let both = same_pair (n, k) (m, l) e in subst (λ p. (p.0 < count) × (p.1 < 2 ^ 64) × (decimal n ++ 32 ∷ decimal k ≡ decimal p.0 ++ 32 ∷ decimal p.1)) both (lt, fits, refl)),
  λ p. one_pair n k m l (omega (arith, lt)) fits (omega (arith, p.0)) p.1 p.2,
)

own_line : (plan : Plan) (event : Event) → IsValid plan → IsEventOf plan event → IsRead plan (event_line event) (Some event)
own_line plan (Deliver n) valid of = read-deliver plan (event_line (Deliver n)) (decimal n) (Some n) refl (number_itself (length plan.edges) n (omega (arith, valid.ranges.edges)) of)
own_line plan (Advance n) valid of = read-advance plan (event_line (Advance n)) (decimal n) (Some n) refl (number_itself (length plan.nodes) n (omega (arith, valid.ranges.nodes)) of)
own_line plan (Claim n) valid of = read-claim plan (event_line (Claim n)) (decimal n) (Some n) refl (number_itself (length plan.nodes) n (omega (arith, valid.ranges.nodes)) of)
own_line plan (Perform n k) valid of =
    read-perform plan (event_line (Perform n k)) (decimal n ++ 32 ∷ decimal k) (Some (n, k)) refl (pair_itself (length plan.nodes) n k (omega (arith, valid.ranges.nodes)) of.0 of.1)
own_line plan (Commit n k) valid of =
    read-commit plan (event_line (Commit n k)) (decimal n ++ 32 ∷ decimal k) (Some (n, k)) refl (pair_itself (length plan.nodes) n k (omega (arith, valid.ranges.nodes)) of.0 of.1)
own_line plan Relax valid of = read-relax plan (codes "relax") refl

pub one_event : (plan : Plan) (one other : Event) → IsValid plan → IsEventOf plan one → IsEventOf plan other → event_text one ≡ event_text other → one ≡ other
one_event plan one other valid of_one of_other same =
    let found : Some one ≡ Some other = (own_line plan one valid of_one other).1 (of_other, append_cancel_right (event_line one) (event_line other) (10 ∷ []) same) in
    cc
