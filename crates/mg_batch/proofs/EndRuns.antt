-- What an EndLoop makes of ends of batches and of items. For each end it makes a list of the items up to that end that no earlier list
-- has. In its second form it gives no empty list.
use Rattle.std.proofs.Common.{◌≡◌, ◌==◌, ◌&&◌, ℕ, ◌+◌, ◌≤◌, nat_le, Bool, true, false, List, [], ◌∷◌, ◌++◌, map, length, Option, Some, None, ◌⊎◌, inl, inr, Ok, Err, refl, sym, ap, ap₂, subst, ◌∙◌, arith, le-leb, if◌then◌else◌}
use Rattle.std.specs.Option.{option_to_list}
use Rattle.std.proofs.lemmas.List.{append_assoc, append-nil}
use Rattle.std.proofs.lemmas.Bool.Decides.{nat_tests}
use Rattle.mg_time.specs.Time.{place_of, next}
use Rattle.mg_value.specs.Plain.{Plain, items, items_of, depth}
use Rattle.mg_value.specs.Packet.{Stamped}
use Rattle.mg_settled.specs.Settled.{TimedSet, times_of, packet_at}
use Rattle.mg_settled.proofs.Times.{In, Rises, map_agree}
use Rattle.mg_calc.specs.declared.law.Law.TheVariants.{EndLoop}
use Rattle.mg_calc.specs.declared.emission.Laid.{Laid}
use Rattle.mg_calc.specs.declared.cause.Cause.TheVariants.{WrongKind, TooDeep}
use Rattle.mg_calc.specs.State.{kept_list, full_places}
use Rattle.mg_calc.specs.Values.{number_of}
use Rattle.mg_calc.specs.Kinds.{has_wrong_kind}
use Rattle.mg_calc.specs.Answer.{emission_of}
use Rattle.mg_calc.specs.Batch.{with_item, list_or_bound, gathered}
use Rattle.mg_calc.specs.Law.{step}
use Rattle.mg_calc.proofs.StateLists.{kept-full_places}
use Rattle.mg_batch.specs.Code.Gathered.{with_more}
use Rattle.mg_batch.proofs.Runs.{Runs, emitted}
use Rattle.mg_batch.proofs.SetsOf.{Among, StandsFirst, StandsLater, first_or_later, found_first, found_others, none_first}

-- the payloads of packets
abbrev pub values : List (Stamped Plain) → List Plain
values ps = map (λ p. p.value) ps

-- the first packets that stand at a time or before, and all other packets
abbrev pub up_to : ℕ → List (Stamped Plain) → List (Stamped Plain)
up_to t [] = []
up_to t (p ∷ ps) = if nat_le p.at t then p ∷ up_to t ps else []

abbrev pub beyond : ℕ → List (Stamped Plain) → List (Stamped Plain)
beyond t [] = []
beyond t (p ∷ ps) = if nat_le p.at t then beyond t ps else p ∷ ps

-- the packet of a list at a time, if the list goes on
abbrev pub sent : Bool → ℕ → List Plain → Option (Stamped Plain)
sent empty_as_bound t list = if empty_as_bound && (length list == 0) then None else Some (record { at = t; value = items (items_of list) })

-- the list that goes on at the end of a batch
abbrev pub list_at : Bool → List Plain → Stamped Plain → List (Stamped Plain)
list_at form list end = option_to_list (sent form (place_of (number_of end.value)) list)

-- the lists that go on at the ends of batches, the first with what is gathered before
abbrev pub gathers : Bool → List Plain → List (Stamped Plain) → List (Stamped Plain) → List (Stamped Plain)
gathers form list [] ps = []
gathers form list (end ∷ ends) ps = list_at form (list ++ values (up_to end.at ps)) end ++ gathers form [] ends (beyond end.at ps)

-- what is emitted at a set, and what is gathered after it
abbrev lists_of : Bool → List Plain → Option (Stamped Plain) → List (Stamped Plain)
lists_of form list None = []
lists_of form list (Some end) = list_at form list end

abbrev left_of : List Plain → Option (Stamped Plain) → List Plain
left_of list None = list
left_of list (Some end) = []

pub record Gave (form : Bool) (list : List Plain) (end item : Option (Stamped Plain)) (given : List Plain × List Laid) : Type 0 where
  pub left : kept_list given.0 ≡ left_of (with_more list item) end
  pub lists : emitted 0 given.1 ≡ lists_of form (with_more list item) end

one_sent : (b : Bool) (t : ℕ) (list : List Plain)
    → emitted 0 (if b then record { packets = []; bound = Some (next t) } ∷ [] else emission_of (Some (record { at = t; value = items (items_of list) }) ∷ [])) ≡ option_to_list (if b then None else Some (record { at = t; value = items (items_of list) }))
one_sent true t list = refl
one_sent false t list = refl

gave_list : (form : Bool) (list : List Plain) (end : Option (Stamped Plain)) (item : Option (Stamped Plain)) (given : List Plain × List Laid) → gathered form end (Ok (with_more list item)) ≡ Ok given → Gave form list end item given
gave_list form list None item given is = (
    let same : (full_places (with_more list item), []) ≡ given = cc in
    subst (Gave form list None item) same (record { left = kept-full_places (with_more list item); lists = refl })
    )
gave_list form list (Some end) item given is = by_same cc
  where
    at : ℕ
    at = place_of (number_of end.value)

    by_same : ([], list_or_bound form at (with_more list item)) ≡ given → Gave form list (Some end) item given
    by_same same = subst (Gave form list (Some end) item) same (record { left = refl; lists = one_sent (form && (length (with_more list item) == 0)) at (with_more list item) })

gave : (form : Bool) (state list : List Plain) (t : ℕ) (end item : Option (Stamped Plain)) (given : List Plain × List Laid) → kept_list state ≡ list → step (EndLoop form) state t (end ∷ item ∷ []) ≡ Ok given → Gave form list end item given
gave form state list t end item given kept is = by_kind (has_wrong_kind (EndLoop form) (end ∷ item ∷ [])) is
  where
    by_item : (o : Option (Stamped Plain)) → gathered form end (with_item (kept_list state) o) ≡ Ok given → Gave form list end o given
    by_item None is = gave_list form list end None given (ap (λ l. gathered form end (Ok l)) (sym kept) ∙ is)
    by_item (Some p) is = by_depth (nat_le 16 (depth p.value)) is
      where
        by_depth : (b : Bool) → gathered form end (if b then Err TooDeep else Ok (kept_list state ++ p.value ∷ [])) ≡ Ok given → Gave form list end (Some p) given
        by_depth true is = absurd (never end is)
          where
            never : (e : Option (Stamped Plain)) → gathered form e (Err TooDeep) ≡ Ok given → ⊥
            never e same = cc
        by_depth false is = gave_list form list end (Some p) given (ap (λ l. gathered form end (Ok (l ++ p.value ∷ []))) (sym kept) ∙ is)

    by_kind : (b : Bool) → (if b then Err WrongKind else gathered form end (with_item (kept_list state) item)) ≡ Ok given → Gave form list end item given
    by_kind true is = absurd cc
    by_kind false is = by_item item is

-- an item up to the next end is gathered
item_first : (form : Bool) (list : List Plain) (ends ps : List (Stamped Plain)) (p : Stamped Plain) → ((e : Stamped Plain) (es : List (Stamped Plain)) → ends ≡ e ∷ es → p.at ≤ e.at)
    → gathers form (list ++ p.value ∷ []) ends ps ≡ gathers form list ends (p ∷ ps)
item_first form list [] ps p before = refl
item_first form list (e ∷ es) ps p before =
    rw (le-leb p.at e.at (before e es refl)) (ap (λ l. list_at form l e ++ gathers form [] es (beyond e.at ps)) (append_assoc list (p.value ∷ []) (values (up_to e.at ps))))

-- if all items stand after an end, the list goes on as it is
none_up_to : (t : ℕ) (ps : List (Stamped Plain)) → Rises (t + 1) (times_of ps) → (up_to t ps ≡ []) × (beyond t ps ≡ ps)
none_up_to t [] r = (refl, refl)
none_up_to t (p ∷ ps) r = (let no : nat_le p.at t ≡ false = grind (arith, nat_tests, r.0) in rw no (refl, refl))

end_first : (form : Bool) (list : List Plain) (e : Stamped Plain) (es ps : List (Stamped Plain)) → Rises (e.at + 1) (times_of ps) → gathers form list (e ∷ es) ps ≡ list_at form list e ++ gathers form [] es ps
end_first form list e es ps r =
    let none = none_up_to e.at ps r in
    ap₂ (λ xs ys. list_at form (list ++ values xs) e ++ gathers form [] es ys) none.0 none.1 ∙ ap (λ l. list_at form l e ++ gathers form [] es ps) (append-nil list)

-- over all its sets
abbrev pub sets : List (Stamped Plain) → List (Stamped Plain) → List ℕ → List (TimedSet Plain)
sets es is us = map (λ t. record { at = t; set = packet_at t es ∷ packet_at t is ∷ [] }) us

-- the sets after the first, of the packets that are left
others : (us : List ℕ) (es is fs js : List (Stamped Plain)) → ((t : ℕ) → In t us → packet_at t es ≡ packet_at t fs) → ((t : ℕ) → In t us → packet_at t is ≡ packet_at t js) → sets es is us ≡ sets fs js us
others us es is fs js same_e same_i =
    map_agree (λ t. record { at = t; set = packet_at t es ∷ packet_at t is ∷ [] }) (λ t. record { at = t; set = packet_at t fs ∷ packet_at t js ∷ [] }) us
    (λ t i. ap₂ (λ (o q : Option (Stamped Plain)). record { at = t; set = o ∷ q ∷ [] }) (same_e t i) (same_i t i))

-- the first set shows an end, an item, both or neither, and after it the calculator goes on
abbrev GoesOn : Bool → ℕ → List ℕ → List (Stamped Plain) → List (Stamped Plain) → List Plain → List (Stamped Plain) → Type 0
GoesOn form u us es is list ps = (end item : Option (Stamped Plain)) (fs js : List (Stamped Plain)) → packet_at u es ≡ end → packet_at u is ≡ item → Rises (u + 1) (times_of fs) → Rises (u + 1) (times_of js) → Among fs us → Among js us
    → sets es is us ≡ sets fs js us → ps ≡ lists_of form (with_more list item) end ++ gathers form (left_of (with_more list item) end) fs js

end_step : (form : Bool) (a u : ℕ) (us : List ℕ) (es is : List (Stamped Plain)) (list : List Plain) (ps : List (Stamped Plain)) → Rises a (u ∷ us) → GoesOn form u us es is list ps
    → StandsFirst u us es ⊎ StandsLater u us es → StandsFirst u us is ⊎ StandsLater u us is → ps ≡ gathers form list es is
end_step form a u us es is list ps ru goes_on (inl x) (inl y) =
    goes_on (Some x.first) (Some y.first) x.others y.others (found_first u us es x) (found_first u us is y) x.rises y.rises x.among y.among
    (others us es is x.others y.others (λ t i. found_others a u t us es x ru i) (λ t i. found_others a u t us is y ru i))
    ∙ sym (end_first form (list ++ y.first.value ∷ []) x.first x.others y.others (subst (λ (n : ℕ). Rises (n + 1) (times_of y.others)) (sym x.at) y.rises))
    ∙ item_first form list (x.first ∷ x.others) y.others y.first (λ e rest same. let is_first : x.first ≡ e = cc in let at = ap (λ (p : Stamped Plain). p.at) is_first in omega (arith, x.at, y.at, at))
    ∙ ap₂ (λ (fs js : List (Stamped Plain)). gathers form list fs js) (sym x.is) (sym y.is)
end_step form a u us es is list ps ru goes_on (inl x) (inr y) =
    goes_on (Some x.first) None x.others is (found_first u us es x) (none_first u us is y) x.rises y.rises x.among y.among (others us es is x.others is (λ t i. found_others a u t us es x ru i) (λ t i. refl))
    ∙ sym (end_first form list x.first x.others is (subst (λ (n : ℕ). Rises (n + 1) (times_of is)) (sym x.at) y.rises))
    ∙ ap (λ (fs : List (Stamped Plain)). gathers form list fs is) (sym x.is)
end_step form a u us es is list ps ru goes_on (inr x) (inl y) =
    goes_on None (Some y.first) es y.others (none_first u us es x) (found_first u us is y) x.rises y.rises x.among y.among (others us es is es y.others (λ t i. refl) (λ t i. found_others a u t us is y ru i))
    ∙ item_first form list es y.others y.first (λ e rest same. let r = subst (λ (fs : List (Stamped Plain)). Rises (u + 1) (times_of fs)) same x.rises in omega (arith, r.0, y.at))
    ∙ ap (λ (js : List (Stamped Plain)). gathers form list es js) (sym y.is)
end_step form a u us es is list ps ru goes_on (inr x) (inr y) =
    goes_on None None es is (none_first u us es x) (none_first u us is y) x.rises y.rises x.among y.among refl

pub end_runs : (form : Bool) (a b c : ℕ) (us : List ℕ) (es is : List (Stamped Plain)) (state list : List Plain) (ps : List (Stamped Plain)) → Rises a us → Rises b (times_of es) → Rises c (times_of is) → Among es us → Among is us
    → kept_list state ≡ list → Runs (EndLoop form) state (sets es is us) 0 ps → ps ≡ gathers form list es is
end_runs form a b c [] [] is state list ps ru re ri ae ai kept h = h
end_runs form a b c [] (e ∷ es) is state list ps ru re ri ae ai kept h = absurd (ae e.at (inl refl))
end_runs form a b c (u ∷ us) es is state list ps ru re ri ae ai kept h =
    end_step form a u us es is list ps ru
    (λ end item fs js at_e at_i rf rj af aj same.
    let answers : step (EndLoop form) state u (end ∷ item ∷ []) ≡ Ok h.0 = ap₂ (λ (o q : Option (Stamped Plain)). step (EndLoop form) state u (o ∷ q ∷ [])) (sym at_e) (sym at_i) ∙ h.2 in
    let g = gave form state list u end item h.0 kept answers in
    let rest = end_runs form (u + 1) (u + 1) (u + 1) us fs js h.0.0 (left_of (with_more list item) end) h.1 ru.1 rf rj af aj g.left (subst (λ (x : List (TimedSet Plain)). Runs (EndLoop form) h.0.0 x 0 h.1) same h.4) in
    h.3 ∙ ap₂ (λ (xs ys : List (Stamped Plain)). xs ++ ys) g.lists rest)
    (first_or_later a b u us es ru re ae) (first_or_later a c u us is ru ri ai)
