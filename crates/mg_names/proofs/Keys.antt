-- Maps whose keys are vectors of bytes: what a change at the bytes of one key leaves at any bytes.
use Rattle.std.proofs.Common.{ℕ, ◌≡◌, refl, sym, ap, ◌∙◌, subst, ⊎_elim, ◌&&◌, ◌==◌, None, Some, Result, Ok, Err, if◌then◌else◌, Bool, true, false, cond, Option, List, []}
use Rattle.std.specs.Prelude.{Vec, OnOk, option_map}
use Rattle.std.specs.Ordering.{is_eq, nat_cmp}
use Rattle.std.specs.Cmp.{eq_by_cmp_equiv}
use Rattle.std.specs.Cmp.Lexicographic.{slice_cmp, nat_list_eq_equiv}
use Rattle.std.specs.Str.{bytes_eq}
use Rattle.std.specs.BTreeMap as tree
use Rattle.std.specs.BTreeMap.{BTreeMap}
use Rattle.std.specs.Map.{lookup, IsKeyTest, AreApart, KeepsOthers}
use Rattle.std.proofs.lemmas.Cmp.{nat_list_cmp_total}
use Rattle.std.proofs.lemmas.Bool.{cases_Bool, cond-true, cond-false}
use Rattle.std.proofs.lemmas.Map.Text.{is_eq-slice_cmp}
use Rattle.mg_names.specs.Code.Places.{slot_at, slot_of}
use Rattle.std.proofs.lemmas.Slice.Eq.{bytes_eq-Decides}

apart : (bs cs ks : List ℕ) → bytes_eq bs cs ≡ false → bytes_eq bs ks ≡ true → bytes_eq cs ks ≡ false
apart bs cs ks n y = nat_list_eq_equiv.symm cs ks ∙ sym (nat_list_eq_equiv.congr bs ks cs y) ∙ n

apart_in_order : (bs cs ks : List ℕ) → bytes_eq bs cs ≡ false → is_eq (slice_cmp nat_cmp bs ks) ≡ true → is_eq (slice_cmp nat_cmp cs ks) ≡ false
apart_in_order bs cs ks n y = is_eq-slice_cmp cs ks ∙ apart bs cs ks n (sym (is_eq-slice_cmp bs ks) ∙ y)

other_entries : {K X : Type 0} (eq : K → K → Bool) (test : K → Bool) (old new : List (K × X)) → KeepsOthers eq test old new → (other : K → Bool) → IsKeyTest eq other → AreApart test other → lookup other new ≡ lookup other old
unfolding KeepsOthers
other_entries eq test old new h = h

-- g is w at bs, and f at other bytes
by_bytes : {W : Type 0} (f g : List ℕ → W) (bs : List ℕ) (w : W) → g bs ≡ w → ((cs : List ℕ) → bytes_eq bs cs ≡ false → g cs ≡ f cs) → (cs : List ℕ) → g cs ≡ cond (bytes_eq bs cs) w (f cs)
by_bytes f g bs w here other cs =
    ⊎_elim
    (λ same. subst (λ l. g l ≡ w) ((bytes_eq-Decides bs cs).0 same) here ∙ sym (cond-true (bytes_eq bs cs) w (f cs) same))
    (λ differs. other cs differs ∙ sym (cond-false (bytes_eq bs cs) w (f cs) differs))
    (cases_Bool (bytes_eq bs cs))

-- the value at bytes
abbrev pub at_bytes : {X A : Type 0} → BTreeMap (Vec ℕ A) X → List ℕ → Option X
at_bytes m bs = tree.get_by (λ k. slice_cmp nat_cmp bs k.items) m

pub updates_at_bytes : {X A : Type 0} (bs : List ℕ) (m n : BTreeMap (Vec ℕ A) X) (w : Option X)
    → tree.UpdatesBy (λ x y. slice_cmp nat_cmp x.items y.items) (λ k. slice_cmp nat_cmp bs k.items) m n w
    → (cs : List ℕ) → at_bytes n cs ≡ cond (bytes_eq bs cs) w (at_bytes m cs)
updates_at_bytes bs m n w h = by_bytes (at_bytes m) (at_bytes n) bs w h.1 (λ cs e. other_entries _ _ _ _ h.3 _ (λ x y. (eq_by_cmp_equiv nat_list_cmp_total).congr cs x.items y.items) (λ k. apart_in_order bs cs k.items e))

-- the slots that a map keeps at bytes
abbrev pub slots_at : {A B : Type 0} → BTreeMap (Vec ℕ A) (Vec (Option ℕ) B) → List ℕ → ℕ → Option ℕ
slots_at m bs at = slot_of (option_map (λ slots. slots.items) (at_bytes m bs)) at

slots_by : {B : Type 0} (test : Bool) (w : Vec (Option ℕ) B) (old : Option (Vec (Option ℕ) B)) (index place at : ℕ)
    → (test ≡ true → slot_at w.items at ≡ (if at == index then Some place else slot_of (option_map (λ slots. slots.items) old) at))
    → slot_of (option_map (λ slots. slots.items) (cond test (Some w) old)) at ≡ (if test && at == index then Some place else slot_of (option_map (λ slots. slots.items) old) at)
slots_by true w old index place at known = known refl
slots_by false w old index place at known = refl

-- a map with new slots at the bytes of a tag
pub slots_put : {A B : Type 0} (bs : List ℕ) (m n : BTreeMap (Vec ℕ A) (Vec (Option ℕ) B)) (w : Vec (Option ℕ) B) (index place : ℕ)
    → tree.UpdatesBy (λ x y. slice_cmp nat_cmp x.items y.items) (λ k. slice_cmp nat_cmp bs k.items) m n (Some w)
    → ((other : ℕ) → slot_at w.items other ≡ (if other == index then Some place else slots_at m bs other))
    → (cs : List ℕ) (at : ℕ) → slots_at n cs at ≡ (if bytes_eq cs bs && at == index then Some place else slots_at m cs at)
slots_put bs m n w index place updates slots cs at =
    let same : bytes_eq bs cs ≡ bytes_eq cs bs = nat_list_eq_equiv.symm bs cs in
    let found : at_bytes n cs ≡ cond (bytes_eq cs bs) (Some w) (at_bytes m cs) = updates_at_bytes bs m n (Some w) updates cs ∙ ap (λ test. cond test (Some w) (at_bytes m cs)) same in
    ap (λ o. slot_of (option_map (λ s. s.items) o) at) found
    ∙ slots_by (bytes_eq cs bs) w (at_bytes m cs) index place at (λ yes. slots at ∙ ap (λ l. if at == index then Some place else slots_at m l at) (sym ((bytes_eq-Decides cs bs).0 yes)))

-- a place is kept of a tag that had none before: the key is a copy of the tag's bytes
pub slots_put_first : {A B : Type 0} (bs tag : List ℕ) (m before n : BTreeMap (Vec ℕ A) (Vec (Option ℕ) B)) (none : List (Option ℕ)) (w : Vec (Option ℕ) B) (index place : ℕ)
    → bs ≡ tag → m ≡ before → none ≡ []
    → None ≡ at_bytes before tag
    → tree.UpdatesBy (λ x y. slice_cmp nat_cmp x.items y.items) (λ k. slice_cmp nat_cmp bs k.items) m n (Some w)
    → ((other : ℕ) → slot_at w.items other ≡ (if other == index then Some place else slot_at none other))
    → (cs : List ℕ) (at : ℕ) → slots_at n cs at ≡ (if bytes_eq cs tag && at == index then Some place else slots_at before cs at)
slots_put_first {A} {B} bs tag m before n none w index place copied same empty absent updates slots =
    let P : List ℕ → Type 0 = λ key. tree.UpdatesBy (λ x y. slice_cmp nat_cmp x.items y.items) (λ k. slice_cmp nat_cmp key k.items) before n (Some w) in
    let Q : BTreeMap (Vec ℕ A) (Vec (Option ℕ) B) → Type 0 = λ map. tree.UpdatesBy (λ x y. slice_cmp nat_cmp x.items y.items) (λ k. slice_cmp nat_cmp bs k.items) map n (Some w) in
    let here : P tag = subst P copied (subst Q same updates) in
    slots_put tag before n w index place here
    (λ other. slots other ∙ (ap (λ l. if other == index then Some place else slot_at l other) empty
    ∙ ap (λ found. if other == index then Some place else slot_of (option_map (λ s. s.items) found) other) absent))

-- what follows from what holds of an `Ok`
pub on_ok : {T E P Q : Type 0} (result : Result T E) → (P → Q) → OnOk result P → OnOk result Q
on_ok (Ok value) next known = next known
on_ok (Err fault) next known = tt
