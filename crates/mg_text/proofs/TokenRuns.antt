-- How the machine runs through names, words and numbers.
use Rattle.std.proofs.Common.{◌≡◌, ℕ, List, [], ◌∷◌, ◌++◌, Bool, true, false, not, ◌&&◌, cond, Some, None, refl, sym, ap, ◌∙◌, append_assoc, option_and_then}
use Rattle.std.proofs.lemmas.List.{append-nil}
use Rattle.mg_text.specs.declared.parts.Class.{Class}
use Rattle.mg_text.specs.declared.parts.Class.TheVariants.{BracketOpen, Minus, Dot, Zero, One, OctalDigit, Digit, LetterE, LetterF, HexLetter, LetterX, LetterN, LetterR, LetterT, Letter}
use Rattle.mg_text.specs.declared.parts.Slot.{Slot}
use Rattle.mg_text.specs.declared.parts.Slot.TheVariants as slots
use Rattle.mg_text.proofs.Spelled.{NameBegins, by_letter, by_bracket, NumberBegins, by_minus, with_no_sign, UnsignedBegins, by_point, by_digit, first_part, word_scalar}
use Rattle.mg_text.specs.declared.state.NamePart.{NamePart}
use Rattle.mg_text.specs.declared.state.NamePart.TheVariants as np
use Rattle.mg_text.specs.declared.state.ScalarPart.{ScalarPart}
use Rattle.mg_text.specs.declared.state.ScalarPart.TheVariants as sp
use Rattle.mg_text.specs.Byte.{class_of, is_letter, is_digit, is_hex, is_word_byte, joins}
use Rattle.mg_text.specs.Tree.{word, number, Fields, none, scalar, append}
use Rattle.mg_text.specs.Grammar as g
use Rattle.mg_text.specs.Grammar.{Apart, Place, start, named, valued, opened, element, after, scalar_slot}
use Rattle.mg_text.specs.Code.Machine.{at, naming, token, Frame, State, moves, settled, settled_place, token_spot, letter_spot, step_at, step_naming, step_token, final, accepts, outcome, name_next, scalar_next, is_whole_name, is_whole_scalar, kind_of}
use Rattle.mg_text.proofs.Choices.{some_same, if_so, both}
use Rattle.mg_text.proofs.Names.{NameEnds}
use Rattle.mg_text.proofs.Scalars.{ScalarEnds, same_kind}
use Rattle.mg_text.proofs.Runs.{st, go}

-- names

name_stops : (part : NamePart) (c : Class) → is_whole_name part ≡ true → joins c ≡ false → name_next part c ≡ None
name_stops np.Word Dot w j = refl
name_stops np.Word c w j = ap (λ x. cond x (Some np.Word) None) j
name_stops np.Closed c w j = refl
name_stops _ c w j = cc

final_named : (d : Fields) (fs : List Frame) (n : List ℕ) → final d fs (named n) ≡ None
final_named d [] n = refl
final_named d (f ∷ fs) n = refl

pub naming_run : (d : Fields) (fs : List Frame) (part : NamePart) (bytes y v : List ℕ) → NameEnds part y → Apart v
    → outcome (st d fs (naming part bytes)) (y ++ v) ≡ outcome (st d fs (at (named (bytes ++ y)))) v
naming_run d fs part bytes [] [] ends apart = sym (final_named d fs (bytes ++ []))
naming_run d fs part bytes [] (b ∷ v) ends apart =
    ap (option_and_then (λ next. outcome next v)) (
    ap (step_naming (st d fs (naming part bytes)) part bytes (class_of b) b) (name_stops part (class_of b) ends apart)
    ∙ if_so (is_whole_name part && not (joins (class_of b))) None (both (is_whole_name part) (joins (class_of b)) ends apart))
    ∙ ap (λ z. outcome (st d fs (at (named z))) (b ∷ v)) (sym (append-nil bytes))
naming_run d fs part bytes (b ∷ y) v (q, e, ends) apart =
    go d fs (naming part bytes) d fs (naming q (bytes ++ b ∷ [])) b (class_of b) (y ++ v) refl (ap (step_naming (st d fs (naming part bytes)) part bytes (class_of b) b) e)
    ∙ naming_run d fs q (bytes ++ b ∷ []) y v ends apart ∙ ap (λ z. outcome (st d fs (at (named z))) v) (append_assoc bytes (b ∷ []) y)

start_letter : (s : State) (f : Bool) (c : Class) (b : ℕ) → is_letter c ≡ true → step_at s (start f) c b ≡ moves s (Some (naming np.Word (b ∷ [])))
start_letter s f LetterE b e = refl
start_letter s f LetterF b e = refl
start_letter s f HexLetter b e = refl
start_letter s f LetterX b e = refl
start_letter s f LetterN b e = refl
start_letter s f LetterR b e = refl
start_letter s f LetterT b e = refl
start_letter s f Letter b e = refl
start_letter s f _ b e = cc

pub name_run : (d : Fields) (fs : List Frame) (f : Bool) (n v : List ℕ) → NameBegins n → Apart v → outcome (st d fs (at (start f))) (n ++ v) ≡ outcome (st d fs (at (named n))) v
name_run d fs f n v (by_letter {b = b} {y = y} k ends) apart =
    go d fs (at (start f)) d fs (naming np.Word (b ∷ [])) b (class_of b) (y ++ v) refl (start_letter (st d fs (at (start f))) f (class_of b) b k)
    ∙ naming_run d fs np.Word (b ∷ []) y v ends apart
name_run d fs f n v (by_bracket {b = b} {y = y} k ends) apart =
    go d fs (at (start f)) d fs (naming np.Begins (b ∷ [])) b BracketOpen (y ++ v) k refl
    ∙ naming_run d fs np.Begins (b ∷ []) y v ends apart

-- words and numbers

word_stops : (c : Class) → joins c ≡ false → is_word_byte c ≡ false
word_stops Dot e = refl
word_stops c e = e

no_digit : (c : Class) → joins c ≡ false → is_digit c ≡ false
no_digit Zero e = cc
no_digit One e = cc
no_digit OctalDigit e = cc
no_digit Digit e = cc
no_digit _ e = refl

no_hex : (c : Class) → joins c ≡ false → is_hex c ≡ false
no_hex Zero e = cc
no_hex One e = cc
no_hex OctalDigit e = cc
no_hex Digit e = cc
no_hex LetterE e = cc
no_hex LetterF e = cc
no_hex HexLetter e = cc
no_hex _ e = refl

scalar_stops : (part : ScalarPart) (c : Class) → is_whole_scalar part ≡ true → joins c ≡ false → scalar_next part c ≡ None
scalar_stops sp.Word c w j = ap (λ x. cond x (Some sp.Word) None) (word_stops c j)
scalar_stops sp.Zero LetterX w j = cc
scalar_stops sp.Zero LetterE w j = cc
scalar_stops sp.Zero LetterF w j = cc
scalar_stops sp.Zero Dot w j = cc
scalar_stops sp.Zero c w j = ap (λ x. cond x (Some sp.Whole) None) (no_digit c j)
scalar_stops sp.Whole LetterE w j = cc
scalar_stops sp.Whole LetterF w j = cc
scalar_stops sp.Whole Dot w j = cc
scalar_stops sp.Whole c w j = ap (λ x. cond x (Some sp.Whole) None) (no_digit c j)
scalar_stops sp.Fraction LetterE w j = cc
scalar_stops sp.Fraction LetterF w j = cc
scalar_stops sp.Fraction c w j = ap (λ x. cond x (Some sp.Fraction) None) (no_digit c j)
scalar_stops sp.Power LetterF w j = cc
scalar_stops sp.Power c w j = ap (λ x. cond x (Some sp.Power) None) (no_digit c j)
scalar_stops sp.Hex c w j = ap (λ x. cond x (Some sp.Hex) None) (no_hex c j)
scalar_stops sp.Suffix c w j = refl
scalar_stops _ c w j = cc

pub accepts_after : (d : Fields) (fs : List Frame) (n : List ℕ) (slot : Slot) → accepts (st d fs (at (after n slot))) ≡ final d fs (after n slot)
accepts_after d fs n slots.One = refl
accepts_after d fs n slots.Scalars = refl
accepts_after d fs n slots.Messages = refl

pub token_run : (d : Fields) (fs : List Frame) (n : List ℕ) (slot : Slot) (part : ScalarPart) (bytes y v : List ℕ) → ScalarEnds part y → Apart v
    → outcome (st d fs (token n slot part bytes)) (y ++ v) ≡ outcome (st (append d (scalar n (kind_of part) (bytes ++ y) none)) fs (at (after n slot))) v
token_run d fs n slot part bytes [] [] ends apart =
    if_so (is_whole_scalar part) None ends ∙ ap (λ z. final (append d (scalar n (kind_of part) z none)) fs (after n slot)) (sym (append-nil bytes))
    ∙ sym (accepts_after (append d (scalar n (kind_of part) (bytes ++ []) none)) fs n slot)
token_run d fs n slot part bytes [] (b ∷ v) ends apart =
    ap (option_and_then (λ next. outcome next v)) (
    ap (step_token (st d fs (token n slot part bytes)) n slot part bytes (class_of b) b) (scalar_stops part (class_of b) ends apart)
    ∙ if_so (is_whole_scalar part && not (joins (class_of b))) None (both (is_whole_scalar part) (joins (class_of b)) ends apart))
    ∙ ap (λ z. outcome (st (append d (scalar n (kind_of part) z none)) fs (at (after n slot))) (b ∷ v)) (sym (append-nil bytes))
token_run d fs n slot part bytes (b ∷ y) v (q, e, ends) apart =
    go d fs (token n slot part bytes) d fs (token n slot q (bytes ++ b ∷ [])) b (class_of b) (y ++ v) refl (ap (step_token (st d fs (token n slot part bytes)) n slot part bytes (class_of b) b) e)
    ∙ token_run d fs n slot q (bytes ++ b ∷ []) y v ends apart
    ∙ ap (λ z. outcome (st (append d (scalar n (kind_of q) z none)) fs (at (after n slot))) v) (append_assoc bytes (b ∷ []) y)
    ∙ ap (λ z. outcome (st (append d (scalar n z (bytes ++ b ∷ y) none)) fs (at (after n slot))) v) (same_kind part q (class_of b) e)

letter_settled : (s : State) (p : Place) (c : Class) (b : ℕ) → is_letter c ≡ true → step_at s p c b ≡ moves (settled s p) (letter_spot (settled_place p) b)
letter_settled s p LetterE b e = refl
letter_settled s p LetterF b e = refl
letter_settled s p HexLetter b e = refl
letter_settled s p LetterX b e = refl
letter_settled s p LetterN b e = refl
letter_settled s p LetterR b e = refl
letter_settled s p LetterT b e = refl
letter_settled s p Letter b e = refl
letter_settled s p _ b e = cc

digit_settled : (s : State) (p : Place) (c : Class) (b : ℕ) → is_digit c ≡ true → step_at s p c b ≡ moves (settled s p) (token_spot (first_part c) b (scalar_slot (settled_place p)))
digit_settled s p Zero b e = refl
digit_settled s p One b e = refl
digit_settled s p OctalDigit b e = refl
digit_settled s p Digit b e = refl
digit_settled s p _ b e = cc

-- where a scalar may stand, a token begins
begin_token : (d : Fields) (fs : List Frame) (p : Place) (l : List ℕ × Slot) (part : ScalarPart) (b : ℕ) → scalar_slot p ≡ Some l
    → moves (settled (st d fs (at p)) p) (token_spot part b (scalar_slot (settled_place p))) ≡ Some (st d fs (token l.0 l.1 part (b ∷ [])))
begin_token d fs (valued n) l part b e = ap (λ (l : List ℕ × Slot). Some (st d fs (token l.0 l.1 part (b ∷ [])))) (some_same e)
begin_token d fs (opened n true) l part b e = ap (λ (l : List ℕ × Slot). Some (st d fs (token l.0 l.1 part (b ∷ [])))) (some_same e)
begin_token d fs (element n false) l part b e = ap (λ (l : List ℕ × Slot). Some (st d fs (token l.0 l.1 part (b ∷ [])))) (some_same e)
begin_token d fs _ l part b e = cc

begin_letter : (d : Fields) (fs : List Frame) (p : Place) (l : List ℕ × Slot) (b : ℕ) → scalar_slot p ≡ Some l
    → moves (settled (st d fs (at p)) p) (letter_spot (settled_place p) b) ≡ Some (st d fs (token l.0 l.1 sp.Word (b ∷ [])))
begin_letter d fs (valued n) l b e = begin_token d fs (valued n) l sp.Word b e
begin_letter d fs (opened n true) l b e = begin_token d fs (opened n true) l sp.Word b e
begin_letter d fs (element n false) l b e = begin_token d fs (element n false) l sp.Word b e
begin_letter d fs _ l b e = cc

pub word_run : (d : Fields) (fs : List Frame) (p : Place) (n : List ℕ) (slot : Slot) (u v : List ℕ) → scalar_slot p ≡ Some (n, slot) → g.IsWord u → Apart v
    → outcome (st d fs (at p)) (u ++ v) ≡ outcome (st (append d (scalar n word u none)) fs (at (after n slot))) v
word_run d fs p n slot [] v e h apart = absurd h
word_run d fs p n slot (b ∷ y) v e h apart =
    go d fs (at p) d fs (token n slot sp.Word (b ∷ [])) b (class_of b) (y ++ v) refl (letter_settled (st d fs (at p)) p (class_of b) b h.0 ∙ begin_letter d fs p (n, slot) b e)
    ∙ token_run d fs n slot sp.Word (b ∷ []) y v (word_scalar y h.1) apart

number_token : (d : Fields) (fs : List Frame) (p : Place) (n : List ℕ) (slot : Slot) (part : ScalarPart) (b : ℕ) (y v : List ℕ) → scalar_slot p ≡ Some (n, slot) → kind_of part ≡ number
    → step_at (st d fs (at p)) p (class_of b) b ≡ moves (settled (st d fs (at p)) p) (token_spot part b (scalar_slot (settled_place p)))
    → ScalarEnds part y → Apart v → outcome (st d fs (at p)) (b ∷ y ++ v) ≡ outcome (st (append d (scalar n number (b ∷ y) none)) fs (at (after n slot))) v
number_token d fs p n slot part b y v e kind k ends apart =
    go d fs (at p) d fs (token n slot part (b ∷ [])) b (class_of b) (y ++ v) refl (k ∙ begin_token d fs p (n, slot) part b e)
    ∙ token_run d fs n slot part (b ∷ []) y v ends apart
    ∙ ap (λ z. outcome (st (append d (scalar n z (b ∷ y) none)) fs (at (after n slot))) v) kind

first_kind : (c : Class) → kind_of (first_part c) ≡ number
first_kind Minus = refl
first_kind Dot = refl
first_kind Zero = refl
first_kind c = refl

unsigned_run : (d : Fields) (fs : List Frame) (p : Place) (n : List ℕ) (slot : Slot) (u v : List ℕ) → scalar_slot p ≡ Some (n, slot) → UnsignedBegins u → Apart v
    → outcome (st d fs (at p)) (u ++ v) ≡ outcome (st (append d (scalar n number u none)) fs (at (after n slot))) v
unsigned_run d fs p n slot u v e (by_point {b = b} {y = y} k ends) apart =
    number_token d fs p n slot sp.Point b y v e refl (ap (λ c. step_at (st d fs (at p)) p c b) k) ends apart
unsigned_run d fs p n slot u v e (by_digit {b = b} {y = y} k ends) apart =
    number_token d fs p n slot (first_part (class_of b)) b y v e (first_kind (class_of b)) (digit_settled (st d fs (at p)) p (class_of b) b k) ends apart

pub number_run : (d : Fields) (fs : List Frame) (p : Place) (n : List ℕ) (slot : Slot) (u v : List ℕ) → scalar_slot p ≡ Some (n, slot) → NumberBegins u → Apart v
    → outcome (st d fs (at p)) (u ++ v) ≡ outcome (st (append d (scalar n number u none)) fs (at (after n slot))) v
number_run d fs p n slot u v e (by_minus {b = b} {y = y} k ends) apart =
    number_token d fs p n slot sp.Minus b y v e refl (ap (λ c. step_at (st d fs (at p)) p c b) k) ends apart
number_run d fs p n slot u v e (with_no_sign h) apart = unsigned_run d fs p n slot u v e h apart
