-- Bytes that only lengthen what is being read: the machine takes them, and stays in the same message.
use Rattle.std.proofs.Common.{◌≡◌, ◌≤◌, ◌+◌, ℕ, List, [], ◌∷◌, ◌++◌, true, Some, None, length, take, drop, refl, sym, ap, ap₂, ◌∙◌, subst, append_assoc, arith}
use Rattle.std.proofs.lemmas.List.{append-nil, take-take, take-append-drop, drop-take}
use Rattle.std.proofs.lemmas.List.Elements.{recursion_from_All}
use Rattle.std.specs.List.{AllByRecursion}
use Rattle.mg_text.specs.declared.parts.Quote.{Quote}
use Rattle.mg_text.specs.declared.parts.Slot.{Slot}
use Rattle.mg_text.specs.declared.parts.Tail.TheVariants.{Whole}
use Rattle.mg_text.specs.declared.state.NamePart.TheVariants as np
use Rattle.mg_text.specs.declared.state.ScalarPart.TheVariants as sp
use Rattle.mg_text.specs.declared.state.Inside.TheVariants as inside
use Rattle.mg_text.specs.declared.state.Reading.{Reading}
use Rattle.mg_text.specs.declared.state.Reading.TheVariants as reading
use Rattle.mg_text.specs.declared.state.Run.{Run}
use Rattle.mg_text.specs.declared.state.Run.TheVariants.{Blank, Comment, Word, Piece}
use Rattle.mg_text.specs.Byte.{class_of, is_word_byte}
use Rattle.mg_text.specs.Tree.{Fields}
use Rattle.mg_text.specs.Grammar.{Place}
use Rattle.mg_text.specs.Answer.{max_depth}
use Rattle.mg_text.specs.Code.Machine.{at, comment, naming, token, piece, Frame, State, moves, step_naming, step_token, begin}
use Rattle.mg_text.specs.Code.Running.{place_of, spot_of, frames_of, state_of, Lasts}
use Rattle.mg_text.specs.View.{fields_view}
use Rattle.mg_text.specs.declared.machine.Machine.{Machine}
use Rattle.mg_text.specs.Code.Plain.{lengthens, AllLengthen, run_of}
use Rattle.mg_text.proofs.Choices.{some_same, if_so}
use Rattle.mg_text.proofs.Runs.{st, blank_step, in_line_step}
use Rattle.mg_text.proofs.StringRuns.{piece_step, plain_byte}
use Rattle.mg_text.proofs.Depth.{step_shallow}
use Rattle.mg_text.proofs.Faults.{Reached, run_more}

abbrev Each : Run → List ℕ → Type 0
Each run bytes = AllByRecursion (λ b. lengthens run (class_of b) ≡ true) bytes

blanks_last : (d : Fields) (fs : List Frame) (p : Place) (xs : List ℕ) → Each Blank xs → Lasts (st d fs (at p)) xs (st d fs (at p))
blanks_last d fs p [] all = refl
blanks_last d fs p (b ∷ xs) all = (st d fs (at p), blank_step (st d fs (at p)) p (class_of b) b all.0, refl, blanks_last d fs p xs all.1)

comment_lasts : (d : Fields) (fs : List Frame) (p : Place) (xs : List ℕ) → Each Comment xs → Lasts (st d fs (comment p Whole)) xs (st d fs (comment p Whole))
comment_lasts d fs p [] all = refl
comment_lasts d fs p (b ∷ xs) all =
    let s = st d fs (comment p Whole) in
    (s, ap (moves s) (in_line_step p (class_of b) b all.0), refl, comment_lasts d fs p xs all.1)

name_lasts : (d : Fields) (fs : List Frame) (bytes xs : List ℕ) → Each Word xs → Lasts (st d fs (naming np.Word bytes)) xs (st d fs (naming np.Word (bytes ++ xs)))
name_lasts d fs bytes [] all = ap (λ z. st d fs (naming np.Word z)) (sym (append-nil bytes))
name_lasts d fs bytes (b ∷ xs) all =
    let s = st d fs (naming np.Word bytes) in
    let next = st d fs (naming np.Word (bytes ++ b ∷ [])) in (
      next,
      ap (step_naming s np.Word bytes (class_of b) b) (if_so (is_word_byte (class_of b)) None all.0),
      refl,
      subst (λ z. Lasts next xs (st d fs (naming np.Word z))) (append_assoc bytes (b ∷ []) xs) (name_lasts d fs (bytes ++ b ∷ []) xs all.1),
    )

word_lasts : (d : Fields) (fs : List Frame) (n : List ℕ) (slot : Slot) (bytes xs : List ℕ) → Each Word xs
    → Lasts (st d fs (token n slot sp.Word bytes)) xs (st d fs (token n slot sp.Word (bytes ++ xs)))
word_lasts d fs n slot bytes [] all = ap (λ z. st d fs (token n slot sp.Word z)) (sym (append-nil bytes))
word_lasts d fs n slot bytes (b ∷ xs) all =
    let s = st d fs (token n slot sp.Word bytes) in
    let next = st d fs (token n slot sp.Word (bytes ++ b ∷ [])) in (
      next,
      ap (step_token s n slot sp.Word bytes (class_of b) b) (if_so (is_word_byte (class_of b)) None all.0),
      refl,
      subst (λ z. Lasts next xs (st d fs (token n slot sp.Word z))) (append_assoc bytes (b ∷ []) xs) (word_lasts d fs n slot (bytes ++ b ∷ []) xs all.1),
    )

piece_lasts : (d : Fields) (fs : List Frame) (n : List ℕ) (slot : Slot) (bytes : List ℕ) (q : Quote) (xs : List ℕ) → Each (Piece q) xs
    → Lasts (st d fs (piece n slot bytes q (inside.Plain Whole))) xs (st d fs (piece n slot (bytes ++ xs) q (inside.Plain Whole)))
piece_lasts d fs n slot bytes q [] all = ap (λ z. st d fs (piece n slot z q (inside.Plain Whole))) (sym (append-nil bytes))
piece_lasts d fs n slot bytes q (b ∷ xs) all =
    let s = st d fs (piece n slot bytes q (inside.Plain Whole)) in
    let next = st d fs (piece n slot (bytes ++ b ∷ []) q (inside.Plain Whole)) in (
      next,
      ap (moves s) (piece_step n slot bytes q (inside.Plain Whole) (class_of b) b (inside.Plain Whole, b ∷ []) (plain_byte q (class_of b) b all.0)),
      refl,
      subst (λ z. Lasts next xs (st d fs (piece n slot z q (inside.Plain Whole)))) (append_assoc bytes (b ∷ []) xs) (piece_lasts d fs n slot (bytes ++ b ∷ []) q xs all.1),
    )

-- what is read of a token once these bytes lengthened it
abbrev pub lengthened : Run → List ℕ → List ℕ → List ℕ
lengthened Blank bytes xs = bytes
lengthened Comment bytes xs = bytes
lengthened Word bytes xs = bytes ++ xs
lengthened (Piece q) bytes xs = bytes ++ xs

-- the state after these bytes
abbrev pub after_plain : Fields → List Frame → Reading → List ℕ → List ℕ → List ℕ → Run → State
after_plain d fs r name bytes xs run = st d fs (spot_of r name (lengthened run bytes xs))

by_each : (d : Fields) (fs : List Frame) (r : Reading) (name bytes xs : List ℕ) (run : Run) → run_of r ≡ Some run → Each run xs
    → Lasts (st d fs (spot_of r name bytes)) xs (after_plain d fs r name bytes xs run)
by_each d fs (reading.At p) name bytes xs run is all =
    subst (λ run. Each run xs → Lasts (st d fs (spot_of (reading.At p) name bytes)) xs (after_plain d fs (reading.At p) name bytes xs run))
    (some_same is) (blanks_last d fs (place_of p name bytes) xs) all
by_each d fs (reading.Comment p Whole) name bytes xs run is all =
    subst (λ run. Each run xs → Lasts (st d fs (spot_of (reading.Comment p Whole) name bytes)) xs (after_plain d fs (reading.Comment p Whole) name bytes xs run))
    (some_same is) (comment_lasts d fs (place_of p name bytes) xs) all
by_each d fs (reading.Name np.Word) name bytes xs run is all =
    subst (λ run. Each run xs → Lasts (st d fs (spot_of (reading.Name np.Word) name bytes)) xs (after_plain d fs (reading.Name np.Word) name bytes xs run))
    (some_same is) (name_lasts d fs bytes xs) all
by_each d fs (reading.Scalar slot sp.Word) name bytes xs run is all =
    subst (λ run. Each run xs → Lasts (st d fs (spot_of (reading.Scalar slot sp.Word) name bytes)) xs (after_plain d fs (reading.Scalar slot sp.Word) name bytes xs run))
    (some_same is) (word_lasts d fs name slot bytes xs) all
by_each d fs (reading.Piece slot q (inside.Plain Whole)) name bytes xs run is all =
    subst (λ run. Each run xs → Lasts (st d fs (spot_of (reading.Piece slot q (inside.Plain Whole)) name bytes)) xs (after_plain d fs (reading.Piece slot q (inside.Plain Whole)) name bytes xs run))
    (some_same is) (piece_lasts d fs name slot bytes q xs) all
by_each d fs _ name bytes xs run is all = cc

pub lasts_by : (d : Fields) (fs : List Frame) (r : Reading) (name bytes xs : List ℕ) (run : Run) → run_of r ≡ Some run → AllLengthen run xs
    → Lasts (st d fs (spot_of r name bytes)) xs (after_plain d fs r name bytes xs run)
lasts_by d fs r name bytes xs run is all = by_each d fs r name bytes xs run is (recursion_from_All (λ b. lengthens run (class_of b) ≡ true) xs all)

-- bytes that lengthen a token keep the state of the parser's machine the same but for the token
pub machine_lasts : (old new : Machine) (xs : List ℕ) (run : Run) → run_of old.reading ≡ Some run → AllLengthen run xs
    → new ≡ record old { token = new.token } → new.token.items ≡ lengthened run old.token.items xs → Lasts (state_of old) xs (state_of new)
machine_lasts old new xs run is all same added =
    subst (λ t. Lasts (state_of old) xs t)
    (sym (ap state_of same ∙ ap (λ z. st (fields_view old.done.items) (frames_of old.frames.items) (spot_of old.reading old.name z)) added))
    (lasts_by (fields_view old.done.items) (frames_of old.frames.items) old.reading old.name old.token.items xs run is all)

lasting : (p xs : List ℕ) (s t : State) → Reached p s → length s.frames ≤ max_depth → Lasts s xs t → Reached (p ++ xs) t
lasting p [] s t r few same = subst (λ z. Reached z t) (sym (append-nil p)) (subst (Reached p) same r)
lasting p (b ∷ xs) s t r few (next, taken, same, more) =
    let few_still : length next.frames ≤ max_depth = rw same few in
    let here : Reached (p ++ b ∷ []) next = record { ran = run_more p b begin s r.ran ∙ taken; shallow = step_shallow max_depth s next b taken r.shallow few_still } in
    subst (λ z. Reached z t) (append_assoc p (b ∷ []) xs) (lasting (p ++ b ∷ []) xs next t here few_still more)

take_and_more : (file : List ℕ) (i n : ℕ) → take (i + n) file ≡ take i file ++ take n (drop i file)
take_and_more file i n =
    sym (take-append-drop i (take (i + n) file))
    ∙ ap₂ (λ front rest. front ++ rest) (take-take i (i + n) file (omega arith)) (drop-take i n file)

pub reached_plain : (file : List ℕ) (i n : ℕ) (s t : State) → Reached (take i file) s → length s.frames ≤ max_depth → Lasts s (take n (drop i file)) t → Reached (take (i + n) file) t
reached_plain file i n s t r few lasts = subst (λ z. Reached z t) (sym (take_and_more file i n)) (lasting (take i file) (take n (drop i file)) s t r few lasts)
