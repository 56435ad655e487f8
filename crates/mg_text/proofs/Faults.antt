-- What the machine's states say of a file: what it begins, and which answer is due.
use Rattle.std.proofs.Common.{take, drop, get_or, Result, Ok, Err, IfOk, IfErr, length, arith, ◌<◌, ◌≤◌, ◌≡◌, ℕ, ◌+◌, List, [], ◌∷◌, ◌++◌, Bool, true, false, cond, Option, Some, None, refl, sym, ap, ◌∙◌, subst, inl, inr, append_assoc, option_and_then}
use Rattle.std.proofs.lemmas.List.{take-take, take-append-drop, take_more}
use Rattle.std.proofs.Math.Seq.{take-length}
use Rattle.mg_text.specs.Tree.{quoted, Fields, none, scalar, append, depth}
use Rattle.mg_text.specs.Grammar.{Gives, Place, start, named, valued, opened, element, behind, joined, after}
use Rattle.mg_text.specs.Code.Machine.{Spot, at, comment, naming, token, piece, Frame, State, settled, settled_place, step, final, accepts_spot, accepts, run, outcome, begin, is_whole_scalar, kind_of}
use Rattle.mg_text.proofs.Choices.{some_same}
use Rattle.mg_text.proofs.Sound.{sound_text}
use Rattle.mg_text.proofs.Complete.{complete_text}
use Rattle.mg_text.proofs.Finish.{level, level_least, extra, spot_extra}
use Rattle.mg_text.proofs.Printing.{text_spelled, canonical_given}
use Rattle.std.proofs.Common.{Vec, Global}
use Rattle.std.specs.declared.alloc.AllocError.{AllocError}
use Rattle.mg_text.specs.Canonical.{AreSpelled, canonical}
use Rattle.mg_text.proofs.Finish.{Completion, finish}
use Rattle.mg_text.proofs.Depth.{Shallow, deep, step_shallow, spot_deep, place_deep, depth-scalar}
use Rattle.mg_text.specs.Answer.{max_depth, BeginsText, BeginsShallowText, IsSyntaxFault, IsTooDeep, IsFault, IsTree, IsFailed}
use Rattle.mg_text.specs.Code.Running.{IsAnswered, FileEnds, Stepped}
use Rattle.std.proofs.lemmas.Bool.{cases_lt}
use Rattle.mg_text.specs.View.{view}
use Rattle.mg_text.specs.declared.tree.Tree.{Tree}
use Rattle.mg_text.specs.declared.fault.TextFault.{TextFault}
use Rattle.mg_text.specs.declared.fault.TextFault.TheVariants.{Syntax, TooDeep, TooLong, OutOfMemory}

-- runs, piece by piece

pub outcome_over : (p w : List ℕ) (s t : State) → run s p ≡ Some t → outcome s (p ++ w) ≡ outcome t w
outcome_over [] w s t e = ap (λ x. outcome x w) (some_same e)
outcome_over (b ∷ p) w s t e = by_step (step s b) (λ n. outcome_over p w n t) e
  where
    by_step : (o : Option State) → ((n : State) → run n p ≡ Some t → outcome n (p ++ w) ≡ outcome t w) → option_and_then (λ n. run n p) o ≡ Some t
        → option_and_then (λ n. outcome n (p ++ w)) o ≡ outcome t w
    by_step None f e = cc
    by_step (Some n) f e = f n e

pub none_over : (p w : List ℕ) (s : State) → run s p ≡ None → outcome s (p ++ w) ≡ None
none_over [] w s e = cc
none_over (b ∷ p) w s e = by_step (step s b) (λ n. none_over p w n) e
  where
    by_step : (o : Option State) → ((n : State) → run n p ≡ None → outcome n (p ++ w) ≡ None) → option_and_then (λ n. run n p) o ≡ None
        → option_and_then (λ n. outcome n (p ++ w)) o ≡ None
    by_step None f e = refl
    by_step (Some n) f e = f n e

pub run_more : (p : List ℕ) (b : ℕ) (s t : State) → run s p ≡ Some t → run s (p ++ b ∷ []) ≡ step t b
run_more [] b s t e = one_step (step s b) ∙ ap (λ x. step x b) (some_same e)
  where
    one_step : (o : Option State) → option_and_then (λ n. run n []) o ≡ o
    one_step None = refl
    one_step (Some n) = refl
run_more (a ∷ p) b s t e = by_step (step s a) (λ n. run_more p b n t) e
  where
    by_step : (o : Option State) → ((n : State) → run n p ≡ Some t → run n (p ++ b ∷ []) ≡ step t b) → option_and_then (λ n. run n p) o ≡ Some t
        → option_and_then (λ n. run n (p ++ b ∷ [])) o ≡ step t b
    by_step None f e = cc
    by_step (Some n) f e = f n e

-- The machine has taken these bytes, and nothing in them is too deep.
pub record Reached (bytes : List ℕ) (s : State) : Type 0 where
  pub ran : run begin bytes ≡ Some s
  pub shallow : Shallow max_depth s.done s.frames s.spot

extra_place : (p : Place) (d : Fields) → place_deep p d → extra p ≤ depth d
extra_place (element n true) d h = h
extra_place (element n false) d h = omega arith
extra_place (start f) d h = omega arith
extra_place (named n) d h = omega arith
extra_place (valued n) d h = omega arith
extra_place (opened n c) d h = omega arith
extra_place (behind n c) d h = omega arith
extra_place (joined n slot bytes) d h = omega arith

extra_spot : (x : Spot) (d : Fields) → spot_deep x d → spot_extra x ≤ depth d
extra_spot (at p) d h = extra_place p d h
extra_spot (comment p t) d h = extra_place p d h
extra_spot (naming part bytes) d h = omega arith
extra_spot (token n slot part bytes) d h = omega arith
extra_spot (piece n slot bytes q i) d h = omega arith

-- what is taken begins a text
text_of : (p : List ℕ) (s : State) (most : ℕ) (c : Completion s most) → run begin p ≡ Some s → Gives (p ++ c.bytes) c.fields
text_of p s most c e = sound_text ((p ++ c.bytes) ++ 10 ∷ []) c.fields (ap (outcome begin) (append_assoc p c.bytes (10 ∷ [])) ∙ outcome_over p (c.bytes ++ 10 ∷ []) begin s e ∙ c.whole)

pub begins : (p : List ℕ) (s : State) → run begin p ≡ Some s → BeginsText p
begins p s e = let c = finish s.done s.frames s.spot in (c.bytes, c.fields, text_of p s _ c e)

pub begins_shallow : (p : List ℕ) (s : State) → Reached p s → BeginsShallowText p
begins_shallow p s r =
    let c = finish s.done s.frames s.spot in
    let e = extra_spot s.spot s.done r.shallow.deep_enough in
    let l = level_least (depth s.done) s.frames in
    let w = r.shallow.within in
    let d = c.shallow in
    (c.bytes, c.fields, text_of p s _ c r.ran, omega (arith, e, l, w, d))

-- what is not taken begins none
pub no_text : (p : List ℕ) → run begin p ≡ None → ¬ (BeginsText p)
no_text p e (rest, t, h) =
    let whole = complete_text ((p ++ rest) ++ 10 ∷ []) t h in
    let none_is = ap (outcome begin) (append_assoc p rest (10 ∷ [])) ∙ none_over p (rest ++ 10 ∷ []) begin e in
    let both : Some t ≡ None = sym whole ∙ none_is in cc

pub one_text : (file : List ℕ) (t u : Fields) → Gives file t → Gives file u → t ≡ u
one_text file t u h k = some_same (sym (complete_text (file ++ 10 ∷ []) t h) ∙ complete_text (file ++ 10 ∷ []) u k)

-- prefixes of prefixes

front_of : (file : List ℕ) (m n : ℕ) → m ≤ n → take n file ≡ take m file ++ drop m (take n file)
front_of file m n h = sym (take-append-drop m (take n file)) ∙ ap (λ z. z ++ drop m (take n file)) (take-take m n file h)

front_file : (file : List ℕ) (m : ℕ) → file ≡ take m file ++ drop m file
front_file file m = sym (take-append-drop m file)

longer : (p q whole rest : List ℕ) (t : Fields) → whole ≡ p ++ q → Gives (whole ++ rest) t → Gives (p ++ (q ++ rest)) t
longer p q whole rest t e h = subst (λ z. Gives z t) (ap (λ z. z ++ rest) e ∙ append_assoc p q rest) h

text_longer : (p q whole : List ℕ) (t : Fields) → whole ≡ p ++ q → Gives whole t → Gives (p ++ q) t
text_longer p q whole t e h = subst (λ z. Gives z t) e h

begins_less : (file : List ℕ) (m n : ℕ) → m ≤ n → BeginsText (take n file) → BeginsText (take m file)
begins_less file m n h (rest, t, k) = (drop m (take n file) ++ rest, t, longer (take m file) (drop m (take n file)) (take n file) rest t (front_of file m n h) k)

-- the answers

pub syntax_at : (file : List ℕ) (i b : ℕ) (s : State) → i < length file → b ≡ get_or file i 0 → Reached (take i file) s → step s b ≡ None → IsSyntaxFault file i
syntax_at file i b s h be r e =
    let next : take (i + 1) file ≡ take i file ++ b ∷ [] = take_more file i 0 h ∙ ap (λ z. take i file ++ z ∷ []) (sym be) in
    let stuck : run begin (take (i + 1) file) ≡ None = ap (run begin) next ∙ run_more (take i file) b begin s r.ran ∙ e in
    let not_longer = no_text (take (i + 1) file) stuck in
    record {
      within = omega arith;
      front = begins_shallow (take i file) s r;
      longest = λ n more within begun. not_longer (begins_less file (i + 1) n (omega arith) begun);
      no_text = λ t given. not_longer (drop (i + 1) file, t, text_longer (take (i + 1) file) (drop (i + 1) file) file t (front_file file (i + 1)) given);
    }

pub ran_on : (file : List ℕ) (i b : ℕ) (s next : State) → i < length file → b ≡ get_or file i 0 → Reached (take i file) s → step s b ≡ Some next → run begin (take (i + 1) file) ≡ Some next
ran_on file i b s next h be r e =
    ap (run begin) (take_more file i 0 h ∙ ap (λ z. take i file ++ z ∷ []) (sym be)) ∙ run_more (take i file) b begin s r.ran ∙ e

pub reached_more : (file : List ℕ) (i b : ℕ) (s next : State) → i < length file → b ≡ get_or file i 0 → Reached (take i file) s → step s b ≡ Some next → length next.frames ≤ max_depth → Reached (take (i + 1) file) next
reached_more file i b s next h be r e k =
    record { ran = ran_on file i b s next h be r e; shallow = step_shallow max_depth s next b e r.shallow k }

pub too_deep_at : (file : List ℕ) (i b : ℕ) (s next : State) → i < length file → b ≡ get_or file i 0 → Reached (take i file) s → step s b ≡ Some next → max_depth < length next.frames → IsTooDeep file i
too_deep_at file i b s next h be r e k =
    let ran = ran_on file i b s next h be r e in
    record {
      within = h;
      front = begins_shallow (take i file) s r;
      some = begins (take (i + 1) file) next ran;
      all = λ rest t given.
          let whole = complete_text ((take (i + 1) file ++ rest) ++ 10 ∷ []) t given in
          let left = sym (outcome_over (take (i + 1) file) (rest ++ 10 ∷ []) begin next ran) ∙ ap (outcome begin) (sym (append_assoc (take (i + 1) file) rest (10 ∷ []))) ∙ whole in
          omega (arith, deep next (rest ++ 10 ∷ []) t left, level_least (depth next.done) next.frames, k);
    }

-- the end of the file

final_facts : (d : Fields) (fs : List Frame) (p : Place) (t : Fields) → final d fs p ≡ Some t → (fs ≡ []) × (t ≡ d)
final_facts d [] (start f) t e = (refl, sym (some_same e))
final_facts d (f ∷ fs) p t e = cc
final_facts d [] _ t e = cc

settled_frames : (s : State) (p : Place) → (settled s p).frames ≡ s.frames
settled_frames s (start f) = refl
settled_frames s (named n) = refl
settled_frames s (valued n) = refl
settled_frames s (opened n c) = refl
settled_frames s (element n c) = refl
settled_frames s (behind n c) = refl
settled_frames s (joined n slot bytes) = refl

settled_depth : (s : State) (p : Place) → depth (settled s p).done ≡ depth s.done
settled_depth s (start f) = refl
settled_depth s (named n) = refl
settled_depth s (valued n) = refl
settled_depth s (opened n c) = refl
settled_depth s (element n c) = refl
settled_depth s (behind n c) = refl
settled_depth s (joined n slot bytes) = depth-scalar s.done n quoted bytes

if_fields : (b : Bool) (o : Option Fields) (t : Fields) → cond b o None ≡ Some t → o ≡ Some t
if_fields true o t e = e
if_fields false o t e = cc

accepted_facts : (s : State) (spot : Spot) (t : Fields) → accepts_spot s spot ≡ Some t → (s.frames ≡ []) × (depth t ≡ depth s.done)
accepted_facts s (at p) t e =
    let f = final_facts (settled s p).done (settled s p).frames (settled_place p) t e in
    (sym (settled_frames s p) ∙ f.0, ap depth f.1 ∙ settled_depth s p)
accepted_facts s (token n slot part bytes) t e =
    let f = final_facts (append s.done (scalar n (kind_of part) bytes none)) s.frames (after n slot) t (if_fields (is_whole_scalar part) _ t e) in
    (f.0, ap depth f.1 ∙ depth-scalar s.done n (kind_of part) bytes)
accepted_facts s _ t e = cc

last_step : (s : State) (t : Fields) (b : ℕ) (o : Option State) → option_and_then (λ n. outcome n []) o ≡ Some t → (n : State) × (o ≡ Some n) × (accepts n ≡ Some t)
last_step s t b None e = cc
last_step s t b (Some n) e = (n, refl, e)

within_last : (most : ℕ) (s n : State) (t : Fields) (b : ℕ) → Shallow most s.done s.frames s.spot → step s b ≡ Some n → accepts n ≡ Some t → depth t ≤ most
within_last most s n t b h e a =
    let f = accepted_facts n n.spot t a in
    let few : length n.frames ≤ most = rw f.0 (omega arith) in
    let r = step_shallow most s n b e h few in
    let w : level (depth n.done) [] ≤ most = subst (λ fs. level (depth n.done) fs ≤ most) f.0 r.within in
    omega (arith, w, f.1)

pub read_at_end : (file : List ℕ) (s : State) (t : Fields) → Reached file s → outcome s (10 ∷ []) ≡ Some t → Gives file t × (depth t ≤ max_depth)
read_at_end file s t r e =
    let l = last_step s t 10 (step s 10) e in
    (sound_text (file ++ 10 ∷ []) t (outcome_over file (10 ∷ []) begin s r.ran ∙ e), within_last max_depth s l.0 t 10 r.shallow l.1 l.2)

pub syntax_at_end : (file : List ℕ) (s : State) → Reached file s → outcome s (10 ∷ []) ≡ None → IsSyntaxFault file (length file)
syntax_at_end file s r e =
    record {
      within = omega arith;
      front = subst BeginsShallowText (sym (take-length file)) (begins_shallow file s r);
      longest = λ n more within. absurd (omega arith);
      no_text = λ t given.
          let whole = complete_text (file ++ 10 ∷ []) t given in
          let none_is = outcome_over file (10 ∷ []) begin s r.ran ∙ e in
          let both : Some t ≡ None = sym whole ∙ none_is in cc;
    }

-- no two answers are due for one file

later_front : (file : List ℕ) (m n : ℕ) → m ≤ n → (rest : List ℕ) (t : Fields) → Gives (take n file ++ rest) t → Gives (take m file ++ (drop m (take n file) ++ rest)) t
later_front file m n h rest t k = longer (take m file) (drop m (take n file)) (take n file) rest t (front_of file m n h) k

begins_of_shallow : (p : List ℕ) → BeginsShallowText p → BeginsText p
begins_of_shallow p (rest, t, h, d) = (rest, t, h)

not_before : (file : List ℕ) (p q : ℕ) → IsSyntaxFault file p → IsSyntaxFault file q → p < q → ⊥
not_before file p q f g h = f.longest q h g.within (begins_of_shallow (take q file) g.front)

pub one_syntax : (file : List ℕ) (p q : ℕ) → IsSyntaxFault file p → IsSyntaxFault file q → p ≡ q
one_syntax file p q f g =
    elim (cases_lt p q) [
      | inl h ↦ absurd (not_before file p q f g h)
      | inr h ↦ elim (cases_lt q p) [ inl k ↦ absurd (not_before file q p g f k) | inr k ↦ omega arith ]
    ]

deep_after : (file : List ℕ) (p q : ℕ) → IsTooDeep file p → p < q → BeginsShallowText (take q file) → ⊥
deep_after file p q f h (rest, t, k, d) =
    let more = f.all _ t (later_front file (p + 1) q (omega arith) rest t k) in omega (arith, more, d)

pub one_too_deep : (file : List ℕ) (p q : ℕ) → IsTooDeep file p → IsTooDeep file q → p ≡ q
one_too_deep file p q f g =
    elim (cases_lt p q) [
      | inl h ↦ absurd (deep_after file p q f h g.front)
      | inr h ↦ elim (cases_lt q p) [ inl k ↦ absurd (deep_after file q p g k f.front) | inr k ↦ omega arith ]
    ]

pub not_both : (file : List ℕ) (p q : ℕ) → IsSyntaxFault file p → IsTooDeep file q → ⊥
not_both file p q f g =
    elim (cases_lt p (q + 1)) [
      | inl h ↦ f.longest (q + 1) h (let w = g.within in omega (arith, w)) g.some
      | inr h ↦ deep_after file q p g (omega arith) f.front
    ]

pub text_not_deep : (file : List ℕ) (q : ℕ) (t : Fields) → Gives file t → depth t ≤ max_depth → IsTooDeep file q → ⊥
text_not_deep file q t h d g =
    let more = g.all (drop (q + 1) file) t (text_longer (take (q + 1) file) (drop (q + 1) file) file t (front_file file (q + 1)) h) in omega (arith, more, d)

-- the answer that the parser's loop gives

pub answers_ok : (file : List ℕ) (r : Result Tree TextFault) → IsAnswered file r → IfOk r (λ tree. Gives file (view tree) × (depth (view tree) ≤ max_depth))
answers_ok file (Ok tree) h = h
answers_ok file (Err e) h = tt

pub answers_fault : (file : List ℕ) (r : Result Tree TextFault) → IsAnswered file r → IfErr r (IsFault file)
answers_fault file (Ok tree) h = tt
answers_fault file (Err (Syntax place)) h = h
answers_fault file (Err (TooDeep place)) h = h
answers_fault file (Err TooLong) h = absurd h
answers_fault file (Err OutOfMemory) h = tt

pub answers_short : (file : List ℕ) (r : Result Tree TextFault) → IsAnswered file r → r ≡ Err TooLong → ⊥
answers_short file (Ok tree) h e = cc
answers_short file (Err (Syntax place)) h e = cc
answers_short file (Err (TooDeep place)) h e = cc
answers_short file (Err TooLong) h e = h
answers_short file (Err OutOfMemory) h e = cc

pub answers_tree : (file : List ℕ) (r : Result Tree TextFault) (t : Fields) → IsAnswered file r → Gives file t → depth t ≤ max_depth → IsTree t r
answers_tree file (Ok tree) t h k d = one_text file (view tree) t h.0 k
answers_tree file (Err (Syntax place)) t h k d = h.no_text t k
answers_tree file (Err (TooDeep place)) t h k d = text_not_deep file place t k d h
answers_tree file (Err TooLong) t h k d = h
answers_tree file (Err OutOfMemory) t h k d = tt

pub answers_syntax : (file : List ℕ) (r : Result Tree TextFault) (place : ℕ) → IsAnswered file r → IsSyntaxFault file place → IsFailed (Syntax place) r
answers_syntax file (Ok tree) place h k = k.no_text (view tree) h.0
answers_syntax file (Err (Syntax there)) place h k = ap Syntax (one_syntax file there place h k)
answers_syntax file (Err (TooDeep there)) place h k = absurd (not_both file place there k h)
answers_syntax file (Err TooLong) place h k = absurd h
answers_syntax file (Err OutOfMemory) place h k = tt

pub answers_too_deep : (file : List ℕ) (r : Result Tree TextFault) (place : ℕ) → IsAnswered file r → IsTooDeep file place → IsFailed (TooDeep place) r
answers_too_deep file (Ok tree) place h k = text_not_deep file place (view tree) h.0 h.1 k
answers_too_deep file (Err (Syntax there)) place h k = absurd (not_both file there place h k)
answers_too_deep file (Err (TooDeep there)) place h k = ap TooDeep (one_too_deep file there place h k)
answers_too_deep file (Err TooLong) place h k = absurd h
answers_too_deep file (Err OutOfMemory) place h k = tt

pub answered_end : (file : List ℕ) (s : State) (r : Result Tree TextFault) → Reached file s → FileEnds s (length file) r → IsAnswered file r
answered_end file s (Ok tree) h e = read_at_end file s (view tree) h e
answered_end file s (Err (Syntax there)) h e = subst (IsSyntaxFault file) (sym e.0) (syntax_at_end file s h e.1)
answered_end file s (Err (TooDeep there)) h e = absurd e
answered_end file s (Err TooLong) h e = e
answered_end file s (Err OutOfMemory) h e = tt

pub took_none : (o : Option State) (b : Bool) (s : State) → Stepped o b s → b ≡ false → o ≡ None
took_none o true s h e = cc
took_none o false s h e = h

pub took_some : (o : Option State) (b : Bool) (s : State) → Stepped o b s → b ≡ true → o ≡ Some s
took_some o true s h e = h
took_some o false s h e = cc

pub reached_end : (file : List ℕ) (i : ℕ) (s : State) → i ≡ length file → Reached (take i file) s → Reached file s
reached_end file i s e r = subst (λ z. Reached z s) (ap (λ n. take n file) e ∙ take-length file) r

pub answers_spelled : (file : List ℕ) (r : Result Tree TextFault) → IsAnswered file r → IfOk r (λ tree. AreSpelled (view tree))
answers_spelled file (Ok tree) h = text_spelled file (view tree) h.0
answers_spelled file (Err e) h = tt

pub deep_text : (file : List ℕ) (p : ℕ) (t : Fields) → IsTooDeep file p → Gives file t → max_depth < depth t
deep_text file p t g h = g.all (drop (p + 1) file) t (text_longer (take (p + 1) file) (drop (p + 1) file) file t (front_file file (p + 1)) h)

pub given_text : (r : Result (Vec ℕ Global) AllocError) (t : Fields) → AreSpelled t → IfOk r (λ text. text.items ≡ canonical t) → IfOk r (λ text. Gives text.items t)
given_text (Ok text) t s e = subst (λ z. Gives z t) (sym e) (canonical_given t s)
given_text (Err e) t s h = tt

pub only_text : (r : Result (Vec ℕ Global) AllocError) (t : Fields) → AreSpelled t → IfOk r (λ text. text.items ≡ canonical t) → IfOk r (λ text. (u : Fields) → Gives text.items u → u ≡ t)
only_text (Ok text) t s e = λ u h. one_text text.items u t h (subst (λ z. Gives z t) (sym e) (canonical_given t s))
only_text (Err e) t s h = tt
