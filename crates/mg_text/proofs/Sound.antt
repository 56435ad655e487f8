-- What the machine takes is in the grammar: from a state, the bytes that make its fields whole complete it by the
-- grammar's rules.
use Rattle.std.proofs.Common.{◌≡◌, ℕ, List, [], ◌∷◌, ◌++◌, Bool, true, false, not, ◌&&◌, cond, Option, Some, None, refl, sym, ap, ◌∙◌, subst, ◌⊎◌, inl, inr, append_assoc, option_and_then}
use Rattle.std.proofs.lemmas.List.{append-nil}
use Rattle.mg_text.specs.declared.parts.Class.{Class}
use Rattle.mg_text.specs.declared.parts.Class.TheVariants.{LineFeed, DoubleQuote, SingleQuote, Beyond}
use Rattle.mg_text.specs.declared.parts.Quote.{Quote}
use Rattle.mg_text.specs.declared.parts.Quote.TheVariants.{Single, Double}
use Rattle.mg_text.specs.declared.parts.Slot.{Slot}
use Rattle.mg_text.specs.declared.parts.Tail.{Tail}
use Rattle.mg_text.specs.declared.parts.Tail.TheVariants.{Whole}
use Rattle.mg_text.specs.declared.state.NamePart.{NamePart}
use Rattle.mg_text.specs.declared.state.ScalarPart.{ScalarPart}
use Rattle.mg_text.specs.declared.state.Inside.{Inside}
use Rattle.mg_text.specs.declared.state.Inside.TheVariants.{Plain}
use Rattle.mg_text.specs.Byte.{class_of, joins, lead, follow, whole as no_tail}
use Rattle.mg_text.specs.Tree.{Fields, none, scalar, append}
use Rattle.mg_text.specs.Grammar as g
use Rattle.mg_text.specs.Grammar.{Stands, Apart, Place, start, named, joined, after, quote_class, in_line}
use Rattle.mg_text.specs.Code.Machine.{Spot, at, comment, naming, token, piece, Frame, State, moves, moved, settled, settled_place, with_scalar, step_at, comment_spot, awaits, step_naming, step_token, inside_next, is_closing_quote, goes_on, piece_spot, step_spot, step, final, accepts_spot, outcome, begin, name_next, scalar_next, is_whole_name, is_whole_scalar, kind_of}
use Rattle.mg_text.proofs.Choices.{some_same, and_true, not_true}
use Rattle.mg_text.proofs.Appending.{append_none}
use Rattle.mg_text.proofs.Scalars.{same_kind}
use Rattle.mg_text.proofs.Pieces.{LineEnds, in_line_tail, InsideEnds, line_beyond, line_ascii, line_tail, inside_content, inside_grow}
use Rattle.mg_text.proofs.Completing.{Completes, CompletesAt, lift, one, same_bytes}
use Rattle.mg_text.proofs.SoundPlaces.{settle_grow, at_grow}

-- comments

comment_gives : (s : State) (p : Place) (t u : Tail) (b : ℕ) (w : List ℕ) (x : Fields) → ((l : List ℕ) → LineEnds u l → LineEnds t (b ∷ l))
    → Completes s.done s.frames (comment p u) w x → Completes s.done s.frames (comment p t) (b ∷ w) x
comment_gives s p t u b w x f h =
    one s (comment p t) (comment p u) b w x (λ v z y i (l, v', ve, ends, st). (b ∷ l, v', ap (λ z. b ∷ z) ve, f l ends, st)) h

awaits_grow : (s : State) (p : Place) (t : Tail) (b : ℕ) (w : List ℕ) (x : Fields) (o : Option Tail) → ((u : Tail) → o ≡ Some u → (l : List ℕ) → LineEnds u l → LineEnds t (b ∷ l))
    → CompletesAt (moves s (awaits p o)) w x → Completes s.done s.frames (comment p t) (b ∷ w) x
awaits_grow s p t b w x None f h = absurd h
awaits_grow s p t b w x (Some u) f h = comment_gives s p t u b w x (f u refl) h

line_feed_grow : (s : State) (p : Place) (b : ℕ) (w : List ℕ) (x : Fields) → class_of b ≡ LineFeed → Completes s.done s.frames (at p) w x → Completes s.done s.frames (comment p Whole) (b ∷ w) x
line_feed_grow s p b w x k h = one s (comment p Whole) (at p) b w x (λ v z y i st. (b ∷ [], v, refl, in_line_tail no_tail (g.line_feed k), st)) h

tail_grow : (s : State) (p : Place) (t : Tail) (b : ℕ) (w : List ℕ) (x : Fields) → CompletesAt (moves s (awaits p (follow t b))) w x → Completes s.done s.frames (comment p t) (b ∷ w) x
tail_grow s p t b w x h = awaits_grow s p t b w x (follow t b) (λ u e l ends. line_tail b t u l e ends) h

comment_grow : (s : State) (p : Place) (t : Tail) (c : Class) (b : ℕ) (w : List ℕ) (x : Fields) → class_of b ≡ c → CompletesAt (moves s (comment_spot p t c b)) w x → Completes s.done s.frames (comment p t) (b ∷ w) x
comment_grow s p Whole LineFeed b w x k h = line_feed_grow s p b w x k h
comment_grow s p Whole Beyond b w x k h = awaits_grow s p Whole b w x (lead b) (λ u e l ends. line_beyond b u l e ends) h
comment_grow s p Whole c b w x k h = comment_gives s p Whole Whole b w x (λ l ends. line_ascii b l (ap in_line k) ends) h
comment_grow s p t c b w x k h = tail_grow s p t b w x h

-- names, words and numbers

-- what is left of bytes whose first joins nothing is apart
apart_front : (b : ℕ) (w u z : List ℕ) → joins (class_of b) ≡ false → u ++ z ≡ b ∷ w → Apart u
apart_front b w [] z e h = tt
apart_front b w (c ∷ u) z e h = ap (λ x. joins (class_of x)) (let same : c ≡ b = cc in same) ∙ e

if_taken : (b : Bool) (o : Option State) (w : List ℕ) (t : Fields) → CompletesAt (cond b o None) w t → (b ≡ true) × CompletesAt o w t
if_taken true o w t h = (refl, h)
if_taken false o w t h = absurd h

naming_grow : (s : State) (part : NamePart) (bytes : List ℕ) (c : Class) (b : ℕ) (w : List ℕ) (t : Fields) (o : Option NamePart) → class_of b ≡ c → name_next part (class_of b) ≡ o
    → CompletesAt (step_naming s part bytes c b o) w t → Completes s.done s.frames (naming part bytes) (b ∷ w) t
naming_grow s part bytes c b w t (Some next) k e h =
    one s (naming part bytes) (naming next (bytes ++ b ∷ [])) b w t
    (λ u z x i (y, v, ue, ends, apart, st). (b ∷ y, v, ap (λ z. b ∷ z) ue, (next, e, ends), apart, subst (λ z. Stands (named z) v x) (append_assoc bytes (b ∷ []) y) st)) h
naming_grow s part bytes c b w t None k e h =
    let r = if_taken (is_whole_name part && not (joins c)) (step_at (moved s (named bytes)) (named bytes) c b) w t h in
    let a = and_true (is_whole_name part) (not (joins c)) r.0 in
    same_bytes s.done s.frames (naming part bytes) (at (named bytes)) (b ∷ w) t
    (λ u z x i st. ([], u, refl, a.0, apart_front b w u z (ap joins k ∙ not_true (joins c) a.1) i, subst (λ z. Stands (named z) u x) (sym (append-nil bytes)) st))
    (at_grow (moved s (named bytes)) (named bytes) c b w t k r.1)

token_ends_grow : (s : State) (n : List ℕ) (slot : Slot) (part : ScalarPart) (bytes : List ℕ) (c : Class) (b : ℕ) (w : List ℕ) (t : Fields) (o : Option ScalarPart) → class_of b ≡ c
    → scalar_next part (class_of b) ≡ o → CompletesAt (step_token s n slot part bytes c b o) w t → Completes s.done s.frames (token n slot part bytes) (b ∷ w) t
token_ends_grow s n slot part bytes c b w t (Some next) k e h =
    one s (token n slot part bytes) (token n slot next (bytes ++ b ∷ [])) b w t
    (λ u z x i (y, v, x', ue, ends, apart, st, xe). (
      b ∷ y,
      v,
      x',
      ap (λ z. b ∷ z) ue,
      (next, e, ends),
      apart,
      st,
      xe ∙ ap (λ z. scalar n (kind_of next) z x') (append_assoc bytes (b ∷ []) y) ∙ ap (λ kind. scalar n kind (bytes ++ b ∷ y) x') (same_kind part next (class_of b) e),
    )) h
token_ends_grow s n slot part bytes c b w t None k e h =
    let r = if_taken (is_whole_scalar part && not (joins c)) (step_at (with_scalar s n slot (kind_of part) bytes) (after n slot) c b) w t h in
    let a = and_true (is_whole_scalar part) (not (joins c)) r.0 in
    lift [] (b ∷ w) s.done (append s.done (scalar n (kind_of part) bytes none)) (scalar n (kind_of part) bytes none) s.frames (token n slot part bytes) (at (after n slot)) t refl
    (λ u z x i st. ([], u, x, refl, a.0, apart_front b w u z (ap joins k ∙ not_true (joins c) a.1) i, st, ap (λ z. scalar n (kind_of part) z x) (sym (append-nil bytes))))
    (at_grow (with_scalar s n slot (kind_of part) bytes) (after n slot) c b w t k r.1)

-- pieces of strings

closing_quote : (q : Quote) (i : Inside) (c : Class) → is_closing_quote q i c ≡ true → (i ≡ Plain Whole) × (c ≡ quote_class q)
closing_quote Single (Plain Whole) SingleQuote e = (refl, refl)
closing_quote Double (Plain Whole) DoubleQuote e = (refl, refl)
closing_quote _ _ _ e = cc

piece_on : (s : State) (n : List ℕ) (slot : Slot) (bytes : List ℕ) (q : Quote) (i : Inside) (c : Class) (b : ℕ) (w : List ℕ) (t : Fields) (o : Option (Inside × List ℕ)) → class_of b ≡ c
    → inside_next q i c b ≡ o → CompletesAt (moves s (goes_on n slot bytes q o)) w t → Completes s.done s.frames (piece n slot bytes q i) (b ∷ w) t
piece_on s n slot bytes q i c b w t None k e h = absurd h
piece_on s n slot bytes q i c b w t (Some l) k e h =
    one s (piece n slot bytes q i) (piece n slot (bytes ++ l.1) q l.0) b w t
    (λ u z x j (y, d, v, ue, ends, st). (b ∷ y, l.1 ++ d, v, ap (λ z. b ∷ z) ue, inside_grow q i c b l y d k e ends, subst (λ z. Stands (joined n slot z) v x) (append_assoc bytes l.1 d) st)) h

if_moves : (s : State) (b : Bool) (x : Spot) (y : Option Spot) (w : List ℕ) (t : Fields) → CompletesAt (moves s (cond b (Some x) y)) w t
    → ((b ≡ true) × Completes s.done s.frames x w t) ⊎ CompletesAt (moves s y) w t
if_moves s true x y w t h = inl (refl, h)
if_moves s false x y w t h = inr h

piece_grow : (s : State) (n : List ℕ) (slot : Slot) (bytes : List ℕ) (q : Quote) (i : Inside) (c : Class) (b : ℕ) (w : List ℕ) (t : Fields) → class_of b ≡ c
    → CompletesAt (moves s (piece_spot n slot bytes q i c b)) w t → Completes s.done s.frames (piece n slot bytes q i) (b ∷ w) t
piece_grow s n slot bytes q i c b w t k h =
    elim (if_moves s (is_closing_quote q i c) (at (joined n slot bytes)) _ w t h) [
      | inl r ↦ (let e = closing_quote q i c r.0 in
          one s (piece n slot bytes q i) (at (joined n slot bytes)) b w t
          (λ u z x j st. (
            b ∷ [],
            [],
            u,
            refl,
            subst (λ i. InsideEnds q i (b ∷ []) []) (sym e.0) (inside_content q (b ∷ []) [] (g.closes (k ∙ e.1))),
            subst (λ z. Stands (joined n slot z) u x) (sym (append-nil bytes)) st,
          )) r.1)
      | inr r ↦ piece_on s n slot bytes q i c b w t (inside_next q i c b) k refl r
    ]

spot_grow : (s : State) (spot : Spot) (c : Class) (b : ℕ) (w : List ℕ) (t : Fields) → class_of b ≡ c → CompletesAt (step_spot s spot c b) w t → Completes s.done s.frames spot (b ∷ w) t
spot_grow s (at p) c b w t k h = at_grow s p c b w t k h
spot_grow s (comment p u) c b w t k h = comment_grow s p u c b w t k h
spot_grow s (naming part bytes) c b w t k h = naming_grow s part bytes c b w t (name_next part c) k (ap (name_next part) k) h
spot_grow s (token n slot part bytes) c b w t k h = token_ends_grow s n slot part bytes c b w t (scalar_next part c) k (ap (scalar_next part) k) h
spot_grow s (piece n slot bytes q i) c b w t k h = piece_grow s n slot bytes q i c b w t k h

-- where the text may end

final_at : (d : Fields) (fs : List Frame) (p : Place) (t : Fields) → final d fs p ≡ Some t → Completes d fs (at p) [] t
final_at d [] (start f) t e = (none, g.ends, sym (some_same e) ∙ sym (append_none d))
final_at d (f ∷ fs) p t e = cc
final_at d [] _ t e = cc

if_fields : (b : Bool) (o : Option Fields) (t : Fields) → cond b o None ≡ Some t → (b ≡ true) × (o ≡ Some t)
if_fields true o t e = (refl, e)
if_fields false o t e = cc

apart_nothing : (u z : List ℕ) → u ++ z ≡ [] → Apart u
apart_nothing [] z h = tt
apart_nothing (c ∷ u) z h = absurd (let same : (c ∷ (u ++ z)) ≡ [] = h in cc)

accepted : (s : State) (spot : Spot) (t : Fields) → accepts_spot s spot ≡ Some t → Completes s.done s.frames spot [] t
accepted s (at p) t e = settle_grow s p [] t (final_at (settled s p).done (settled s p).frames (settled_place p) t e)
accepted s (token n slot part bytes) t e =
    let r = if_fields (is_whole_scalar part) (final (append s.done (scalar n (kind_of part) bytes none)) s.frames (after n slot)) t e in
    lift [] [] s.done (append s.done (scalar n (kind_of part) bytes none)) (scalar n (kind_of part) bytes none) s.frames (token n slot part bytes) (at (after n slot)) t refl
    (λ u z x i st. ([], u, x, refl, r.0, apart_nothing u z i, st, ap (λ z. scalar n (kind_of part) z x) (sym (append-nil bytes))))
    (final_at _ s.frames (after n slot) t r.1)
accepted s _ t e = cc

taken_outcome : (w : List ℕ) (t : Fields) (o : Option State) → ((s : State) → outcome s w ≡ Some t → Completes s.done s.frames s.spot w t)
    → option_and_then (λ next. outcome next w) o ≡ Some t → CompletesAt o w t
taken_outcome w t None f e = cc
taken_outcome w t (Some next) f e = f next e

pub sound : (w : List ℕ) (s : State) (t : Fields) → outcome s w ≡ Some t → Completes s.done s.frames s.spot w t
sound [] s t e = accepted s s.spot t e
sound (b ∷ w) s t e = spot_grow s s.spot (class_of b) b w t refl (taken_outcome w t (step s b) (λ next. sound w next t) e)

-- from the start, that is a text
pub sound_text : (w : List ℕ) (t : Fields) → outcome begin w ≡ Some t → Stands (start false) w t
sound_text w t e = let r = sound w begin t e in subst (λ x. Stands (start false) w x) (sym r.2) r.1
