-- What completes a state by the grammar's rules, and how a state before it is completed too.
use Rattle.std.proofs.Common.{◌≡◌, ℕ, List, [], ◌∷◌, ◌++◌, Option, Some, None, sym, ap, ◌∙◌, subst, append_assoc}
use Rattle.std.proofs.lemmas.List.{append-nil}
use Rattle.mg_text.specs.Byte.{class_of}
use Rattle.mg_text.specs.Tree.{Fields, none, scalar, message, append}
use Rattle.mg_text.specs.Grammar.{Stands, Apart, named, joined, after, closing}
use Rattle.mg_text.specs.Code.Machine.{Spot, at, comment, naming, token, piece, Frame, State, kind_of}
use Rattle.mg_text.proofs.Appending.{append_none, append_fields_assoc}
use Rattle.mg_text.proofs.Names.{NameEnds}
use Rattle.mg_text.proofs.Scalars.{ScalarEnds}
use Rattle.mg_text.proofs.Pieces.{LineEnds, InsideEnds}

-- these bytes complete what is being read, up to the end of the message, and give these further fields
abbrev pub Rest : Spot → List ℕ → Fields → Type 0
Rest (at p) w x = Stands p w x
Rest (comment p t) w x = (l : List ℕ) × (v : List ℕ) × (w ≡ l ++ v) × LineEnds t l × Stands p v x
Rest (naming part bytes) w x = (y : List ℕ) × (v : List ℕ) × (w ≡ y ++ v) × NameEnds part y × Apart v × Stands (named (bytes ++ y)) v x
Rest (token n slot part bytes) w x = (y : List ℕ) × (v : List ℕ) × (z : Fields) × (w ≡ y ++ v) × ScalarEnds part y × Apart v × Stands (after n slot) v z × (x ≡ scalar n (kind_of part) (bytes ++ y) z)
Rest (piece n slot bytes q i) w x = (y : List ℕ) × (e : List ℕ) × (v : List ℕ) × (w ≡ y ++ v) × InsideEnds q i y e × Stands (joined n slot (bytes ++ e)) v x

-- these bytes complete the state, through all open messages, and make these fields of the whole
abbrev pub Completes : Fields → List Frame → Spot → List ℕ → Fields → Type 0
Completes done [] spot w t = (x : Fields) × Rest spot w x × (t ≡ append done x)
Completes done (f ∷ fs) spot w t =
    (u : List ℕ) × (c : ℕ) × (v : List ℕ) × (x : Fields) × (w ≡ u ++ c ∷ v) × Rest spot u x × (class_of c ≡ closing f.mark)
    × Completes (append f.before (message f.name (append done x) none)) fs (at (after f.name f.slot)) v t

abbrev pub CompletesAt : Option State → List ℕ → Fields → Type 0
CompletesAt None w t = ⊥
CompletesAt (Some s) w t = Completes s.done s.frames s.spot w t

-- from a spot to one that is some bytes before it, and has some fields after it
pub lift : (pre w : List ℕ) (done later e : Fields) (fs : List Frame) (spot next : Spot) (t : Fields) → later ≡ append done e
    → ((u z : List ℕ) (x : Fields) → u ++ z ≡ w → Rest next u x → Rest spot (pre ++ u) (append e x))
    → Completes later fs next w t → Completes done fs spot (pre ++ w) t
lift pre w done later e [] spot next t same f (x, h, te) =
    (append e x, f w [] x (append-nil w) h, te ∙ ap (λ d. append d x) same ∙ append_fields_assoc done e x)
lift pre w done later e (frame ∷ fs) spot next t same f (u, c, v, x, we, h, ce, more) = (
  pre ++ u,
  c,
  v,
  append e x,
  ap (λ z. pre ++ z) we ∙ sym (append_assoc pre u (c ∷ v)),
  f u (c ∷ v) x (sym we) h,
  ce,
  subst (λ d. Completes (append frame.before (message frame.name d none)) fs (at (after frame.name frame.slot)) v t) (ap (λ d. append d x) same ∙ append_fields_assoc done e x) more,
)

-- one more byte before, and the same fields
pub one : (s : State) (spot next : Spot) (b : ℕ) (w : List ℕ) (t : Fields)
    → ((u z : List ℕ) (x : Fields) → u ++ z ≡ w → Rest next u x → Rest spot (b ∷ u) x)
    → Completes s.done s.frames next w t → Completes s.done s.frames spot (b ∷ w) t
one s spot next b w t f h = lift (b ∷ []) w s.done s.done none s.frames spot next t (sym (append_none s.done)) f h

-- no byte, and the same fields
pub same_bytes : (done : Fields) (fs : List Frame) (spot next : Spot) (w : List ℕ) (t : Fields)
    → ((u z : List ℕ) (x : Fields) → u ++ z ≡ w → Rest next u x → Rest spot u x)
    → Completes done fs next w t → Completes done fs spot w t
same_bytes done fs spot next w t f h = lift [] w done done none fs spot next t (sym (append_none done)) f h
