-- The bytes of a token so far are characters, which the parser's own functions require.
use Rattle.std.specs.Prelude.{◌≡◌, ℕ, ◌<◌, ◌≤◌, List, [], ◌∷◌, ◌++◌, Some}
use Rattle.mg_text.specs.Byte.{lead, follow}
use Rattle.mg_text.specs.Grammar.{Place, joined}
use Rattle.mg_text.specs.Code.Machine.{Spot, at, comment, naming, token, piece}
use Rattle.mg_text.specs.declared.state.Inside.{Inside}
use Rattle.mg_text.specs.declared.state.Inside.TheVariants.{Plain, Escape, Second, Third}
use Rattle.mg_text.specs.declared.parts.Tail.{Tail}
use Rattle.mg_text.specs.declared.parts.Tail.TheVariants.{Whole}

-- The bytes are characters; the last one still awaits this.
pub data CharsTo : Tail → List ℕ → Type 0 where
  no_byte : CharsTo Whole []
  ascii : (b : ℕ) {s : List ℕ} → b < 128 → CharsTo Whole s → CharsTo Whole (s ++ b ∷ [])
  first : (b : ℕ) {t : Tail} {s : List ℕ} → lead b ≡ Some t → CharsTo Whole s → CharsTo t (s ++ b ∷ [])
  more : (b : ℕ) {t u : Tail} {s : List ℕ} → follow t b ≡ Some u → CharsTo t s → CharsTo u (s ++ b ∷ [])

-- The bytes of a piece so far are characters, and the octal digits so far have a value that leaves the escape at most \177.
abbrev pub IsCleanInside : Inside → List ℕ → Type 0
IsCleanInside (Plain t) bytes = CharsTo t bytes
IsCleanInside Escape bytes = CharsTo Whole bytes
IsCleanInside (Second v) bytes = (v ≤ 1) × CharsTo Whole bytes
IsCleanInside (Third v) bytes = (v ≤ 15) × CharsTo Whole bytes

abbrev pub IsCleanPlace : Place → Type 0
IsCleanPlace (joined n slot bytes) = CharsTo Whole bytes
IsCleanPlace _ = Unit {0}

abbrev pub IsClean : Spot → Type 0
IsClean (at p) = IsCleanPlace p
IsClean (comment p t) = IsCleanPlace p
IsClean (naming part bytes) = CharsTo Whole bytes
IsClean (token n slot part bytes) = CharsTo Whole bytes
IsClean (piece n slot bytes q i) = IsCleanInside i bytes
