-- Texts of numbers of 64 signed bits.
use Rattle.std.proofs.Common.{◌≡◌, ℕ, ℤ, List, Result, Ok, FitsSigned}
use Rattle.std.specs.Int.{w64}
use Rattle.std.specs.Fmt.{signed_decimal}
use Rattle.std.specs.Str.{IsUtf8}
use Rattle.std.specs.Str.Parse.{ParsesSigned}
use Rattle.std.proofs.lemmas.Str.{IsUtf8-from_ascii}
use Rattle.std.proofs.lemmas.Fmt.{IsAscii-signed, parse-signed_decimal}

-- The decimal text of a number is UTF-8.
pub number_is_utf8 : (z : ℤ) (text : List ℕ) → FitsSigned w64 z → text ≡ signed_decimal z → IsUtf8 text
number_is_utf8 z text fits e = rw e (IsUtf8-from_ascii (signed_decimal z) (IsAscii-signed z fits.sfits))

-- The decimal text of a number is parsed as the number.
pub number_is_parsed : {E : Type 0} (z : ℤ) (text : List ℕ) (r : Result ℤ E) → FitsSigned w64 z → text ≡ signed_decimal z
    → ParsesSigned w64 10 text r → r ≡ Ok z
number_is_parsed z text r fits e parsed = parse-signed_decimal w64 z text r fits fits.sfits e parsed
