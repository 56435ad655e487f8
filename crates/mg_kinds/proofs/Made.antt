-- What an option that is there was made of.
use Rattle.std.proofs.Common.{◌≡◌, Option, None, Some, refl}
use Rattle.std.specs.Prelude.{option_and_then}
pub use Rattle.mg_text.proofs.Choices.{mapped}
use Rattle.std.proofs.lemmas.Option.{none-some}

pub made_by : {A B : Type 0} (f : A → Option B) (o : Option A) (y : B) → option_and_then f o ≡ Some y → (x : A) × (o ≡ Some x) × (f x ≡ Some y)
made_by f None y e = absurd (none-some y e)
made_by f (Some x) y e = (x, refl, e)
