-- What follows from an equation of options, and from the truth of a test.
use Rattle.std.proofs.Common.{◌≡◌, Bool, true, false, cond, Option, Some, None, refl, not, ◌&&◌}
use Rattle.std.specs.Option.{option_map}

pub some_same : {A : Type 0} {x y : A} → Some x ≡ Some y → x ≡ y
some_same e = cc

pub from_if : {A : Type 0} (b : Bool) {x y : A} → cond b (Some x) None ≡ Some y → (b ≡ true) × (x ≡ y)
from_if true e = (refl, cc)
from_if false e = cc

pub mapped : {A B : Type 0} (f : A → B) (o : Option A) (y : B) → option_map f o ≡ Some y → (x : A) × (o ≡ Some x) × (f x ≡ y)
mapped f (Some x) y e = (x, refl, cc)
mapped f None y e = cc

pub if_so : {A : Type 0} (b : Bool) {x : A} (y : A) → b ≡ true → cond b x y ≡ x
if_so true y e = refl
if_so false y e = cc

pub both : (a b : Bool) → a ≡ true → b ≡ false → (a && not b) ≡ true
both true false e f = refl
both true true e f = cc
both false b e f = cc

pub and_true : (a b : Bool) → (a && b) ≡ true → (a ≡ true) × (b ≡ true)
and_true true true e = (refl, refl)
and_true true false e = cc
and_true false b e = cc

pub not_true : (a : Bool) → not a ≡ true → a ≡ false
not_true true e = cc
not_true false e = refl
