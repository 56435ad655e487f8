-- Tests joined by "or" and by "and", and options joined so that the first that there is counts.
use Rattle.std.proofs.Common.{◌≡◌, ◌⊎◌, inl, inr, Bool, true, false, ◌&&◌, ◌||◌, cond, Option, None, Some, refl, sym}
use Rattle.std.specs.Prelude.{option_map}
use Rattle.std.specs.Option.{option_or}
use Rattle.std.proofs.lemmas.Bool.{false≢true}

pub or_left : (a b : Bool) → a ≡ true → (a || b) ≡ true
or_left true b known = refl
or_left false b known = absurd (false≢true known)

pub or_right : (a b : Bool) → b ≡ true → (a || b) ≡ true
or_right true b known = refl
or_right false b known = known

pub or_cases : (a b : Bool) → (a || b) ≡ true → (a ≡ true) ⊎ (b ≡ true)
or_cases true b known = inl refl
or_cases false b known = inr known

pub or_false : (a : Bool) → (a || false) ≡ a
or_false true = refl
or_false false = refl

pub or_neither : (a b : Bool) → a ≡ false → b ≡ false → (a || b) ≡ false
or_neither true b first second = absurd (false≢true (sym first))
or_neither false b first second = second

pub neither_left : (a b : Bool) → (a || b) ≡ false → a ≡ false
neither_left true b known = known
neither_left false b known = refl

pub neither_right : (a b : Bool) → (a || b) ≡ false → b ≡ false
neither_right true b known = absurd (false≢true (sym known))
neither_right false b known = known

pub and_join : (a b : Bool) → a ≡ true → b ≡ true → (a && b) ≡ true
and_join true b first second = second
and_join false b first second = absurd (false≢true first)

pub and_both : (a b : Bool) → (a && b) ≡ true → (a ≡ true) × (b ≡ true)
and_both true b known = (refl, known)
and_both false b known = absurd (false≢true known)

-- the one, or else the other
pub none_left : {X : Type 0} (first second : Option X) → option_or first second ≡ None → first ≡ None
none_left None second none = refl
none_left (Some x) second none = cc

pub none_right : {X : Type 0} (first second : Option X) → option_or first second ≡ None → second ≡ None
none_right None second none = none
none_right (Some x) second none = cc

pub either_some : {X : Type 0} (first second : Option X) (x : X) → option_or first second ≡ Some x → (first ≡ Some x) ⊎ (second ≡ Some x)
either_some None second x known = inr known
either_some (Some y) second x known = inl known

pub none_else : {X : Type 0} (o : Option X) → ((x : X) → o ≡ Some x → ⊥) → o ≡ None
none_else None other = refl
none_else (Some x) other = absurd (other x refl)

pub none_mapped : {X Y : Type 0} (f : X → Y) (o : Option X) → option_map f o ≡ None → o ≡ None
none_mapped f None known = refl
none_mapped f (Some x) known = cc

-- what is found neither here nor later
pub absent_here : {X : Type 0} (test : Bool) (x : X) (later : Option X) → cond test (Some x) later ≡ None → test ≡ false
absent_here true x later none = cc
absent_here false x later none = refl

pub absent_later : {X : Type 0} (test : Bool) (x : X) (later : Option X) → cond test (Some x) later ≡ None → later ≡ None
absent_later true x later none = cc
absent_later false x later none = none
