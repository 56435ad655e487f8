-- Sets with a packet that isn't of its port's kind. If no place so far is wrong, the rest of the set decides.
use Rattle.std.proofs.Common.{◌≡◌, ℕ, ◌+◌, ◌<◌, Bool, ◌||◌, List, ◌∷◌, Option, None, drop, length, get_or, refl, add-one}
use Rattle.std.proofs.lemmas.Option.{unwrap_or-slice_get}
use Rattle.std.proofs.Math.Seq.{drop-cons}
use Rattle.std.specs.List.{list_any, enumerate_from}
use Rattle.mg_value.specs.Plain.{Plain}
use Rattle.mg_value.specs.Packet.{Stamped}
use Rattle.mg_calc.specs.declared.law.Law.{Law}
use Rattle.mg_calc.specs.Values.{place_at}
use Rattle.mg_calc.specs.Kinds.{is_wrong}
use Rattle.mg_calc.specs.Shape.{input_kind}

-- whether some place from a port on is wrong
abbrev pub wrong_from : Law → ℕ → List (Option (Stamped Plain)) → Bool
wrong_from law i set = list_any (λ e. is_wrong (input_kind law e.0) e.1) (enumerate_from i (drop i set))

pub wrong_from-step : (law : Law) (i : ℕ) (set : List (Option (Stamped Plain))) → i < length set
    → wrong_from law i set ≡ is_wrong (input_kind law i) (place_at set i) || wrong_from law (i + 1) set
wrong_from-step law i set below =
    let whole : drop i set ≡ get_or set i None ∷ drop (i + 1) set = rw add-one (drop-cons set i None below) in
    rw (whole, unwrap_or-slice_get set i None) refl
