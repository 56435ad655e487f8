-- How the logic stores what contracts see of a holder.
use Rattle.std.specs.Prelude.{Bool, refl}
use Rattle.std.specs.Coded.{Coded, code_by, coded×, coded_bool}
use Rattle.mg_calc.specs.Told.{BoxTold}
use Rattle.mg_calc.specs.ToldCodes.{told_code}
use Rattle.mg_route.specs.HolderView.{HolderView, holder_view, told_by}

abbrev pub holder_code : Coded HolderView
holder_code = code_by (BoxTold × Bool) (coded× told_code coded_bool) (λ h. (told_by h, h.handed)) (λ p. holder_view p.1 p.0) (λ _. refl)
