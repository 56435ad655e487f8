-- The names of an options message, as the code keeps them.
use Rattle.std.specs.Prelude.{◌≡◌, ℕ, List, string_bytes}
use Rattle.mg_kinds.specs.Options.{extension_name, any_name}
use Rattle.mg_kinds.specs.declared.options.OwnNames.{OwnNames}

-- names are those of a calculator's options message
pub record AreOwn (names : OwnNames) (calculator : List ℕ) : Type 0 where
  pub extension : string_bytes names.extension ≡ extension_name calculator
  pub any : string_bytes names.any ≡ any_name calculator
