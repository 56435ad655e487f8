-- What contracts see of settings: the law, and the side packets as plain trees.
use Rattle.mg_kinds.specs.Kinds.{SettingsView}
use Rattle.mg_kinds.specs.Views.{plain_of}
use Rattle.mg_kinds.specs.declared.settings.Settings.{Settings}

abbrev pub settings_view : Settings → SettingsView
settings_view settings = record { law = settings.law; constants = plain_of settings.constants.items }
