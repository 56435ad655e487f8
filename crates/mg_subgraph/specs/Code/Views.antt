-- What a library stands for: its files as `GraphView`s.
use Rattle.std.specs.Prelude.{List, map}
use Rattle.mg_config.specs.Config.{GraphView, graph_view}
use Rattle.mg_subgraph.specs.declared.library.Library.{Library}

abbrev pub files_of : Library → List GraphView
files_of library = map graph_view library.files.now
