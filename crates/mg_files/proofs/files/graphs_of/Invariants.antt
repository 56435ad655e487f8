use Rattle.std.proofs.Common.{take, map}
use Rattle.mg_config.specs.Config.{graph_view}
use Rattle.mg_files.specs.Files.{AreGraphs}
use Rattle.mg_files.specs.Reads.{contents_of}
use Rattle.mg_files.proofs.files.graphs_of.Given as goal

-- The files before the next are these graphs.
abbrev pub invariant-loop-place : goal.invariant-loop-place
invariant-loop-place l = AreGraphs (contents_of (take l.place l.contents)) (map graph_view l.graphs.items)
