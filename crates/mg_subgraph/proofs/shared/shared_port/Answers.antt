use Rattle.mg_config.specs.Config.{graph_view}
use Rattle.std.specs.Prelude.{option_copied}
use Rattle.mg_subgraph.proofs.Looked.{shared_stream, shared_side, shared_none}
use Rattle.mg_subgraph.proofs.shared.shared_port.Goals as goal

pub returns-in-Some-default : goal.returns-in-Some-default
returns-in-Some-default c = shared_stream c.args.names.now (graph_view c.args.file.now) c.in-Some-default.place (option_copied c.port_at.result) c.requires c.in-Some-default.ensures c.port_at.ensures

pub returns-in-None-Some : goal.returns-in-None-Some
returns-in-None-Some c =
    shared_side c.args.names.now (graph_view c.args.file.now) c.in-None-Some.place (option_copied c.port_at-in-None-Some.result) c.requires c.in-None-Some.ensures c.in-None-Some.ensures' c.port_at-in-None-Some.ensures

pub returns-in-None-None : goal.returns-in-None-None
returns-in-None-None c = shared_none c.args.names.now (graph_view c.args.file.now) c.requires c.in-None-None.ensures c.in-None-None.ensures'
