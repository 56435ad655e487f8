use Rattle.std.proofs.Common.{◌∙◌}
use Rattle.mg_names.proofs.ReadBack.{port_read_back}
use Rattle.mg_names.proofs.printing.print_port.Goals as goal

pub returns-clause-read_back : goal.returns-clause-read_back
returns-clause-read_back c = port_read_back c.args.port.now c.from_string.result (c.from_string.ensures ∙ c.in_ok-text.ensures)
