use Rattle.std.proofs.lemmas.List.Elements.{recursion_from_All}
use Rattle.mg_settled.specs.Prefix.{IsPrefix}
use Rattle.mg_free.proofs.Logging.{lawful_may, log_prefix, log_extends, ended_prefix}
use Rattle.mg_free.proofs.laws.a_logs_output_is_a_prefix.Goals as goal

pub returns-clause-may : goal.returns-clause-may
returns-clause-may c = λ law inputs log many keeps lawful. lawful_may law inputs log many (recursion_from_All IsPrefix inputs keeps) lawful

pub returns-clause-prefix : goal.returns-clause-prefix
returns-clause-prefix c = log_prefix

pub returns-clause-ended : goal.returns-clause-ended
returns-clause-ended c = ended_prefix

pub returns-clause-extends : goal.returns-clause-extends
returns-clause-extends c = log_extends
