use Rattle.mg_sched.proofs.PuttingTogether.{joined_parts, is_together, together_runs, together_stands}
use Rattle.mg_sched.proofs.net.Net.put_together.Goals as goal

pub tell_limits-requires : goal.tell_limits-requires
tell_limits-requires g c = joined_parts _ c.joined-net.result c.joined-net.ensures c.requires

pub returns-clause-together : goal.returns-clause-together
returns-clause-together g c = is_together _ c.joined-net.result c.tell_limits.new.self c.joined-net.ensures c.tell_limits.ensures.same c.tell_limits.ensures.knows

pub returns-clause-running : goal.returns-clause-running
returns-clause-running g c = together_runs _ c.tell_limits.new.self (returns-clause-together g c)

pub returns-clause-stands : goal.returns-clause-stands
returns-clause-stands g c = λ job h. together_stands job _ c.tell_limits.new.self (returns-clause-together g c) h
