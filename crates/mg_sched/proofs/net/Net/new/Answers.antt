use Rattle.mg_sched.proofs.net.Net.new.Goals as goal

pub returns-in-Ok-clause-made : goal.returns-in-Ok-clause-made
returns-in-Ok-clause-made g c = c.joined.ensures c.args.inputs.now c.requires.job c.in-Ok.ensures.parts
