use Rattle.mg_sched.proofs.ComingApart.{parts_come_apart}
use Rattle.mg_sched.proofs.net.Net.apart.Goals as goal

pub returns-clause-parts : goal.returns-clause-parts
returns-clause-parts g c = λ job h.
    parts_come_apart job c.args.self c.put_back_all.new.self _ c.net.view_is c.requires.running c.put_back_all.ensures.puts_back c.put_back_all.ensures.others c.put_back_all.ensures.stands h
