use Rattle.mg_sched.proofs.ExtendedNets.{all_go_on, all_may_go_on, all_extends}
use Rattle.mg_sched.proofs.net.Net.extend.Goals as goal

pub extend_last-requires : goal.extend_last-requires
extend_last-requires g c = record { may = all_may_go_on c.args.more.now c.args.self.now c.requires.may }

pub returns-clause-extends : goal.returns-clause-extends
returns-clause-extends g c = all_extends c.args.more.now c.args.self.now c.extend_last.new.self c.requires.may c.in_ok-extend_last.ensures.extends

pub returns-clause-stands : goal.returns-clause-stands
returns-clause-stands g c = λ first later goes_on stands. c.in_ok-extend_last.ensures.stands first later (all_go_on c.args.more.now c.args.self.now first later c.requires.may goes_on) stands
