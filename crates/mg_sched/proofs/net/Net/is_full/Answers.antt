use Rattle.std.proofs.Common.{ℕ, ◌+◌, ◌<◌, ◌≤◌, length, subst, sym}
use Rattle.mg_node.specs.Ports.{ports_in}
use Rattle.mg_sched.specs.Places.{first_edge}
use Rattle.mg_sched.specs.Views.{NetView}
use Rattle.mg_sched.proofs.Finding.{intake_fits, intake_read}
use Rattle.mg_sched.proofs.Carrying.{queues_short, all_ports_fit}
use Rattle.mg_sched.proofs.net.Net.is_full.Goals as goal

pub index-requires : goal.index-requires
index-requires g c = intake_fits _ c.args.self.now c.args.node _ c.self.view_is c.requires.stands c.requires.there c.self.inside.intakes.ok.0

pub is_at_limit-requires-clause-short : goal.is_at_limit-requires-clause-short
is_at_limit-requires-clause-short g c = subst (λ (v : NetView). length v.limits.queues < 4294967296) (sym c.self.view_is) (queues_short c.args.self.now c.requires.stands)

pub is_at_limit-requires-clause-queues : goal.is_at_limit-requires-clause-queues
is_at_limit-requires-clause-queues g c =
    subst (λ (n : ℕ). n + ports_in c.index.result.now.waits ≤ length c.self.inside.limits.queues) (sym c.first_edge.ensures)
    (subst (λ (v : NetView). first_edge c.args.self.now.plan c.args.node + ports_in c.index.result.now.waits ≤ length v.limits.queues) (sym c.self.view_is)
    (all_ports_fit c.args.self.now c.args.node c.index.result.now c.requires.stands c.requires.there (intake_read _ c.args.self.now c.args.node _ c.self.view_is c.requires.stands c.requires.there c.index.ensures)))
