use Rattle.std.proofs.Common.{inl, inr, refl}
use Rattle.mg_sched.proofs.net.Net.claim.Goals as goal

pub returns-then-is_held_source : goal.returns-then-is_held_source
returns-then-is_held_source g c = inl (c.if-is_held_source.ensures.held refl, record { idle = refl; same = refl })

pub returns : goal.returns
returns g c = inr (c.if-is_held_source.ensures.not_held refl, c.claim_next.ensures)
