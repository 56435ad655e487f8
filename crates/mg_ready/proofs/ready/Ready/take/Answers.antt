use Rattle.std.proofs.Common.{subst, ◌<◌, count_by}
use Rattle.mg_ready.specs.Ready.{ReadyNodes}
use Rattle.mg_ready.proofs.Slots.{in_within}
use Rattle.mg_ready.proofs.Kept.{IsIn-out, count_by-out}
use Rattle.mg_ready.proofs.ready.Ready.take.Goals as goal

pub returns-clause-taken : goal.returns-clause-taken
returns-clause-taken c =
    let inside = in_within c.self.inside.places c.in_ok-place.place c.in_ok-place.ensures.there in
    IsIn-out _ c.self.inside.places _ c.in_ok-place.place _ c.node_at.ensures.only inside c.remove.ensures

pub returns-clause-fewer : goal.returns-clause-fewer
returns-clause-fewer c =
    let inside = in_within c.self.inside.places c.in_ok-place.place c.in_ok-place.ensures.there in
    subst (λ (r : ReadyNodes). count_by (λ b. b) c.remove.new.self < count_by (λ b. b) r.is_in) c.self.view_is
    (count_by-out c.self.inside.places c.remove.new.self c.in_ok-place.place inside c.in_ok-place.ensures.there c.remove.ensures)
