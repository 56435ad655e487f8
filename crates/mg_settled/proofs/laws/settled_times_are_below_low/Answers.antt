use Rattle.mg_settled.proofs.Times.{In-is_among, is_among-In}
use Rattle.mg_settled.proofs.SettledTimes.{settled_from, settled_to}
use Rattle.mg_settled.proofs.laws.settled_times_are_below_low.Goals as goal

pub returns : goal.returns
returns c = λ ss t. (
  (λ settled. (let is = settled_from ss t (is_among-In t _ settled) in (is.0, In-is_among t _ is.1))),
  (λ h. In-is_among t _ (settled_to ss t h.0 (is_among-In t _ h.1))),
)
