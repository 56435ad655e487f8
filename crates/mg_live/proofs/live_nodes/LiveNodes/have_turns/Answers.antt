use Rattle.std.proofs.Common.{slice_get, ap, sym, ◌∙◌, arith}
use Rattle.mg_live.specs.Takes.{handed_of}
use Rattle.mg_live.proofs.Turned.{idle_lent}
use Rattle.mg_live.proofs.live_nodes.LiveNodes.have_turns.Goals as goal

pub round-requires-clause-idle : goal.round-requires-clause-idle
round-requires-clause-idle g c = λ ss are place free taker none at at_taker.
    c.requires.idle ss are place free taker none (ap (λ fs. slice_get fs place) (sym c.as_slice.ensures) ∙ at) (ap (λ ts. slice_get ts place) (sym c.deref_mut.ensures.value) ∙ at_taker)

pub returns-clause-idle : goal.returns-clause-idle
returns-clause-idle g c = λ ss are.
    idle_lent ss c.args.self.now.free c.as_slice.result.now c.args.self.now.takers.items c.round.new.takers c.args.self.now.takers.len c.in_ok-did.did.items c.as_slice.ensures (c.round.ensures.handed ∙ ap handed_of c.deref_mut.ensures.value) (let long = c.args.self.now.takers.ok.0 in omega (arith, long)) (c.in_ok-did.ensures.idle ss are)
