use Rattle.mg_calc.specs.declared.event.Event.TheVariants.{Claim}
use Rattle.mg_calc.specs.declared.event.Effect.TheVariants.{Idle}
use Rattle.mg_sched.specs.Acts.{Acts}
use Rattle.mg_sched.proofs.Becoming.{becomes_one, becomes_runs, becomes_some}
use Rattle.mg_sched.proofs.Sweeping.{still_there}
use Rattle.mg_sched.proofs.RestingFinds.{finds_one, found_some, raise_finds, raise_becomes, takes_found}
use Rattle.mg_sched.proofs.net.Net.takes_at.Goals as goal

pub returns-in_err-claimed-clause-becomes : goal.returns-in_err-claimed-clause-becomes
returns-in_err-claimed-clause-becomes g c = becomes_one (Claim c.args.node) c.claim.result c.args.self.now c.claim.new.self c.requires.there c.claim.ensures

pub returns-then-claimed-clause-finds : goal.returns-then-claimed-clause-finds
returns-then-claimed-clause-finds g c =
    found_some c.in_ok-claimed.claimed (Acts g.C.NodeCalculator.laws (Claim c.args.node) Idle c.args.self.now c.args.self.now) c.args.self.now c.claim.new.self c.if-claimed.true
    (finds_one c.in_ok-claimed.claimed (Claim c.args.node) c.claim.result c.args.self.now c.claim.new.self c.requires.there c.requires.running c.requires.stands c.in_ok-claimed.ensures c.claim.ensures)

pub returns-then-claimed-clause-becomes : goal.returns-then-claimed-clause-becomes
returns-then-claimed-clause-becomes g c = becomes_one (Claim c.args.node) c.claim.result c.args.self.now c.claim.new.self c.requires.there c.claim.ensures

pub raise-requires-clause-there : goal.raise-requires-clause-there
raise-requires-clause-there g c = still_there {laws = g.C.NodeCalculator.laws} c.args.node c.args.self.now c.claim.new.self (becomes_one (Claim c.args.node) c.claim.result c.args.self.now c.claim.new.self c.requires.there c.claim.ensures) c.requires.there

pub raise-requires-clause-stands : goal.raise-requires-clause-stands
raise-requires-clause-stands g c = becomes_some c.args.self.now c.claim.new.self c.requires.running c.requires.stands (becomes_one (Claim c.args.node) c.claim.result c.args.self.now c.claim.new.self c.requires.there c.claim.ensures)

pub raise-requires-clause-running : goal.raise-requires-clause-running
raise-requires-clause-running g c = becomes_runs {laws = g.C.NodeCalculator.laws} c.args.self.now c.claim.new.self c.requires.running (becomes_one (Claim c.args.node) c.claim.result c.args.self.now c.claim.new.self c.requires.there c.claim.ensures)

pub returns-clause-finds : goal.returns-clause-finds
returns-clause-finds g c =
    takes_found g.C.NodeCalculator.laws c.in_ok-claimed.claimed c.in_ok-raised.raised c.args.node c.args.self.now c.claim.new.self c.raise.new.self c.requires.works c.requires.shelf c.if-claimed.false
    (finds_one c.in_ok-claimed.claimed (Claim c.args.node) c.claim.result c.args.self.now c.claim.new.self c.requires.there c.requires.running c.requires.stands c.in_ok-claimed.ensures c.claim.ensures)
    (raise_finds c.in_ok-raised.raised c.args.node c.raise.result c.args.self.now c.claim.new.self c.raise.new.self c.requires.there c.requires.running c.requires.stands (becomes_one (Claim c.args.node) c.claim.result c.args.self.now c.claim.new.self c.requires.there c.claim.ensures) c.in_ok-raised.ensures
    c.raise.ensures)

pub returns-clause-becomes : goal.returns-clause-becomes
returns-clause-becomes g c = raise_becomes c.args.node c.raise.result c.args.self.now c.claim.new.self c.raise.new.self c.requires.there (becomes_one (Claim c.args.node) c.claim.result c.args.self.now c.claim.new.self c.requires.there c.claim.ensures) c.raise.ensures

pub returns-in_err-raised-clause-becomes : goal.returns-in_err-raised-clause-becomes
returns-in_err-raised-clause-becomes g c = raise_becomes c.args.node c.raise.result c.args.self.now c.claim.new.self c.raise.new.self c.requires.there (becomes_one (Claim c.args.node) c.claim.result c.args.self.now c.claim.new.self c.requires.there c.claim.ensures) c.raise.ensures
