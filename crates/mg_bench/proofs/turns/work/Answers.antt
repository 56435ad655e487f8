use Rattle.mg_bench.proofs.turns.work.Goals as goal

pub performed-requires : goal.performed-requires
performed-requires c = (let some = c.requires.shared.some in record { job = some.job; lawful = c.in-Ok.ensures.lawful some.job some.fits })
