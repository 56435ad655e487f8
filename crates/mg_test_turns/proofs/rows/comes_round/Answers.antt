use Rattle.mg_test_turns.proofs.rows.comes_round.Goals as goal

pub performed-requires : goal.performed-requires
performed-requires c = (let some = c.requires.has.some in record { job = some.job; lawful = c.requires.lawful some.job some.fits })
