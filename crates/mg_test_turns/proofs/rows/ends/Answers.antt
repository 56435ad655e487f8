use Rattle.mg_test_turns.proofs.rows.ends.Goals as goal

pub expect_last-requires-clause-outputs : goal.expect_last-requires-clause-outputs
expect_last-requires-clause-outputs c = c.together.ensures.outputs 1 c.requires.kept
