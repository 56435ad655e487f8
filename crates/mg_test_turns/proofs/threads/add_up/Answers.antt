use Rattle.mg_test_turns.proofs.threads.add_up.Goals as goal

pub expect_last-requires-clause-outputs : goal.expect_last-requires-clause-outputs
expect_last-requires-clause-outputs g c = c.together.ensures.outputs 1 c.in_ok-net.ensures.kept
