use Rattle.mg_calc.proofs.Sent.{sent}
use Rattle.own_mill_test.proofs.running.call.Goals as goal

pub run_words-status-requires-send-C : goal.run_words-status-requires-send-C
run_words-status-requires-send-C g c κs = search sent depth 60 fits 50000
