-- A calculator by its law may cross threads.
use denote.Param.Send.{sendable}
use Rattle.mg_route.proofs.Sent.{law_box}
use Rattle.mg_cli.proofs.call.Goals as goal

pub run_words-requires-send-C : goal.run_words-requires-send-C
run_words-requires-send-C g c κs = search (law_box, sendable) depth 40 fits 20000
