use Rattle.std.proofs.lemmas.List.{length-map}
use Rattle.mg_settled.specs.Settled.{port_of}
use Rattle.mg_settled.proofs.Ports.{inputs-extended}
use Rattle.mg_settled.proofs.SetSteps.{all_inputs}
use Rattle.mg_settled.proofs.laws.inputs_follow_their_streams.Goals as goal

pub returns-clause-prefixes : goal.returns-clause-prefixes
returns-clause-prefixes c = λ ss ports h. all_inputs ss ports h

pub returns-clause-extended : goal.returns-clause-extended
returns-clause-extended c = λ ss ts ports e. inputs-extended ss ts ports e

pub returns-clause-places : goal.returns-clause-places
returns-clause-places c = λ ss ports. length-map ports (port_of ss)
