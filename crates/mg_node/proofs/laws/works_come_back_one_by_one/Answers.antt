use Rattle.mg_node.proofs.Growing.{window_grows, unshelving_grows}
use Rattle.mg_node.proofs.KeptOut.{commits_back, commits_set_up, window_set_up, unshelving_set_up}
use Rattle.mg_node.proofs.StaysOut.{shelved_back, unshelved_out}
use Rattle.mg_node.proofs.laws.works_come_back_one_by_one.Goals as goal

pub returns-clause-committed : goal.returns-clause-committed
returns-clause-committed c = λ laws. commits_back

pub returns-clause-committed_set_up : goal.returns-clause-committed_set_up
returns-clause-committed_set_up c = commits_set_up

pub returns-clause-shelved : goal.returns-clause-shelved
returns-clause-shelved c = shelved_back

pub returns-clause-shelved_set_up : goal.returns-clause-shelved_set_up
returns-clause-shelved_set_up c = λ engine outcome. window_set_up engine _

pub returns-clause-shelved_grows : goal.returns-clause-shelved_grows
returns-clause-shelved_grows c = λ engine outcome. window_grows engine _ engine.idle

pub returns-clause-taken : goal.returns-clause-taken
returns-clause-taken c = λ laws job owner number engine engine_now p lawful found taken. unshelved_out job owner engine engine_now number p lawful found taken

pub returns-clause-taken_set_up : goal.returns-clause-taken_set_up
returns-clause-taken_set_up c = λ found number engine engine_now taken. unshelving_set_up found engine engine_now number taken

pub returns-clause-taken_grows : goal.returns-clause-taken_grows
returns-clause-taken_grows c = λ found number engine engine_now taken. unshelving_grows found engine engine_now number taken
