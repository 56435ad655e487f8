use Rattle.mg_run.proofs.Coming.{came-usage, came-note, came-told, came-called, came-unloaded, came-noted, came-unread, came-ended, came-store, came-read, came-write, came-boxes, came-uncalled}
use Rattle.mg_run.proofs.call_laws.what_a_call_came_to.Goals as goal

pub returns-clause-usage : goal.returns-clause-usage
returns-clause-usage c = came-usage

pub returns-clause-usage_note : goal.returns-clause-usage_note
returns-clause-usage_note c = came-note

pub returns-clause-told : goal.returns-clause-told
returns-clause-told c = came-told

pub returns-clause-called : goal.returns-clause-called
returns-clause-called c = came-called

pub returns-clause-unloaded : goal.returns-clause-unloaded
returns-clause-unloaded c = came-unloaded

pub returns-clause-memory_noted : goal.returns-clause-memory_noted
returns-clause-memory_noted c = came-noted

pub returns-clause-unread : goal.returns-clause-unread
returns-clause-unread c = came-unread

pub returns-clause-ended : goal.returns-clause-ended
returns-clause-ended c = came-ended

pub returns-clause-store_rose : goal.returns-clause-store_rose
returns-clause-store_rose c = came-store

pub returns-clause-read_rose : goal.returns-clause-read_rose
returns-clause-read_rose c = came-read

pub returns-clause-write_rose : goal.returns-clause-write_rose
returns-clause-write_rose c = came-write

pub returns-clause-boxes : goal.returns-clause-boxes
returns-clause-boxes c = came-boxes

pub returns-clause-uncalled : goal.returns-clause-uncalled
returns-clause-uncalled c = came-uncalled
