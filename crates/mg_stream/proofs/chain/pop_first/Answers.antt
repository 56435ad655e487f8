use Rattle.std.proofs.Common.{refl}
use Rattle.mg_stream.proofs.Linked.{begins, popped_entries}
use Rattle.mg_stream.proofs.chain.pop_first.Goals as goal

pub remove-entry-requires : goal.remove-entry-requires
remove-entry-requires c = let first = begins c.args.entries.now.slots c.args.chain.now c.requires.whole c.requires.waits in rw first.there refl

pub returns-clause-entries : goal.returns-clause-entries
returns-clause-entries c =
    popped_entries c.args.entries.now.slots c.remove-entry.new.self.slots c.args.chain.now c.remove-entry.result c.requires.whole c.requires.waits
    c.remove-entry.ensures.value c.remove-entry.ensures.updates.others
