use Rattle.std.proofs.Common.{◌≡◌, ◌++◌, List, ℕ, take}
use Rattle.mg_files.specs.Loads.{AreLoaded}
use Rattle.mg_files.specs.Reads.{contents_of}
use Rattle.mg_files.proofs.load.load_all.Given as goal

-- The files before the next were loaded, and the store has the contents that it had.
abbrev pub invariant-loop-name : goal.invariant-loop-name
invariant-loop-name g l =
    let before = g.T.Store.told l.fn.store in
    let now = g.T.Store.told l.store in
    record {
      kept : (name : List ℕ) → now.content name ≡ before.content name;
      loaded : now.loaded ≡ before.loaded ++ take l.name-index l.names;
      given : AreLoaded before.content (take l.name-index l.names) (contents_of l.contents.items);
      steady : now.faults ≡ before.faults;
      last : now.failed_name ≡ before.failed_name;
    }
