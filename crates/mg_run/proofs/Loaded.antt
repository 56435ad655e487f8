-- Which files were loaded if memory ran out.
use Rattle.std.proofs.Common.{ℕ, List, [], refl, sym, append-nil}
use Rattle.mg_edge.specs.Edge.{StoreTold}
use Rattle.mg_files.specs.Loads.{LoadedAll, LoadedFront}
use Rattle.mg_run.specs.Devices.{Device, device}

-- no file
pub none_loaded : (files : List (List ℕ)) (told : StoreTold) → LoadedFront files (device told told)
none_loaded files told = record { kept = λ name. refl; front = []; rest = files; order = refl; loaded = sym (append-nil told.loaded) }

-- all of them
pub all_loaded : (files contents : List (List ℕ)) (store : Device StoreTold) → LoadedAll files contents store → LoadedFront files store
all_loaded files contents store all = record { kept = all.kept; front = files; rest = []; order = sym (append-nil files); loaded = all.loaded }
