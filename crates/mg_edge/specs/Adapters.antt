-- What the adapters tell. The system is trusted for what a file or a terminal has: over those, `reader_left` and
-- `writer_taken` are none.
use Rattle.std.specs.Prelude.{ℕ, List, map, Option, None}
use Rattle.std.specs.Option.{option_map}
use Rattle.std.specs.String.{string_bytes}
use Rattle.mg_edge.specs.Edge.{SourceTold, SinkTold, StoreTold}
use Rattle.mg_edge.specs.declared.reader_source.ReaderSource.{ReaderSource}
use Rattle.mg_edge.specs.declared.writer_sink.WriterSink.{WriterSink}
use Rattle.mg_edge.specs.declared.folder_store.FolderStore.{FolderStore}

-- A source tells what its reader has left, and its counts.
abbrev pub reader_told : {R : Type 0} → (R → Option (List ℕ)) → ReaderSource R → SourceTold
reader_told reader_left source = record {
  left = reader_left source.reader;
  reads = None;
  ends = source.ends;
  faults = source.faults;
  left_at_bytes = None;
  left_at_fault = None;
}

-- A sink tells what its writer has taken, and its count.
abbrev pub writer_told : {W : Type 0} → (W → Option (List ℕ)) → WriterSink W → SinkTold
writer_told writer_taken sink = record { taken = writer_taken sink.writer; faults = sink.faults }

-- A folder tells no content.
abbrev pub folder_told : {R : Type 0} → FolderStore R → StoreTold
folder_told store = record {
  content = λ name. None;
  loaded = map string_bytes store.loaded.items;
  failed_name = option_map string_bytes store.failed_name;
  faults = store.faults;
}
