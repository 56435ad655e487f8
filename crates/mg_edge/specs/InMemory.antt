-- The objects in memory, as their contracts see them, and what each call answers and leaves.
use Rattle.std.specs.Prelude.{ℕ, ◌-◌, ◌^◌, min, List, [], ◌++◌, length, take, drop, ◌||◌, ◌==◌, nat_eq, if◌then◌else◌, Bool, Option, None, Some}
use Rattle.std.specs.List.{list_any}
use Rattle.mg_edge.specs.declared.source.Got.{Got}
use Rattle.mg_edge.specs.declared.source.Got.TheVariants.{Bytes, End, Failed}
use Rattle.mg_edge.specs.declared.sink.Put.{Put}
use Rattle.mg_edge.specs.declared.sink.Put.TheVariants.{Took, Failed as PutFailed}
use Rattle.mg_edge.specs.Edge.{SourceTold, SinkTold, one_more}

-- A source in memory --

-- A source in memory, as contracts see it. It has the bytes that are left, the most that one read gives, and the
-- numbers of the reads that fail. It also has how many reads, ends and faults there were. And it has what was left before
-- the last read that gave bytes, and what was left at the read that failed last.
pub record SourceState : Type 0 where
  pub left : List ℕ
  pub piece : ℕ
  pub failing : List ℕ
  pub reads : ℕ
  pub ends : ℕ
  pub faults : ℕ
  pub left_at_bytes : Option (List ℕ)
  pub left_at_fault : Option (List ℕ)

-- A source that nothing was read from yet.
abbrev pub whole_source : List ℕ → ℕ → List ℕ → SourceState
whole_source bytes piece failing = record {
  left = bytes;
  piece = piece;
  failing = failing;
  reads = 0;
  ends = 0;
  faults = 0;
  left_at_bytes = None;
  left_at_fault = None;
}

-- What a source in memory tells: all that a source can.
abbrev pub source_told : SourceState → SourceTold
source_told source = record {
  left = Some source.left;
  reads = Some source.reads;
  ends = source.ends;
  faults = source.faults;
  left_at_bytes = Some source.left_at_bytes;
  left_at_fault = Some source.left_at_fault;
}

-- Whether the next read fails.
abbrev pub read_fails : SourceState → Bool
read_fails source = list_any (λ number. nat_eq number source.reads) source.failing

-- What the next read answers if there is room for so many bytes.
abbrev pub next_got : SourceState → ℕ → Got
next_got source room =
    if read_fails source then Failed
    else if length source.left == 0 then End
    else Bytes (min (min source.piece room) (length source.left))

-- The source after a read with this answer.
abbrev pub after_got : SourceState → Got → SourceState
after_got source (Bytes n) =
    record source { left = drop n source.left; reads = one_more source.reads; left_at_bytes = Some source.left }
after_got source End = record source { reads = one_more source.reads; ends = one_more source.ends }
after_got source Failed =
    record source { reads = one_more source.reads; faults = one_more source.faults; left_at_fault = Some source.left }

-- A sink in memory --

-- A sink in memory, as contracts see it. It has the bytes taken, how many it has room for in all, and the most that one
-- write takes. It also has the numbers of the writes that fail, and how many writes and faults there were.
pub record SinkState : Type 0 where
  pub taken : List ℕ
  pub room : ℕ
  pub most : ℕ
  pub failing : List ℕ
  pub writes : ℕ
  pub faults : ℕ

-- A sink that has taken nothing yet, and takes so many bytes at a write at most.
abbrev pub slow_sink : ℕ → ℕ → List ℕ → SinkState
slow_sink room most failing =
    record { taken = []; room = room; most = most; failing = failing; writes = 0; faults = 0 }

-- A sink that has taken nothing yet, and takes as many bytes at a write as there can be.
abbrev pub empty_sink : ℕ → List ℕ → SinkState
empty_sink room failing = slow_sink room (2 ^ 64 - 1) failing

-- What a sink in memory tells: all that a sink can.
abbrev pub sink_told : SinkState → SinkTold
sink_told sink = record { taken = Some sink.taken; faults = sink.faults }

-- Whether the next write fails: it is a write that is to fail, or no room is left.
abbrev pub write_fails : SinkState → Bool
write_fails sink = list_any (λ number. nat_eq number sink.writes) sink.failing || (length sink.taken == sink.room)

-- What the next write of so many bytes answers.
abbrev pub next_put : SinkState → ℕ → Put
next_put sink len = if write_fails sink then PutFailed else Took (min (min len sink.most) (sink.room - length sink.taken))

-- The sink after a write of a piece with this answer.
abbrev pub after_put : SinkState → List ℕ → Put → SinkState
after_put sink piece (Took n) = record sink { taken = sink.taken ++ take n piece; writes = one_more sink.writes }
after_put sink piece PutFailed = record sink { writes = one_more sink.writes; faults = one_more sink.faults }
