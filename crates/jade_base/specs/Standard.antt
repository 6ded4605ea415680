-- What is known of the reader and the writer behind a source and a sink of std.
use Rattle.std.specs.Prelude.{ℕ, List, Option}
use Rattle.jade_base.specs.declared.standard.StdSource.{StdSource}
use Rattle.jade_base.specs.declared.standard.StdSink.{StdSink}

-- the bytes that the reader has left, where its type tells them
abbrev pub reader_left : {R : Type 0} → (R → Option (List ℕ)) → StdSource R → Option (List ℕ)
reader_left remaining source = remaining source.reader

-- the bytes that the writer holds, where its type tells them
abbrev pub writer_holds : {W : Type 0} → (W → Option (List ℕ)) → StdSink W → Option (List ℕ)
writer_holds contents sink = contents sink.writer

-- the reader's errors so far
abbrev pub source_faults : {R : Type 0} → StdSource R → ℕ
source_faults source = source.faults

-- the writer's errors so far, and its calls that took nothing
abbrev pub sink_faults : {W : Type 0} → StdSink W → ℕ
sink_faults sink = sink.faults
