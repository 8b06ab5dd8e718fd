-- It serves inner contracts and proofs; no answer of the program is stated by it.
-- What a sink over a writer stands on.
use Rattle.std.specs.Prelude.{ℕ}
use Rattle.desk_io.specs.declared.sink.writer.WriterSink.{WriterSink}

-- its writer
abbrev pub writer_of : {W : Type 0} → WriterSink W → W
writer_of sink = sink.writer

-- how many of its calls have failed
abbrev pub fault_count : {W : Type 0} → WriterSink W → ℕ
fault_count sink = sink.faults
