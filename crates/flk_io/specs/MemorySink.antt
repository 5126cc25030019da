-- What a sink in memory holds, and how its writes go.
use Rattle.std.specs.Prelude.{ℕ, List, Some}
use Rattle.flk_io.specs.declared.memory_sink.MemSink.{MemSink}
use Rattle.flk_io.specs.Told.{SinkTold}

-- what was written
abbrev pub written_in : MemSink → List ℕ
written_in sink = sink.bytes.items

-- how many more bytes there is place for
abbrev pub sink_room : MemSink → ℕ
sink_room sink = sink.room

-- how many bytes one write takes at most
abbrev pub sink_most : MemSink → ℕ
sink_most sink = sink.most

-- how many writes were made
abbrev pub sink_calls : MemSink → ℕ
sink_calls sink = sink.plan.calls

-- the numbers of the writes that are to fail
abbrev pub sink_failing : MemSink → List ℕ
sink_failing sink = sink.plan.failing.items

-- how many writes failed
abbrev pub sink_faults : MemSink → ℕ
sink_faults sink = sink.faults

-- what a sink in memory tells: all that was written
abbrev pub sink_told : MemSink → SinkTold
sink_told sink = record { written = Some (written_in sink); faults = sink_faults sink }
