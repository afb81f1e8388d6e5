-- This project's limits on the texts that are read
use Rattle.std.specs.Prelude.{ℕ, Bool, true, false}
use Rattle.trb.specs.Descriptor.{most_blocks}
use Rattle.traces.specs.declared.version.Version.{Version}
use Rattle.traces.specs.declared.version.Version.TheVariants.{One, Two, Three, Four}

-- lines of a plan, and of a trace all rows of which are kept in memory
abbrev pub most_lines : ℕ
most_lines = 1048576

-- lines of a trace of version 3 whose rows are read one by one
abbrev pub most_streamed_lines : ℕ
most_streamed_lines = 4294967294

-- lines of a trace, whose rows are all kept or not
unfoldable pub most_lines_of : Bool → Version → ℕ
most_lines_of true version = most_lines
most_lines_of false One = most_lines
most_lines_of false Two = most_lines
most_lines_of false Three = most_streamed_lines
most_lines_of false Four = most_streamed_lines

-- bytes of a line before its line feed, in a plan or a schedule
abbrev pub most_bytes : ℕ
most_bytes = 16384

-- and in a trace of any version
abbrev pub most_trace_bytes : ℕ
most_trace_bytes = 163840

-- bytes of a line of a trace before its line feed
unfoldable pub most_bytes_of : Version → ℕ
most_bytes_of One = most_bytes
most_bytes_of Two = most_bytes
most_bytes_of Three = most_bytes
most_bytes_of Four = most_trace_bytes

-- blocks of one declaration in a plan
abbrev pub most_declared : ℕ
most_declared = 256

-- and in a trace
unfoldable pub most_declared_of : Version → ℕ
most_declared_of One = most_declared
most_declared_of Two = most_declared
most_declared_of Three = most_declared
most_declared_of Four = most_blocks

-- lines of a schedule
abbrev pub most_schedule_lines : ℕ
most_schedule_lines = 4194304
