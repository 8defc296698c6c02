use Rattle.std.specs.Prelude.{ℕ, List, option_map}
use Rattle.std.specs.BTreeMap.{get_by_text}
use Rattle.std.specs.String.{string_bytes}
use Rattle.jesc_io.specs.declared.memory.Memory.{Memory}
use Rattle.jesc_io.specs.declared.mem_files.MemFiles.{MemFiles}
use Rattle.jesc_io.specs.declared.steady_files.SteadyFiles.{SteadyFiles}
use Rattle.jesc_io.specs.declared.sinks.MemSink.{MemSink}
use Rattle.jesc_io.specs.declared.sinks.SteadySink.{SteadySink}
use Rattle.jesc_io.specs.Contents.{Store}

-- what files in memory tell
abbrev pub store_of : Memory → Store
store_of m = record {
  content = get_by_text m.files;
  reading = option_map (λ at. (string_bytes at.name, at.place)) m.reading;
  writing = option_map string_bytes m.writing;
}

abbrev pub mem_store : MemFiles → Store
mem_store files = store_of files.memory

abbrev pub steady_store : SteadyFiles → Store
steady_store files = store_of files.memory

-- what a sink in memory has taken
abbrev pub mem_bytes : MemSink → List ℕ
mem_bytes sink = sink.bytes

abbrev pub steady_bytes : SteadySink → List ℕ
steady_bytes sink = sink.bytes
