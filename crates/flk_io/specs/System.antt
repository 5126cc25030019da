-- What files and standard output tell: how many of their calls failed, and nothing of their bytes.
use Rattle.std.specs.Prelude.{ℕ, List, None}
use Rattle.flk_io.specs.declared.system.FileShelf.{FileShelf}
use Rattle.flk_io.specs.declared.system.StdSink.{StdSink}
use Rattle.flk_io.specs.OpenFiles.{names_of}
use Rattle.flk_io.specs.Told.{ShelfTold, SinkTold}

-- how many reads of files failed
abbrev pub file_read_faults : FileShelf → ℕ
file_read_faults shelf = shelf.read_faults

-- how many appends to files failed
abbrev pub file_append_faults : FileShelf → ℕ
file_append_faults shelf = shelf.append_faults

-- the names that were opened to read, in the order of opening
abbrev pub opened_to_read : FileShelf → List (List ℕ)
opened_to_read shelf = names_of shelf.reading

-- the names that were emptied to be added to, in the order of opening
abbrev pub opened_to_add : FileShelf → List (List ℕ)
opened_to_add shelf = names_of shelf.adding

-- what files tell
abbrev pub shelf_told : FileShelf → ShelfTold
shelf_told shelf = record {
  left = λ name. None;
  added = λ name. None;
  read_faults = file_read_faults shelf;
  append_faults = file_append_faults shelf;
}

-- how many writes to standard output failed
abbrev pub output_faults : StdSink → ℕ
output_faults sink = sink.faults

-- what standard output tells
abbrev pub output_told : StdSink → SinkTold
output_told sink = record { written = None; faults = output_faults sink }
