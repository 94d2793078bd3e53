-- The forms of source and sink over a reader and a writer: what these tell of their bytes.
use Rattle.std.specs.Prelude.{ℕ, ◌≤◌, List, [], length, take, false, Option}
use Rattle.std.specs.Io.KnownBytes.{Appends}
use Rattle.xlsx_tool.specs.Sink.{SinkState}
use Rattle.xlsx_tool.specs.Source.{SourceState}

-- the state of a reader of std
pub record ReaderState : Type 0 where
  -- the bytes that are still to come, where the reader tells them
  pub left : Option (List ℕ)
  pub faults : ℕ

-- the state of a writer of std
pub record WriterState : Type 0 where
  -- the bytes that the writer holds, where it tells them
  pub written : Option (List ℕ)
  pub faults : ℕ

-- A reader of std as a source tells no bytes: it may begin to tell them, or cease to.
abbrev pub untold_source : ReaderState → SourceState
untold_source reader = record { is_visible = false; left = []; faults = reader.faults }

-- A writer of std as a sink tells no bytes: it has taken a piece whose flush fails.
abbrev pub untold_sink : WriterState → SinkState
untold_sink writer = record { is_visible = false; written = []; faults = writer.faults }

-- Some of the first bytes of the piece, or none, are behind those that the writer held.
pub record HoldsFront (piece : List ℕ) (old new : WriterState) : Type 0 where
  pub count : ℕ
  pub fits : count ≤ length piece
  pub held : Appends old.written new.written (take count piece)
