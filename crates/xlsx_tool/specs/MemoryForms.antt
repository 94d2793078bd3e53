-- The forms of source and sink in memory: what they hold, and which calls fail.
use Rattle.std.specs.Prelude.{◌≡◌, ℕ, ◌+◌, ◌-◌, ◌^◌, ◌≤◌, ◌⊎◌, ◌<◌, min, List, length, true}
use Rattle.std.specs.List.{Contains}
use Rattle.xlsx_tool.specs.Source.{SourceState}
use Rattle.xlsx_tool.specs.Sink.{SinkState}

-- an input that is held in memory, and fails at given calls
pub record HeldSource : Type 0 where
  pub left : List ℕ
  -- the most bytes that one call gives
  pub piece : ℕ
  -- the numbers of the calls that fail, counted from 0
  pub fail_at : List ℕ
  pub calls : ℕ
  pub faults : ℕ

-- the state of an input that is held in memory
abbrev pub source_state : HeldSource → SourceState
source_state held = record { is_visible = true; left = held.left; faults = held.faults }

-- a call of `read` is counted, up to the last count, and the plan stays
pub record CountsRead (old new : HeldSource) : Type 0 where
  pub calls : new.calls ≡ min (old.calls + 1) (2 ^ 64 - 1)
  pub piece : new.piece ≡ old.piece
  pub fail_at : new.fail_at ≡ old.fail_at

-- an output that is held in memory, takes only so much, and fails at given calls
pub record HeldSink : Type 0 where
  pub written : List ℕ
  -- the most bytes that it takes in all
  pub room : ℕ
  -- the most bytes that one call takes
  pub piece : ℕ
  pub fail_at : List ℕ
  pub calls : ℕ
  pub faults : ℕ

-- the state of an output that is held in memory
abbrev pub sink_state : HeldSink → SinkState
sink_state held = record { is_visible = true; written = held.written; faults = held.faults }

-- a call of `write` is counted, up to the last count, and the plan stays
pub record CountsWrite (old new : HeldSink) : Type 0 where
  pub calls : new.calls ≡ min (old.calls + 1) (2 ^ 64 - 1)
  pub room : new.room ≡ old.room
  pub piece : new.piece ≡ old.piece
  pub fail_at : new.fail_at ≡ old.fail_at

-- a write of this piece fails: the call is planned to, or there is no room for any of the piece
abbrev pub FailsToWrite : HeldSink → List ℕ → Type 0
FailsToWrite held piece =
    Contains held.fail_at held.calls
    ⊎ ((0 < length piece) × (held.room ≤ length held.written))
