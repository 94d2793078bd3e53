-- The input, read in pieces.
use Rattle.std.proofs.Common.{◌≡◌, ℕ, ◌+◌, ◌<◌, ◌≤◌, List, ◌++◌, length, take, drop, sym, ◌∙◌, ap}
use Rattle.std.proofs.Common.{ap₂, subst, refl, [], ◌∷◌, ◌||◌, nat_lt, Bool, true, false, arith}
use Rattle.std.specs.Prelude.{if◌then◌else◌}
use Rattle.std.specs.Str.{bytes_eq}
use Rattle.std.proofs.lemmas.Bool.{ltb-true, ltb-false}
use Rattle.std.proofs.lemmas.List.{append-nil, length-append, length-drop, length-take-le}
use Rattle.std.proofs.lemmas.List.{take-append-drop, take-append-le}
use Rattle.zip_archive.specs.Words.{compound_mark}
use Rattle.input_package.specs.Reading.{begins_as_file, longest, longest_input}
use Rattle.part_events.specs.Words.{RisesByOne}
use Rattle.xlsx_tool.specs.Source.{SourceState}
use Rattle.xlsx_tool.specs.Input.{InputRead, InputFails, PieceRead, PieceFails, PastLimit}
use Rattle.xlsx_commands.specs.declared.error.ToolError.{ToolError}
use Rattle.xlsx_commands.specs.declared.error.ToolError.TheVariants.{ReadFault, OutOfMemory}
use Rattle.xlsx_commands.specs.declared.error.ToolError.TheVariants.{FileTooLarge, InputTooLarge}

-- ---- how bytes begin

-- bytes begin as those in front of them, where these are eight or more
abbrev BeginAlike : List ℕ → List ℕ → Type 0
BeginAlike bytes more = begins_as_file more ≡ begins_as_file bytes

pub begin_alike : (bytes behind : List ℕ) → 8 ≤ length bytes → BeginAlike bytes (bytes ++ behind)
begin_alike bytes behind long =
    ap₂ (λ two eight. bytes_eq two (80 ∷ 75 ∷ []) || bytes_eq eight compound_mark)
    (take-append-le 2 bytes behind (omega arith)) (take-append-le 8 bytes behind (omega arith))

pub limit_by : (is_file : Bool) → (67108864 ≤ longest is_file) × (longest is_file ≤ 268435456)
limit_by true = (omega arith, omega arith)
limit_by false = (omega arith, omega arith)

-- the least and the greatest limit
pub limits : (bytes : List ℕ) → (67108864 ≤ longest_input bytes) × (longest_input bytes ≤ 268435456)
limits bytes = limit_by (begins_as_file bytes)

limit_stays : (before after : List ℕ) → take (length before) after ≡ before →
    8 ≤ length before → longest_input after ≡ longest_input before
limit_stays before after front long =
    let whole : after ≡ before ++ drop (length before) after =
    sym (take-append-drop (length before) after)
    ∙ ap (λ xs. xs ++ drop (length before) after) front in
    ap longest_input whole
    ∙ ap longest (begin_alike before (drop (length before) after) long)

limit_by_size : (before after : List ℕ) (room : ℕ) (b : Bool) → nat_lt (length before) 8 ≡ b →
    room ≤ 65536 → length before + room ≤ longest_input before + 1 →
    take (length before) after ≡ before → length after ≤ length before + room →
    length after ≤ longest_input after + 1
limit_by_size before after room true is small room_fits front fits =
    let short = ltb-true (length before) 8 is in
    omega (arith, short, small, fits, (limits after).0)
limit_by_size before after room false is small room_fits front fits =
    let long = ltb-false (length before) 8 is in
    let same = limit_stays before after front long in
    omega (arith, room_fits, fits, same)

-- some of the input was read, and is these bytes
pub record IsReading (bytes : List ℕ) (first now : SourceState) : Type 0 where
  pub fits : length bytes ≤ longest_input bytes + 1
  pub most : longest_input bytes ≤ 268435456
  pub is_visible : now.is_visible ≡ first.is_visible
  pub faults : now.faults ≡ first.faults
  pub whole : first.is_visible ≡ true → first.left ≡ bytes ++ now.left

-- a piece more was read
pub reads_on :
    (room : ℕ) (before after : List ℕ) (first now next : SourceState)
    → room ≤ 65536 → length before + room ≤ longest_input before + 1
    → IsReading before first now
    → PieceRead room before after now next true → IsReading after first next
reads_on room before after first now next small fits reading piece = record {
  fits = limit_by_size before after room (nat_lt (length before) 8) refl small fits piece.4
      piece.3;
  most = (limits after).1;
  is_visible = piece.0 ∙ reading.is_visible;
  faults = piece.1 ∙ reading.faults;
  whole = λ told. reading.whole told ∙ piece.5 (reading.is_visible ∙ told);
}

-- nothing is left
pub reads_all :
    (room : ℕ) (before after : List ℕ) (first now next : SourceState)
    → length before ≤ longest_input before → IsReading before first now
    → PieceRead room before after now next false → InputRead after first next
reads_all room before after first now next fits reading piece = record {
  fits = subst (λ (bytes : List ℕ). length bytes ≤ longest_input bytes) (sym piece.1) fits;
  faults = piece.0 ∙ reading.faults;
  whole = λ told. (
      let ends = piece.2 (reading.is_visible ∙ told) in
      let behind = ap (λ (left : List ℕ). before ++ left) ends.0 in
      (reading.whole told ∙ behind ∙ append-nil before ∙ sym piece.1, ends.1)
      );
}

-- more was read than the limit
reads_too_many :
    (is_file : Bool) (bytes : List ℕ) (first now : SourceState)
    → begins_as_file bytes ≡ is_file
    → longest_input bytes < length bytes → IsReading bytes first now → PastLimit is_file first now
reads_too_many is_file bytes first now begins long reading = record {
  faults = reading.faults;
  took = λ told. record {
    taken = bytes;
    begins = begins;
    many = omega (arith, long, reading.fits, ap longest begins);
    from = reading.whole told;
  };
}

past_by : (is_file : Bool) (bytes : List ℕ) (first now : SourceState) →
    begins_as_file bytes ≡ is_file → longest_input bytes < length bytes →
    IsReading bytes first now →
    InputFails first now (if is_file then FileTooLarge else InputTooLarge)
past_by true bytes first now begins long reading =
    reads_too_many true bytes first now begins long reading
past_by false bytes first now begins long reading =
    reads_too_many false bytes first now begins long reading

-- the refusal is that of how the bytes begin
pub past_the_limit : (bytes : List ℕ) (first now : SourceState) (error : ToolError) →
    error ≡ (if begins_as_file bytes then FileTooLarge else InputTooLarge) →
    longest_input bytes < length bytes → IsReading bytes first now → InputFails first now error
past_the_limit bytes first now error is long reading =
    subst (InputFails first now) (sym is)
    (past_by (begins_as_file bytes) bytes first now refl long reading)

-- why a piece wasn't read is why the input wasn't
pub piece_fails :
    (first now next : SourceState) (error : ToolError)
    → now.faults ≡ first.faults → PieceFails now next error → InputFails first next error
piece_fails first now next ReadFault same fails =
    subst (λ (faults : ℕ). RisesByOne faults next.faults) same fails
piece_fails first now next OutOfMemory same fails = fails ∙ same
piece_fails first now next _ same fails = absurd fails

pub goes_on :
    (room : ℕ) (before after : List ℕ) (now next : SourceState) (more : Bool)
    → more ≡ true → PieceRead room before after now next more
    → PieceRead room before after now next true
goes_on room before after now next more is piece =
    subst (λ (more : Bool). PieceRead room before after now next more) is piece

pub ends :
    (room : ℕ) (before after : List ℕ) (now next : SourceState) (more : Bool)
    → more ≡ false → PieceRead room before after now next more
    → PieceRead room before after now next false
ends room before after now next more is piece =
    subst (λ (more : Bool). PieceRead room before after now next more) is piece

-- a piece that was written over is as long as before
pub piece_keeps :
    (given items : List ℕ) (size : ℕ)
    → size ≡ length items → length items ≡ 65536
    → length (take size (given ++ drop (length given) items)) ≡ 65536
piece_keeps given items size held long =
    let written = given ++ drop (length given) items in
    let behind = length-drop (length given) items in
    let fits : size ≤ length written =
    omega (arith, held, length-append given (drop (length given) items), behind)
    in
    length-take-le size written fits ∙ held ∙ long
