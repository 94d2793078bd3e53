-- What is kept of what formulas name, within limits.
use Rattle.std.specs.Prelude.{◌≡◌, ℕ, ◌+◌, ◌<◌, ◌⊎◌, Bool, false, List, ◌++◌, length, replicate}
use Rattle.std.specs.Prelude.{slice_set, Result, MatchResult}
use Rattle.book_names.specs.Book.{Book}
use Rattle.xlsx_graph.specs.Naming.{Found, OpenText, weight}
use Rattle.xlsx_graph.specs.declared.findings.Mark.{Mark}
use Rattle.xlsx_graph.specs.declared.error.NamingError.{NamingError}
use Rattle.xlsx_graph.specs.declared.error.NamingError.TheVariants.{TooLarge, OutOfMemory}
use Rattle.xlsx_graph.specs.declared.named.BookArea.{BookArea}

-- What is kept: areas and open words; how much more may be named, an area as often as it has
-- sheets; how much more may be read of names; for each defined name whether the text stands in it
-- that is read.
pub record Kept : Type 0 where
  pub areas : List BookArea
  pub words : List OpenText
  pub named_left : ℕ
  pub read_left : ℕ
  pub opened : List Bool

-- what is found was put behind what was kept
pub record Adds (old new : Kept) (f : Found) : Type 0 where
  pub areas : new.areas ≡ old.areas ++ f.areas
  pub words : new.words ≡ old.words ++ f.words
  pub named : new.named_left + weight f ≡ old.named_left
  pub read : new.read_left + f.read ≡ old.read_left
  pub opened : new.opened ≡ old.opened

-- what was kept stands in front of what is kept, and the same defined names are open
pub record KeepsInFront (old new : Kept) : Type 0 where
  pub more_areas : List BookArea
  pub more_words : List OpenText
  pub areas : new.areas ≡ old.areas ++ more_areas
  pub words : new.words ≡ old.words ++ more_words
  pub opened : new.opened ≡ old.opened

-- more is found than there is room for
abbrev pub IsBeyond : Kept → Found → Type 0
IsBeyond kept f = (kept.named_left < weight f) ⊎ (kept.read_left < f.read)

-- room was taken for so much more that is named
pub record Spends (old new : Kept) (count : ℕ) : Type 0 where
  pub areas : new.areas ≡ old.areas
  pub words : new.words ≡ old.words
  pub named : new.named_left + count ≡ old.named_left
  pub read : new.read_left ≡ old.read_left
  pub opened : new.opened ≡ old.opened

-- it is noted whether a defined name is open, and all else stays as it was kept
pub record MarksOpen (old new : Kept) (name : ℕ) (is_open : Bool) : Type 0 where
  pub areas : new.areas ≡ old.areas
  pub words : new.words ≡ old.words
  pub named : new.named_left ≡ old.named_left
  pub read : new.read_left ≡ old.read_left
  pub opened : new.opened ≡ slice_set old.opened name is_open

-- a mark tells how much was kept
pub record TellsKept (mark : Mark) (kept : Kept) : Type 0 where
  pub areas : mark.areas ≡ length kept.areas
  pub words : mark.words ≡ length kept.words
  pub named : mark.named ≡ kept.named_left

-- the room that was taken since a mark was given back
pub record GivesBack (old new : Kept) (mark : Mark) : Type 0 where
  pub areas : new.areas ≡ old.areas
  pub words : new.words ≡ old.words
  pub named : new.named_left ≡ mark.named
  pub read : new.read_left ≡ old.read_left
  pub opened : new.opened ≡ old.opened

-- one part was put behind what was kept, up to a mark; its room was given back, and another part
-- was put behind it
pub record IsRanging (kept : Kept) (middle : Mark) (now : Kept) (a b : Found) : Type 0 where
  pub areas : now.areas ≡ (kept.areas ++ a.areas) ++ b.areas
  pub words : now.words ≡ (kept.words ++ a.words) ++ b.words
  pub named : now.named_left + weight b ≡ kept.named_left
  pub read : now.read_left + (a.read + b.read) ≡ kept.read_left
  pub opened : now.opened ≡ kept.opened
  pub first_areas : middle.areas ≡ length kept.areas + length a.areas
  pub first_words : middle.words ≡ length kept.words + length a.words
  pub first_named : middle.named + weight a ≡ kept.named_left

-- where the refusal is that of a limit, this holds
abbrev pub WhenTooLarge : NamingError → Type 0 → Type 0
WhenTooLarge TooLarge P = P
WhenTooLarge OutOfMemory P = Unit {0}

-- What a call answers that puts what is found behind what was kept: it is refused for a limit where
-- more is found than there is room for.
abbrev pub Gives : {T : Type 0} → Result T NamingError → Kept → Kept → Found → Type 0
Gives answer old new f =
    MatchResult answer (λ _. Adds old new f) (λ e. WhenTooLarge e (IsBeyond old f))

-- no defined name is open
abbrev pub none_open : Book → List Bool
none_open book = replicate (length book.names) false
