-- What the code finds a piece to be where a formula is moved.
use Rattle.std.specs.Prelude.{List, [], ◌∷◌}
use Rattle.formula_shift.specs.Pieces.{PieceText}
use Rattle.formula_shift.specs.References.{IsInWorksheet}
use Rattle.formula_shift.specs.Relocation.{word_of, lost_pieces}
use Rattle.formula_shift.specs.declared.expand.ShiftedReference.{ShiftedReference}
use Rattle.formula_shift.specs.declared.expand.ShiftedReference.TheVariants.{NoReference, Moved}
use Rattle.formula_shift.specs.declared.expand.ShiftedReference.TheVariants.{Leaves}

-- the pieces that stand for the piece in the moved formula
abbrev pub pieces_found : PieceText → ShiftedReference → List PieceText
pieces_found piece NoReference = piece ∷ []
pieces_found piece (Moved reference) = word_of reference ∷ []
pieces_found piece Leaves = lost_pieces

-- a reference that is found lies in a worksheet
abbrev pub IsFoundInside : ShiftedReference → Type 0
IsFoundInside NoReference = Unit {0}
IsFoundInside (Moved reference) = IsInWorksheet reference
IsFoundInside Leaves = Unit {0}
