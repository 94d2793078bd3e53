-- What stands first in a number format, as the code hands it on.
use Rattle.std.specs.declared.ops.ControlFlow.{ControlFlow}
use Rattle.std.specs.declared.ops.ControlFlow.TheVariants.{Break, Continue}
use Rattle.std.specs.Prelude.{ℕ, List}
use Rattle.std.specs.Borrow.{Bor}
use Rattle.cell_data.specs.declared.format.CellFormat.{CellFormat}
use Rattle.cell_data.specs.NumberFormat.{FormatSign, tells, passed}

-- the sign of a control flow: it breaks with a format, or goes on with a rest
abbrev pub sign_of : ControlFlow CellFormat (Bor (List ℕ)) → FormatSign
sign_of (Break format) = tells format
sign_of (Continue rest) = passed rest.now
