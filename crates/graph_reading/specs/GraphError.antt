-- What the refusals of layers below become.
use Rattle.xlsx_error.specs.declared.error.XlsxError.{XlsxError}
use Rattle.xlsx_error.specs.declared.error.XlsxError.TheVariants as workbook
use Rattle.xlsx_graph.specs.declared.error.NamingError.{NamingError}
use Rattle.xlsx_graph.specs.declared.error.NamingError.TheVariants as naming
use Rattle.graph_reading.specs.declared.error.GraphError.{GraphError}
use Rattle.graph_reading.specs.declared.error.GraphError.TheVariants.{Workbook, TooLarge}
use Rattle.graph_reading.specs.declared.error.GraphError.TheVariants.{OutOfMemory}

-- what the refusal of a workbook becomes
abbrev pub of_reading : XlsxError → GraphError
of_reading workbook.OutOfMemory = OutOfMemory
of_reading error = Workbook error

-- what the refusal of naming becomes
abbrev pub of_naming : NamingError → GraphError
of_naming naming.TooLarge = TooLarge
of_naming naming.OutOfMemory = OutOfMemory
