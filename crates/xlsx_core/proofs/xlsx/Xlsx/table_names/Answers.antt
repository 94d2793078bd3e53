use Rattle.std.proofs.Common.{rules}
use Rattle.xlsx_core.specs.TableList.{loaded_tables}
use Rattle.xlsx_core.proofs.TablesListed.{all_names}
use Rattle.xlsx_core.proofs.xlsx.Xlsx.table_names.Goals as goal

pub returns : goal.returns
returns g c = rw (← all_names (loaded_tables c.args.self.now)) (search rules)
