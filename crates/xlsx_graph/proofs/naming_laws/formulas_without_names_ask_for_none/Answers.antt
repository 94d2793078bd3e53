use Rattle.xlsx_graph.proofs.Unnamed.{unnamed_unread, unnamed_same}
use Rattle.xlsx_graph.proofs.naming_laws.formulas_without_names_ask_for_none.Goals as goal

pub returns-clause-unread : goal.returns-clause-unread
returns-clause-unread c = unnamed_unread

pub returns-clause-same : goal.returns-clause-same
returns-clause-same c = unnamed_same
