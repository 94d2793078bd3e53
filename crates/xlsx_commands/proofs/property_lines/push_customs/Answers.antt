use Rattle.xlsx_commands.proofs.PropertiesListed.{listed_by_name}
use Rattle.xlsx_commands.proofs.property_lines.push_customs.Goals as goal

pub returns-in_err-push_custom_line-clause-by_name :
    goal.returns-in_err-push_custom_line-clause-by_name
returns-in_err-push_custom_line-clause-by_name c =
    listed_by_name c.args.properties.now.custom_properties.entries c.iter-name-items.ensures.ordered

pub returns-clause-by_name : goal.returns-clause-by_name
returns-clause-by_name c =
    listed_by_name c.args.properties.now.custom_properties.entries c.iter-name-items.ensures.ordered
