use Rattle.attr_text.proofs.LookupsByKey.{lookup-by_key, lookup-ok, lookup-err}
use Rattle.attr_text.proofs.lookup.lookups_go_by_key.Goals as goal

pub returns : goal.returns
returns c = record { each = lookup-by_key; found = lookup-ok; refused = lookup-err }
