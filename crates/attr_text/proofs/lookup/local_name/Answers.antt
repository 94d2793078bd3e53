use Rattle.std.proofs.Common.{Some, None, ◌∙◌, arith}
use Rattle.std.proofs.lemmas.Str.Pattern.{rfind_char}
use Rattle.attr_text.proofs.NameLemmas.{local_name_of-none, local_name_of-last}
use Rattle.attr_text.proofs.lookup.local_name.Goals as goal

pub returns-in-Some : goal.returns-in-Some
returns-in-Some c =
    let name = c.args.name.now in
    let found = rfind_char 58 name (Some c.in-Some.colon) c.in-Some.ensures.cases (omega arith) in
    c.range_from.ensures.value ∙ local_name_of-last name c.in-Some.colon found.0 found.1 found.2

pub returns-in-None : goal.returns-in-None
returns-in-None c =
    local_name_of-none c.args.name.now
    (rfind_char 58 c.args.name.now None c.in-None.ensures.cases (omega arith))
