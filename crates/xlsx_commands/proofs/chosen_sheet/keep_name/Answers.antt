use Rattle.std.proofs.Common.{rules, ◌≡◌, ◌∙◌, ap, ℕ, List, true, string_bytes}
use Rattle.std.specs.Prelude.{if◌then◌else◌}
use Rattle.std.specs.BTreeSet.{contains_text}
use Rattle.std.specs.Str.{bytes_eq}
use Rattle.std.proofs.lemmas.Map.Text.{btree_set_updates_text}
use Rattle.xlsx_commands.proofs.chosen_sheet.keep_name.Goals as goal

pub returns : goal.returns
returns c = λ other.
    let key = string_bytes c.in_ok-from_str.field-0 in
    let is : key ≡ c.args.name.now = search rules in
    btree_set_updates_text key c.args.names.now c.insert.new.self true
    c.in_ok-insert.ensures.updates other
    ∙ ap (λ (own : List ℕ).
    if bytes_eq own other then true else contains_text c.args.names.now other) is
