use Rattle.std.proofs.Common.{Some, ◌∙◌, sym, ap, option_map, string_bytes}
use Rattle.std.specs.BTreeMap.{get_by_text}
use Rattle.std.specs.Option.{option_or}
use Rattle.std.specs.Str.{bytes_eq}
use Rattle.std.proofs.lemmas.Map.Text.{btree_map_updates_text}
use Rattle.xlsx_formats.specs.FormatCodes.{WrittenFormat, code_of, code_if}
use Rattle.xlsx_formats.proofs.CodesKept.{code_behind, code_chosen}
use Rattle.xlsx_formats.proofs.format_codes.FormatCodes.keep.Goals as goal

pub returns-clause-ok : goal.returns-clause-ok
returns-clause-ok c = λ earlier are id.
    let old = c.args.self.now.by_id in
    let own = string_bytes c.args.id in
    let kept = c.new.result in
    let format : WrittenFormat = record { id = own; code = code_of kept } in
    rw (sym (ap string_bytes c.new.ensures))
    (ap (option_map code_of) (btree_map_updates_text own old c.insert.new.self
    (Some kept) c.in_ok-insert.ensures.updates id)
    ∙ code_chosen code_of (bytes_eq own id) kept (get_by_text old id)
    ∙ ap (option_or (code_if id format)) (are id) ∙ sym (code_behind id earlier format))
