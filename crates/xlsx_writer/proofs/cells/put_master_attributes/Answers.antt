use Rattle.std.proofs.Common.{◌++◌, ◌∷◌, [], ◌∙◌, ap, sym, append_assoc, string_bytes}
use Rattle.std.specs.Prelude.{codes}
use Rattle.std.specs.Fmt.{decimal}
use Rattle.xlsx_writer.specs.WrittenSheet.{group_text, master_attributes}
use Rattle.xlsx_writer.proofs.Escapes.{ends_with, pieces}
use Rattle.xlsx_writer.proofs.cells.put_master_attributes.Goals as goal

pub returns : goal.returns
returns c =
    let front = codes " t=\"shared\" ref=\"" in
    let area = group_text c.args.position c.args.last in
    let digits = decimal c.args.index in
    ends_with c.push_str-4.result (string_bytes c.push_str-3.new.self)
    (string_bytes c.push_str-4.new.self) (codes "\"")
    (master_attributes c.args.position c.args.last c.args.index) c.push_str-4.ensures.bytes
    (pieces (string_bytes c.clear.new.self) (string_bytes c.push_str.new.self)
    (string_bytes c.push_group_text.new.out) (string_bytes c.push_str-2.new.self)
    (string_bytes c.push_str-3.new.self) front area (codes "\" si=\"") digits (codes "\"")
    c.clear.ensures.bytes c.in_ok-push_str.ensures.bytes c.in_ok-push_group_text.ensures
    c.in_ok-push_str-2.ensures.bytes
    (c.in_ok-push_str-3.ensures.bytes
    ∙ ap (λ own. string_bytes c.push_str-2.new.self ++ own) c.format.ensures.text)
    ∙ ap (λ own. front ++ own)
    (sym (append_assoc area (34 ∷ []) (codes " si=\"" ++ (digits ++ codes "\"")))))
