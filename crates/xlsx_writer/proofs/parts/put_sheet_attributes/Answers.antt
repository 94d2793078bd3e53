use Rattle.std.proofs.Common.{◌++◌, ◌∷◌, [], ◌∙◌, ap, sym, append_assoc, string_bytes}
use Rattle.std.specs.Prelude.{codes}
use Rattle.written_markup.specs.Words.{encoded}
use Rattle.xlsx_writer.specs.WrittenSheet.{sheet_attributes}
use Rattle.xlsx_writer.proofs.Escapes.{ends_with}
use Rattle.xlsx_writer.proofs.parts.put_sheet_attributes.Goals as goal

pub returns : goal.returns
returns c =
    let front = codes " name=\"" in
    let name = encoded c.args.sheet_name.now in
    let rest = codes "\" sheetId=\"1\" r:id=\"rId1\"" in
    let behind = codes " sheetId=\"1\" r:id=\"rId1\"" in
    ends_with c.push_str-2.result (string_bytes c.push_encoded.new.out)
    (string_bytes c.push_str-2.new.self) rest (sheet_attributes c.args.sheet_name.now)
    c.push_str-2.ensures.bytes
    (ap (λ own. own ++ rest)
    (c.in_ok-push_encoded.ensures ∙ ap (λ own. own ++ name)
    (c.in_ok-push_str.ensures.bytes ∙ ap (λ own. own ++ front) c.clear.ensures.bytes))
    ∙ append_assoc front name rest
    ∙ ap (λ own. front ++ own) (sym (append_assoc name (34 ∷ []) behind)))
