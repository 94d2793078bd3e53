use Rattle.std.proofs.Common.{◌≡◌, ◌-◌, length, Some, sym, ap, ◌∙◌}
use Rattle.std.specs.List.{slice_get}
use Rattle.std.specs.Option.{option_copied}
use Rattle.xlsx_precedents.proofs.OwnAreas.{last_byte-some}
use Rattle.xlsx_precedents.proofs.areas.last_byte.Goals as goal

pub returns-in-Some : goal.returns-in-Some
returns-in-Some c =
    let text = c.args.text.now in
    let read : slice_get text (length text - 1) ≡ Some c.in-Some.field-0.now =
    sym (ap (λ t. slice_get t (length t - 1)) c.as_bytes.ensures.value)
    ∙ sym c.last.ensures.value ∙ ap option_copied c.in-Some.is in
    sym (last_byte-some c.args.before text c.in-Some.field-0.now read)
