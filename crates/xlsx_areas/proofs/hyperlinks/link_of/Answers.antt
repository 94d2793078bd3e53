use Rattle.std.proofs.Common.{◌≡◌, option_map, string_bytes, rules, refl}
use Rattle.std.specs.Option.{option_copied}
use Rattle.std.proofs.lemmas.Result.{err_from_is_err_and}
use Rattle.cell_refs.specs.Words.{area}
use Rattle.part_events.specs.Words.{tag_of}
use Rattle.xlsx_sections.specs.Words.{placed, placed_at}
use Rattle.xlsx_relationships.specs.Words.{target_held}
use Rattle.xlsx_areas.specs.Hyperlinks.{optional_text, linked, some_link, link_of}
use Rattle.xlsx_sections.proofs.Refused.{handed_on}
use Rattle.xlsx_areas.proofs.hyperlinks.link_of.Goals as goal

pub returns-in_err-link-clause-err : goal.returns-in_err-link-clause-err
returns-in_err-link-clause-err c =
    let p = err_from_is_err_and c.from_residual-in_err-link.result
    c.from_residual-in_err-link.ensures.1 in
    let by = target_held c.args.targets.now in
    let to = option_map string_bytes c.in_ok-target.target in
    rw (p.1, p.2) (λ behind.
    let own = linked to (placed (area c.in-Some.range.now))
    (optional_text behind (option_copied c.in_ok-range.location))
    (optional_text behind (option_copied c.in_ok-range.shown))
    (optional_text behind (option_copied c.in_ok-range.tip)) in
    let same : link_of by (placed_at (tag_of c.args.tag) behind) ≡ some_link own = search rules in
    rw same (handed_on c.args.at behind some_link own c.in_err-link.field-0.0 (λ refusal. refl)
    (c.in_err-link.ensures.err behind)))
