use Rattle.std.proofs.Common.{◌∙◌, ◌++◌, ◌∷◌, [], ap, sym, arith, map, string_bytes}
use Rattle.std.proofs.lemmas.List.{map-append}
use Rattle.part_events.specs.Words.{Part}
use Rattle.package_file.specs.PackageFile.{part_bytes}
use Rattle.package_file.proofs.Taken.{mapped_more}
use Rattle.package_file.proofs.package_file.part_texts.Goals as goal

pub loop-part-preserved : goal.loop-part-preserved
loop-part-preserved c =
    let parts = c.args.package.now.parts in
    let own = c.in_ok-part_text.field-0 in
    let none : Part = record { name = []; events = [] } in
    let made = map (λ (part : Part). part_bytes part.events) in
    ap (map string_bytes) c.in_ok-push.ensures.items
    ∙ map-append string_bytes c.loop-part.texts.items (own ∷ [])
    ∙ (λ i. c.loop-part.invariant i ++ c.in_ok-part_text.ensures i ∷ [])
    ∙ sym (mapped_more (λ (part : Part). part_bytes part.events) parts c.loop-part.part none
    (omega (arith, c.loop-part-test.true, c.part_count-part-end.ensures)))
