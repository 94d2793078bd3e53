use Rattle.std.proofs.Common.{◌+◌, ◌∙◌, ap, sym, subst, ℕ, List}
use Rattle.std.specs.Prelude.{option_map}
use Rattle.std.specs.Str.{IsCharBoundary, IsUtf8}
use Rattle.std.proofs.lemmas.Str.{IsCharBoundary-after_ascii}
use Rattle.xlsx_writer.proofs.Escapes.{escape_ascii}
use Rattle.xlsx_writer.proofs.escaping.Escaping.cut.Goals as goal

pub range_from-requires : goal.range_from-requires
range_from-requires c = λ _.
    let same = c.as_bytes-byte-items.ensures.value in
    let place = c.loop-place.place in
    let found = sym c.escape.ensures ∙ ap (option_map (λ own. own.now)) c.in-Some.is in
    subst (λ (text : List ℕ). IsCharBoundary text (place + 1)) same
    (IsCharBoundary-after_ascii c.as_bytes-byte-items.result.now place
    (subst IsUtf8 (sym same) c.utf8.text) c.loop-place-test.true
    (escape_ascii c.args.self _ _ found))
