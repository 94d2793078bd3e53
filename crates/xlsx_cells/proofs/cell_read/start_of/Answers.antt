use Rattle.std.proofs.Common.{◌≡◌, ◌∙◌, [], ◌∷◌, true, Ok, Err, ap, sym, codes}
use Rattle.attr_text.specs.Words.{lookup}
use Rattle.std.specs.Option.{option_copied}
use Rattle.std.proofs.lemmas.Result.{IfErr-weaker}
use Rattle.part_events.specs.Words.{tag_of}
use Rattle.xlsx_values.specs.Words.{context_of}
use Rattle.xlsx_cells.specs.Counting.{IsStartRefused, IsRefused}
use Rattle.xlsx_cells.specs.Stream.{IsHeadRefused}
use Rattle.xlsx_cells.specs.StyleIds.{id_named}
use Rattle.xlsx_cells.proofs.CellsRead.{head_refused, id_among}
use Rattle.xlsx_cells.proofs.cell_read.start_of.Goals as goal

pub returns-then-not-asked-clause-err : goal.returns-then-not-asked-clause-err
returns-then-not-asked-clause-err c =
    let wants = c.args.asked.wants in
    let context = context_of c.args.asked.book in
    let tag = tag_of c.args.tag in
    IfErr-weaker c.id_start.result
    (IsRefused (λ refusal. (wants.styles ≡ true) × (id_named tag ≡ Err refusal)))
    (IsStartRefused (IsHeadRefused wants context tag)) (head_refused wants context tag)
    c.id_start.ensures.err

pub returns-clause-styled : goal.returns-clause-styled
returns-clause-styled c = λ wanted.
    let found : lookup (codes "r" ∷ codes "s" ∷ codes "t" ∷ []) (tag_of c.args.tag).attributes
    ≡ Ok (option_copied c.in_ok-style.field-0-0 ∷ option_copied c.in_ok-style.style
    ∷ option_copied c.in_ok-style.typ ∷ []) =
    ap (lookup (codes "r" ∷ codes "s" ∷ codes "t" ∷ [])) (sym c.get_attrs-attributes_raw.ensures)
    ∙ c.in_ok-style.ensures in
    rw (c.wanted_id.ensures.styled wanted)
    (id_among (tag_of c.args.tag) (option_copied c.in_ok-style.field-0-0)
    (option_copied c.in_ok-style.style) (option_copied c.in_ok-style.typ) found)
