use Rattle.std.proofs.Common.{◌≡◌, List, Ok, codes, map, subst, sym}
use Rattle.std.specs.Prelude.{IfOk, IfErr}
use Rattle.part_events.specs.Words.{Event, Reading}
use Rattle.xlsx_sections.specs.Words.{ElementReadFails, always}
use Rattle.xlsx_sections.proofs.ElementsRead.{own_inside}
use Rattle.xlsx_relationships.specs.Words.{target_held}
use Rattle.xlsx_areas.specs.Hyperlinks.{links_in, link_said}
use Rattle.xlsx_areas.proofs.hyperlinks.read_hyperlinks.Goals as goal

pub returns-then-is_err-clause-err : goal.returns-then-is_err-clause-err
returns-then-is_err-clause-err g c =
    let meaning = links_in (target_held c.args.rels.now) in
    subst (λ (new : Reading). IfErr c.keep_all-read.result
    (ElementReadFails (always (codes "hyperlinks")) meaning c.args.xml.now new))
    (sym c.give_up.ensures) (rw c.depth-base.ensures at c.keep_all-read.ensures.err)

pub returns-else-is_err-clause-err : goal.returns-else-is_err-clause-err
returns-else-is_err-clause-err g c = rw c.depth-base.ensures at c.keep_all-read.ensures.err

pub returns-else-is_err-clause-links : goal.returns-else-is_err-clause-links
returns-else-is_err-clause-links g c = λ told.
    let meaning = links_in (target_held c.args.rels.now) in
    subst (λ (inside : List Event). IfOk c.keep_all-read.result (λ links. meaning inside
    ≡ Ok (map link_said links.items))) (own_inside c.args.xml.now)
    (rw c.depth-base.ensures at (c.keep_all-read.ensures.kept told))
