-- How a start that says no sharing makes its formula refused.
use Rattle.std.proofs.Common.{◌≡◌, length, Err, sym, ◌∙◌, ap, subst, codes}
use Rattle.part_events.specs.Words.{Tag, Event, start, Reading}
use Rattle.xlsx_error.specs.declared.error.XlsxError.{XlsxError}
use Rattle.xlsx_error.specs.declared.error.XlsxError.TheVariants.{OutOfMemory, Io, Xml, XmlEof}
use Rattle.xlsx_sections.specs.Words.{ElementReadFails, always, inside_of, section_left}
use Rattle.xlsx_sections.specs.Words.{ElementFails, plain, plain_told}
use Rattle.xlsx_sections.proofs.Refused.{told_weaker}
use Rattle.xlsx_sections.proofs.SectionsRead.{same_tag}
use Rattle.xlsx_formulas.specs.Formula.{sharing_of, with_sharing, formula_text}
use Rattle.xlsx_formulas.specs.Refused.{IsShareError}

-- the sharing of a start is refused, and so is its formula
share_refused : (tag : Tag) (old new : Reading) (error : XlsxError) → IsShareError error
    → ElementFails (sharing_of tag) 0 0 error
    → ElementReadFails (always (codes "f")) (formula_text tag) old new error
share_refused tag old new Io is fails = absurd is
share_refused tag old new OutOfMemory is fails = absurd is
share_refused tag old new (Xml fault) is fails = absurd is
share_refused tag old new (XmlEof element) is fails = absurd is
share_refused tag old new error is fails = λ told.
    let inside = inside_of (section_left (length old.names) old) in
    told_weaker {before = λ own. formula_text tag inside ≡ Err (plain own)} {after =
    λ own. sharing_of tag ≡ Err (plain own)} (plain_told error)
    (λ own refuses. ap (with_sharing inside) refuses) fails

pub start_refused : (own tag : Tag) (current : Event) (old new : Reading) (error : XlsxError)
    → start own ≡ current → start tag ≡ current → IsShareError error
    → ElementFails (sharing_of own) 0 0 error
    → ElementReadFails (always (codes "f")) (formula_text tag) old new error
start_refused own tag current old new error one two is fails =
    share_refused tag old new error is
    (subst (λ (t : Tag). ElementFails (sharing_of t) 0 0 error)
    (same_tag (one ∙ sym two)) fails)
