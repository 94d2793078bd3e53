-- Which refusals of the layers below are refusals of the workbook's own part.
use Rattle.std.proofs.Common.{◌≡◌, ℕ, List, Bool, true, Option, Result, Err, codes, ap, arith}
use Rattle.part_events.specs.Words.{Event, is_unknown}
use Rattle.part_events.specs.declared.fault.XmlFault.TheVariants.{Break, Entity}
use Rattle.xlsx_error.specs.declared.error.XlsxError.{XlsxError}
use Rattle.xlsx_error.specs.declared.error.XlsxError.TheVariants.{OutOfMemory, Io, Xml, XmlAttr}
use Rattle.xlsx_error.specs.declared.error.XlsxError.TheVariants.{XmlEof}
use Rattle.xlsx_sections.specs.Words.{IsNameError, IsStepError, Refusal, RefusedAt, ElementFails}
use Rattle.xlsx_sections.specs.Words.{IsDecodeError, no_character}
use Rattle.xlsx_sections.proofs.Refused.{refused_at_weaker}
use Rattle.xlsx_relationships.specs.Words.{Related}
use Rattle.xlsx_workbook.specs.Sheets.{named_sheet}
use Rattle.xlsx_workbook.specs.Workbook.{TextRefused}
use Rattle.xlsx_workbook.specs.WorkbookErrors.{IsWorkbookError}

pub workbook_step : (error : XlsxError) → IsStepError (codes "workbook") error
    → IsWorkbookError error
workbook_step OutOfMemory is = tt
workbook_step Io is = tt
workbook_step (Xml (Break at why)) is = tt
workbook_step (XmlEof element) is = is
workbook_step _ is = absurd is

pub naming : (error : XlsxError) → IsNameError error → IsWorkbookError error
naming OutOfMemory is = tt
naming (Xml (Entity at)) is = tt
naming (XmlAttr fault) is = tt
naming _ is = absurd is

pub decoding : (error : XlsxError) → IsDecodeError error → IsWorkbookError error
decoding OutOfMemory is = tt
decoding (Xml (Entity at)) is = tt
decoding _ is = absurd is

-- a sheet whose name doesn't decode is refused
pub named_sheet_fails : (folder : List ℕ) (related : List ℕ
    → Option Related) (id state : List ℕ) (at behind : ℕ) (decoded : Result (List ℕ) Refusal)
    (error : XlsxError) → ElementFails decoded at behind error
    → ElementFails (named_sheet folder related id state decoded) at behind error
named_sheet_fails folder related id state at behind decoded error fails =
    refused_at_weaker at behind (λ (refusal : Refusal). named_sheet folder related id state decoded
    ≡ Err refusal) (λ (refusal : Refusal). decoded
    ≡ Err refusal) error (λ refusal is. ap (named_sheet folder related id state) is) fails

-- a reference without a character in a wanted text is told with the number of its event
pub text_told : (wanted : Bool) (event : Event) (at : ℕ) (error : XlsxError) → wanted ≡ true
    → IsDecodeError error
    → ((behind : ℕ) → RefusedAt (λ refusal. (is_unknown event ≡ true)
    × (refusal ≡ no_character behind)) at behind error) → TextRefused wanted event at error
text_told wanted event at OutOfMemory is kind fails = tt
text_told wanted event at (Xml (Entity place)) is kind fails =
    let cause = fails 0 in
    let none : cause.0 ≡ 0 = cc in
    (omega (arith, cause.1, none), is, cause.2.0)
text_told wanted event at _ is kind fails = absurd kind
