-- Which refusals of the layers below are refusals of tables.
use Rattle.std.proofs.Common.{◌≡◌, ℕ, List, Result, Err, ap}
use Rattle.cell_refs.specs.declared.dimensions.Dimensions.{Dimensions}
use Rattle.part_events.specs.declared.fault.XmlFault.TheVariants.{Break, Entity}
use Rattle.xlsx_error.specs.declared.error.XlsxError.{XlsxError}
use Rattle.xlsx_error.specs.declared.error.XlsxError.TheVariants.{OutOfMemory, Io, Xml, XmlEof}
use Rattle.xlsx_error.specs.declared.error.XlsxError.TheVariants.{XmlAttr}
use Rattle.xlsx_sections.specs.Words.{IsNameError, Refusal, ElementFails, IsDecodeError}
use Rattle.xlsx_sections.proofs.Refused.{refused_at_weaker}
use Rattle.xlsx_parts.specs.Words.{IsBreakError}
use Rattle.xlsx_tables.specs.TableErrors.{IsTableStartError, IsTableError}
use Rattle.xlsx_tables.specs.TableParts.{with_table_name, with_headers, with_totals}

pub name_error : (error : XlsxError) → IsNameError error → IsTableError error
name_error OutOfMemory is = tt
name_error (Xml (Entity at)) is = tt
name_error (XmlAttr fault) is = tt
name_error _ is = absurd is

pub break_error : (error : XlsxError) → IsBreakError error → IsTableError error
break_error OutOfMemory is = tt
break_error Io is = tt
break_error (Xml (Break at why)) is = tt
break_error _ is = absurd is

pub start_error : (error : XlsxError) → IsTableStartError error → IsTableError error
start_error Io is = absurd is
start_error (Xml (Break at why)) is = absurd is
start_error (XmlEof element) is = absurd is
start_error error is = is

pub ruleset table_errors = (break_error, start_error)

pub decoding : (error : XlsxError) → IsDecodeError error → IsTableStartError error
decoding OutOfMemory is = tt
decoding (Xml (Entity at)) is = tt
decoding _ is = absurd is

-- a text of a start that is refused refuses the start
pub name_fails : (at behind : ℕ) (name : Result (List ℕ) Refusal) (area : Result Dimensions Refusal)
    (headers totals : Result ℕ Refusal) (error : XlsxError) → ElementFails name at behind error
    → ElementFails (with_table_name name area headers totals) at behind error
name_fails at behind name area headers totals error fails =
    refused_at_weaker at behind
    (λ (refusal : Refusal). with_table_name name area headers totals ≡ Err refusal)
    (λ (refusal : Refusal). name ≡ Err refusal) error
    (λ refusal is. ap (λ own. with_table_name own area headers totals) is) fails

pub headers_fail : (at behind : ℕ) (name : List ℕ) (area : Dimensions)
    (headers totals : Result ℕ Refusal) (error : XlsxError) → ElementFails headers at behind error
    → ElementFails (with_headers name area headers totals) at behind error
headers_fail at behind name area headers totals error fails =
    refused_at_weaker at behind
    (λ (refusal : Refusal). with_headers name area headers totals ≡ Err refusal)
    (λ (refusal : Refusal). headers ≡ Err refusal) error
    (λ refusal is. ap (λ own. with_headers name area own totals) is) fails

pub totals_fail : (at behind : ℕ) (name : List ℕ) (area : Dimensions) (headers : ℕ)
    (totals : Result ℕ Refusal) (error : XlsxError) → ElementFails totals at behind error
    → ElementFails (with_totals name area headers totals) at behind error
totals_fail at behind name area headers totals error fails =
    refused_at_weaker at behind
    (λ (refusal : Refusal). with_totals name area headers totals ≡ Err refusal)
    (λ (refusal : Refusal). totals ≡ Err refusal) error
    (λ refusal is. ap (with_totals name area headers) is) fails
