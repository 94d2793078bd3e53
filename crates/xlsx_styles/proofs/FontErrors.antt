-- Which refusals are those of a font.
use Rattle.std.proofs.Common.{◌≡◌, ℕ, List, Result, Err, ap}
use Rattle.part_events.specs.declared.fault.XmlFault.TheVariants.{Entity}
use Rattle.xlsx_error.specs.declared.error.XlsxError.{XlsxError}
use Rattle.xlsx_error.specs.declared.error.XlsxError.TheVariants.{OutOfMemory, Xml}
use Rattle.xlsx_sections.specs.Words.{Refusal, ElementFails, IsDecodeError}
use Rattle.xlsx_sections.proofs.Refused.{refused_at_weaker}
use Rattle.xlsx_styles.specs.Errors.{IsFontError}
use Rattle.xlsx_styles.specs.Fonts.{FontSaid, with_decoded}

pub decode_step : (error : XlsxError) → IsDecodeError error → IsFontError error
decode_step OutOfMemory is = tt
decode_step (Xml (Entity at)) is = tt
decode_step _ is = absurd is

-- a name that doesn't decode refuses the font
pub decoded_fails : (font : FontSaid) (at behind : ℕ) (decoded : Result (List ℕ) Refusal)
    (error : XlsxError) → ElementFails decoded at behind error
    → ElementFails (with_decoded font decoded) at behind error
decoded_fails font at behind decoded error fails =
    refused_at_weaker at behind
    (λ (refusal : Refusal). with_decoded font decoded ≡ Err refusal)
    (λ (refusal : Refusal). decoded ≡ Err refusal) error
    (λ refusal is. ap (with_decoded font) is) fails
