-- How a cell format is made of its start and of what is set in it.
use Rattle.std.proofs.Common.{◌≡◌, ℕ, List, Option, Some, None, Result, Ok, Err, refl, sym, ◌∙◌, ap}
use Rattle.std.proofs.Common.{subst, codes, length, get_or}
use Rattle.std.specs.Prelude.{IsOkAnd}
use Rattle.attr_text.specs.Words.{lookup}
use Rattle.attr_text.specs.declared.fault.AttrFault.{AttrFault}
use Rattle.part_events.specs.Words.{Tag, Event, Reading}
use Rattle.part_events.specs.declared.fault.XmlFault.TheVariants.{Break}
use Rattle.xlsx_error.specs.declared.error.XlsxError.{XlsxError}
use Rattle.xlsx_error.specs.declared.error.XlsxError.TheVariants.{OutOfMemory, Io, Xml, XmlAttr}
use Rattle.xlsx_error.specs.declared.error.XlsxError.TheVariants.{XmlEof}
use Rattle.xlsx_sections.specs.Words.{ElementReadFails, IsInsideRefused, always, inside_of}
use Rattle.xlsx_sections.specs.Words.{section_left, Refusal, ElementFails}
use Rattle.xlsx_sections.proofs.Refused.{refused_as}
use Rattle.xlsx_styles.specs.Words.{IsPlainError}
use Rattle.xlsx_formats.specs.FormatCodes.{WrittenFormat, code_kept, code_written, AreCodes}
use Rattle.xlsx_formats.specs.Formattings.{NamedSaid, FormattingSaid, format_named}
use Rattle.xlsx_formats.specs.Formattings.{number_format_named, formatting_keys, formatting_named}
use Rattle.xlsx_formats.specs.Formattings.{no_settings, settings_of, code_said, formatting_set}
use Rattle.xlsx_formats.specs.Formattings.{formatting_by, formatting_of, named_said}
use Rattle.xlsx_formats.specs.declared.format_codes.FormatCodes.{FormatCodes}
use Rattle.xlsx_formats.proofs.CodesRead.{ok_found}
use Rattle.xlsx_formats.specs.declared.formatting.NamedLists.{NamedLists}
use Rattle.xlsx_formats.specs.declared.settings.Settings.{Settings}

format_same : (first second : List ℕ → Option (List ℕ))
    → ((id : List ℕ) → first id ≡ second id) → (id : Option (List ℕ))
    → format_named first id ≡ format_named second id
format_same first second same None = refl
format_same first second same (Some id) =
    ap (λ (code : Option (List ℕ)). format_named (λ _. code) (Some id)) (same id)

number_format_same : (first second : List ℕ → Option (List ℕ))
    → ((id : List ℕ) → first id ≡ second id) → (id : Option (List ℕ))
    → number_format_named first id ≡ number_format_named second id
number_format_same first second same None = refl
number_format_same first second same (Some id) =
    ap (λ (code : Option (List ℕ)). number_format_named (λ _. code) (Some id)) (same id)

abbrev pub with_settings : FormattingSaid → Settings → FormattingSaid
with_settings formatting settings = record {
  format = formatting.format;
  style = record {
    font = formatting.style.font;
    fill = formatting.style.fill;
    borders = formatting.style.borders;
    alignment = settings.alignment;
    number_format = formatting.style.number_format;
    protection = settings.protection;
  };
}

-- what is set later stands, and codes that are the same name the same formats
named_same : (first second : List ℕ → Option (List ℕ)) → ((id : List ℕ) → first id ≡ second id)
    → (lists : NamedSaid) (texts : List (Option (List ℕ))) (settings : Settings)
    → with_settings (formatting_named first lists texts no_settings) settings
    ≡ formatting_named second lists texts settings
named_same first second same lists texts settings =
    rw (
      format_same first second same (get_or texts 0 None),
      number_format_same first second same (get_or texts 0 None),
    ) refl

-- lists with these number formats
abbrev pub naming : List WrittenFormat → NamedSaid → NamedSaid
naming formats lists = record {
  formats = formats;
  fonts = lists.fonts;
  fills = lists.fills;
  borders = lists.borders;
}

by_same : (first second : List WrittenFormat) (lists : NamedSaid)
    → ((id : List ℕ) → code_written id first ≡ code_written id second)
    → (settings : Result Settings Refusal) (texts : Result (List (Option (List ℕ))) AttrFault)
    → formatting_by (naming first lists) settings texts
    ≡ formatting_by (naming second lists) settings texts
by_same first second lists same settings (Err fault) = refl
by_same first second lists same (Err refusal) (Ok texts) = refl
by_same first second lists same (Ok settings) (Ok texts) =
    let own = λ (id : List ℕ). code_written id first in
    let other = λ (id : List ℕ). code_written id second in
    ap (λ (said : FormattingSaid). let answer : Result FormattingSaid Refusal = Ok said in answer)
    (sym (named_same own own (λ _. refl) lists texts settings)
    ∙ named_same own other same lists texts settings)

-- a cell format is the same by all written formats whose codes are the ones that are kept
pub formatting_same : (first second : List WrittenFormat) (kept : FormatCodes) (lists : NamedSaid)
    → AreCodes first kept → AreCodes second kept → (tag : Tag) (inside : List Event)
    → formatting_of (naming first lists) tag inside ≡ formatting_of (naming second lists) tag inside
formatting_same first second kept lists are also tag inside =
    by_same first second lists (λ id. sym (are id) ∙ also id) (settings_of inside)
    (lookup formatting_keys tag.attributes)

-- a start names this, and this is set in its element
pub formatting_found : (formats : List WrittenFormat) (lists : NamedLists) (tag own : Tag)
    (inside : List Event) (settings : Settings) (named : FormattingSaid) → tag ≡ own
    → AreCodes formats lists.codes.now → IsOkAnd (lookup formatting_keys own.attributes) (λ texts.
    named ≡ formatting_named (code_kept lists.codes.now) (named_said formats lists) texts
    no_settings) → settings_of inside ≡ Ok settings
    → formatting_of (named_said formats lists) tag inside ≡ Ok (with_settings named settings)
formatting_found formats lists tag own inside settings named same_tag are names is =
    let said = named_said formats lists in
    let found = ok_found (λ (texts : List (Option (List ℕ))).
    named ≡ formatting_named (code_kept lists.codes.now) said texts no_settings)
    (lookup formatting_keys own.attributes) names in
    let same = ap (λ (own : FormattingSaid). with_settings own settings) found.2
    ∙ named_same (code_kept lists.codes.now) (code_said said) are said found.0 settings in
    ap (λ (start : Tag). formatting_of said start inside) same_tag
    ∙ ap (formatting_by said (settings_of inside)) found.1
    ∙ ap (formatting_set said found.0) is
    ∙ ap (λ (own : FormattingSaid). let answer : Result FormattingSaid Refusal = Ok own in answer)
    (sym same)

start_fails : (said : NamedSaid) (tag : Tag) (old new : Reading) (error : XlsxError)
    → IsPlainError (codes "xf") error
    → ((settings : Result Settings Refusal) → ElementFails (formatting_by said settings
    (lookup formatting_keys tag.attributes)) 0 0 error)
    → ElementReadFails (always (codes "xf")) (formatting_of said tag) old new error
start_fails said tag old new OutOfMemory is fails = tt
start_fails said tag old new (XmlAttr fault) is fails = λ told.
    fails (settings_of (inside_of (section_left (length old.names) old)))
start_fails said tag old new Io is fails = absurd (fails (Ok no_settings))
start_fails said tag old new (Xml (Break at why)) is fails = absurd (fails (Ok no_settings))
start_fails said tag old new (XmlEof element) is fails = absurd (fails (Ok no_settings))
start_fails said tag old new _ is fails = absurd is

-- the attributes of a start are refused, and so is its cell format
pub names_fail : (said : NamedSaid) (tag own : Tag) (old new : Reading) (error : XlsxError)
    → tag ≡ own → IsPlainError (codes "xf") error
    → ((settings : Result Settings Refusal) → ElementFails (formatting_by said settings
    (lookup formatting_keys own.attributes)) 0 0 error)
    → ElementReadFails (always (codes "xf")) (formatting_of said tag) old new error
names_fail said tag own old new error same is fails =
    subst (λ (start : Tag).
    ElementReadFails (always (codes "xf")) (formatting_of said start) old new error) (sym same)
    (start_fails said own old new error is fails)

-- what is set in it is refused
pub settings_fail : (P : List (Option (List ℕ)) → Type 0) (said : NamedSaid) (tag own : Tag)
    (old new : Reading) (error : XlsxError) → tag ≡ own
    → IsOkAnd (lookup formatting_keys own.attributes) P
    → ElementReadFails (always (codes "xf")) settings_of old new error
    → ElementReadFails (always (codes "xf")) (formatting_of said tag) old new error
settings_fail P said tag own old new error same names fails =
    let found = ok_found P (lookup formatting_keys own.attributes) names in
    refused_as (length old.names) old (always (codes "xf")) (IsInsideRefused settings_of)
    (IsInsideRefused (formatting_of said tag)) new error
    (λ refusal refuses.
    let inside = inside_of (section_left (length old.names) old) in
    ap (λ (start : Tag). formatting_of said start inside) same
    ∙ ap (formatting_by said (settings_of inside)) found.1
    ∙ ap (formatting_set said found.0) refuses)
    fails
