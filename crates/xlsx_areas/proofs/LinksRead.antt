-- Which refusals of the layers below are refusals of links, and how those of a text are handed on.
use Rattle.std.proofs.Common.{◌≡◌, List, Option, Some, None, Result, Ok, Err, ap, sym, inl}
use mathlib.Core.Path.{fun_ext}
use Rattle.std.specs.BTreeMap.{BTreeMap}
use Rattle.std.specs.Prelude.{option_map, IfOk, IsSomeAnd, MatchResult, String}
use Rattle.std.specs.declared.alloc.Global.{Global}
use Rattle.part_events.specs.Words.{PackageState}
use Rattle.part_events.specs.declared.fault.XmlFault.TheVariants.{Break, Entity}
use Rattle.xlsx_error.specs.declared.error.XlsxError.{XlsxError}
use Rattle.xlsx_error.specs.declared.error.XlsxError.TheVariants.{OutOfMemory, Io, Xml, XmlEof}
use Rattle.xlsx_sections.specs.Words.{Answers, IsDecodeError}
use Rattle.xlsx_parts.specs.Words.{IsBreakError}
use Rattle.looks.specs.Words.{Look, and_then, look_ask}
use Rattle.looks.proofs.Called.{next_refused, next_said}
use Rattle.xlsx_relationships.specs.Words.{HoldsTargets, LinkTarget, target_held, target_in}
use Rattle.xlsx_areas.specs.LinkErrors.{IsLinksError, IsSheetLinksError}

pub link_decoding : (error : XlsxError) → IsDecodeError error → IsLinksError error
link_decoding OutOfMemory is = tt
link_decoding (Xml (Entity at)) is = tt
link_decoding _ is = absurd is

pub break_links : (error : XlsxError) → IsBreakError error → IsLinksError error
break_links OutOfMemory is = tt
break_links Io is = tt
break_links (Xml (Break at why)) is = tt
break_links _ is = absurd is

pub sheet_links : (error : XlsxError) → IsLinksError error → IsSheetLinksError error
sheet_links (XmlEof element) is = inl is
sheet_links error is = is

-- an answer of which two things are known
pub both_known : {T E : Type 0} {P R : T → Type 0} {Q : Type 0} (result : Result T E)
    (F : E → Type 0) → ((own : T) → P own → Q → R own) → IfOk result P
    → MatchResult result (λ _. Q) F → IfOk result R
both_known (Ok own) F more first second = more own first second
both_known (Err error) F more first second = tt

-- the targets that are kept are those of the relationships
pub targets_kept : (found : Option (List LinkTarget))
    (kept : BTreeMap (String Global) (String Global))
    → IsSomeAnd found (λ targets. HoldsTargets targets kept)
    → option_map target_in found ≡ Some (target_held kept)
targets_kept None kept are = absurd are
targets_kept (Some targets) kept are =
    ap (λ (by : _). Some by) (sym (fun_ext are))

-- a last call is answered behind another one
pub next_answered : {A B TA TB : Type 0} {own other kind : XlsxError → Type 0} {view : TA → A}
    {a : TA} {old mid new : PackageState} (first : Look A) (next : A → Look B) (seen : TB → B)
    (result : Result TB XlsxError) → ((e : XlsxError) → other e → kind e)
    → Answers (look_ask own first) view (Ok a) old mid
    → Answers (look_ask other (next (view a))) seen result mid new
    → Answers (look_ask kind (and_then first next)) seen result old new
next_answered first next seen (Ok b) kinds one two = next_said first next seen one two
next_answered first next seen (Err error) kinds one two =
    next_refused first next seen kinds one two
