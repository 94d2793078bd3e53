-- What is kept of the starts of a section is what they give.
use Rattle.std.proofs.Common.{◌≡◌, ℕ, List, [], ◌∷◌, ◌++◌, Bool, Option, Some, None, Result, Ok}
use Rattle.std.proofs.Common.{Err, map, map-id, option_map, refl, sym, ◌∙◌, ap, append-nil, subst}
use Rattle.std.proofs.Common.{arith}
use Rattle.std.specs.Prelude.{IsSomeAnd}
use Rattle.part_events.specs.Words.{Tag, Event, Reading, PlacedTag, starts_by}
use Rattle.part_events.specs.declared.fault.XmlFault.TheVariants.{Break, Unclosed, Entity}
use Rattle.xlsx_error.specs.declared.error.XlsxError.{XlsxError}
use Rattle.xlsx_error.specs.declared.error.XlsxError.TheVariants.{OutOfMemory, Io, Xml, XmlEof}
use Rattle.xlsx_sections.specs.Answers.{or_earlier, or_later, last_answer, some_answers, prepended}
use Rattle.xlsx_sections.specs.Answers.{and_others_if}
use Rattle.xlsx_sections.specs.Changes.{all_changes, changed_by}
use Rattle.xlsx_sections.specs.Elements.{IsInsideRefused}
use Rattle.xlsx_sections.specs.Keeping.{changed_in, some_in, last_in, put_behind, or_before}
use Rattle.xlsx_sections.specs.PartSection.{Ending, SectionFails, section_left, inside_of}
use Rattle.xlsx_sections.specs.PartSection.{PartSection, Refusing, SectionCause, last_of}
use Rattle.xlsx_sections.specs.Refusal.{Refusal, PlainRefusal, RefusedAs, no_character, plain_told}
use Rattle.xlsx_sections.specs.Refusal.{plain}
use Rattle.xlsx_sections.proofs.Kept.{or_earlier-or_later, or_earlier-None, prepended-nil}
use Rattle.xlsx_sections.proofs.Kept.{prepended-and_others}
use Rattle.xlsx_sections.proofs.Refused.{refused_as}

put_first : {A : Type 0} (change : List A → Result (List A) Refusal) (kept : List A)
    (own : Result (Option A) Refusal) (others : Result (List A) Refusal)
    → ((all : List A) → change all ≡ prepended all others)
    → changed_by change (prepended kept (and_others_if own (Ok [])))
    ≡ prepended kept (and_others_if own others)
put_first change kept (Err refusal) others same = refl
put_first change kept (Ok None) others same =
    same (kept ++ []) ∙ ap (λ (all : List _). prepended all others) (append-nil kept)
put_first change kept (Ok (Some own)) others same =
    same (kept ++ own ∷ []) ∙ prepended-and_others kept own (Ok own) others refl

put_all : {A : Type 0} (answer : PlacedTag → Result (Option A) Refusal) (starts : List PlacedTag)
    (kept : List A)
    → all_changes (put_behind answer) starts kept ≡ prepended kept (some_answers answer starts)
put_all answer [] kept = ap (λ (all : List _). let own : Result (List _) Refusal = Ok all in own)
    (sym (append-nil kept))
put_all answer (start ∷ starts) kept =
    put_first (all_changes (put_behind answer) starts) kept (answer start)
    (some_answers answer starts) (λ all. put_all answer starts all)

-- what all starts give was put behind one another
pub put_in : {A : Type 0} (wanted : Tag → Bool) (answer : PlacedTag → Result (Option A) Refusal)
    (none : List A) (events : List Event) → none ≡ []
    → changed_in wanted (put_behind answer) none events ≡ some_in wanted answer events
put_in wanted answer none events is =
    put_all answer (starts_by wanted events) none
    ∙ ap (λ (kept : List _). prepended kept (some_in wanted answer events)) is
    ∙ prepended-nil (some_in wanted answer events)

or_first : {A : Type 0} (change : Option A → Result (Option A) Refusal) (kept : Option A)
    (own others : Result (Option A) Refusal)
    → ((next : Option A) → change next ≡ or_earlier next others)
    → changed_by change (or_earlier kept own) ≡ or_earlier kept (or_later own others)
or_first change kept (Err refusal) others same = refl
or_first change kept (Ok None) others same =
    same kept ∙ or_earlier-or_later kept kept (Ok None) others refl
or_first change kept (Ok (Some own)) others same =
    same (Some own) ∙ or_earlier-or_later kept (Some own) (Ok (Some own)) others refl

or_all : {A : Type 0} (answer : PlacedTag → Result (Option A) Refusal) (starts : List PlacedTag)
    (kept : Option A)
    → all_changes (or_before answer) starts kept ≡ or_earlier kept (last_answer answer starts)
or_all answer [] kept = refl
or_all answer (start ∷ starts) kept =
    or_first (all_changes (or_before answer) starts) kept (answer start)
    (last_answer answer starts) (λ next. or_all answer starts next)

-- what the last of all starts gives was kept
pub or_in : {A : Type 0} (wanted : Tag → Bool) (answer : PlacedTag → Result (Option A) Refusal)
    (none : Option A) (events : List Event) → none ≡ None
    → changed_in wanted (or_before answer) none events ≡ last_in wanted answer events
or_in wanted answer none events is =
    or_all answer (starts_by wanted events) none
    ∙ ap (λ (kept : Option _). or_earlier kept (last_in wanted answer events)) is
    ∙ or_earlier-None (last_in wanted answer events)

-- what is refused is refused by the same meaning
pub refused_same : {A B : Type 0} (first : List Event → Result A Refusal)
    (second : List Event → Result B Refusal) (base : ℕ) (old : Reading) (ending : Ending)
    (new : Reading) (error : XlsxError)
    → ((events : List Event) (refusal : Refusal) → first events ≡ Err refusal
    → second events ≡ Err refusal)
    → SectionFails ending (IsInsideRefused first) base old new error
    → SectionFails ending (IsInsideRefused second) base old new error
refused_same first second base old ending new error same fails =
    refused_as base old ending (IsInsideRefused first) (IsInsideRefused second) new error
    (λ refusal is. same (inside_of (section_left base old)) refusal is) fails

each_told : {I : Type 0} (P : I → PlainRefusal → Type 0) (told : Option PlainRefusal) (i : I)
    → ((j : I) → IsSomeAnd told (P j)) → IsSomeAnd told (λ own. (j : I) → P j own)
each_told P None i all = all i
each_told P (Some own) i all = all

each_refused : {I : Type 0} (P : I → Refusal → Type 0) (last : ℕ) (error : XlsxError) (i : I)
    → ((j : I) → RefusedAs last (P j) error)
    → RefusedAs last (λ refusal. (j : I) → P j refusal) error
each_refused P last (Xml (Entity at)) i all =
    let first = all i in (
      first.0,
      first.1,
      λ j.
          let own = all j in
          let same : own.0 ≡ first.0 = omega (arith, own.1, first.1) in
          subst (λ (behind : ℕ). P j (no_character behind)) same own.2,
    )
each_refused P last error i all = each_told (λ j own. P j (plain own)) (plain_told error) i all

each_cause : {I : Type 0} (ending : Ending) (refused : I → Refusing) (s : PartSection)
    (error : XlsxError) (i : I) → ((j : I) → SectionCause ending (refused j) s error)
    → SectionCause ending (λ own refusal. (j : I) → refused j own refusal) s error
each_cause ending refused s (Xml (Break at why)) i all = all i
each_cause ending refused s (Xml (Unclosed at)) i all = all i
each_cause ending refused s (XmlEof element) i all = all i
each_cause ending refused s error i all =
    each_refused (λ j. refused j s) (last_of s) error i all

-- what is refused at each index is one refusal
pub refused_each : {I : Type 0} (ending : Ending) (refused : I → Refusing) (base : ℕ)
    (old new : Reading) (error : XlsxError) (i : I)
    → ((j : I) → SectionFails ending (refused j) base old new error)
    → SectionFails ending (λ s refusal. (j : I) → refused j s refusal) base old new error
refused_each ending refused base old new Io i all = all i
refused_each ending refused base old new OutOfMemory i all = tt
refused_each ending refused base old new error i all = λ told.
    each_cause ending refused (section_left base old) error i (λ j. all j told)

-- items that say themselves
pub own_items : {A : Type 0} (items : List A) → map (λ item. item) items ≡ items
own_items items = map-id items

pub own_item : {A : Type 0} (item : Option A) → option_map (λ own. own) item ≡ item
own_item None = refl
own_item (Some own) = refl
