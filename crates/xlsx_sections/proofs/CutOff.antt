-- What is left of a section where its part ends in it, or where the nesting breaks.
use Rattle.std.proofs.Common.{◌≡◌, ℕ, zero, suc, List, [], ◌∷◌, Bool, true, false, Some, None, refl}
use Rattle.std.specs.Prelude.{if◌then◌else◌}
use Rattle.part_events.specs.Words.{Tag, Event, start, end, leaf, PackageState, Reading, ahead}
use Rattle.part_events.specs.Words.{element_of, content, is_closed, behind_start, outermost}
use Rattle.part_events.specs.Words.{outermost_from, unclosed, unclosed_from, inside, section_ahead}
use Rattle.part_events.specs.Words.{WalkFails}
use Rattle.part_events.specs.declared.fault.StreamError.{StreamError}
use Rattle.part_events.specs.declared.fault.StreamError.TheVariants as stream
use Rattle.part_events.specs.declared.fault.XmlFault.TheVariants.{Break, Unclosed, Entity}
use Rattle.xlsx_error.specs.XlsxError.{of_stream}
use Rattle.xlsx_error.specs.declared.error.XlsxError.{XlsxError}
use Rattle.xlsx_error.specs.declared.error.XlsxError.TheVariants.{OutOfMemory, Io, Xml, XmlEof}
use Rattle.xlsx_sections.specs.Elements.{IfCutOff}
use Rattle.xlsx_sections.specs.Failing.{FailsBy}
use Rattle.xlsx_sections.specs.PartSection.{Ending, Refusing, SectionFails, section_left, has_end}

pub cut_weaker : (after before : Type 0) (error : XlsxError) → (after → before)
    → IfCutOff after error → IfCutOff before error
cut_weaker after before (Xml (Break at why)) weaker is = weaker is
cut_weaker after before (Xml (Unclosed at)) weaker is = weaker is
cut_weaker after before (XmlEof element) weaker is = weaker is
cut_weaker after before error weaker is = tt

-- where a section is cut off, no end closes it
pub cut_open : (base : ℕ) (old new : Reading) (ending : Ending) (refused : Refusing)
    (error : XlsxError) → SectionFails ending refused base old new error
    → IfCutOff (old.source.is_visible ≡ true → has_end (section_left base old) ≡ false) error
cut_open base old new ending refused (Xml (Break at why)) fails = λ told. (fails told).1
cut_open base old new ending refused (Xml (Unclosed at)) fails = λ told. (fails told).0.1
cut_open base old new ending refused (XmlEof element) fails = λ told. (fails told).0.1
cut_open base old new ending refused error fails = tt

-- a call is refused for a cause, and tells that it is cut off only where something is lacking
pub fails_cut_off : (cause : XlsxError → Type 0) (lacks : Type 0) (old new : PackageState)
    (error : XlsxError) → FailsBy cause old new error
    → IfCutOff (old.is_visible ≡ true → lacks) error
    → FailsBy (λ own. cause own × IfCutOff lacks own) old new error
fails_cut_off cause lacks old new Io fails cut = fails
fails_cut_off cause lacks old new OutOfMemory fails cut = tt
fails_cut_off cause lacks old new (Xml (Break at why)) fails cut = λ told. (fails told, cut told)
fails_cut_off cause lacks old new (Xml (Unclosed at)) fails cut = λ told. (fails told, cut told)
fails_cut_off cause lacks old new (XmlEof element) fails cut = λ told. (fails told, cut told)
fails_cut_off cause lacks old new error fails cut = λ told. (fails told, tt)

-- where no wanted start is ahead, no wanted element is left of a section
none_left : (wanted : Tag → Bool) (within : ℕ) (events : List Event)
    → behind_start wanted events ≡ None → outermost wanted (content within events) ≡ []
none_left wanted within [] none = refl
none_left wanted within (start tag ∷ events) none =
    let rest = content (suc within) events in
    elim (wanted tag) as (λ b.
    (if b then Some events else behind_start wanted events) ≡ None
    → (if b then element_of tag rest ∷ outermost_from wanted 1 rest
    else outermost_from wanted 0 rest) ≡ []) [
      | true ↦ λ never. absurd (cc)
      | false ↦ λ next. none_left wanted (suc within) events next
    ] none
none_left wanted zero (end name ∷ events) none = refl
none_left wanted (suc within) (end name ∷ events) none = none_left wanted within events none
none_left wanted within (leaf kind ∷ events) none = none_left wanted within events none

-- where no wanted element is left, none is open
pub none_open : (wanted : Tag → Bool) (events : List Event) → outermost wanted events ≡ []
    → unclosed wanted events ≡ None
none_open wanted [] none = refl
none_open wanted (start tag ∷ events) none =
    elim (wanted tag) as (λ b.
    (if b then element_of tag events ∷ outermost_from wanted 1 events
    else outermost_from wanted 0 events) ≡ []
    → (if b then (if is_closed 0 events then unclosed_from wanted 1 events
    else Some (element_of tag events)) else unclosed_from wanted 0 events) ≡ None) [
      | true ↦ λ never. absurd (cc)
      | false ↦ λ next. none_open wanted events next
    ] none
none_open wanted (end name ∷ events) none = none_open wanted events none
none_open wanted (leaf kind ∷ events) none = none_open wanted events none

-- the nesting breaks before a wanted start is found
pub walk_cut : (wanted : Tag → Bool) (base : ℕ) (old new : Reading) (error : StreamError)
    → WalkFails wanted base old new error
    → IfCutOff (old.source.is_visible ≡ true → outermost wanted (section_ahead base old) ≡ [])
    (of_stream error)
walk_cut wanted base old new stream.Io fails = tt
walk_cut wanted base old new stream.OutOfMemory fails = tt
walk_cut wanted base old new (stream.Xml (Break at why)) fails = λ told.
    none_left wanted (inside base old) (ahead old) (fails told).2
walk_cut wanted base old new (stream.Xml (Unclosed at)) fails = absurd fails
walk_cut wanted base old new (stream.Xml (Entity at)) fails = absurd fails
