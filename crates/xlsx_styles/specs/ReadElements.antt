-- What a call says that reads the element at whose start its package stands.
use Rattle.std.specs.Prelude.{◌≡◌, List, true, Result, Ok, IfOk, IfErr}
use Rattle.part_events.specs.Words.{Tag, Event, start, Reading, ReadsElement, ahead, content}
use Rattle.xlsx_error.specs.declared.error.XlsxError.{XlsxError}
use Rattle.xlsx_error.specs.declared.error.XlsxError.TheVariants.{Io}
use Rattle.xlsx_sections.specs.Words.{ElementReadFails, Ending, Refusal}

-- The element is read to its end, and the answer says what stands in it. `ending` is how the end of
-- its part is told.
pub record ReadsInside
    {A B : Type 0} (meaning : List Event → Result B Refusal) (said : A → B) (ending : Ending)
    (Kind : XlsxError → Type 0) (result : Result A XlsxError) (old new : Reading)
    : Type 0 where
  pub reads : ReadsElement Io result old new
  pub says :
      old.source.is_visible ≡ true →
      IfOk result (λ own. meaning (content 0 (ahead old)) ≡ Ok (said own))
  pub err : IfErr result (ElementReadFails ending meaning old new)
  pub kind : IfErr result Kind

-- An element is read to its end, and the answer says what its start says and what stands in it.
-- `ending` is how the end of its part is told.
pub record ReadsWithStart
    {A B : Type 0} (meaning : Tag → List Event → Result B Refusal) (said : A → B)
    (ending : Ending) (Kind : XlsxError → Type 0) (result : Result A XlsxError)
    (old new : Reading) : Type 0 where
  pub reads : ReadsElement Io result old new
  pub says :
      old.source.is_visible ≡ true → IfOk result (λ own. (tag : Tag) →
      start tag ≡ old.source.current → meaning tag (content 0 (ahead old)) ≡ Ok (said own))
  pub err :
      IfErr result (λ error. (tag : Tag) → start tag ≡ old.source.current →
      ElementReadFails ending (meaning tag) old new error)
  pub kind : IfErr result Kind
