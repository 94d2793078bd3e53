-- What a call says that reads the element of a list of styles.
use Rattle.std.specs.Prelude.{◌≡◌, List, true, Result, Ok, OnOk, IfErr}
use Rattle.part_events.specs.Words.{Event, Reading, ReadsElement, ahead, content}
use Rattle.xlsx_error.specs.declared.error.XlsxError.{XlsxError}
use Rattle.xlsx_error.specs.declared.error.XlsxError.TheVariants.{Io}
use Rattle.xlsx_sections.specs.Words.{prepended, ElementReadFails, Ending, Refusal}
use Rattle.xlsx_stylesheet.specs.StylesErrors.{AreStylesError}

-- The element is read to its end, and what stands in it is put behind what was kept before.
-- `ending` is how the end of its part is told.
pub record ReadsBehind
    {A B T : Type 0} (meaning : List Event → Result (List B) Refusal) (said : List A → List B)
    (ending : Ending) (result : Result T XlsxError) (before after : List A) (old new : Reading)
    : Type 0 where
  pub reads : ReadsElement Io result old new
  pub says :
      old.source.is_visible ≡ true →
      OnOk result (prepended (said before) (meaning (content 0 (ahead old))) ≡ Ok (said after))
  pub err : IfErr result (ElementReadFails ending meaning old new)
  pub kind : IfErr result AreStylesError
