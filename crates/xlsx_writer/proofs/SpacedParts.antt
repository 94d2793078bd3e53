-- A part whose first element was begun with attributes that were asked for, filled and ended.
use Rattle.std.proofs.Common.{◌≡◌, ◌∙◌, ℕ, List, [], ◌∷◌, ◌++◌, ap}
use Rattle.part_events.specs.Words.{Event, end, Contents, closed}
use Rattle.written_markup.specs.Words.{element, with_events, opened_part}
use Rattle.written_markup.proofs.Drafted.{part_written}
use Rattle.xlsx_writer.specs.WrittenSheet.{part}

module _ (old opened filled new : Contents) (name root written attributes : List ℕ)
    (inside : List Event)
    (begun : opened ≡ closed (old.parts ++ opened_part name root written ∷ []) old.taken)
    (same : written ≡ attributes)
    (holds : filled ≡ with_events opened inside) where
  pub spaced_part : new ≡ with_events filled (end root ∷ [])
      → new ≡ closed (old.parts ++ part name (element root attributes inside) ∷ []) old.taken
  spaced_part ended =
      part_written old opened filled new name root attributes inside
      (begun ∙ ap (λ (own : List ℕ). closed (old.parts ++ opened_part name root own ∷ []) old.taken)
      same) holds ended
