-- How the data of a sheet are entered, and why they can't be.
use Rattle.std.proofs.Common.{◌≡◌, ℕ, List, [], length, Bool, true, false, Option, Some, sym, ◌∙◌}
use Rattle.std.proofs.Common.{ap, subst, codes, arith}
use Rattle.std.specs.Option.{option_map_or}
use Rattle.cell_refs.specs.declared.dimensions.Dimensions.{Dimensions}
use Rattle.part_events.specs.Words.{Event, whole, PackageState, Opens, OpenCounts, CountsUp}
use Rattle.part_events.specs.Words.{part_of, event_count, Reading, MovesForward, ahead, events_of}
use Rattle.xlsx_sections.specs.Words.{EntersSection, section_left, section_in}
use Rattle.xlsx_formulas.specs.Words.{AreMasters}
use Rattle.xlsx_cells.specs.Counting.{AreKept}
use Rattle.xlsx_cells.specs.Head.{AreDimensions}
use Rattle.xlsx_cells.specs.SheetPart.{EntersData}
use Rattle.xlsx_cells.specs.Stream.{Stream}
use Rattle.xlsx_sections.proofs.SectionsRead.{ahead_at_first, part_opened}

pub data_entered : {path : List ℕ} {area : Dimensions} {old : PackageState} (opened : Reading)
    (new : Stream) → EntersSection (codes "sheetData") path old new.reading
    → new.base ≡ length new.reading.names → AreKept [] new.counters → AreMasters [] new.masters
    → new.is_done ≡ false → new.is_failed ≡ false
    → (old.is_visible ≡ true → opened.source.past ≡ [])
    → (old.is_visible ≡ true → events_of new.reading ≡ events_of opened)
    → (old.is_visible ≡ true → AreDimensions (ahead opened) area) → EntersData path area old new
data_entered {area = area} opened new enters base kept groups done failed fresh same dimensions =
    record {
      going = record {
        reading = enters.reading;
        within = omega (arith, base);
        done = done;
        failed = failed;
      };
      fresh = record { counters = kept; masters = groups };
      parts = enters.parts;
      faults = enters.faults;
      begins = enters.begins;
      taken = enters.taken;
      part = enters.part;
      section = λ told. subst (λ (n : ℕ).
          section_in (codes "sheetData") (events_of new.reading)
          ≡ Some (section_left n new.reading)) (sym base) (enters.section told);
      dimensions = λ told. subst (λ (events : List Event). AreDimensions events area)
          (ahead_at_first opened (fresh told) ∙ ap whole (sym (same told))) (dimensions told);
    }

-- the part was opened, and read to its end
pub part_taken : {path : List ℕ} {found : Bool} {old : PackageState} {opened new : Reading}
    → found ≡ true → OpenCounts found old opened.source
    → (old.is_visible ≡ true → Opens path found old opened.source) → opened.at ≡ 0
    → MovesForward opened new → old.is_visible ≡ true → new.at ≡ length (events_of opened)
    → CountsUp (event_count old.parts path) old.taken new.source.taken
part_taken {path = path} {old = old} {opened = opened} is counted opens first moves told all =
    let counts : OpenCounts true old opened.source = rw is at counted in
    let there : part_of old.parts path ≡ Some (events_of opened) =
    part_opened is opened (opens told) in
    let size : event_count old.parts path ≡ length (events_of opened) =
    ap (λ (part : Option (List Event)). option_map_or length part 0) there in
    omega (arith, first, moves.forward, moves.taken, counts.taken, all, size)
