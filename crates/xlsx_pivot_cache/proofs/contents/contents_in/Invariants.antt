use Rattle.std.proofs.Common.{◌≡◌, length, map, true}
use Rattle.std.specs.Prelude.{◌||◌}
use Rattle.part_events.specs.Words.{section_ahead, behind_section}
use Rattle.cell_data.specs.Words.{value_of_data}
use Rattle.xlsx_sections.specs.Words.{prepended, KeepsSection}
use Rattle.xlsx_pivot_cache.specs.CacheFields.{items_in, groups_items}
use Rattle.xlsx_pivot_cache.specs.FieldEvents.{items_from_place, LiesWithin}
use Rattle.xlsx_pivot_cache.proofs.contents.contents_in.Given as goal

abbrev pub invariant-events : goal.invariant-events
invariant-events g l =
    let old = l.fn.xml in
    let now = l.xml in
    record {
      keeps : KeepsSection l.base old now;
      within : LiesWithin l.contents.place (length now.names);
      items :
          old.source.is_visible ≡ true →
          prepended (map value_of_data l.contents.items.items)
          (items_from_place l.contents.place (length now.names) (section_ahead l.base now))
          ≡ items_in (section_ahead l.base old);
      groups :
          old.source.is_visible ≡ true →
          (l.contents.groups || groups_items (section_ahead l.base now))
          ≡ groups_items (section_ahead l.base old);
      behind : old.source.is_visible ≡ true → behind_section l.base now ≡ behind_section l.base old;
    }

abbrev pub decreases-events : goal.decreases-events
decreases-events g l = l.xml.source.left
