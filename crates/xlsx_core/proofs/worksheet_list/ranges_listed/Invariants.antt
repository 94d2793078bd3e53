use Rattle.std.proofs.Common.{◌≡◌, ◌+◌, ◌≤◌, ◌++◌, ℕ, List, drop, true, String, Global}
use Rattle.part_events.specs.Words.{SameParts, NeverFalls}
use Rattle.cell_data.specs.declared.range.Range.{Range}
use Rattle.cell_data.specs.declared.value.Data.{Data}
use Rattle.xlsx_values.specs.Words.{context_of}
use Rattle.xlsx_core.specs.Listing.{AreListed, listed_events, listed_data, CountsAtLeast}
use Rattle.xlsx_core.specs.Opened.{path_listed}
use Rattle.xlsx_core.proofs.worksheet_list.ranges_listed.Given as goal

abbrev pub invariant-sheets : goal.invariant-sheets
invariant-sheets g l =
    let old = l.fn.xml.source in
    let now = l.xml.source in
    let place = λ (name : List ℕ). path_listed name l.fn.sheets l.fn.paths in
    record {
      keeps : SameParts old now;
      faults : now.faults ≡ old.faults;
      forward : NeverFalls old.taken now.taken;
      taken : old.is_visible ≡ true →
          now.taken + listed_events place old.parts (drop l.sheet-index l.fn.sheets)
          ≤ old.taken + listed_events place old.parts l.fn.sheets;
      ends : old.is_visible ≡ true →
          CountsAtLeast (listed_data place old.parts l.listed.items) old.taken now.taken;
      listed : old.is_visible ≡ true → (others : List (String Global × Range Data)) →
          AreListed (context_of l.asked.book) l.header_row place old.parts
          (drop l.sheet-index l.fn.sheets) others →
          AreListed (context_of l.asked.book) l.header_row place old.parts l.fn.sheets
          (l.listed.items ++ others);
    }
