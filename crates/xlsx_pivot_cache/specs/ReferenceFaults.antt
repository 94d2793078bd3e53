-- Why a record refers to no item.
use Rattle.xlsx_sections.specs.Words.{PlainRefusal, wrong_item_number, lacks_field, lacks_item}
use Rattle.xlsx_pivot_cache.specs.declared.record.ReferenceFault.{ReferenceFault}
use Rattle.xlsx_pivot_cache.specs.declared.record.ReferenceFault.TheVariants.{Number, Field, Item}

-- the refusal of a reference to an item: by its number, for want of its field, or for want of the
-- item
abbrev pub refusal_of : ReferenceFault → PlainRefusal
refusal_of Number = wrong_item_number
refusal_of Field = lacks_field
refusal_of Item = lacks_item
