-- The words of this crate that clauses above it cite, passed on from one place. Declares nothing.
pub use Rattle.xlsx_sections.specs.Answers.{all_answers, and_others, and_others_if, last_answer}
pub use Rattle.xlsx_sections.specs.Answers.{or_earlier, or_later, prepended, some_answers}
pub use Rattle.xlsx_sections.specs.Answers.{with_first, with_three, with_two}
pub use Rattle.xlsx_sections.specs.Asking.{Answers, Ask}
pub use Rattle.xlsx_sections.specs.Changes.{all_changes, changed_by, changed_with, or_fault}
pub use Rattle.xlsx_sections.specs.ElementLists.{element_said, end_in_elements, end_in_list}
pub use Rattle.xlsx_sections.specs.ElementLists.{list_said}
pub use Rattle.xlsx_sections.specs.ElementText.{element_text, known_text}
pub use Rattle.xlsx_sections.specs.Elements.{ElementReadFails, FindsElementIn, IfCutOff, IsEndError}
pub use Rattle.xlsx_sections.specs.Elements.{IsInsideRefused, IsTextError, KeepsElements}
pub use Rattle.xlsx_sections.specs.Elements.{KeepsStarts, ReachesEnd, end_among, end_outside}
pub use Rattle.xlsx_sections.specs.Elements.{named_end}
pub use Rattle.xlsx_sections.specs.Failing.{FailsBy, SoundFails}
pub use Rattle.xlsx_sections.specs.Keeping.{changed_in, or_before, put_behind}
pub use Rattle.xlsx_sections.specs.Names.{IsNameError, name_by, named, some_text}
pub use Rattle.xlsx_sections.specs.NumberText.{number_below, number_text}
pub use Rattle.xlsx_sections.specs.PartSection.{Ending, EntersSection, FindsStartIn}
pub use Rattle.xlsx_sections.specs.PartSection.{FirstSectionCause, HasNoPart, IsStepError}
pub use Rattle.xlsx_sections.specs.PartSection.{KeepsSection, LacksPart, Never, OptionalPartCause}
pub use Rattle.xlsx_sections.specs.PartSection.{OptionalPartFails, PartCause, PartFails}
pub use Rattle.xlsx_sections.specs.PartSection.{PartSection, Refusing, SectionCause, SectionFails}
pub use Rattle.xlsx_sections.specs.PartSection.{StandsAtEvent, StandsAtStart, StartCause, always}
pub use Rattle.xlsx_sections.specs.PartSection.{closed_section, closed_section_of, has_end}
pub use Rattle.xlsx_sections.specs.PartSection.{if_closed, inside_of, last_of, section_from}
pub use Rattle.xlsx_sections.specs.PartSection.{section_in, section_left}
pub use Rattle.xlsx_sections.specs.Placed.{named_by, placed, some_placed}
pub use Rattle.xlsx_sections.specs.Refusal.{ElementFails, IsDecodeError, PlainRefusal, Refusal}
pub use Rattle.xlsx_sections.specs.Refusal.{RefusedAs, RefusedAt, answer_further, count_behind}
pub use Rattle.xlsx_sections.specs.Refusal.{decoded_at, decoded_or, further, in_element, lacks_area}
pub use Rattle.xlsx_sections.specs.Refusal.{lacks_definitions, lacks_field, lacks_index, lacks_item}
pub use Rattle.xlsx_sections.specs.Refusal.{lacks_pivot_name, lacks_records, lacks_string}
pub use Rattle.xlsx_sections.specs.Refusal.{lookup_fault, many_definitions, many_pivot_names}
pub use Rattle.xlsx_sections.specs.Refusal.{many_records, misplaced, no_character, placed_at, plain}
pub use Rattle.xlsx_sections.specs.Refusal.{plain_told, stray_child, told_by, unexpected}
pub use Rattle.xlsx_sections.specs.Refusal.{unknown_state, unknown_type, unrelated, wrong_count}
pub use Rattle.xlsx_sections.specs.Refusal.{wrong_error, wrong_index, wrong_item_number}
pub use Rattle.xlsx_sections.specs.Refusal.{wrong_number, wrong_truth, wrong_type}
pub use Rattle.xlsx_sections.specs.SectionEvents.{ReadsToEnd, section_events, section_events_of}
pub use Rattle.xlsx_sections.specs.Steps.{IsEventInside, StepsToElement, StepsToStart}
