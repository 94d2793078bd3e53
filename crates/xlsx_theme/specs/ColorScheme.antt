-- What the color scheme of a theme says (ECMA-376 part 1, section 20.1.6.2).
use Rattle.std.specs.Prelude.{⊤, ℕ, List, [], ◌∷◌, Bool, codes, Option, Some, None, Result, Ok, Err}
use Rattle.std.specs.Prelude.{unwrap_or, option_and_then}
use Rattle.std.specs.Option.{option_or}
use Rattle.attr_text.specs.Words.{lookup}
use Rattle.attr_text.specs.declared.fault.AttrFault.{AttrFault}
use Rattle.part_events.specs.Words.{Tag, Event, PlacedTag, starts_by, is_named}
use Rattle.part_events.specs.declared.fault.XmlFault.TheVariants.{Break, Unclosed}
use Rattle.xlsx_error.specs.declared.error.XlsxError.{XlsxError}
use Rattle.xlsx_error.specs.declared.error.XlsxError.TheVariants.{OutOfMemory, Io, Xml, XmlAttr}
use Rattle.cell_styles.specs.declared.color.Color.{Color}
use Rattle.xlsx_sections.specs.Words.{with_two, or_fault, list_said, Refusal}
use Rattle.xlsx_styles.specs.Words.{black, hex_color}

-- an element that stands for one color of the scheme
abbrev pub is_slot : Tag → Bool
is_slot tag = is_named (
    codes "dk1" ∷ codes "lt1" ∷ codes "dk2" ∷ codes "lt2" ∷ codes "accent1" ∷ codes "accent2"
    ∷ codes "accent3" ∷ codes "accent4" ∷ codes "accent5" ∷ codes "accent6" ∷ codes "hlink"
    ∷ codes "folHlink" ∷ []) tag

-- a start that may say the color of its slot (sections 20.1.2.3.32 and 20.1.2.3.33)
abbrev pub is_color_model : Tag → Bool
is_color_model tag = is_named (codes "srgbClr" ∷ codes "sysClr" ∷ []) tag

-- the color that the texts of `val` and `lastClr` tell: that which a program saw last, and else the
-- one named
abbrev pub color_of_model : Option (List ℕ) → Option (List ℕ) → Option Color
color_of_model val last = option_or (option_and_then hex_color last) (option_and_then hex_color val)

-- the color that the texts of a color model tell
abbrev pub model_by : Result (List (Option (List ℕ))) AttrFault → Result (Option Color) AttrFault
model_by (Ok texts) = Ok (with_two color_of_model None texts)
model_by (Err fault) = Err fault

-- the color that the start of a color model says, if its texts are a color's
abbrev pub model_color : Tag → Result (Option Color) AttrFault
model_color tag = model_by (lookup (codes "val" ∷ codes "lastClr" ∷ []) tag.attributes)

-- the color of a start in a slot
abbrev pub model_answer : PlacedTag → Result (Option Color) Refusal
model_answer start = or_fault (model_color start.tag)

-- what was given before, and where nothing was, what the others give
abbrev pub unless_given : {A : Type 0} → Option A → Result (Option A) Refusal
    → Result (Option A) Refusal
unless_given (Some given) others = Ok (Some given)
unless_given None others = others

-- a color that is given, or that of what follows
abbrev pub or_others : {A : Type 0} → Result (Option A) Refusal → Result (Option A) Refusal
    → Result (Option A) Refusal
or_others (Ok given) others = unless_given given others
or_others (Err refusal) others = Err refusal

-- what the first gives that gives something, where none before it is refused; those behind it don't
-- count
abbrev pub first_answer : {X A : Type 0} → (X → Result (Option A) Refusal) → List X
    → Result (Option A) Refusal
first_answer answer [] = Ok None
first_answer answer (x ∷ xs) = or_others (answer x) (first_answer answer xs)

-- a color that was read, or black where none is given
abbrev pub or_black : Result (Option Color) Refusal → Result Color Refusal
or_black (Ok color) = Ok (unwrap_or color black)
or_black (Err refusal) = Err refusal

-- the color of a slot, by what stands in it
abbrev pub slot_color : List Event → Result Color Refusal
slot_color inside = or_black (first_answer model_answer (starts_by is_color_model inside))

-- the color of a slot
abbrev pub slot_said : Tag → List Event → Result Color Refusal
slot_said tag inside = slot_color inside

-- the colors of the outermost slots of a scheme, in order, by what stands in it
abbrev pub slot_colors : List Event → Result (List Color) Refusal
slot_colors inside = list_said is_slot slot_said inside

-- The colors by the numbers of an attribute `theme` (section 18.8.3), of four slots or more: light
-- 1 and light 2 are numbered before dark 1 and dark 2, which stand before them in the scheme.
abbrev pub numbered_colors : List Color → Option (List Color)
numbered_colors [] = None
numbered_colors (a ∷ []) = None
numbered_colors (a ∷ b ∷ []) = None
numbered_colors (a ∷ b ∷ c ∷ []) = None
numbered_colors (a ∷ b ∷ c ∷ d ∷ others) = Some (b ∷ a ∷ d ∷ c ∷ others)

-- the colors of the slots in the order of their numbers
abbrev pub all_numbered : Result (List Color) Refusal → Result (Option (List Color)) Refusal
all_numbered (Ok colors) = Ok (numbered_colors colors)
all_numbered (Err refusal) = Err refusal

-- the colors that a scheme says, by what stands in it; None of fewer than four slots
abbrev pub scheme_colors : List Event → Result (Option (List Color)) Refusal
scheme_colors inside = all_numbered (slot_colors inside)

-- the refusals that reading a scheme can have, whatever the package tells
abbrev pub IsSchemeError : XlsxError → Type 0
IsSchemeError Io = ⊤
IsSchemeError OutOfMemory = ⊤
IsSchemeError (Xml (Break at why)) = ⊤
IsSchemeError (Xml (Unclosed at)) = ⊤
IsSchemeError (XmlAttr fault) = ⊤
IsSchemeError _ = ⊥
