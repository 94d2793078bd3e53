-- The marks ahead, from one event to the next, and behind a cell.
use Rattle.std.proofs.Common.{◌≡◌, ℕ, zero, suc, ◌+◌, List, [], ◌∷◌, ◌++◌, length, Bool, true}
use Rattle.std.proofs.Common.{false, Some, None, refl, ◌∙◌, ap, arith}
use Rattle.std.specs.Prelude.{if◌then◌else◌}
use Rattle.part_events.specs.Words.{Tag, Event, start, end, leaf, Element, element_of, content}
use Rattle.part_events.specs.Words.{is_closed, behind, unclosed}
use Rattle.part_events.proofs.Sections.{content-content}
use Rattle.xlsx_cells.specs.Marks.{Mark, row_start, row_end, cell, is_cell_start, is_row}
use Rattle.xlsx_cells.specs.Marks.{is_row_name, marks_from, marks, cell_start, marks_of}

-- the marks of a section behind an element that lies in it
pub marks_behind : (inner outer within : ℕ) (events : List Event) → within ≡ inner + suc outer
    → marks_from (suc inner) (content within events)
    ≡ marks_from 0 (content outer (behind inner events))
marks_behind inner outer within [] is = refl
marks_behind inner outer within (start tag ∷ events) is =
    marks_behind (suc inner) outer (suc within) events (omega arith)
marks_behind zero outer zero (end name ∷ events) is = absurd (omega arith)
marks_behind (suc inner) outer zero (end name ∷ events) is = absurd (omega arith)
marks_behind zero outer (suc within) (end name ∷ events) is =
    let same : within ≡ outer = omega arith in
    ap (λ (n : ℕ). marks_from 0 (content n events)) same
marks_behind (suc inner) outer (suc within) (end name ∷ events) is =
    marks_behind inner outer within events (omega arith)
marks_behind inner outer within (leaf kind ∷ events) is =
    marks_behind inner outer within events is

-- what stands in a section: what is in an element that lies in it, its end, and what is behind
pub content_parts : (inner outer within : ℕ) (events : List Event) → within ≡ inner + suc outer
    → is_closed inner events ≡ true
    → (name : List ℕ) × (content within events
    ≡ content inner events ++ end name ∷ content outer (behind inner events))
content_parts inner outer within [] is closed = absurd (cc)
content_parts inner outer within (start tag ∷ events) is closed =
    let rest = content_parts (suc inner) outer (suc within) events (omega arith) closed in
    (rest.0, ap (λ (more : List Event). start tag ∷ more) rest.1)
content_parts zero outer zero (end name ∷ events) is closed = absurd (omega arith)
content_parts (suc inner) outer zero (end name ∷ events) is closed = absurd (omega arith)
content_parts zero outer (suc within) (end name ∷ events) is closed =
    let same : within ≡ outer = omega arith in
    (name, ap (λ (n : ℕ). end name ∷ content n events) same)
content_parts (suc inner) outer (suc within) (end name ∷ events) is closed =
    let rest = content_parts inner outer within events (omega arith) closed in
    (rest.0, ap (λ (more : List Event). end name ∷ more) rest.1)
content_parts inner outer within (leaf kind ∷ events) is closed =
    let rest = content_parts inner outer within events is closed in
    (rest.0, ap (λ (more : List Event). leaf kind ∷ more) rest.1)

-- a cell is the next mark, and the others are those behind it
pub marks_cell : (tag : Tag) (outer : ℕ) (events : List Event) → is_cell_start tag ≡ true
    → marks (start tag ∷ content (suc outer) events)
    ≡ cell (record {
      tag = tag;
      inside = content 0 events;
      behind = length (content (suc outer) events);
    }) ∷ marks (content outer (behind 0 events))
marks_cell tag outer events is =
    let all = content (suc outer) events in
    let element : List Event → Element =
    λ (within : List Event). record { tag = tag; inside = within; behind = length all } in
    ap (λ (b : Bool). if b then cell (element_of tag all) ∷ marks_from 1 all
    else (if is_row tag then row_start tag ∷ marks_from 0 all else marks_from 0 all)) is
    ∙ ap (λ (within : List Event). cell (element within) ∷ marks_from 1 all)
    (content-content 0 (suc outer) events (omega arith))
    ∙ ap (λ (others : List Mark). cell (element (content 0 events)) ∷ others)
    (marks_behind 0 outer (suc outer) events (omega arith))

no_cell_if : (b : Bool) (tag : Tag) → (if b then Some tag else None) ≡ None → b ≡ false
no_cell_if true tag is = absurd (cc)
no_cell_if false tag is = refl

pub no_cell_start : (tag : Tag) → cell_start (start tag) ≡ None → is_cell_start tag ≡ false
no_cell_start tag is = no_cell_if (is_cell_start tag) tag is

one_if : (b : Bool) (mark : Mark) (others : List Mark) → (if b then mark ∷ others else others)
    ≡ (if b then mark ∷ [] else []) ++ others
one_if true mark others = refl
one_if false mark others = refl

-- an event that starts no cell makes its marks, and the others are those behind it
pub marks_event : (event : Event) (events : List Event) → cell_start event ≡ None
    → marks (event ∷ events) ≡ marks_of event ++ marks events
marks_event (start tag) events none =
    ap (λ (b : Bool). if b then cell (element_of tag events) ∷ marks_from 1 events
    else (if is_row tag then row_start tag ∷ marks_from 0 events else marks_from 0 events))
    (no_cell_start tag none)
    ∙ one_if (is_row tag) (row_start tag) (marks events)
marks_event (end name) events none = one_if (is_row_name name) row_end (marks events)
marks_event (leaf kind) events none = refl

-- and is no unclosed cell
pub unclosed_event : (event : Event) (events : List Event) → cell_start event ≡ None
    → unclosed is_cell_start (event ∷ events) ≡ unclosed is_cell_start events
unclosed_event (start tag) events none = rw (no_cell_start tag none) refl
unclosed_event (end name) events none = refl
unclosed_event (leaf kind) events none = refl
