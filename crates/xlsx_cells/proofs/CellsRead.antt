-- How a cell is read, and why it is refused.
use Rattle.std.proofs.Common.{◌≡◌, ℕ, List, [], ◌∷◌, ◌++◌, Bool, true, false, Option, Some, None}
use Rattle.std.proofs.Common.{Ok, Err, refl, sym, ◌∙◌, ap, subst, inl, inr, codes, length, ◌⊎◌, ◌-◌}
use Rattle.std.proofs.Common.{◌<◌, arith}
use Rattle.std.specs.Prelude.{◌||◌, if◌then◌else◌}
use Rattle.std.specs.List.{last_or}
use Rattle.std.specs.Option.{unwrap_or}
use Rattle.attr_text.specs.Words.{lookup, value_of}
use Rattle.attr_text.proofs.LookupsByKey.{lookup-ok}
use Rattle.part_events.specs.Words.{Tag, Event, start, end, Reading, ahead, Element, content}
use Rattle.part_events.specs.Words.{is_closed, unclosed, is_any, IsNextElement, inside, element_at}
use Rattle.part_events.specs.Words.{section_ahead, section_behind}
use Rattle.part_events.proofs.Matches.{open_still}
use Rattle.xlsx_error.specs.declared.error.XlsxError.{XlsxError}
use Rattle.xlsx_error.specs.declared.error.XlsxError.TheVariants.{OutOfMemory}
use Rattle.cell_data.specs.Words.{value_of_data_ref}
use Rattle.cell_data.specs.declared.format.CellFormat.{CellFormat}
use Rattle.xlsx_sections.specs.Words.{end_outside, SectionFails, inside_of, section_left, has_end}
use Rattle.xlsx_sections.specs.Words.{Refusal, in_element, further, count_behind}
use Rattle.xlsx_sections.proofs.CutOff.{cut_weaker, cut_open}
use Rattle.xlsx_sections.proofs.ElementsRead.{IsElementFound, IsElementPassed, own_inside, own_end}
use Rattle.xlsx_sections.proofs.Refused.{refused_by}
use Rattle.xlsx_values.specs.Words.{CellKind, ValueContext, cell_value, value_in, style_number}
use Rattle.xlsx_formulas.specs.Words.{FormulaText, formulas_in, covers_in, AreMasters, last_seen}
use Rattle.xlsx_formulas.specs.Words.{covers_seen}
use Rattle.xlsx_formulas.specs.declared.shared_formulas.SharedFormulas.{SharedFormulas}
use Rattle.xlsx_sections.proofs.SectionsRead.{same_tag}
use Rattle.xlsx_cells.specs.Children.{AreChildrenRefused, ReadsCellFormulas, KeepsMasters, kept_by}
use Rattle.xlsx_cells.specs.Counting.{AreKept, IsStartRefused, IsRefused}
use Rattle.xlsx_cells.specs.Ends.{reads_children, kind_of_cell, end_in_child_element}
use Rattle.xlsx_cells.specs.Ends.{end_in_children, end_in_contents}
use Rattle.xlsx_cells.specs.Finding.{FindsCell, IsMarkRefused, marks_left, TakesElement, LacksCell}
use Rattle.xlsx_cells.specs.Finding.{IsCutOff, open_mark, element_and}
use Rattle.xlsx_cells.specs.Marks.{Mark, cell, is_cell_start, marks, behind_marks}
use Rattle.xlsx_cells.specs.Position.{NoCell}
use Rattle.xlsx_cells.specs.Stream.{IsContentRefused, IsHeadRefused, IsCellRefused, CellFails}
use Rattle.xlsx_cells.specs.Stream.{Stream, TakesCell, IsRead}
use Rattle.xlsx_cells.specs.StyleIds.{id_named, id_looked_up}
use Rattle.xlsx_cells.specs.declared.cell_read.CellRead.{CellRead}
use Rattle.xlsx_cells.specs.declared.children.Wants.{Wants}
use Rattle.xlsx_cells.specs.declared.counters.Counters.{Counters}
use Rattle.xlsx_cells.proofs.Fronts.{front_same, refused_behind_front}
use Rattle.xlsx_cells.proofs.MarksAhead.{content_parts}
use Rattle.xlsx_cells.proofs.Refusing.{start_refused, is_refused_weaker}

-- the style id of a cell whose three keys were looked up together
pub id_among : (tag : Tag) (position style typ : Option (List ℕ))
    → lookup (codes "r" ∷ codes "s" ∷ codes "t" ∷ []) tag.attributes
    ≡ Ok (position ∷ style ∷ typ ∷ []) → id_named tag ≡ Ok (unwrap_or (style_number style) 0)
id_among tag position style typ found =
    let each = (lookup-ok (codes "r" ∷ codes "s" ∷ codes "t" ∷ []) (position ∷ style ∷ typ ∷ [])
    tag.attributes).0 found in
    let second : value_of (codes "s") tag.attributes ≡ Ok style = cc in
    ap id_looked_up second

-- a start whose style id alone is wanted is refused
pub id_start_refused : (wants : Wants) (tag : Tag) (error : XlsxError) → wants.styles ≡ true
    → IsRefused (λ refusal. id_named tag ≡ Err refusal) error
    → IsRefused (λ refusal. (wants.styles ≡ true) × (id_named tag ≡ Err refusal)) error
id_start_refused wants tag error wanted is =
    is_refused_weaker (λ refusal. id_named tag ≡ Err refusal)
    (λ refusal. (wants.styles ≡ true) × (id_named tag ≡ Err refusal)) error
    (λ refusal own. (wanted, own)) is

pub head_refused : (wants : Wants) (context : ValueContext) (tag : Tag) (error : XlsxError)
    → IsRefused (λ refusal. (wants.styles ≡ true) × (id_named tag ≡ Err refusal)) error
    → IsStartRefused (IsHeadRefused wants context tag) error
head_refused wants context tag OutOfMemory is = tt
head_refused wants context tag error is =
    is_refused_weaker (λ refusal. (wants.styles ≡ true) × (id_named tag ≡ Err refusal))
    (IsHeadRefused wants context tag) error (λ refusal own. inr own) is

pub some_wanted : (values formulas : Bool) → (values ≡ true) ⊎ (formulas ≡ true)
    → (values || formulas) ≡ true
some_wanted true formulas is = refl
some_wanted false true is = refl
some_wanted false false (inl is) = absurd (cc)
some_wanted false false (inr is) = absurd (cc)

-- where no values are wanted, the type of a cell tells nothing of the part's end
same_child : (wants : Wants) (first second : CellKind) (element : Element)
    → wants.values ≡ false
    → end_in_child_element wants first element ≡ end_in_child_element wants second element
same_child wants first second element unwanted = rw unwanted refl

same_unclosed : (wants : Wants) (first second : CellKind) (found : Option Element)
    → wants.values ≡ false
    → end_outside (codes "c") (end_in_child_element wants first) found
    ≡ end_outside (codes "c") (end_in_child_element wants second) found
same_unclosed wants first second None unwanted = refl
same_unclosed wants first second (Some element) unwanted =
    same_child wants first second element unwanted

same_end : (values : Bool) (wants : Wants) (first second : CellKind) (inside : List Event)
    → wants.values ≡ values → (wants.values ≡ true → first ≡ second)
    → end_in_children wants first inside ≡ end_in_children wants second inside
same_end true wants first second inside is same =
    ap (λ (kind : CellKind). end_in_children wants kind inside) (same is)
same_end false wants first second inside is same =
    same_unclosed wants first second (unclosed is_any inside) is

pub contents_fail : (wants : Wants) (context : ValueContext) (format : CellFormat) (kind : CellKind)
    (tag : Tag) (old new : Reading) (error : XlsxError) → reads_children wants ≡ true
    → (wants.values ≡ true → kind_of_cell tag ≡ kind)
    → (wants.values ≡ true → (inside : List Event)
    → cell_value context tag inside ≡ value_in context format kind inside)
    → SectionFails (end_in_children wants kind) (AreChildrenRefused wants context format kind)
    (length old.names) old new error
    → CellFails wants context tag old new error
contents_fail wants context format kind tag old new error some typed valued fails =
    refused_by (length old.names) old (end_in_children wants kind) (end_in_contents wants tag)
    (AreChildrenRefused wants context format kind) (IsContentRefused wants context tag) new error
    (λ told. rw some (same_end wants.values wants (kind_of_cell tag) kind
    (inside_of (section_left (length old.names) old)) refl typed))
    (λ told refusal is. elim is [
      | inl own ↦ inl (
        own.0,
        valued own.0 (inside_of (section_left (length old.names) old)) ∙ own.1,
      )
      | inr own ↦ inr (inl own)
    ]) fails

pub started_fail : (wants : Wants) (context : ValueContext) (tag : Tag) (old new : Reading)
    (error : XlsxError) → IsStartRefused (IsHeadRefused wants context tag) error
    → CellFails wants context tag old new error
started_fail wants context tag old new error is =
    start_refused (length old.names) old (end_in_contents wants tag)
    (IsHeadRefused wants context tag) (IsContentRefused wants context tag) new error
    (λ told refusal own. elim own [
      | inl valued ↦ inl (
        valued.0,
        valued.1 (inside_of (section_left (length old.names) old)),
      )
      | inr named ↦ inr (inr named)
    ]) is

-- the cell that was found is refused
pub found_cell_refused : (wants : Wants) (context : ValueContext) (before : List Mark)
    (position : ℕ × ℕ) (base : ℕ) (old new : Reading) (counters : Counters) (tag : Tag)
    (refusal : Refusal) → FindsCell before position base old new counters
    → start tag ≡ new.source.current
    → IsContentRefused wants context tag (section_left (length new.names) new) refusal
    → IsMarkRefused NoCell (IsCellRefused wants context) before (marks_left base old)
    (further (count_behind (element_at base tag new)) refusal)
found_cell_refused wants context before position base old new counters tag refusal finds current
    is =
    let same : finds.tag ≡ tag = same_tag (finds.current ∙ sym current) in
    let element = element_at base tag new in
    let after = further (count_behind element) refusal in
    let behind = behind_marks finds.front.passed before in
    let here : IsCellRefused wants context behind element after =
    elim is [
      | inl own ↦ inr (inl (own.0, ap (in_element element) (rw (own_inside new) at own.1)))
      | inr others ↦ elim others [
        | inl own ↦ inr (inr (inl (
          own.0,
          ap (in_element element) (rw (own_inside new) at own.1),
        )))
        | inr own ↦ inr (inr (inr (own.0, ap (in_element element) own.1)))
      ]
    ] in
    refused_behind_front (IsCellRefused wants context) after finds.front
    (subst (λ (all : List Mark). IsMarkRefused NoCell (IsCellRefused wants context) behind all
    after) (sym finds.next)
    (subst (λ (own : Tag). IsMarkRefused NoCell (IsCellRefused wants context) behind
    (cell (element_at base own new) ∷ marks (section_behind base new)) after) (sym same)
    (inl here)))

-- the cell that was found is left open, and no other cell is left
found_cell_open : (before : List Mark) (position : ℕ × ℕ) (base : ℕ) (old new : Reading)
    (counters : Counters) (tag : Tag) → FindsCell before position base old new counters
    → start tag ≡ new.source.current → IsNextElement is_cell_start base tag old new
    → has_end (section_left (length new.names) new) ≡ false
    → LacksCell NoCell before (section_ahead base old)
found_cell_open before position base old new counters tag finds current next ends =
    let same : finds.tag ≡ tag = same_tag (finds.current ∙ sym current) in
    let element = element_at base tag new in
    let passed = finds.front.passed in
    let is_open : is_closed 0 (ahead new) ≡ false = sym (own_end new) ∙ ends in
    let open_one : unclosed is_cell_start (section_ahead base old) ≡ Some element =
    next.unclosed
    ∙ ap (λ (b : Bool). if b then unclosed is_cell_start (section_behind base new) else Some
    element)
    is_open in
    record {
      passed = passed;
      fact = finds.front.fact;
      marks = finds.front.marks ∙ ap (λ (others : List Mark). passed ++ others) finds.next
          ∙ ap (λ (own : Tag). passed ++ cell (element_at base own new)
          ∷ marks (section_behind base new)) same
          ∙ ap (λ (events : List Event). passed ++ cell element
          ∷ marks (content (inside base new - 1) events)) (open_still (ahead new) is_open).1
          ∙ ap (λ (found : Option Element). passed ++ open_mark found) (sym open_one);
    }

-- a step is cut off in the cell that was found
pub found_cell_cut : (wants : Wants) (context : ValueContext) (position : ℕ × ℕ) (base place : ℕ)
    (old mid new : Reading) (first counters : Counters) (tag : Tag) (error : XlsxError)
    → IsElementFound is_cell_start base tag place old old mid → start tag ≡ mid.source.current
    → (old.source.is_visible ≡ true → (before : List Mark) → AreKept before first
    → FindsCell before position base old mid counters)
    → CellFails wants context tag mid new error
    → IsCutOff NoCell first base old error
found_cell_cut wants context position base place old mid new first counters tag error found current
    finds fails =
    cut_weaker (mid.source.is_visible ≡ true → has_end (section_left (length mid.names) mid)
    ≡ false)
    (old.source.is_visible ≡ true → (before : List Mark) → AreKept before first
    → LacksCell NoCell before (section_ahead base old)) error
    (λ ends told before kept.
    found_cell_open before position base old mid counters tag (finds told before kept) current
    (found.next told) (ends (found.read.reads.moves.parts.is_visible ∙ told)))
    (cut_open (length mid.names) mid new (end_in_contents wants tag)
    (IsContentRefused wants context tag) error fails)

-- the formulas that a cell writes, where they are wanted, and those that are kept of them
record WritesOf
    (wants : Wants) (keeps : Bool) (inside : List Event) (old new : SharedFormulas)
    (latest : Option FormulaText) : Type 0 where
  written : List FormulaText
  listed : wants.formulas ≡ true → formulas_in inside ≡ Ok written
  last : wants.formulas ≡ true → latest ≡ last_or None written
  none : wants.formulas ≡ false → written ≡ []
  masters : KeepsMasters (kept_by keeps written) old new

kept_none : (keeps : Bool) (old new : SharedFormulas) → new ≡ old
    → KeepsMasters (kept_by keeps []) old new
kept_none true old new same = λ earlier are. rw same are
kept_none false old new same = λ earlier are. rw same are

writes_of : (formulas : Bool) (wants : Wants) (keeps : Bool) (inside : List Event)
    (old new : SharedFormulas) (last : Option FormulaText) → wants.formulas ≡ formulas
    → (wants.formulas ≡ true
    → ReadsCellFormulas keeps inside old (record { masters = new; last = last }))
    → (wants.formulas ≡ false → new ≡ old) → WritesOf wants keeps inside old new last
writes_of true wants keeps inside old new last is reads same =
    let all = reads is in
    record {
      written = all.written;
      listed = λ wanted. all.listed;
      last = λ wanted. all.last;
      none = λ unwanted. absurd (let both : true ≡ false = sym is ∙ unwanted in cc);
      masters = all.masters;
    }
writes_of false wants keeps inside old new last is reads same = record {
  written = [];
  listed = λ wanted. absurd (let both : false ≡ true = sym is ∙ wanted in cc);
  last = λ wanted. absurd (let both : false ≡ true = sym is ∙ wanted in cc);
  none = λ unwanted. refl;
  masters = kept_none keeps old new (same is);
}

-- the cell that was found was read to its end, and this is left behind it
abbrev found_cell_taken : {before : List Mark} {position : ℕ × ℕ} {base : ℕ} {old mid : Reading}
    {counters : Counters} (new : Reading)
    → (finds : FindsCell before position base old mid counters)
    → base < length mid.names → is_closed 0 (ahead mid) ≡ true
    → section_ahead base new ≡ section_behind base mid
    → TakesElement NoCell before (element_at base finds.tag mid) (section_ahead base old)
    (section_ahead base new)
found_cell_taken {base = base} {mid = mid} new finds deep closed left =
    let element = element_at base finds.tag mid in
    let parts = content_parts 0 (inside base mid - 1) (inside base mid) (ahead mid)
    (omega (arith, deep)) closed in
    let name = parts.0 in
    let all : section_ahead base mid ≡ content 0 (ahead mid) ++ end name ∷ section_ahead base new =
    parts.1 ∙ ap (λ (events : List Event). content 0 (ahead mid) ++ end name ∷ events) (sym left) in
    let whole : start finds.tag ∷ section_ahead base mid
    ≡ element_and element name (section_ahead base new) =
    ap (λ (events : List Event). start finds.tag ∷ events) all in
    record {
      name = name;
      front = front_same finds.front whole;
      next = ap marks (sym whole) ∙ finds.next
          ∙ ap (λ (events : List Event). cell element ∷ marks events) (sym left);
      place = ap length all;
    }

-- the cell that was found was read
pub taken_cell : (wants : Wants) (keeps : Bool) (context : ValueContext) (before : List Mark)
    (earlier : List FormulaText) (position : ℕ × ℕ) (old : Stream) (mid new : Reading)
    (counters : Counters) (masters : SharedFormulas) (read : CellRead)
    → (finds : FindsCell before position old.base old.reading mid counters)
    → IsElementPassed is_cell_start old.base finds.tag old.reading old.reading mid new
    → old.base < length mid.names → is_closed 0 (ahead mid) ≡ true
    → old.reading.source.is_visible ≡ true → AreMasters earlier old.masters → read.pos ≡ position
    → (wants.values ≡ true → cell_value context finds.tag (content 0 (ahead mid))
    ≡ Ok (value_of_data_ref read.value))
    → (wants.formulas ≡ true → ReadsCellFormulas keeps (content 0 (ahead mid)) old.masters
    (record { masters = masters; last = last_seen read.formula }))
    → (wants.formulas ≡ true → covers_seen read.formula ≡ covers_in (content 0 (ahead mid)))
    → (wants.formulas ≡ false → masters ≡ old.masters)
    → (wants.styles ≡ true → id_named finds.tag ≡ Ok read.style_id)
    → TakesCell NoCell before earlier old (record {
      reading = new;
      base = old.base;
      counters = counters;
      masters = masters;
      is_done = old.is_done;
      is_failed = false;
    }) (IsRead wants keeps context read)
taken_cell wants keeps context before earlier position old mid new counters masters read finds
    passed deep closed told behind placed valued reads covers kept styled =
    let base = old.base in
    let inside = content 0 (ahead mid) in
    let all : WritesOf wants keeps inside old.masters masters (last_seen read.formula) =
    writes_of wants.formulas wants keeps inside old.masters masters (last_seen read.formula) refl
    reads kept in
    record {
      element = element_at base finds.tag mid;
      kept = kept_by keeps all.written;
      takes = found_cell_taken new finds deep closed (passed.left told);
      closed = sym (passed.keeps.section.closed told);
      holds = record {
        placed = finds.placed ∙ ap Ok (sym placed);
        valued = valued;
        styled = styled;
        written = all.written;
        listed = all.listed;
        last = all.last;
        covers = covers;
        none = all.none;
        is_kept = refl;
      };
      stands = record { counters = finds.counts; masters = all.masters earlier behind };
    }
