use Rattle.std.proofs.Common.{◌≡◌, ℕ, List, [], true, false, None, Ok, refl, sym, ◌∙◌, ap, subst}
use Rattle.std.proofs.Common.{codes, arith}
use Rattle.std.proofs.lemmas.Result.{err_from_is_err_and}
use Rattle.std.specs.Arc.{arc_str_bytes}
use Rattle.std.specs.Prelude.{IsSomeAnd}
use Rattle.part_events.specs.Words.{Part, UsesPackage, LeavesPackage, part_of, event_count}
use Rattle.xlsx_error.specs.declared.error.XlsxError.TheVariants.{Io}
use Rattle.xlsx_sections.specs.Words.{always, closed_section_of, OptionalPartFails}
use Rattle.xlsx_relationships.specs.Words.{related_by_id, folder_of, related_in}
use Rattle.xlsx_workbook.specs.Words.{workbook_part, relationships_part, IsContents}
use Rattle.xlsx_workbook.specs.Words.{AreContentsRefused}
use Rattle.xlsx_open.specs.Opening.{HasRelationships, scopes_at}
use Rattle.xlsx_open.specs.SharedParts.{shared_said}
use Rattle.xlsx_open.proofs.Openings.{opening_of, holds_contents, has_contents, has_nothing}
use Rattle.xlsx_open.proofs.Openings.{contents_fail, has_scopes, no_scopes}
use Rattle.part_events.proofs.Uses.{leaves_then}
use Rattle.xlsx_open.proofs.opening.open_workbook.Goals as goal

pub returns-in-Some-clause-opened : goal.returns-in-Some-clause-opened
returns-in-Some-clause-opened g c = λ told.
    let old = c.args.xml.now.source in
    let mid = c.read_relationships.new.xml.source in
    let path = c.args.path.now in
    let related = related_by_id c.in_ok-relationships.relationships in
    let found = c.in-Some.contents in
    let shared = c.args.shared in
    let o = c.in_ok-from_contents-in-Some.field-0 in
    let made = c.in_ok-from_contents-in-Some.ensures in
    let same = c.in_ok-relationships.ensures.uses.parts in
    let named : arc_str_bytes c.in_ok-folder.folder ≡ folder_of path =
    c.in_ok-folder.ensures.ok ∙ c.folder_of.ensures in
    let has : HasRelationships old.parts path related =
    subst (λ (part : List ℕ). IsSomeAnd (closed_section_of (codes "Relationships") part old.parts)
    (λ inside. (id : List ℕ) → related_in inside id ≡ Ok (related id))) (c.as_str.ensures.value
    ∙ c.in_ok-part.ensures) (c.in_ok-relationships.ensures.related told)
    in
    let contents : IsSomeAnd (closed_section_of (codes "workbook") c.as_str-2.result.now mid.parts)
    (λ inside. IsContents (arc_str_bytes c.in_ok-folder.folder) related inside found) =
    rw c.in-Some.is at (c.in_ok-contents.ensures.contents (same.is_visible ∙ told))
    in
    let contents_here : IsSomeAnd
    (closed_section_of (codes "workbook") (workbook_part path) old.parts)
    (λ inside. IsContents (folder_of path) related inside found) =
    subst (λ (parts : List Part). IsSomeAnd
    (closed_section_of (codes "workbook") (workbook_part path) parts)
    (λ inside. IsContents (folder_of path) related inside found)) same.parts
    (subst (λ (folder : List ℕ). IsSomeAnd
    (closed_section_of (codes "workbook") (workbook_part path) mid.parts)
    (λ inside. IsContents folder related inside found)) named
    (subst (λ (part : List ℕ). IsSomeAnd (closed_section_of (codes "workbook") part mid.parts)
    (λ inside. IsContents (arc_str_bytes c.in_ok-folder.folder) related inside found))
    (c.as_str-2.ensures.value ∙ c.in_ok-part-2.ensures) contents))
    in (
      opening_of found (shared_said shared),
      holds_contents found o.metadata o.paths.items shared o.shared o.is_1904 made.sheets made.paths
          made.names made.shared made.epoch,
      refl,
      (
        related,
        has,
        has_contents old.parts path related found (shared_said shared) contents_here,
      ),
    )

pub returns-clause-opened : goal.returns-clause-opened
returns-clause-opened g c = λ told.
    let old = c.args.xml.now.source in
    let mid = c.read_relationships.new.xml.source in
    let path = c.args.path.now in
    let related = related_by_id c.in_ok-relationships.relationships in
    let same = c.in_ok-relationships.ensures.uses.parts in
    let has : HasRelationships old.parts path related =
    subst (λ (part : List ℕ). IsSomeAnd (closed_section_of (codes "Relationships") part old.parts)
    (λ inside. (id : List ℕ) → related_in inside id ≡ Ok (related id))) (c.as_str.ensures.value
    ∙ c.in_ok-part.ensures) (c.in_ok-relationships.ensures.related told)
    in
    let shared = shared_said c.args.shared in
    let absent : part_of mid.parts c.as_str-2.result.now ≡ None =
    rw c.in-None.is at (c.in_ok-contents.ensures.contents (same.is_visible ∙ told)) in
    let absent_here : part_of old.parts (workbook_part path) ≡ None =
    ap (λ (parts : List Part). part_of parts (workbook_part path)) (sym same.parts)
    ∙ ap (λ (part : List ℕ). part_of mid.parts part)
    (sym (c.as_str-2.ensures.value ∙ c.in_ok-part-2.ensures)) ∙ absent
    in (
      record { sheets = []; names = []; shared = shared; is_1904 = false },
      c.nothing_opened.ensures.opened,
      refl,
      (related, has, has_nothing old.parts path related shared absent_here),
    )

pub returns-in_err-contents-clause-err : goal.returns-in_err-contents-clause-err
returns-in_err-contents-clause-err g c =
    let old = c.args.xml.now.source in
    let mid = c.read_relationships.new.xml.source in
    let new = c.read_contents.new.xml.source in
    let name = codes "workbook" in
    let path = c.args.path.now in
    let related = related_by_id c.in_ok-relationships.relationships in
    let e = c.in_err-contents.field-0.0 in
    let uses = c.in_ok-relationships.ensures.uses in
    let has : old.is_visible ≡ true → HasRelationships old.parts path related = λ told.
    subst (λ (part : List ℕ). IsSomeAnd (closed_section_of (codes "Relationships") part old.parts)
    (λ inside. (id : List ℕ) → related_in inside id ≡ Ok (related id))) (c.as_str.ensures.value
    ∙ c.in_ok-part.ensures) (c.in_ok-relationships.ensures.related told) in
    let named : arc_str_bytes c.in_ok-folder.folder ≡ folder_of path =
    c.in_ok-folder.ensures.ok ∙ c.folder_of.ensures in
    let fails : OptionalPartFails name (always name) (AreContentsRefused (folder_of path) related)
    (workbook_part path) mid new e =
    subst (λ (folder : List ℕ). OptionalPartFails name (always name)
    (AreContentsRefused folder related) (workbook_part path) mid new e) named
    (subst (λ (part : List ℕ). OptionalPartFails name (always name)
    (AreContentsRefused (arc_str_bytes c.in_ok-folder.folder) related) part mid new e)
    (c.as_str-2.ensures.value ∙ c.in_ok-part-2.ensures) c.in_err-contents.ensures.err) in
    let p = err_from_is_err_and c.from_residual-in_err-contents.result
    c.from_residual-in_err-contents.ensures.1 in
    rw (p.1, p.2)
    (contents_fail old mid new path related e uses.parts has fails)

pub returns-in_err-contents-clause-uses : goal.returns-in_err-contents-clause-uses
returns-in_err-contents-clause-uses g c =
    let old = c.args.xml.now.source in
    let mid = c.read_relationships.new.xml.source in
    let new = c.read_contents.new.xml.source in
    let path = c.args.path.now in
    let e = c.in_err-contents.field-0.0 in
    let first : UsesPackage (event_count old.parts (relationships_part path)) old mid =
    subst (λ (part : List ℕ). UsesPackage (event_count old.parts part) old mid)
    (c.as_str.ensures.value ∙ c.in_ok-part.ensures) c.in_ok-relationships.ensures.uses in
    let second : LeavesPackage (event_count old.parts (workbook_part path)) Io mid new e =
    subst
    (λ (parts : List Part). LeavesPackage (event_count parts (workbook_part path)) Io mid new e)
    first.parts.parts
    (subst (λ (part : List ℕ). LeavesPackage (event_count mid.parts part) Io mid new e)
    (c.as_str-2.ensures.value ∙ c.in_ok-part-2.ensures) c.in_err-contents.ensures.uses) in
    let p = err_from_is_err_and c.from_residual-in_err-contents.result
    c.from_residual-in_err-contents.ensures.1 in
    rw (p.1, p.2) (leaves_then (omega arith) first second)

pub returns-in-Some-clause-scopes : goal.returns-in-Some-clause-scopes
returns-in-Some-clause-scopes g c = λ told.
    let mid = c.read_relationships.new.xml.source in
    let path = c.args.path.now in
    let related = related_by_id c.in_ok-relationships.relationships in
    let found = c.in-Some.contents in
    let same = c.in_ok-relationships.ensures.uses.parts in
    let contents : IsSomeAnd (closed_section_of (codes "workbook") c.as_str-2.result.now mid.parts)
    (λ inside. IsContents (arc_str_bytes c.in_ok-folder.folder) related inside found) =
    rw c.in-Some.is at (c.in_ok-contents.ensures.contents (same.is_visible ∙ told)) in
    c.in_ok-from_contents-in-Some.ensures.scopes
    ∙ has_scopes mid.parts c.as_str-2.result.now (arc_str_bytes c.in_ok-folder.folder) related found
    contents
    ∙ ap (λ (part : List ℕ). scopes_at mid.parts part)
    (c.as_str-2.ensures.value ∙ c.in_ok-part-2.ensures)
    ∙ ap (λ (parts : List Part). scopes_at parts (workbook_part path)) same.parts

pub returns-clause-scopes : goal.returns-clause-scopes
returns-clause-scopes g c = λ told.
    let old = c.args.xml.now.source in
    let mid = c.read_relationships.new.xml.source in
    let path = c.args.path.now in
    let same = c.in_ok-relationships.ensures.uses.parts in
    let absent : part_of mid.parts c.as_str-2.result.now ≡ None =
    rw c.in-None.is at (c.in_ok-contents.ensures.contents (same.is_visible ∙ told)) in
    let absent_here : part_of old.parts (workbook_part path) ≡ None =
    ap (λ (parts : List Part). part_of parts (workbook_part path)) (sym same.parts)
    ∙ ap (λ (part : List ℕ). part_of mid.parts part)
    (sym (c.as_str-2.ensures.value ∙ c.in_ok-part-2.ensures)) ∙ absent in
    c.nothing_opened.ensures.scopes ∙ sym (no_scopes old.parts (workbook_part path) absent_here)
