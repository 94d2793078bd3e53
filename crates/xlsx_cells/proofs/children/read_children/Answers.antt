use Rattle.std.proofs.Common.{◌≡◌, ℕ, true, None, refl, ◌∙◌, ap, subst, inl, inr, arith, codes}
use Rattle.std.proofs.Common.{rules}
use Rattle.std.proofs.lemmas.Result.{err_from_is_err_and}
use Rattle.part_events.specs.Words.{ahead, content, is_any, inside, element_at}
use Rattle.xlsx_sections.specs.Words.{end_outside, FindsElementIn, Never, SectionFails, in_element}
use Rattle.xlsx_sections.proofs.ElementsRead.{IsElementFound, IsElementPassed, element_there}
use Rattle.xlsx_sections.proofs.ElementsRead.{element_passed, element_refused, own_inside}
use Rattle.xlsx_sections.proofs.Kept.{last_further, last_refused}
use Rattle.xlsx_sections.proofs.Refused.{refused_later}
use Rattle.xlsx_values.specs.Words.{kind_of, context_of, child_value, said_value, or_nothing}
use Rattle.xlsx_formulas.specs.Words.{covers_in, last_seen, covers_seen}
use Rattle.xlsx_cells.specs.Children.{StandsAtElement, LastStep, ReadsCellFormulas, value_kept}
use Rattle.xlsx_cells.specs.Children.{IsChildRefused, AreChildrenRefused}
use Rattle.xlsx_cells.specs.Ends.{end_in_child, end_in_child_element, end_in_children}
use Rattle.xlsx_sections.proofs.SectionsRead.{leaves_further}
use Rattle.xlsx_cells.proofs.ChildrenRead.{or_earlier_in_element, covers_further, covers_whole}
use Rattle.xlsx_cells.proofs.ChildrenRead.{written_further, formulas_refused, formulas_whole}
use Rattle.xlsx_cells.proofs.children.read_children.Goals as goal

pub returns-in_err-next_child_in-clause-err : goal.returns-in_err-next_child_in-clause-err
returns-in_err-next_child_in-clause-err g c =
    let old = c.args.xml.now in
    let mid = c.children.xml in
    let new = c.next_child_in.new.xml in
    let base = c.depth-base.result in
    let wants = c.args.asked.wants in
    let kind = kind_of c.args.start.now.typ in
    let inner = end_in_child_element wants kind in
    let now = c.children.invariant in
    let refused = AreChildrenRefused wants (context_of c.args.asked.book) c.args.start.now.format
    kind in
    let p = err_from_is_err_and c.from_residual.result c.from_residual.ensures.1 in
    rw (p.1, p.2)
    (subst (λ (n : ℕ). SectionFails (end_in_children wants kind) refused n old new
    c.in_err-next_child_in.field-0.0) now.base
    (refused_later base old mid (end_in_children wants kind) Never refused new
    c.in_err-next_child_in.field-0.0 now.keeps.section
    (λ told. ap (end_outside (codes "c") inner) (now.keeps.unclosed told))
    (λ told refusal never. absurd never) (c.in_err-next_child_in.ensures.err inner)))

pub children-preserved : goal.children-preserved
children-preserved g c =
    let old = c.args.xml.now in
    let mid = c.children.xml in
    let at = c.next_child_in.new.xml in
    let after = c.read_child.new.xml in
    let base = c.depth-base.result in
    let now = c.children.invariant in
    let context = context_of c.args.asked.book in
    let format = c.args.start.now.format in
    let kind = kind_of c.args.start.now.typ in
    let place = c.in-Some.field-0 in
    let there = element_there c.in-Some.is now.keeps c.in_ok-next_child_in.ensures.reads
    c.in_ok-next_child_in.ensures.stands c.in_ok-next_child_in.ensures.found in
    let tag = there.0 in
    let found : IsElementFound is_any base tag place old mid at = there.2 in
    let passed : IsElementPassed is_any base tag old mid at after =
    element_passed found c.in_ok-read_child.ensures.reads in
    let still : old.source.is_visible ≡ true → at.source.is_visible ≡ true =
    λ told. found.read.reads.moves.parts.is_visible ∙ told in
    let element = element_at base tag at in
    let stand : StandsAtElement element at = record { tag = there.1; inside = refl } in
    let before : LastStep =
    record { masters = c.children.masters; last = last_seen c.children.latest.formula } in
    let behind : LastStep = record {
      masters = c.read_child.new.masters;
      last = last_seen c.read_child.new.latest.formula;
    } in
    record {
      base = now.base;
      keeps = passed.keeps;
      value = λ told wanted.
          last_further (child_value context format kind) (value_kept c.children.latest.value)
          (passed.elements told)
          (or_earlier_in_element element (value_kept c.children.latest.value)
          (value_kept c.read_child.new.latest.value)
          (said_value context format kind tag element.inside)
          (c.in_ok-read_child.ensures.takes.value (still told) wanted element stand))
          (now.value told wanted);
      formulas = λ told wanted.
          written_further before behind (now.formulas told wanted) (passed.elements told)
          (c.in_ok-read_child.ensures.takes.formula (still told) wanted element stand);
      covers = λ told wanted.
          covers_further (covers_seen c.children.latest.formula)
          (covers_seen c.read_child.new.latest.formula) _ element _ _ (passed.elements told)
          (c.in_ok-read_child.ensures.takes.covers (still told) wanted element stand)
          (now.covers told wanted);
      same = λ unwanted. c.in_ok-read_child.ensures.takes.same unwanted ∙ now.same unwanted;
      unvalued = λ unwanted.
          c.in_ok-read_child.ensures.takes.unvalued unwanted ∙ now.unvalued unwanted;
      unlisted = λ unwanted.
          c.in_ok-read_child.ensures.takes.unlisted unwanted ∙ now.unlisted unwanted;
    }

pub returns-in_err-read_child-clause-reads : goal.returns-in_err-read_child-clause-reads
returns-in_err-read_child-clause-reads g c =
    let now = c.children.invariant in
    let p = err_from_is_err_and c.from_residual-in_err-read_child.result
    c.from_residual-in_err-read_child.ensures.1 in
    rw (p.1, p.2)
    (leaves_further now.keeps.section.reads
    (leaves_further c.in_ok-next_child_in.ensures.reads c.in_err-read_child.ensures.reads))

pub returns-in_err-read_child-clause-err : goal.returns-in_err-read_child-clause-err
returns-in_err-read_child-clause-err g c =
    let old = c.args.xml.now in
    let mid = c.children.xml in
    let at = c.next_child_in.new.xml in
    let after = c.read_child.new.xml in
    let base = c.depth-base.result in
    let now = c.children.invariant in
    let wants = c.args.asked.wants in
    let context = context_of c.args.asked.book in
    let format = c.args.start.now.format in
    let kind = kind_of c.args.start.now.typ in
    let place = c.in-Some.field-0 in
    let there = element_there c.in-Some.is now.keeps c.in_ok-next_child_in.ensures.reads
    c.in_ok-next_child_in.ensures.stands c.in_ok-next_child_in.ensures.found in
    let tag = there.0 in
    let found : IsElementFound is_any base tag place old mid at = there.2 in
    let element = element_at base tag at in
    let stand : StandsAtElement element at = record { tag = there.1; inside = refl } in
    let inner = end_in_child_element wants kind in
    let refused = AreChildrenRefused wants context format kind in
    let error = c.in_err-read_child.field-0.0 in
    let p = err_from_is_err_and c.from_residual-in_err-read_child.result
    c.from_residual-in_err-read_child.ensures.1 in
    rw (p.1, p.2)
    (subst (λ (n : ℕ). SectionFails (end_in_children wants kind) refused n old after error) now.base
    (element_refused (codes "c") inner (end_in_child wants kind tag)
    (IsChildRefused wants context format kind tag) refused after error found (λ told. refl)
    (λ told refusal is. elim is [
      | inl own ↦ inl (
        own.0,
        ap or_nothing (last_refused (child_value context format kind)
            (value_kept c.children.latest.value) (found.next told).elements
            (ap (in_element element) (rw (own_inside at) at own.1)) (now.value told own.0)),
      )
      | inr own ↦ inr (
        own.0,
        formulas_refused (now.formulas told own.0) (found.next told).elements
            (ap (in_element element) (rw (own_inside at) at own.1)),
      )
    ])
    (c.in_err-read_child.ensures.err element stand)))

pub returns-clause-contents : goal.returns-clause-contents
returns-clause-contents g c =
    let old = c.args.xml.now in
    let mid = c.children.xml in
    let new = c.next_child_in.new.xml in
    let base = c.depth-base.result in
    let now = c.children.invariant in
    let behind : LastStep = record {
      masters = c.children.masters;
      last = last_seen c.children.latest.formula;
    } in
    let none : inside base old ≡ 0 = omega (arith, now.base) in
    record {
      value = search rules;
      formula = λ told wanted.
          let closes : FindsElementIn is_any base None mid new =
          rw c.in_default.is at
          (c.in_ok-next_child_in.ensures.found (now.keeps.section.reads.moves.parts.is_visible
          ∙ told))
          in
          subst (λ (n : ℕ). ReadsCellFormulas c.args.asked.keeps_masters (content n (ahead old))
          c.args.masters.now behind) none
          (formulas_whole behind (now.formulas told wanted) closes.elements);
      covers = λ told wanted.
          let closes : FindsElementIn is_any base None mid new =
          rw c.in_default.is at
          (c.in_ok-next_child_in.ensures.found (now.keeps.section.reads.moves.parts.is_visible
          ∙ told))
          in
          subst (λ (n : ℕ). covers_seen c.children.latest.formula
          ≡ covers_in (content n (ahead old))) none
          (covers_whole _ _ _ closes.elements (now.covers told wanted));
      same = now.same;
      unvalued = now.unvalued;
      unlisted = now.unlisted;
    }
