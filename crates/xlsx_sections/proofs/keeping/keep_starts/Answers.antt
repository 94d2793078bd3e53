use Rattle.std.proofs.Common.{map, refl, ◌∙◌}
use Rattle.part_events.specs.Words.{is_named}
use Rattle.xlsx_sections.specs.Elements.{IsInsideRefused}
use Rattle.xlsx_sections.specs.Keeping.{changed_in}
use Rattle.xlsx_sections.specs.PartSection.{always}
use Rattle.xlsx_sections.proofs.Failing.{given_back}
use Rattle.xlsx_sections.proofs.StartsRead.{starts_none}
use Rattle.xlsx_sections.proofs.StartsSaid.{at_start, changed_further, changed_refused}
use Rattle.xlsx_sections.proofs.StartsSaid.{section_stopped}
use Rattle.xlsx_sections.proofs.keeping.keep_starts.Goals as goal

pub starts-init : goal.starts-init
starts-init g c =
    let old = c.args.xml.now in
    let keeps = starts_none c.args.base old c.requires.reading c.requires.within in
    record { keeps = keeps; same = refl; said = λ i. record { keeps = keeps; same = λ told. refl } }

pub starts-preserved : goal.starts-preserved
starts-preserved g c =
    let old = c.args.xml.now in
    let k = g.K.Keeps in
    let found = at_start _ c.start_tag.ensures
    (rw c.in-Some.is at (c.in_ok-at.ensures.step old c.starts.invariant.keeps)) in
    record {
      keeps = found.keeps;
      same = c.in_ok-take.ensures.same ∙ c.starts.invariant.same;
      said = λ i. changed_further (k.change c.args.keeper.now i) (c.starts.invariant.said i) found
          (λ behind. rw c.starts.invariant.same at (c.in_ok-take.ensures.ok i behind));
    }

pub returns-in_err-at-clause-err : goal.returns-in_err-at-clause-err
returns-in_err-at-clause-err g c =
    let old = c.args.xml.now in
    let wanted = is_named (map (λ name. name.now) c.args.names.now) in
    let k = g.K.Keeps in
    given_back _ c.from_residual.result c.from_residual.ensures.1
    (λ i. section_stopped c.args.base old (always c.args.section.now)
    (IsInsideRefused (changed_in wanted (k.change c.args.keeper.now i)
    (k.held c.args.keeper.now i)))
    c.next_start_among.new.xml.source c.in_err-at.field-0.0
    (c.in_err-at.ensures.refused old c.starts.invariant.keeps))

pub returns-in_err-take-clause-err : goal.returns-in_err-take-clause-err
returns-in_err-take-clause-err g c =
    let old = c.args.xml.now in
    let k = g.K.Keeps in
    let found = at_start _ c.start_tag.ensures
    (rw c.in-Some.is at (c.in_ok-at.ensures.step old c.starts.invariant.keeps)) in
    given_back _ c.from_residual-in_err-take.result c.from_residual-in_err-take.ensures.1
    (λ i. changed_refused (always c.args.section.now) (k.change c.args.keeper.now i)
    c.next_start_among.new.xml.source c.in_err-take.field-0.0
    (c.starts.invariant.said i) found
    (λ behind. rw c.starts.invariant.same at (c.in_err-take.ensures.err i behind)))
