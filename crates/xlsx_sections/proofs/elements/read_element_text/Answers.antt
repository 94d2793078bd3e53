use Rattle.std.proofs.Common.{[], refl, sym, ◌∙◌, append-nil}
use Rattle.std.proofs.lemmas.Result.{err_from_is_err_and}
use Rattle.part_events.proofs.Onward.{whole_at_end}
use Rattle.part_events.specs.Words.{ahead, content}
use Rattle.xlsx_sections.proofs.ElementsRead.{own_end, skips_element}
use Rattle.xlsx_sections.proofs.TextsRead.{text_refused}
use Rattle.xlsx_sections.proofs.elements.read_element_text.Goals as goal

pub returns-in_err-read_text-clause-err : goal.returns-in_err-read_text-clause-err
returns-in_err-read_text-clause-err g c =
    let old = c.args.xml.now in
    let new = c.read_text.new.self in
    let p = err_from_is_err_and c.from_residual.result c.from_residual.ensures.1 in
    rw (p.1, p.2)
    (text_refused c.args.name.now c.args.char_data old new c.in_err-read_text.field-0.0
    c.in_err-read_text.ensures.err)

pub returns-then-not-branch-clause-err : goal.returns-then-not-branch-clause-err
returns-then-not-branch-clause-err g c = λ told.
    let old = c.args.xml.now in
    let text = c.in_ok-read_text.ensures.text told in
    let open_still = c.if-not-branch.true in (
      (
        whole_at_end c.in_ok-read_text.ensures.reads (text.at_end open_still) told,
        own_end old ∙ text.closed ∙ open_still,
      ),
      refl,
    )

pub returns-then-not-branch-clause-front : goal.returns-then-not-branch-clause-front
returns-then-not-branch-clause-front g c = λ told.
    let old = c.args.xml.now in
    record {
      front = content 0 (ahead old);
      more = [];
      parts = sym (append-nil (content 0 (ahead old)));
      text = (c.in_ok-read_text.ensures.text told).text;
    }

pub returns-clause-reads : goal.returns-clause-reads
returns-clause-reads g c = record {
  reads = c.in_ok-read_text.ensures.reads;
  depth = c.in_ok-read_text.ensures.depth c.if-not-branch.false;
  skips = λ told.
      let text = c.in_ok-read_text.ensures.text told in
      skips_element c.requires.element.reading c.in_ok-read_text.ensures.reads told
      (text.closed ∙ c.if-not-branch.false) text.ahead;
}
