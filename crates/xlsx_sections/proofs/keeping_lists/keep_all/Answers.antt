use Rattle.std.proofs.Common.{◌≡◌, [], map, sym, ◌∙◌, rules}
use Rattle.part_events.specs.Words.{is_named, section_ahead}
use Rattle.xlsx_sections.specs.Keeping.{changed_in, some_in, put_behind}
use Rattle.xlsx_sections.specs.PartSection.{always}
use Rattle.xlsx_sections.proofs.Failing.{given_back}
use Rattle.xlsx_sections.proofs.StartsKept.{put_in, refused_same}
use Rattle.xlsx_sections.proofs.keeping_lists.keep_all.Goals as goal

pub returns-clause-kept : goal.returns-clause-kept
returns-clause-kept g c = λ told.
    let old = c.args.xml.now in
    let wanted = is_named (map (λ name. name.now) c.args.names.now) in
    let kept = map g.R.Reads.said c.new-items.result.items in
    sym (put_in wanted (g.R.Reads.meaning c.args.by) kept (section_ahead c.args.base old)
    (search rules))
    ∙ c.in_ok-keep_starts.ensures.kept told tt

pub returns-in_err-keep_starts-clause-err : goal.returns-in_err-keep_starts-clause-err
returns-in_err-keep_starts-clause-err g c =
    let old = c.args.xml.now in
    let new = c.keep_starts.new.xml in
    let wanted = is_named (map (λ name. name.now) c.args.names.now) in
    let meaning = g.R.Reads.meaning c.args.by in
    let kept = map g.R.Reads.said c.new-items.result.items in
    let fresh : kept ≡ [] = search rules in
    given_back _ c.from_residual.result c.from_residual.ensures.1
    (refused_same (changed_in wanted (put_behind meaning) kept) (some_in wanted meaning) c.args.base
    old (always c.args.section.now) new c.in_err-keep_starts.field-0.0
    (λ events refusal is. sym (put_in wanted meaning kept events fresh) ∙ is)
    (c.in_err-keep_starts.ensures.err tt))
