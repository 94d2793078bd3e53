use Rattle.std.proofs.Common.{◌++◌, ◌∙◌, ap, sym, string_bytes, rules}
use Rattle.xlsx_writer.specs.Escaping.{escaped_by}
use Rattle.xlsx_writer.proofs.Escapes.{escaped_plain, goes_on, cut_shorter, ends_with}
use Rattle.xlsx_writer.proofs.texts.push_escaped.Goals as goal

pub runs-smaller : goal.runs-smaller
runs-smaller c =
    cut_shorter c.args.escaping c.runs.rest.now _ _ _ c.in-Some.ensures

pub runs-preserved : goal.runs-preserved
runs-preserved c = (
  search rules,
  goes_on c.args.escaping (string_bytes c.runs.out) (string_bytes c.push_str.new.self)
      (string_bytes c.push_str-in-Some.new.self) c.runs.rest.now c.in-Some.cut.run.now
      c.in-Some.cut.escape.now c.in-Some.cut.behind.now
      (string_bytes c.args.out.now ++ escaped_by c.args.escaping c.args.text.now)
      c.in-Some.ensures c.in_ok-push_str.ensures.bytes c.in_ok-push_str-2.ensures.bytes
      c.runs.invariant.1,
)

pub returns : goal.returns
returns c =
    let rest = c.runs.rest.now in
    ends_with c.push_str-2.result (string_bytes c.runs.out) (string_bytes c.push_str-2.new.self)
    rest (string_bytes c.args.out.now ++ escaped_by c.args.escaping c.args.text.now)
    c.push_str-2.ensures.bytes
    (ap (λ own. string_bytes c.runs.out ++ own)
    (sym (escaped_plain c.args.escaping rest c.in_default.ensures)) ∙ c.runs.invariant.1)
