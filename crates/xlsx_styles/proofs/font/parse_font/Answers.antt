use Rattle.std.proofs.Common.{◌≡◌, rules}
use Rattle.cell_styles.specs.Words.{default_font}
use Rattle.xlsx_styles.proofs.ElementsTold.{told_inside, refused_inside}
use Rattle.xlsx_styles.proofs.font.parse_font.Goals as goal

pub returns-in_err-keep_in_element : goal.returns-in_err-keep_in_element
returns-in_err-keep_in_element g c =
    let fresh : c.default.result ≡ default_font = search rules in
    record {
      font = refused_inside c.from_residual.result c.from_residual.ensures.1
          c.in_err-keep_in_element.ensures.reads
          (rw fresh at (c.in_err-keep_in_element.ensures.err tt))
          c.in_err-keep_in_element.ensures.kind;
    }

pub returns : goal.returns
returns g c =
    let fresh : c.default.result ≡ default_font = search rules in
    record {
      font = told_inside _ c.in_ok-keep_in_element.ensures.reads
          (λ told. rw fresh at (c.in_ok-keep_in_element.ensures.kept told tt));
    }
