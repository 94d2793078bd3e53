use Rattle.xlsx_styles.proofs.ElementsTold.{told_inside, refused_inside}
use Rattle.xlsx_formats.proofs.settings.read_settings.Goals as goal

pub returns-in_err-keep_in_element :
    goal.returns-in_err-keep_in_element
returns-in_err-keep_in_element g c =
    refused_inside c.from_residual.result c.from_residual.ensures.1
    c.in_err-keep_in_element.ensures.reads (c.in_err-keep_in_element.ensures.err tt)
    c.in_err-keep_in_element.ensures.kind

pub returns : goal.returns
returns g c =
    told_inside _ c.in_ok-keep_in_element.ensures.reads
    (λ told. c.in_ok-keep_in_element.ensures.kept told tt)
