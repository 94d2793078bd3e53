use Rattle.std.proofs.Common.{◌∙◌, refl}
use Rattle.std.proofs.lemmas.Result.{on_ok_weaker}
use Rattle.xlsx_writer.proofs.parts.push_fills.Goals as goal

pub returns : goal.returns
returns c =
    on_ok_weaker c.push.result
    (λ pushed. pushed ∙ (rw (
      c.start.ensures,
      c.start-2.ensures,
      c.start-3.ensures,
      c.start-4.ensures,
      c.start-5.ensures,
    ) refl))
    c.push.ensures
