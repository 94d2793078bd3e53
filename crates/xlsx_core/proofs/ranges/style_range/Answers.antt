use Rattle.xlsx_core.proofs.StylesMade.{styles_whole}
use Rattle.xlsx_core.proofs.ranges.style_range.Goals as goal

pub returns : goal.returns
returns c = λ all kept.
    styles_whole c.args.palette.items c.args.ids.items all c.from_style_ids.result
    c.from_style_ids.ensures kept
