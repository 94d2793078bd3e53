use Rattle.cell_refs.proofs.Parts.{parts-unsplit, parts-split, length-split}
use Rattle.cell_refs.proofs.dimensions.split_part.Goals as goal

pub returns : goal.returns
returns c = record {
  whole = parts-unsplit c.args.text.now c.split_once.result c.split_once.ensures.cases;
  split = parts-split c.args.text.now c.split_once.result c.split_once.ensures.cases;
  shorter = length-split c.args.text.now c.split_once.result c.split_once.ensures.cases;
}
