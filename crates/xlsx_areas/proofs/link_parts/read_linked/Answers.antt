use Rattle.xlsx_areas.specs.Hyperlinks.{links_found, part_links_look, targets_look}
use Rattle.xlsx_areas.proofs.LinksRead.{next_answered, sheet_links}
use Rattle.xlsx_areas.proofs.link_parts.read_linked.Goals as goal

pub returns : goal.returns
returns g c =
    let path = c.args.path.now in
    record {
      answers =
          next_answered (targets_look path) (part_links_look path) links_found c.read_links.result
          sheet_links c.in_ok-targets.ensures.answers c.read_links.ensures.answers;
    }
