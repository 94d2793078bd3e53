use Rattle.xlsx_commands.proofs.LinksInside.{links_lie_inside}
use Rattle.xlsx_commands.proofs.link_lines.link_lines.Goals as goal

pub lines_of_links-requires : goal.lines_of_links-requires
lines_of_links-requires c =
    let has = c.in_ok-links.ensures.ok in
    rw c.deref.ensures.value
    (links_lie_inside c.args.name.now has.0 c.args.package.parts c.in_ok-links.links.items has.2)
