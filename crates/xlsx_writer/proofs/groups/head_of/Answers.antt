use Rattle.std.proofs.Common.{arith}
use Rattle.std.proofs.lemmas.List.{length-map}
use Rattle.std.proofs.Math.ListN.{get_or-map}
use Rattle.xlsx_writer.specs.Grouping.{member_head}
use Rattle.xlsx_writer.proofs.Heads.{blank_member}
use Rattle.xlsx_writer.proofs.groups.head_of.Goals as goal

pub moves_from-requires : goal.moves_from-requires
moves_from-requires c =
    let members = c.args.members.now in
    let count = length-map members member_head in
    let inside = c.if-above-members.false in
    let up = c.requires c.args.above (omega (arith, count, inside)) in
    let is = get_or-map member_head members c.args.above blank_member in
    omega (arith, up, is, inside)
