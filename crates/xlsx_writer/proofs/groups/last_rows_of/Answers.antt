use Rattle.std.proofs.Common.{◌≡◌, ◌∙◌, ◌+◌, ◌++◌, ◌∷◌, [], ap, sym, subst, arith, length, set}
use Rattle.std.proofs.Common.{List, ℕ, get_or, length-append}
use Rattle.std.specs.Prelude.{map}
use Rattle.std.proofs.lemmas.List.{length-map}
use Rattle.std.proofs.Math.ListN.{get_or-map}
use Rattle.xlsx_writer.specs.Grouping.{member_entry, member_head}
use Rattle.xlsx_writer.proofs.Heads.{blank_member}
use Rattle.xlsx_writer.proofs.LastRows.{AreLastOf, last_more, last_all}
use Rattle.xlsx_writer.proofs.groups.last_rows_of.Goals as goal

pub loop-member-init : goal.loop-member-init
loop-member-init c = (ap length c.new-rows.ensures.items, λ k before. absurd (omega arith))

pub index_mut-requires : goal.index_mut-requires
index_mut-requires c =
    let members = c.args.members.now in
    let i = c.loop-member.member-index in
    let head_is = get_or-map member_head members i blank_member in
    let up = c.requires.heads.up_to i
    (omega (arith, c.loop-member-test.true, length-map members member_head)) in
    omega (
      arith,
      head_is,
      up,
      c.loop-member.invariant.0,
      ap length c.in_ok-push.ensures.items,
      length-append c.loop-member.rows.items ((get_or members i blank_member).position.0 ∷ []),
    )

pub loop-member-preserved : goal.loop-member-preserved
loop-member-preserved c =
    let members = c.args.members.now in
    let placed = map member_entry members in
    let heads = map member_head members in
    let i = c.loop-member.member-index in
    let member = get_or members i blank_member in
    let rows = c.loop-member.rows.items in
    let entry_is = get_or-map member_entry members i blank_member in
    let head_is = get_or-map member_head members i blank_member in
    let sizes = length-map members member_entry in
    let counts = length-map members member_head in
    let known =
    last_more placed heads c.requires.rising c.requires.heads (counts ∙ sym sizes) i rows
    (omega (arith, sizes, c.loop-member-test.true)) c.loop-member.invariant in
    subst (λ (more : List ℕ). AreLastOf placed (i + 1) more)
    ((λ j. set (rows ++ (entry_is j).0.0 ∷ []) (head_is j) (entry_is j).0.0)
    ∙ ap (λ (more : List ℕ). set more member.head member.position.0)
    (sym c.in_ok-push.ensures.items)) known

pub returns : goal.returns
returns c =
    let members = c.args.members.now in
    let sizes = length-map members member_entry in
    let counts = length-map members member_head in
    let all : c.loop-member.member-index ≡ length (map member_entry members) =
    omega (arith, sizes, c.loop-member-test.false, c.loop-member.auto.member-index-end) in
    record {
      count = omega (arith, sizes, c.loop-member.invariant.0);
      rows = last_all (map member_entry members) (map member_head members) c.requires.rising
          c.requires.heads (counts ∙ sym sizes) c.loop-member.member-index c.loop-member.rows.items
          all c.loop-member.invariant;
    }
