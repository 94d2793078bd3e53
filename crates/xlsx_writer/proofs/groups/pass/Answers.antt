use Rattle.std.proofs.Common.{◌≡◌, ◌∙◌, ℕ, inl, inr, arith, true, ap, subst, sym}
use Rattle.std.specs.Prelude.{map}
use Rattle.std.specs.Ordering.{is_lt}
use Rattle.std.proofs.lemmas.Bool.{cases_lt}
use Rattle.std.proofs.Math.ListN.{get_or-map}
use Rattle.cell_refs.specs.Words.{position_cmp}
use Rattle.xlsx_writer.specs.Grouping.{formula_at_place, member_entry, row_below}
use Rattle.xlsx_writer.proofs.Heads.{blank_member}
use Rattle.xlsx_writer.proofs.groups.pass.Goals as goal

pub members-preserved : goal.members-preserved
members-preserved c =
    let entries = map member_entry c.args.members.now in
    let Passed : ℕ → Type 0 =
    λ place. is_lt (position_cmp (row_below (formula_at_place entries place).0) c.args.position)
    ≡ true in
    let own : Passed c.members.next =
    ap (λ entry. is_lt (position_cmp (row_below entry.0) c.args.position))
    (get_or-map member_entry c.args.members.now c.members.next blank_member)
    ∙ sym c.is_passed.ensures ∙ c.if-is_passed.true in (
      omega arith,
      omega arith,
      λ place from before. elim (cases_lt place c.members.next) [
        | inl earlier ↦ c.members.invariant.2 place from earlier
        | inr last ↦
            let same : place ≡ c.members.next = omega arith in subst Passed (sym same) own
      ],
    )
