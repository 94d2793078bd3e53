use Rattle.std.proofs.Common.{rules, arith, ◌≡◌, ◌∙◌, ◌-ℤ◌, pos, negsuc}
use Rattle.std.proofs.lemmas.Int.{ints}
use Rattle.excel_dates.proofs.SerialSteps.{not_less}
use Rattle.shown_text.proofs.SizeSteps.{past_nine}
use Rattle.shown_text.proofs.general.has_nine_places.Goals.{then-size-ltminus9, else-size-ltminus9}
use Rattle.shown_text.proofs.general.has_nine_places.Goals as goal

pub returns-else-behind-lt39 : goal.returns-else-behind-lt39
returns-else-behind-lt39 c = elim c.if-size-ltminus9.branch [
  | then-size-ltminus9 w ↦
      let behind : (negsuc 8 -ℤ c.args.size.power) ≡ pos c.if-size-ltminus9.behind =
      omega (arith, ints) in
      not_less c.if-size-ltminus9.behind 39 c.if-behind-lt39.false
      ∙ past_nine c.args.size.number c.args.size.power c.if-size-ltminus9.behind c.requires
      (search rules) c.if-behind-lt39.false behind
  | else-size-ltminus9 w ↦ absurd (omega (arith, w.behind-is, c.if-behind-lt39.false))
]
