use Rattle.std.proofs.Common.{take, sym, ap, ◌∙◌, subst, arith}
use Rattle.std.specs.Char.{is_ascii_alphabetic}
use Rattle.std.specs.List.{AllPass}
use Rattle.std.proofs.lemmas.List.Sums.{prefix_len-le-length}
use Rattle.formula_shift.proofs.Numbers.{all_letters}
use Rattle.formula_shift.proofs.corner.cut_letters.Goals as goal

pub split_at-requires : goal.split_at-requires
split_at-requires c =
    omega (arith, c.letter_count.ensures, prefix_len-le-length is_ascii_alphabetic c.args.text.now)

pub returns-clause-all : goal.returns-clause-all
returns-clause-all c =
    subst (AllPass is_ascii_alphabetic)
    (sym (c.split_at.ensures.front ∙ ap (λ n. take n c.args.text.now) c.letter_count.ensures))
    (all_letters c.args.text.now)
