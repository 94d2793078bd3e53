use Rattle.std.proofs.Common.{sym, ◌∙◌, subst, ap, ◌++◌, map}
use Rattle.std.specs.Str.{chars, IsUtf8}
use Rattle.std.proofs.lemmas.Str.{IsUtf8-past_char}
use Rattle.format_codes.specs.declared.piece.CodePiece.TheVariants as piece
use Rattle.format_codes.proofs.Literals.{character_taken, none_left, literals_of_some}
use Rattle.format_codes.proofs.group.push_literal.Goals as goal

pub loop-character-init : goal.loop-character-init
loop-character-init c = record {
  utf8 = subst IsUtf8 (sym c.chars-characters.ensures.rest) c.utf8.text;
  pieces =
      ap (λ text. c.args.found.now.items ++ map piece.Literal (chars text))
      c.chars-characters.ensures.rest;
}

pub loop-character-preserved : goal.loop-character-preserved
loop-character-preserved c =
    let kept = c.loop-character.invariant in
    let begins = c.in-Some.ensures.steps.0 in
    record {
      utf8 = IsUtf8-past_char _ _ _ kept.utf8 begins;
      pieces =
          character_taken _ _ _ _ _ kept.utf8 begins c.in_ok-push-2.ensures.items
          ∙ kept.pieces;
    }

pub returns : goal.returns
returns c =
    none_left _ _ c.loop-character.characters.rest.now c.in_default.ensures.steps.0.0
    c.loop-character.invariant.pieces
    ∙ literals_of_some _ _ (sym c.is_empty.ensures ∙ c.if-is_empty.false)
