use Rattle.std.proofs.Common.{◌≡◌, ◌++◌, map}
use Rattle.std.specs.Str.{chars, IsUtf8}
use Rattle.format_codes.specs.declared.piece.CodePiece.TheVariants as piece
use Rattle.format_codes.proofs.group.push_literal.Given as goal

abbrev pub invariant-loop-character : goal.invariant-loop-character
invariant-loop-character l = record {
  utf8 : IsUtf8 l.characters.rest.now;
  pieces : l.found.items ++ map piece.Literal (chars l.characters.rest.now)
      ≡ l.fn.found.items ++ map piece.Literal (chars l.fn.text);
}
