use Rattle.std.proofs.Common.{rules, ◌≡◌, ◌∷◌, [], ◌++◌, List, ◌∙◌, sym, ap}
use Rattle.formula_shift.specs.Words.{pieces_left, piece_text, first_byte}
use Rattle.formula_shift.specs.declared.piece.Piece.TheVariants.{Word}
use Rattle.xlsx_check.specs.Tokens.{Token, symbol_tokens, tokens_of}
use Rattle.xlsx_check.specs.TokenView.{token_of}
use Rattle.xlsx_check.proofs.Symbols.{word_tokens}
use Rattle.xlsx_check.proofs.tokens.Tokens.next_unsigned.Goals as goal

pub returns-in-Word-clause-some : goal.returns-in-Word-clause-some
returns-in-Word-clause-some c =
    let rest = c.next.new.self.rest.now in
    let none : symbol_tokens c.pieces.self.symbols.now ≡ [] = search rules in
    let next : pieces_left c.pieces.self.pieces
    ≡ piece_text (Word c.in-Word.word) ∷ pieces_left c.next.new.self =
    search rules in
    let first : first_byte rest ≡ c.first_byte.result = search rules in
    sym c.pieces.invariant.left
    ∙ (ap (λ (ts : List Token). ts ++ tokens_of (pieces_left c.pieces.self.pieces)) none
    ∙ word_tokens (pieces_left c.pieces.self.pieces) c.in-Word.word.now rest c.first_byte.result
    (token_of c.word_token.result) next first c.word_token.ensures)
