-- The tokens of texts between Words, and of pieces.
use Rattle.std.proofs.Common.{◌≡◌, ℕ, List, ◌∷◌, ◌++◌, Option, sym, ap, ◌∙◌}
use Rattle.formula_shift.specs.Words.{PieceText, word_kind, pieces, first_byte, piece_reference}
use Rattle.formula_shift.proofs.Cutting.{joined_pieces-pieces}
use Rattle.xlsx_check.specs.Tokens.{Token, tokens_by, tokens_of, refers_or, word_token}

-- the tokens of a piece, and of those behind it
pub piece_first : (all : List PieceText) (piece : PieceText) (text : List ℕ) →
    all ≡ piece ∷ pieces text →
    tokens_of all ≡ tokens_by piece.kind piece (first_byte text) ++ tokens_of (pieces text)
piece_first all piece text is =
    ap tokens_of is
    ∙ ap (λ (t : List ℕ). tokens_by piece.kind piece (first_byte t) ++ tokens_of (pieces text))
    (joined_pieces-pieces text)

-- the token of a Word before others
pub word_tokens : (all : List PieceText) (word text : List ℕ) (behind : Option ℕ) (token : Token) →
    all ≡ record { kind = word_kind; bytes = word } ∷ pieces text → first_byte text ≡ behind →
    token
    ≡ refers_or (piece_reference (record { kind = word_kind; bytes = word }) behind)
    (word_token word behind) → tokens_of all ≡ token ∷ tokens_of (pieces text)
word_tokens all word text behind token is first token_is =
    piece_first all (record { kind = word_kind; bytes = word }) text is
    ∙ (ap (λ (o : Option ℕ). refers_or
    (piece_reference (record { kind = word_kind; bytes = word }) o) (word_token word o)
    ∷ tokens_of (pieces text)) first
    ∙ ap (λ (t : Token). t ∷ tokens_of (pieces text)) (sym token_is))
