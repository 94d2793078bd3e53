-- Codes with `;` between them.
use Rattle.std.proofs.Common.{◌≡◌, ◌∙◌, ◌++◌, ◌||◌, ◌<◌, ℕ, zero, suc, Bool, true, false, cond}
use Rattle.std.proofs.Common.{List, [], ◌∷◌, codes, length, refl, sym, ap, append_assoc, arith}
use Rattle.std.specs.List.{slice_split, onto_first}
use Rattle.std.proofs.lemmas.List.Splits.{length-slice_split}
use Rattle.format_codes.specs.declared.piece.CodePiece.{CodePiece}
use Rattle.format_codes.specs.declared.piece.CodePiece.TheVariants as piece
use Rattle.format_codes.specs.Words.{is_divider, code_pieces_behind, pieces_in_front}
use Rattle.format_codes.specs.Sections.{code_pieces, sections}
use Rattle.shown_text_laws.specs.JoinedCodes.{stays_open, leaves_open, leaves_open_behind}
use Rattle.shown_text_laws.proofs.FrontKept.{front_kept}

neither : (a b : Bool) → (a || b) ≡ false → (a ≡ false) × (b ≡ false)
neither true b none = absurd (cc)
neither false b none = (refl, none)

-- the pieces of a text that leaves nothing open, with `;` and more behind it
behind_kept : (skip : ℕ) (first second : List ℕ) → leaves_open_behind skip first ≡ false
    → code_pieces_behind skip (first ++ 59 ∷ second)
    ≡ code_pieces_behind skip first ++ piece.Divider ∷ code_pieces_behind 0 second
behind_kept zero [] second closed = refl
behind_kept (suc skip) [] second closed = absurd (cc)
behind_kept (suc skip) (b ∷ bs) second closed = behind_kept skip bs second closed
behind_kept zero (b ∷ bs) second closed =
    let each =
    neither (stays_open b bs) (leaves_open_behind (pieces_in_front b bs).size bs) closed in
    let front = pieces_in_front b bs in
    ap (λ f. f.pieces ++ code_pieces_behind f.size (bs ++ 59 ∷ second))
    (front_kept b bs second each.0)
    ∙ (ap (λ found. front.pieces ++ found) (behind_kept front.size bs second each.1)
    ∙ sym (append_assoc front.pieces (code_pieces_behind front.size bs)
    (piece.Divider ∷ code_pieces_behind 0 second)))

onto_joined : (first : CodePiece) (parts others : List (List CodePiece)) → 0 < length parts
    → onto_first first (parts ++ others) ≡ onto_first first parts ++ others
onto_joined first [] others some = absurd (omega arith)
onto_joined first (part ∷ parts) others some = refl

chosen_joined : (divides : Bool) (first : CodePiece) (parts others : List (List CodePiece))
    → 0 < length parts
    → cond divides ([] ∷ (parts ++ others)) (onto_first first (parts ++ others))
    ≡ cond divides ([] ∷ parts) (onto_first first parts) ++ others
chosen_joined true first parts others some = refl
chosen_joined false first parts others some = onto_joined first parts others some

-- the sections of pieces with `;` between them
split_joined : (first second : List CodePiece)
    → slice_split is_divider (first ++ piece.Divider ∷ second)
    ≡ slice_split is_divider first ++ slice_split is_divider second
split_joined [] second = refl
split_joined (p ∷ ps) second =
    let some : 0 < length (slice_split is_divider ps) =
    omega (arith, length-slice_split is_divider ps) in
    ap (λ parts. cond (is_divider p) ([] ∷ parts) (onto_first p parts)) (split_joined ps second)
    ∙ chosen_joined (is_divider p) p (slice_split is_divider ps) (slice_split is_divider second)
    some

pub joined : (first second : List ℕ) → leaves_open first ≡ false
    → sections (first ++ codes ";" ++ second) ≡ sections first ++ sections second
unfolding sections code_pieces
joined first second closed =
    ap (λ code. slice_split is_divider (code_pieces_behind 0 code)) (append_assoc first (59
    ∷ []) second)
    ∙ ap (slice_split is_divider) (behind_kept 0 first second closed)
    ∙ split_joined (code_pieces first) (code_pieces second)
