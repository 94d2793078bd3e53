-- The parts of a text between its colons, and what they add up to.
use Rattle.std.proofs.Common.{◌≡◌, ◌≢◌, ℕ, ◌+◌, ◌<◌, List, [], ◌∷◌, ◌++◌, length, get_or, false}
use Rattle.std.proofs.Common.{refl, ap, ◌∙◌, arith, Bor, length-append}
use Rattle.std.specs.Prelude.{◌==◌, Option, None, Some, Result, Ok, Err, IfSome, IfNone, All}
use Rattle.std.proofs.lemmas.Bool.Decides.{nat_tests}
use Rattle.std.proofs.lemmas.List.Elements.{All-from_get_or}
use Rattle.std.proofs.lemmas.List.Splits.{slice_split_none, slice_split_at}
use Rattle.std.proofs.lemmas.Str.Pattern.{IsSplitOnceResult, split_parts}
use Rattle.cell_refs.specs.declared.error.RefError.{RefError}
use Rattle.cell_refs.specs.A1.{parts}

no_colons : (text : List ℕ) → ((i : ℕ) → i < length text → get_or text i 0 ≢ 58) →
    All (λ b. (b == 58) ≡ false) text
no_colons text none =
    All-from_get_or (λ b. (b == 58) ≡ false) text 0 (λ i in_text. let differs = none i in_text in
    grind (arith, nat_tests))

-- a text without a colon is one part
pub parts_one : (text : List ℕ) → ((i : ℕ) → i < length text → get_or text i 0 ≢ 58) →
    parts text ≡ text ∷ []
parts_one text none = slice_split_none (λ b. b == 58) text (no_colons text none)

-- a part ends at the first colon
pub parts_more : (text part after : List ℕ) → text ≡ part ++ 58 ∷ after →
    ((i : ℕ) → i < length part → get_or part i 0 ≢ 58) → parts text ≡ part ∷ parts after
parts_more text part after split none = ap parts split
    ∙ slice_split_at (λ b. b == 58) part 58 after (no_colons part none) refl

-- where `split_once` finds no colon, the text is one part
pub parts-unsplit : (text : List ℕ) (r : Option (Bor (List ℕ) × Bor (List ℕ))) →
    IsSplitOnceResult 58 text r → IfNone r (parts text ≡ text ∷ [])
parts-unsplit text None found = parts_one text (split_parts 58 text None found (omega arith))
parts-unsplit text (Some x) found = tt

-- and where it finds one, the first part ends there
pub parts-split : (text : List ℕ) (r : Option (Bor (List ℕ) × Bor (List ℕ))) →
    IsSplitOnceResult 58 text r → IfSome r (λ x. parts text ≡ x.0.now ∷ parts x.1.now)
parts-split text None found = tt
parts-split text (Some x) found =
    let split = split_parts 58 text (Some x) found (omega arith) in
    parts_more text x.0.now x.1.now split.0 split.1

pub length-split : (text : List ℕ) (r : Option (Bor (List ℕ) × Bor (List ℕ))) →
    IsSplitOnceResult 58 text r → IfSome r (λ x. length x.1.now < length text)
length-split text None found = tt
length-split text (Some x) found =
    let split = split_parts 58 text (Some x) found (omega arith) in
    omega (arith, ap length split.0, length-append x.0.now (58 ∷ x.1.now))

-- a count of corners behind others
abbrev pub counted_behind : ℕ → Result ℕ RefError → Result ℕ RefError
counted_behind before (Err e) = Err e
counted_behind before (Ok count) = Ok (before + count)
