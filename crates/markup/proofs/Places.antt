-- Where a text first stands in another.
use Rattle.std.proofs.Common.{◌≡◌, ℕ, suc, ◌+◌, ◌<◌, true, false, List, [], length, drop, Option}
use Rattle.std.proofs.Common.{Some, None, refl, sym, ap, ◌∙◌, arith}
use Rattle.std.specs.Option.{option_map}
use Rattle.std.proofs.lemmas.Bool.{cond-true, cond-false}
use Rattle.std.proofs.lemmas.List.{at_drop_more, drop_more}
use Rattle.markup.specs.Marks.{begins_with, first_place_of}

-- the place of a search that began at another
abbrev pub shifted : ℕ → Option ℕ → Option ℕ
shifted by found = option_map (λ n. n + by) found

pub shifted-suc : (by : ℕ) (found : Option ℕ)
    → shifted by (option_map suc found) ≡ shifted (by + 1) found
shifted-suc by None = refl
shifted-suc by (Some n) = ap Some (omega arith)

pub shifted-zero : (found : Option ℕ) → found ≡ shifted 0 found
shifted-zero None = refl
shifted-zero (Some n) = ap Some (omega arith)

pub suc-shifted : (by : ℕ) (found : Option ℕ)
    → option_map suc (shifted by found) ≡ shifted (suc by) found
suc-shifted by None = refl
suc-shifted by (Some n) = ap Some (omega arith)

pub shifted-shifted : (first second both : ℕ) (found : Option ℕ) → both ≡ first + second
    → shifted first (shifted second found) ≡ shifted both found
shifted-shifted first second both None is = refl
shifted-shifted first second both (Some n) is = ap Some (omega arith)

-- the search at a place where the text stands, where it doesn't, and at the end
pub place_here : (needle bytes : List ℕ) (i : ℕ) → i < length bytes
    → begins_with needle (drop i bytes) ≡ true → shifted i (first_place_of needle (drop i bytes))
    ≡ Some i
unfolding first_place_of
place_here needle bytes i within is =
    ap (shifted i) (at_drop_more (first_place_of needle) bytes i 0 within
    ∙ cond-true _ _ _ (ap (begins_with needle) (sym (drop_more bytes i 0 within)) ∙ is))
    ∙ ap Some (omega arith)

pub place_later : (needle bytes : List ℕ) (i : ℕ) → i < length bytes
    → begins_with needle (drop i bytes) ≡ false
    → shifted i (first_place_of needle (drop i bytes))
    ≡ shifted (i + 1) (first_place_of needle (drop (i + 1) bytes))
unfolding first_place_of
place_later needle bytes i within is =
    ap (shifted i) (at_drop_more (first_place_of needle) bytes i 0 within
    ∙ cond-false _ _ _ (ap (begins_with needle) (sym (drop_more bytes i 0 within)) ∙ is))
    ∙ shifted-suc i (first_place_of needle (drop (i + 1) bytes))

pub place_nowhere : (needle : List ℕ) (i : ℕ) → shifted i (first_place_of needle []) ≡ None
unfolding first_place_of
place_nowhere needle i = refl
