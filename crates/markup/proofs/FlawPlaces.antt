-- Where the flaw of a text stands.
use Rattle.std.proofs.Common.{◌≡◌, ℕ, zero, suc, ◌+◌, ◌-◌, ◌<◌, ◌≤◌, List, [], ◌∷◌, length, drop}
use Rattle.std.proofs.Common.{Some, None, true, false, refl, sym, ap, ◌∙◌, arith}
use Rattle.std.specs.Option.{option_map}
use Rattle.std.proofs.lemmas.List.{drop-drop, drop_all, length-drop}
use Rattle.markup.specs.Front.{front_in_markup}
use Rattle.markup.specs.Marks.{byte_at}
use Rattle.markup.specs.Markup.{flaw_from, flaw_behind}
use Rattle.markup.specs.Found.{seen, Stands}
use Rattle.markup.specs.Cutting.{held_at, place_behind, to_come, flaw_left}
use Rattle.markup.specs.declared.cutter.Held.{Held}
use Rattle.markup.specs.declared.cutter.Held.TheVariants as held
use Rattle.markup.specs.declared.found.Found.{Found}
use Rattle.markup.specs.declared.found.Found.TheVariants.{Flaw, Start, Empty, End, Text, CharData}
use Rattle.markup.specs.declared.found.Found.TheVariants.{EntityRef, Other}
use Rattle.markup.proofs.Places.{shifted, shifted-suc, shifted-zero, suc-shifted, shifted-shifted}

-- the flaw behind some bytes is that of the rest
flaw_shifted : (bytes : List ℕ) (n : ℕ)
    → flaw_behind bytes n ≡ shifted n (flaw_behind (drop n bytes) 0)
unfolding flaw_behind
flaw_shifted [] zero = refl
flaw_shifted [] (suc n) = refl
flaw_shifted (b ∷ bytes) zero = shifted-zero (flaw_behind (b ∷ bytes) 0)
flaw_shifted (b ∷ bytes) (suc n) =
    ap (option_map suc) (flaw_shifted bytes n)
    ∙ suc-shifted n (flaw_behind (drop n bytes) 0)

-- at its end a text has no flaw any more
pub flaw_none : (bytes : List ℕ) (at : ℕ) → length bytes ≤ at → flaw_behind bytes at ≡ None
unfolding flaw_behind
flaw_none bytes at past =
    flaw_shifted bytes at
    ∙ ap (λ (rest : List ℕ). shifted at (flaw_behind rest 0)) (drop_all at bytes past)

-- behind a piece of so many bytes
flaw_over : (bytes : List ℕ) (at size : ℕ) → 0 < size
    → shifted at (option_map suc (flaw_behind (drop 1 (drop at bytes)) (size - 1)))
    ≡ flaw_behind bytes (at + size)
flaw_over bytes at size some =
    let rest : List ℕ = drop 1 (drop at bytes) in
    let behind : drop (size - 1) rest ≡ drop (at + size) bytes =
    drop-drop (size - 1) 1 (drop at bytes) ∙ drop-drop (1 + (size - 1)) at bytes
    ∙ ap (λ n. drop n bytes) (omega arith) in
    shifted-suc at (flaw_behind rest (size - 1))
    ∙ ap (shifted (at + 1)) (flaw_shifted rest (size - 1))
    ∙ shifted-shifted (at + 1) (size - 1) (at + size) (flaw_behind (drop (size - 1) rest) 0)
    (omega arith)
    ∙ ap (λ (own : List ℕ). shifted (at + size) (flaw_behind own 0)) behind
    ∙ sym (flaw_shifted bytes (at + size))

flaw_by_front : (rest : List ℕ) (found : Found) → 0 < length rest
    → seen rest found ≡ front_in_markup (byte_at rest 0) (drop 1 rest)
    → flaw_behind rest 0 ≡ flaw_from (flaw_behind (drop 1 rest)) (seen rest found)
unfolding flaw_behind
flaw_by_front [] found some front = absurd (omega arith)
flaw_by_front (b ∷ bytes) found some front = ap (flaw_from (flaw_behind bytes)) (sym front)

flaw_by_found : (bytes : List ℕ) (at : ℕ) (found : Found) → Stands (drop at bytes) found
    → shifted at (flaw_from (flaw_behind (drop 1 (drop at bytes))) (seen (drop at bytes) found))
    ≡ flaw_left bytes (place_behind at (length bytes) found) (held_at at found)
flaw_by_found bytes at Flaw stands = ap Some (omega arith)
flaw_by_found bytes at (Start name attributes) stands =
    flaw_over bytes at (name + attributes + 2) (omega arith)
flaw_by_found bytes at (Empty name attributes) stands =
    flaw_over bytes at (name + attributes + 3) (omega arith)
flaw_by_found bytes at (End name size) stands = flaw_over bytes at size (omega (arith, stands.3))
flaw_by_found bytes at (Text content) stands =
    flaw_over bytes at content (omega (arith, stands.1))
flaw_by_found bytes at (CharData content) stands =
    flaw_over bytes at (content + 12) (omega arith)
flaw_by_found bytes at (EntityRef name) stands = flaw_over bytes at (name + 2) (omega arith)
flaw_by_found bytes at (Other size) stands = flaw_over bytes at size (omega (arith, stands.1))

-- a step over what was found
pub flaw_passed : (bytes : List ℕ) (at : ℕ) (found : Found) → at < length bytes
    → seen (drop at bytes) found ≡ front_in_markup (byte_at (drop at bytes) 0)
    (drop 1 (drop at bytes))
    → Stands (drop at bytes) found → flaw_behind bytes at
    ≡ flaw_left bytes (place_behind at (length bytes) found) (held_at at found)
flaw_passed bytes at found within front stands =
    flaw_shifted bytes at
    ∙ ap (shifted at)
    (flaw_by_front (drop at bytes) found (omega (arith, length-drop at bytes)) front)
    ∙ flaw_by_found bytes at found stands

-- the end of an element with nothing in it is no flaw
pub end_no_flaw : (bytes : List ℕ) (at : ℕ) (old next : Held) → to_come old ≡ Some next
    → flaw_behind bytes at ≡ flaw_left bytes at next
end_no_flaw bytes at held.Nothing next is = absurd cc
end_no_flaw bytes at (held.Start begin name attributes true) next is =
    let same : held.End begin name ≡ next = cc in ap (flaw_left bytes at) same
end_no_flaw bytes at (held.Start begin name attributes false) next is = absurd cc
end_no_flaw bytes at (held.End begin name) next is = absurd cc
end_no_flaw bytes at (held.Text begin last) next is = absurd cc
end_no_flaw bytes at (held.CharData begin last) next is = absurd cc
end_no_flaw bytes at (held.EntityRef begin name) next is = absurd cc
end_no_flaw bytes at held.Other next is = absurd cc
end_no_flaw bytes at (held.Flaw place) next is = absurd cc
