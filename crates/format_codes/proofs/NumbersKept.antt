-- Sections of numbers that are kept, or one that isn't supported.
use Rattle.std.proofs.Common.{◌≡◌, ◌<◌, ◌&&◌, ℕ, zero, suc, Bool, true, false, List, [], ◌∷◌}
use Rattle.std.proofs.Common.{length, map, get_or, refl, sym, ap, ◌∙◌, arith, rules, Option, Some}
use Rattle.std.proofs.Common.{None}
use Rattle.std.specs.Prelude.{is_some}
use Rattle.std.specs.Global.{Vec}
use Rattle.std.specs.List.{list_all}
use Rattle.format_codes.specs.declared.kind.SectionKind.{SectionKind}
use Rattle.format_codes.specs.declared.piece.CodePiece.{CodePiece}
use Rattle.format_codes.specs.Kinds.{section_kind}
use Rattle.format_codes.specs.ShownFormats.{kept_of_kind, kept_section}

-- nothing is kept of a section without a kind alone
no_kind : (found : Option SectionKind) (section : List CodePiece) →
    None ≡ kept_of_kind found section → is_some found ≡ false
no_kind None section none = refl
no_kind (Some kind) section none = absurd (search rules)

-- a test that fails of a part fails of all
either_fails : (test : Bool) → (test && false) ≡ false
either_fails true = refl
either_fails false = refl

-- one section without a kind
pub one_fails : (sections : List (Vec CodePiece)) (i : ℕ) (section : Vec CodePiece) →
    i < length sections → section ≡ get_or sections i section →
    None ≡ kept_section section.items →
    list_all (λ s. is_some (section_kind s)) (map (λ s. s.items) sections) ≡ false
one_fails [] i section within at none = absurd (omega (arith, within))
one_fails (first ∷ others) zero section within at none =
    let fails : is_some (section_kind first.items) ≡ false =
    ap (λ s. is_some (section_kind s.items)) (sym at)
    ∙ no_kind (section_kind section.items) section.items none in
    ap (λ b. b && list_all (λ s. is_some (section_kind s)) (map (λ s. s.items) others)) fails
one_fails (first ∷ others) (suc i) section within at none =
    ap (λ b. is_some (section_kind first.items) && b)
    (one_fails others i section (omega (arith, within)) at none)
    ∙ either_fails (is_some (section_kind first.items))
