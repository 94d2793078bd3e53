-- Where a target leads.
use Rattle.std.proofs.Common.{◌≡◌, ℕ, ◌-◌, ◌+◌, ◌<◌, List, true, false, Option, Some, None}
use Rattle.std.proofs.Common.{MatchOption, Bor, refl, length, take, drop, codes, ap, sym, arith}
use Rattle.std.proofs.Common.{length-drop, [], subst, ◌∙◌, Result, Err}
use Rattle.std.specs.Option.{option_copied}
use Rattle.std.specs.List.{starts_with}
use Rattle.std.specs.Str.{IsCharBoundary}
use Rattle.std.specs.Str.Pattern.{FindsTextPrefix}
use Rattle.std.specs.Prelude.{nat_eq}
use Rattle.std.proofs.lemmas.Str.Pattern.{starts_text}
use Rattle.xlsx_error.specs.declared.error.XlsxError.{XlsxError}
use Rattle.xlsx_sections.specs.Words.{Refusal, ElementFails}
use Rattle.xlsx_sections.proofs.Refused.{refused_at_weaker}
use Rattle.xlsx_relationships.specs.Paths.{last_piece}
use Rattle.xlsx_relationships.specs.RelatedParts.{before_slash, behind_dots, led_to}

-- a path without a slash, and one whose last slash stands at k
pub before_slash-none : (path : List ℕ) → path ≡ last_piece path → [] ≡ before_slash path
before_slash-none path same =
    let none : length path - length (last_piece path) - 1 ≡ 0 = omega (arith, ap length same) in
    ap (λ n. take n path) (sym none)

pub before_slash-last : (path : List ℕ) (k : ℕ) → k < length path → drop (k + 1) path
    ≡ last_piece path → take k path ≡ before_slash path
before_slash-last path k within same =
    let size : length path - length (last_piece path) - 1 ≡ k =
    omega (arith, ap length same, length-drop (k + 1) path) in
    ap (λ n. take n path) (sym size)

-- what `strip_prefix` says of `../`
pub behind_dots_is : (target : List ℕ) (r : Option (Bor (List ℕ)))
    → MatchOption r (FindsTextPrefix (codes "../") target None)
    (λ x. (n : ℕ) × FindsTextPrefix (codes "../") target (Some n) × (x.now ≡ drop n target)
    × (length x.now + n ≡ length target)) → option_copied r ≡ behind_dots target
behind_dots_is target None is =
    let other : starts_with nat_eq target (codes "../") ≡ false =
    sym (starts_text false (codes "../") target is) in
    rw other refl
behind_dots_is target (Some x) is =
    let here : IsCharBoundary target is.0 =
    subst (IsCharBoundary target) (sym is.1.0) is.1.2 in
    let there : starts_with nat_eq target (codes "../") ≡ true =
    sym (starts_text true (codes "../") target (is.0, is.1, here)) in
    rw there (ap (λ own. Some own) (is.2 ∙ ap (λ n. drop n target) is.1.0))

-- a relationship whose target isn't decoded leads nowhere
pub lead_fails : (path : List ℕ) (at behind : ℕ) (target : Result (Option (List ℕ)) Refusal)
    (error : XlsxError) → ElementFails target at behind error
    → ElementFails (led_to path target) at behind error
lead_fails path at behind target error fails =
    refused_at_weaker at behind (λ (refusal : Refusal). led_to path target ≡ Err refusal)
    (λ (refusal : Refusal). target ≡ Err refusal) error (λ refusal is. ap (led_to path) is) fails
