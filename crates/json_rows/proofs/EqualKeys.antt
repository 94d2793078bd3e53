-- Keys that are looked at one behind the other, and members that none is left of.
use Rattle.std.proofs.Common.{◌≡◌, ◌∙◌, ℕ, ◌+◌, ◌<◌, ◌||◌, Bool, true, false, cond, List, [], ◌∷◌}
use Rattle.std.proofs.Common.{length, drop, get_or, map, refl, sym, ap, String, Global}
use Rattle.std.proofs.Common.{string_bytes, Some, Bor}
use Rattle.std.specs.Prelude.{not, if◌then◌else◌}
use Rattle.std.specs.BTreeMap.{is_at}
use Rattle.std.specs.Cmp.Lexicographic.{slice_cmp}
use Rattle.std.specs.Ordering.{nat_cmp}
use Rattle.std.specs.Str.{bytes_eq}
use Rattle.std.proofs.lemmas.List.{drop_more}
use Rattle.std.proofs.lemmas.Map.Text.{is_eq-slice_cmp}
use Rattle.json.specs.Json.{no_members}
use Rattle.json_rows.specs.RowObjects.{is_among, double_behind, row_members}
use Rattle.csv_rows.specs.declared.options.CsvOptions.{CsvOptions}

either : (one other : Bool) → cond one true other ≡ (one || other)
either true other = refl
either false other = refl

-- a key that is put to those that are seen
pub seen_more : (key other : Bor (List ℕ)) (before : List (List ℕ)) (seen new : Bool)
    → new ≡ cond (is_at (λ (own : Bor (List ℕ)). slice_cmp nat_cmp key.now own.now) other) true seen
    → seen ≡ is_among other.now before → new ≡ is_among other.now (key.now ∷ before)
seen_more key other before seen new is among =
    is
    ∙ ap (λ (test : Bool). cond test true seen) (is_eq-slice_cmp key.now other.now)
    ∙ ap (λ (rest : Bool). cond (bytes_eq key.now other.now) true rest) among
    ∙ either (bytes_eq key.now other.now) (is_among other.now before)

pub not_among : (added seen among : Bool) → added ≡ not seen → seen ≡ among → added ≡ true
    → among ≡ false
not_among added true among is same new = absurd (cc)
not_among added false among is same new = sym same

-- a key that none of those before it is
pub double_further : (keys : List (String Global)) (i : ℕ) (own : String Global) (key : List ℕ)
    (before : List (List ℕ)) → own ≡ get_or keys i own → i < length keys
    → key ≡ string_bytes own → is_among key before ≡ false
    → double_behind before (map string_bytes (drop i keys))
    ≡ double_behind (key ∷ before) (map string_bytes (drop (i + 1) keys))
double_further keys i own key before is within named apart =
    let rest = map string_bytes (drop (i + 1) keys) in
    ap (λ (left : List (String Global)). double_behind before (map string_bytes left))
    (drop_more keys i own within
    ∙ ap (λ (first : String Global). first ∷ drop (i + 1) keys) (sym is))
    ∙ ap (λ (text : List ℕ). double_behind before (text ∷ rest)) (sym named)
    ∙ ap (λ (test : Bool). if test then Some key else double_behind (key ∷ before) rest) apart

-- no member is left where no value is
pub no_value : (options : CsvOptions) (keys : List (List ℕ)) → row_members options keys [] ≡
    no_members
no_value options [] = refl
no_value options (key ∷ keys) = refl
