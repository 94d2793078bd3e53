-- `==` of what cells hold is true exactly where the values are the same.
use Rattle.std.proofs.Common.{◌≡◌, ℕ, Bool, true, false, ◌&&◌, ◌↔◌, nat_eq, refl, sym, ◌∙◌, ap}
use Rattle.std.proofs.Common.{rules}
use Rattle.std.specs.Bool.{Decides}
use Rattle.std.specs.Cmp.{booleans_Decides, signed_Decides, unsigned_Decides}
use Rattle.std.specs.Prelude.{string_bytes}
use Rattle.std.proofs.lemmas.Bool.Decides.{Decides-and}
use Rattle.std.proofs.lemmas.Slice.Eq.{bytes_eq-Decides}
use Rattle.decimals.specs.contracts.decimal.DecimalPartialEq.TheImpl.{ghosts as decimal_ghosts}
use Rattle.cell_data.specs.contracts.value.CellErrorTypePartialEq.TheImpl.{ghosts as error_ghosts}
use Rattle.cell_data.specs.contracts.value.DataPartialEq.TheImpl.{ghosts as data_ghosts}
use Rattle.cell_data.specs.contracts.value.DataRefPartialEq.TheImpl.{ghosts as ref_ghosts}
use Rattle.cell_data.specs.contracts.value.ExcelDateTimePartialEq.TheImpl.{ghosts as time_ghosts}
use Rattle.cell_data.specs.contracts.value.ExcelDateTimeTypePartialEq.TheImpl.{ghosts as of_kinds}
use Rattle.decimals.specs.declared.decimal.Decimal.{Decimal}
use Rattle.cell_data.specs.declared.value.CellErrorType.{CellErrorType}
use Rattle.cell_data.specs.declared.value.ExcelDateTime.{ExcelDateTime}
use Rattle.cell_data.specs.declared.value.ExcelDateTimeType.{ExcelDateTimeType}
use Rattle.cell_data.specs.declared.value.Data.{Data}
use Rattle.cell_data.specs.declared.value.Data.TheVariants as owned
use Rattle.cell_data.specs.declared.value.DataRef.{DataRef}
use Rattle.cell_data.specs.declared.value.DataRef.TheVariants as shared
use Rattle.decimals.specs.Words.{number_of}
use Rattle.equalities.specs.Equality.{IsEquality}
use Rattle.equalities.proofs.Equality.{of_pairs, of_image, of_bool, of_number, unequal}
use Rattle.decimals.proofs.Equality.{same_decimal, of_decimal}
use Rattle.cell_data.specs.declared.cell.Cell.{Cell}
use Rattle.cell_data.specs.CellValue.{CellValue, value_of_data, value_of_data_ref, time_value}
use Rattle.cell_data.specs.CellValue.{nothing, time, integer, number, text, shared_text, truth}
use Rattle.cell_data.specs.CellValue.{iso_time, failure}

abbrev pub decimal_eq : Decimal → Decimal → Bool
decimal_eq = decimal_ghosts.eq

abbrev pub error_eq : CellErrorType → CellErrorType → Bool
error_eq = error_ghosts.eq

abbrev pub kind_eq : ExcelDateTimeType → ExcelDateTimeType → Bool
kind_eq = of_kinds.eq

abbrev pub time_eq : ExcelDateTime → ExcelDateTime → Bool
time_eq = time_ghosts.eq

abbrev pub data_eq : Data → Data → Bool
data_eq = data_ghosts.eq

abbrev pub ref_eq : DataRef → DataRef → Bool
ref_eq = ref_ghosts.eq

of_error : IsEquality error_eq
of_error a b = search rules

of_kind : IsEquality kind_eq
of_kind a b = search rules

pub of_time : IsEquality time_eq
of_time = of_image (λ (t : ExcelDateTime). (t.value, (t.kind, t.is_1904)))
    (λ p. record { value = p.0; kind = p.1.0; is_1904 = p.1.1 }) (λ _. refl)
    (of_pairs of_decimal (of_pairs of_kind of_bool))

same_time : (a b : ExcelDateTime) → time_value a ≡ time_value b → a ≡ b
same_time a b same =
    let number : number_of a.value ≡ number_of b.value = cc in
    let value = same_decimal a.value b.value number in
    let kind : a.kind ≡ b.kind = cc in
    let year : a.is_1904 ≡ b.is_1904 = cc in
    λ i. record { value = value i; kind = kind i; is_1904 = year i }

same_number : (a b : Decimal) → decimal_eq a b ≡ true → number_of a ≡ number_of b
same_number a b same = ap number_of ((of_decimal a b).0 same)

-- which kind of value it is
abbrev kind_of : CellValue → ℕ
kind_of nothing = 0
kind_of (integer n) = 1
kind_of (number n) = 2
kind_of (text bytes) = 3
kind_of (shared_text place) = 4
kind_of (truth b) = 5
kind_of (time n kind is_1904) = 6
kind_of (iso_time bytes) = 7
kind_of (failure error) = 8

-- values of two kinds differ
kinds_differ : (v w : CellValue) → nat_eq (kind_of v) (kind_of w) ≡ false → v ≡ w → ⊥
kinds_differ v w differ same =
    unequal (sym differ ∙ (of_number (kind_of v) (kind_of w)).1 (ap kind_of same))

data_from : (a b : Data) → data_eq a b ≡ true → value_of_data a ≡ value_of_data b
data_from (owned.Int m) (owned.Int n) same = ap integer ((signed_Decides m n).0 same)
data_from (owned.Decimal d) (owned.Decimal e) same = ap number (same_number d e same)
data_from (owned.String s) (owned.String t) same =
    ap text ((bytes_eq-Decides (string_bytes s) (string_bytes t)).0 same)
data_from (owned.Bool b) (owned.Bool c) same = ap truth ((booleans_Decides b c).0 same)
data_from (owned.DateTime d) (owned.DateTime e) same = ap time_value ((of_time d e).0 same)
data_from (owned.DateTimeIso s) (owned.DateTimeIso t) same =
    ap iso_time ((bytes_eq-Decides (string_bytes s) (string_bytes t)).0 same)
data_from (owned.Error e) (owned.Error f) same = ap failure ((of_error e f).0 same)
data_from owned.Empty owned.Empty same = refl
data_from _ _ same = absurd (unequal same)

data_to : (a b : Data) → value_of_data a ≡ value_of_data b → data_eq a b ≡ true
data_to (owned.Int m) (owned.Int n) same = (signed_Decides m n).1 (cc)
data_to (owned.Decimal d) (owned.Decimal e) same = (of_decimal d e).1 (same_decimal d e (cc))
data_to (owned.String s) (owned.String t) same =
    (bytes_eq-Decides (string_bytes s) (string_bytes t)).1 (cc)
data_to (owned.Bool b) (owned.Bool c) same = (booleans_Decides b c).1 (cc)
data_to (owned.DateTime d) (owned.DateTime e) same = (of_time d e).1 (same_time d e same)
data_to (owned.DateTimeIso s) (owned.DateTimeIso t) same =
    (bytes_eq-Decides (string_bytes s) (string_bytes t)).1 (cc)
data_to (owned.Error e) (owned.Error f) same =
    (of_error e f).1 (cc)
data_to owned.Empty owned.Empty same = refl
data_to a b same = absurd (kinds_differ (value_of_data a) (value_of_data b) refl same)

-- the values that an owned cell holds
pub data_law : (a b : Data) → Decides (data_eq a b) (value_of_data a ≡ value_of_data b)
data_law a b = (data_from a b, data_to a b)

ref_from : (a b : DataRef) → ref_eq a b ≡ true → value_of_data_ref a ≡ value_of_data_ref b
ref_from (shared.Decimal d) (shared.Decimal e) same = ap number (same_number d e same)
ref_from (shared.String s) (shared.String t) same =
    ap text ((bytes_eq-Decides (string_bytes s) (string_bytes t)).0 same)
ref_from (shared.SharedString m) (shared.SharedString n) same =
    ap shared_text ((unsigned_Decides m n).0 same)
ref_from (shared.Bool b) (shared.Bool c) same = ap truth ((booleans_Decides b c).0 same)
ref_from (shared.DateTime d) (shared.DateTime e) same = ap time_value ((of_time d e).0 same)
ref_from (shared.DateTimeIso s) (shared.DateTimeIso t) same =
    ap iso_time ((bytes_eq-Decides (string_bytes s) (string_bytes t)).0 same)
ref_from (shared.Error e) (shared.Error f) same = ap failure ((of_error e f).0 same)
ref_from shared.Empty shared.Empty same = refl
ref_from _ _ same = absurd (unequal same)

ref_to : (a b : DataRef) → value_of_data_ref a ≡ value_of_data_ref b → ref_eq a b ≡ true
ref_to (shared.Decimal d) (shared.Decimal e) same = (of_decimal d e).1 (same_decimal d e (cc))
ref_to (shared.String s) (shared.String t) same =
    (bytes_eq-Decides (string_bytes s) (string_bytes t)).1 (cc)
ref_to (shared.SharedString m) (shared.SharedString n) same = (unsigned_Decides m n).1 (cc)
ref_to (shared.Bool b) (shared.Bool c) same = (booleans_Decides b c).1 (cc)
ref_to (shared.DateTime d) (shared.DateTime e) same = (of_time d e).1 (same_time d e same)
ref_to (shared.DateTimeIso s) (shared.DateTimeIso t) same =
    (bytes_eq-Decides (string_bytes s) (string_bytes t)).1 (cc)
ref_to (shared.Error e) (shared.Error f) same =
    (of_error e f).1 (cc)
ref_to shared.Empty shared.Empty same = refl
ref_to a b same =
    absurd (kinds_differ (value_of_data_ref a) (value_of_data_ref b) refl same)

-- the values that a cell holds with shared texts
pub data_ref_law : (a b : DataRef) →
    Decides (ref_eq a b) (value_of_data_ref a ≡ value_of_data_ref b)
data_ref_law a b = (ref_from a b, ref_to a b)

-- cells by their positions and by what `==` says of their values
pub cell_law : {X : Type 0} (eq : X → X → Bool) (a b : Cell X)
    → (((nat_eq a.pos.0 b.pos.0 && nat_eq a.pos.1 b.pos.1) && eq a.val b.val) ≡ true)
    ↔ ((a.pos ≡ b.pos) × (eq a.val b.val ≡ true))
cell_law eq a b =
    let all = Decides-and _ (eq a.val b.val) (of_pairs of_number of_number a.pos b.pos)
    (λ h. h, λ h. h) in
    all
