-- Texts with more behind them.
use Rattle.std.proofs.Common.{◌≡◌, ◌++◌, ◌≤◌, List, [], ℕ, length, take, sym, ◌∙◌, ap, subst, arith}
use Rattle.std.proofs.Common.{rules}
use Rattle.std.specs.Prelude.{IsUtf8, String, Result, OnErr, string_bytes, string_len}
use Rattle.std.specs.String.Boundary.{IsSplitPoint}
use Rattle.std.proofs.lemmas.List.{append-nil, append_assoc, length-append}
use Rattle.std.proofs.lemmas.Result.{on_err_weaker}
use Rattle.std.proofs.lemmas.Str.{IsCharBoundary-from_take, IsUtf8-string_bytes}
use Rattle.std.proofs.Math.Seq.{take-append_seam}
use Rattle.escaped_text.specs.Escaped.{AddsBehind}

pub Extends-refl : (bytes : List ℕ) → AddsBehind bytes bytes
Extends-refl bytes = record { more = []; joined = sym (append-nil bytes) }

pub Extends-trans : (old mid new : List ℕ) → AddsBehind old mid → AddsBehind mid new
    → AddsBehind old new
Extends-trans old mid new first second = record {
  more = first.more ++ second.more;
  joined = second.joined ∙ (ap (λ bytes. bytes ++ second.more) first.joined
      ∙ append_assoc old first.more second.more);
}

pub Extends-push : (old new more : List ℕ) → new ≡ old ++ more → AddsBehind old new
Extends-push old new more is = record { more = more; joined = is }

-- the old text is the front of the new one
pub front_kept : (old new : List ℕ) → AddsBehind old new → take (length old) new ≡ old
front_kept old new extends =
    ap (take (length old)) extends.joined ∙ take-append_seam old extends.more

pub front_within : (old new : List ℕ) → AddsBehind old new → length old ≤ length new
front_within old new extends =
    let e = ap length extends.joined ∙ length-append old extends.more in
    omega (arith)

-- where the old text ends, the new one may be cut
pub front_splits : (old new : List ℕ) → AddsBehind old new → IsUtf8 old → IsUtf8 new
    → IsSplitPoint new (length old)
front_splits old new extends old_text new_text =
    let within = front_within old new extends in
    let front = subst IsUtf8 (sym (front_kept old new extends)) old_text in
    let at = IsCharBoundary-from_take new (length old) new_text within front in
    (within, λ _ before high. at.1 before high)

-- a text that more was appended to may be cut back to what it was
pub cut_back : {Z T E : Type 0} (old new : String Z) (r : Result T E)
    → OnErr r (AddsBehind (string_bytes old) (string_bytes new))
    → OnErr r (IsSplitPoint (string_bytes new) (string_len old))
cut_back old new r extends =
    on_err_weaker r
    (λ more.
    let len : string_len old ≡ length (string_bytes old) = search rules in
    rw len (front_splits (string_bytes old) (string_bytes new) more (IsUtf8-string_bytes old)
    (IsUtf8-string_bytes new))) extends
