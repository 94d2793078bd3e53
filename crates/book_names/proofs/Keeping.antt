-- What is kept of names, and names in which an apostrophe keeps the byte behind it.
use Rattle.std.proofs.Common.{◌≡◌, ℕ, ◌+◌, ◌<◌, List, [], ◌∷◌, ◌++◌, length, get_or, drop, Bool}
use Rattle.std.proofs.Common.{true, false, cond, eqb, Option, Some, refl, sym, ap, ◌∙◌, subst, ◌≢◌}
use Rattle.std.proofs.Common.{◌≤◌, ◌-◌, append_assoc, arith}
use denote.Ref.{Bor}
use Rattle.std.specs.Char.{to_ascii_lowercase}
use Rattle.std.proofs.lemmas.Bool.Decides.{nat_tests}
use Rattle.std.proofs.lemmas.Cmp.{eq_by_cmp_equiv, nat_list_cmp_total, nat_list_eq_equiv}
use Rattle.std.proofs.lemmas.List.{drop_more}
use Rattle.std.proofs.lemmas.Map.Text.{is_eq-slice_cmp}
use Rattle.std.specs.Prelude.{if◌then◌else◌, Vec, map}
use Rattle.std.specs.BTreeMap.{BTreeMap, UpdatesBy, is_at}
use Rattle.std.specs.Cmp.Lexicographic.{slice_cmp, bytes_decides}
use Rattle.std.specs.Ordering.{nat_cmp, is_eq, eq_by_cmp}
use Rattle.std.specs.declared.cmp.Ordering.{Ordering}
use Rattle.std.specs.Str.{bytes_eq}
use Rattle.std.specs.Map.{KeepsOthers, IsKeyTest, AreApart, lookup}
use Rattle.std.specs.declared.alloc.Global.{Global}
use Rattle.formula_tokens.specs.Items.{kept_bytes}
use Rattle.book_names.specs.Book.{lowered}
use Rattle.book_names.specs.Numbers.{kept_number, FindsFirstNumbers}

-- ---- a name that is put

abbrev pub name_cmp : Vec ℕ Global → Vec ℕ Global → Ordering
name_cmp first second = slice_cmp nat_cmp first.items second.items

apart : (first second kept : List ℕ) → bytes_eq first second ≡ false
    → is_eq (slice_cmp nat_cmp first kept) ≡ true → is_eq (slice_cmp nat_cmp second kept) ≡ false
apart first second kept not is =
    is_eq-slice_cmp second kept ∙ nat_list_eq_equiv.symm second kept
    ∙ sym (nat_list_eq_equiv.congr first kept second (sym (is_eq-slice_cmp first kept) ∙ is)) ∙ not

kept_others : {K X : Type 0} (same : K → K → Bool) (test other : K → Bool) (old new : List (K × X))
    → KeepsOthers same test old new → IsKeyTest same other → AreApart test other
    → lookup other new ≡ lookup other old
unfolding KeepsOthers
kept_others same test other old new keeps one apart = keeps other one apart

kept_if : (old new : BTreeMap (Vec ℕ Global) ℕ) (key : Vec ℕ Global) (number : Option ℕ)
    → UpdatesBy name_cmp (name_cmp key) old new number → (other : List ℕ) (b : Bool)
    → bytes_eq key.items other ≡ b
    → kept_number new other ≡ (if b then number else kept_number old other)
kept_if old new key number updates other true is =
    subst (λ (own : List ℕ). kept_number new own ≡ number) ((bytes_decides key.items other).0 is)
    updates.1
kept_if old new key number updates other false not =
    kept_others (eq_by_cmp name_cmp) (is_at (name_cmp key))
    (is_at (λ (kept : Vec ℕ Global). slice_cmp nat_cmp other kept.items)) old.entries new.entries
    updates.3 (λ x y. (eq_by_cmp_equiv nat_list_cmp_total).congr other x.items y.items)
    (λ kept. apart key.items other kept.items not)

-- a key that is put has its number, and all others have theirs
pub kept_now : (old new : BTreeMap (Vec ℕ Global) ℕ) (key : Vec ℕ Global) (name : List ℕ)
    (number : Option ℕ) → UpdatesBy name_cmp (name_cmp key) old new number → key.items ≡ name
    → (other : List ℕ) → kept_number new other
    ≡ (if bytes_eq name other then number else kept_number old other)
kept_now old new key name number updates named other =
    kept_if old new key number updates other (bytes_eq key.items other) refl
    ∙ ap (λ (own : List ℕ). if bytes_eq own other then number else kept_number old other) named

-- ---- kept bytes

pub kept_none : (text : List ℕ) → text ≡ [] → kept_bytes text ≡ []
unfolding kept_bytes
kept_none text none = ap kept_bytes none

pub kept_last : (b : ℕ) → kept_bytes (b ∷ []) ≡ b ∷ kept_bytes []
unfolding kept_bytes
kept_last b = refl

pub kept_alone : (text behind : List ℕ) (b : ℕ) → text ≡ b ∷ behind → behind ≡ [] →
    kept_bytes text ≡ b ∷ kept_bytes behind
kept_alone text behind b starts none =
    ap kept_bytes (starts ∙ ap (λ t. b ∷ t) none) ∙ kept_last b
    ∙ ap (λ t. b ∷ kept_bytes t) (sym none)

-- a byte that is no apostrophe stands for itself
pub kept_plain : (b : ℕ) (bs : List ℕ) → b ≢ 39 → kept_bytes (b ∷ bs) ≡ b ∷ kept_bytes bs
unfolding kept_bytes
kept_plain b [] plain = refl
kept_plain b (c ∷ bs) plain =
    let no : eqb b 39 ≡ false = grind (arith, nat_tests) in
    ap (λ t. cond t (c ∷ kept_bytes bs) (b ∷ kept_bytes (c ∷ bs))) no

-- an apostrophe keeps the byte behind it
pub kept_behind : (c : ℕ) (bs : List ℕ) → kept_bytes (39 ∷ c ∷ bs) ≡ c ∷ kept_bytes bs
unfolding kept_bytes
kept_behind c bs = refl

-- a byte more is taken, with the apostrophe before it or without
pub taken : (out rest : List ℕ) (b : ℕ) →
    (out ++ to_ascii_lowercase b ∷ []) ++ map to_ascii_lowercase rest
    ≡ out ++ map to_ascii_lowercase (b ∷ rest)
taken out rest b =
    append_assoc out (to_ascii_lowercase b ∷ []) (map to_ascii_lowercase rest)

-- ---- the names in front of those that are kept

pub found_before : (numbers : BTreeMap (Vec ℕ Global) ℕ) (number : ℕ) (name : List ℕ)
    (names : List (List ℕ)) (old : BTreeMap (Vec ℕ Global) ℕ)
    → FindsFirstNumbers old (number + 1) names →
    ((key : List ℕ) → kept_number numbers key
    ≡ (if bytes_eq (lowered name) key then Some number else kept_number old key)) →
    FindsFirstNumbers numbers number (name ∷ names)
found_before numbers number name names old found puts =
    λ key. puts key
    ∙ ap (λ (o : Option ℕ). if bytes_eq (lowered name) key then Some number else o) (found key)

-- the names from one place on, where those behind it are kept and it is put before them
pub found_step : (new old : BTreeMap (Vec ℕ Global) ℕ) (names : List (Bor (List ℕ))) (number : ℕ)
    (none : Bor (List ℕ)) → 0 < number → number ≤ length names →
    FindsFirstNumbers old number (map (λ n. n.now) (drop number names)) →
    ((key : List ℕ) → kept_number new key
    ≡ (if bytes_eq (lowered (get_or names (number - 1) none).now) key then Some (number - 1)
    else kept_number old key)) →
    FindsFirstNumbers new (number - 1) (map (λ n. n.now) (drop (number - 1) names))
found_step new old names number none some within found puts =
    let last = number - 1 in
    let name = get_or names last none in
    let next : last + 1 ≡ number = omega arith in
    let starts : drop last names ≡ name ∷ drop number names =
    drop_more names last none (omega arith) ∙ ap (λ k. name ∷ drop k names) next in
    let found' : FindsFirstNumbers old (last + 1) (map (λ n. n.now) (drop number names)) =
    subst (λ k. FindsFirstNumbers old k (map (λ n. n.now) (drop number names))) (sym next) found in
    subst (λ l. FindsFirstNumbers new last (map (λ n. n.now) l)) (sym starts)
    (found_before new last name.now (map (λ n. n.now) (drop number names)) old found' puts)

pub ruleset kept_steps = (kept_plain, kept_behind)
