-- What ends a text in quotes, apostrophes or brackets and an error ends it before any other text.
use Rattle.std.proofs.Common.{◌≡◌, ◌∙◌, ◌+◌, ◌<◌, ◌≤◌, ◌&&◌, ◌⊎◌, ℕ, zero, suc, Bool, true, false}
use Rattle.std.proofs.Common.{cond, eqb, ltb, not, List, [], ◌∷◌, ◌++◌, length, take, drop, map}
use Rattle.std.proofs.Common.{Option, Some, None, refl, sym, ap, subst, arith, inl, inr}
use Rattle.std.specs.Prelude.{◌==◌, position, option_map, codes}
use Rattle.std.specs.Char.{to_ascii_lowercase, is_ascii_alphabetic}
use Rattle.std.specs.List.{list_all, position_or_len}
use Rattle.std.proofs.lemmas.Bool.{cases_lt}
use Rattle.std.proofs.lemmas.Bool.Decides.{nat_tests}
use Rattle.std.proofs.lemmas.Slice.Eq.{bytes_eq-Decides}
use Rattle.std.proofs.lemmas.List.{length-map, take-map, take-take, take_at, take-append-le}
use Rattle.formula_shift.specs.Pieces.{string_length, quoted_length, group_length}
use Rattle.formula_shift.proofs.Recutting.{begins}
use Rattle.formula_shift.proofs.Joining.{both_true}
use Rattle.formula_tokens.specs.Tokens.{is_begun_by, word_size, failures, quotes_end, brackets_end}
use Rattle.graph_naming_laws.proofs.Ends.{never_two}
use Rattle.graph_naming_laws.proofs.Tests.{not_true}

-- there is a place
abbrev pub is_closed : Option ℕ → Bool
is_closed None = false
is_closed (Some n) = true

closed_mapped : (k : ℕ) (o : Option ℕ) → is_closed (option_map (λ n. n + k) o) ≡ is_closed o
closed_mapped k None = refl
closed_mapped k (Some n) = refl

-- ---- quotes

quote_next : (b : ℕ) (ys : List ℕ) → eqb b 34 ≡ false →
    position (λ c. c == 34) (b ∷ ys) ≡ option_map (λ n. n + 1) (position (λ c. c == 34) ys)
quote_next b ys none = (λ i. cond (ltb (cond (not (none i)) (1 + m) 0) (suc (length ys)))
    (Some (cond (not (none i)) (1 + m) 0)) None) ∙ by_test (ltb m (length ys)) refl where
      m : ℕ
      m = position_or_len (λ c. c == 34) ys

      by_test : (t : Bool) → ltb m (length ys) ≡ t →
          cond (ltb (1 + m) (suc (length ys))) (Some (1 + m)) None
          ≡ option_map (λ n. n + 1) (cond t (Some m) None)
      by_test true lt =
          let more : ltb (1 + m) (suc (length ys)) ≡ true = grind (arith, nat_tests) in
          ap (λ t. cond t (Some (1 + m)) None) more ∙ ap Some (omega arith)
      by_test false lt =
          let more : ltb (1 + m) (suc (length ys)) ≡ false = grind (arith, nat_tests) in
          ap (λ t. cond t (Some (1 + m)) None) more

quote_here : (b : ℕ) (ys : List ℕ) → eqb b 34 ≡ true →
    position (λ c. c == 34) (b ∷ ys) ≡ Some 0
quote_here b ys is =
    let first : ltb 0 (suc (length ys)) ≡ true = grind (arith, nat_tests) in
    (λ i. cond (ltb (cond (not (is i)) (1 + position_or_len (λ c. c == 34) ys) 0)
    (suc (length ys))) (Some (cond (not (is i)) (1 + position_or_len (λ c. c == 34) ys) 0)) None)
    ∙ ap (λ t. cond t (Some 0) None) first

pub string_kept : (bs xs : List ℕ) → is_closed (position (λ c. c == 34) bs) ≡ true →
    position (λ c. c == 34) (take (string_length bs) bs ++ xs) ≡ position (λ c. c == 34) bs
unfolding string_length
string_kept [] xs closed = absurd (cc)
string_kept (b ∷ bs) xs closed = by_test (eqb b 34) refl (string_kept bs xs) where
  by_test : (t : Bool) → eqb b 34 ≡ t →
      (is_closed (position (λ c. c == 34) bs) ≡ true →
      position (λ c. c == 34) (take (string_length bs) bs ++ xs)
      ≡ position (λ c. c == 34) bs) →
      position (λ c. c == 34) (take (cond t 1 (suc (string_length bs))) (b ∷ bs) ++ xs)
      ≡ position (λ c. c == 34) (b ∷ bs)
  by_test true is rest = quote_here b xs is ∙ sym (quote_here b bs is)
  by_test false none rest =
      let next = quote_next b bs none in
      let behind : is_closed (position (λ c. c == 34) bs) ≡ true =
      sym (closed_mapped 1 (position (λ c. c == 34) bs)) ∙ sym (ap is_closed next) ∙ closed in
      quote_next b (take (string_length bs) bs ++ xs) none
      ∙ ap (option_map (λ n. n + 1)) (rest behind) ∙ sym next

-- ---- apostrophes

quotes_next : (b : ℕ) (ys : List ℕ) → eqb b 39 ≡ false →
    quotes_end (b ∷ ys) ≡ option_map (λ n. n + 1) (quotes_end ys)
unfolding quotes_end
quotes_next b [] none = ap (λ t. cond t (Some 0) None) none
quotes_next b (c ∷ ys) none =
    ap (λ t. cond t (cond (c == 39) (option_map (λ n. n + 2) (quotes_end ys)) (Some 0))
    (option_map (λ n. n + 1) (quotes_end (c ∷ ys)))) none

quotes_here : (b : ℕ) (ys : List ℕ) → eqb b 39 ≡ true → begins (λ c. eqb c 39) ys ≡ false →
    quotes_end (b ∷ ys) ≡ Some 0
unfolding quotes_end
quotes_here b [] is none = ap (λ t. cond t (Some 0) None) is
quotes_here b (c ∷ ys) is none =
    (λ i. cond (is i) (cond (none i) (option_map (λ n. n + 2) (quotes_end ys)) (Some 0))
    (option_map (λ n. n + 1) (quotes_end (c ∷ ys))))

pub quotes_kept : (bs xs : List ℕ) → is_closed (quotes_end bs) ≡ true →
    begins (λ c. eqb c 39) xs ≡ false →
    quotes_end (take (quoted_length bs) bs ++ xs) ≡ quotes_end bs
unfolding quotes_end quoted_length
quotes_kept [] xs closed none = absurd (cc)
quotes_kept (b ∷ []) xs closed none = by_test (eqb b 39) refl closed where
  by_test : (t : Bool) → eqb b 39 ≡ t → is_closed (cond t (Some 0) None) ≡ true →
      quotes_end (b ∷ xs) ≡ cond t (Some 0) None
  by_test true is closed = quotes_here b xs is none
  by_test false is closed = absurd (cc)
quotes_kept (b ∷ c ∷ bs) xs closed none =
    by_tests (eqb b 39) (eqb c 39) refl refl closed
    (λ h. quotes_kept bs xs h none) (λ h. quotes_kept (c ∷ bs) xs h none) where
      by_tests : (first second : Bool) → eqb b 39 ≡ first → eqb c 39 ≡ second →
          is_closed (cond first (cond second (option_map (λ n. n + 2) (quotes_end bs)) (Some 0))
          (option_map (λ n. n + 1) (quotes_end (c ∷ bs)))) ≡ true →
          (is_closed (quotes_end bs) ≡ true →
          quotes_end (take (quoted_length bs) bs ++ xs) ≡ quotes_end bs) →
          (is_closed (quotes_end (c ∷ bs)) ≡ true →
          quotes_end (take (quoted_length (c ∷ bs)) (c ∷ bs) ++ xs) ≡ quotes_end (c ∷ bs)) →
          quotes_end (take (cond first (cond second (suc (suc (quoted_length bs))) 1)
          (suc (quoted_length (c ∷ bs)))) (b ∷ c ∷ bs) ++ xs)
          ≡ cond first (cond second (option_map (λ n. n + 2) (quotes_end bs)) (Some 0))
          (option_map (λ n. n + 1) (quotes_end (c ∷ bs)))
      by_tests true true t u h two one =
          (λ i. cond (t i) (cond (u i) (option_map (λ n. n + 2)
          (quotes_end (take (quoted_length bs) bs ++ xs))) (Some 0))
          (option_map (λ n. n + 1) (quotes_end (c ∷ (take (quoted_length bs) bs ++ xs)))))
          ∙ ap (option_map (λ n. n + 2))
          (two (sym (closed_mapped 2 (quotes_end bs)) ∙ h))
      by_tests true false t u h two one = quotes_here b xs t none
      by_tests false second t u h two one =
          quotes_next b (take (quoted_length (c ∷ bs)) (c ∷ bs) ++ xs) t
          ∙ ap (option_map (λ n. n + 1))
          (one (sym (closed_mapped 1 (quotes_end (c ∷ bs))) ∙ h))

-- behind a text in apostrophes that is closed stands no apostrophe
pub quotes_over : (bs : List ℕ) → is_closed (quotes_end bs) ≡ true →
    begins (λ c. eqb c 39) (drop (quoted_length bs) bs) ≡ false
unfolding quotes_end quoted_length
quotes_over [] closed = absurd (cc)
quotes_over (b ∷ []) closed = refl
quotes_over (b ∷ c ∷ bs) closed =
    by_tests (eqb b 39) (eqb c 39) refl closed (quotes_over bs) (quotes_over (c ∷ bs)) where
      by_tests : (first second : Bool) → eqb c 39 ≡ second →
          is_closed (cond first (cond second (option_map (λ n. n + 2) (quotes_end bs)) (Some 0))
          (option_map (λ n. n + 1) (quotes_end (c ∷ bs)))) ≡ true →
          (is_closed (quotes_end bs) ≡ true →
          begins (λ c. eqb c 39) (drop (quoted_length bs) bs) ≡ false) →
          (is_closed (quotes_end (c ∷ bs)) ≡ true →
          begins (λ c. eqb c 39) (drop (quoted_length (c ∷ bs)) (c ∷ bs)) ≡ false) →
          begins (λ c. eqb c 39) (drop (cond first (cond second (suc (suc (quoted_length bs))) 1)
          (suc (quoted_length (c ∷ bs)))) (b ∷ c ∷ bs)) ≡ false
      by_tests true true u h two one = two (sym (closed_mapped 2 (quotes_end bs)) ∙ h)
      by_tests true false u h two one = u
      by_tests false second u h two one = one (sym (closed_mapped 1 (quotes_end (c ∷ bs))) ∙ h)

-- ---- brackets

never_kept : (b : ℕ) → eqb b 93 ≡ true → eqb b 39 ≡ false
never_kept b is = grind (arith, nat_tests)

closes_here : (b : ℕ) (ys : List ℕ) → eqb b 93 ≡ true → brackets_end 0 (b ∷ ys) ≡ Some 0
unfolding brackets_end
closes_here b [] is = ap (λ t. cond t (Some 0) None) is
closes_here b (c ∷ ys) is =
    (λ i. cond (never_kept b is i) (option_map (λ n. n + 2) (brackets_end 0 ys))
    (cond (is i) (Some 0) (cond (b == 91) (option_map (λ n. n + 1) (brackets_end 1 (c ∷ ys)))
    (option_map (λ n. n + 1) (brackets_end 0 (c ∷ ys))))))

closes_inside : (inside b : ℕ) (ys : List ℕ) → eqb b 93 ≡ true →
    brackets_end (suc inside) (b ∷ ys) ≡ option_map (λ n. n + 1) (brackets_end inside ys)
unfolding brackets_end
closes_inside inside b [] is = refl
closes_inside inside b (c ∷ ys) is =
    (λ i. cond (never_kept b is i) (option_map (λ n. n + 2) (brackets_end (suc inside) ys))
    (cond (is i) (option_map (λ n. n + 1) (brackets_end inside (c ∷ ys)))
    (cond (b == 91) (option_map (λ n. n + 1) (brackets_end (suc (suc inside)) (c ∷ ys)))
    (option_map (λ n. n + 1) (brackets_end (suc inside) (c ∷ ys))))))

opens_next : (inside b : ℕ) (ys : List ℕ) → eqb b 39 ≡ false → eqb b 93 ≡ false →
    eqb b 91 ≡ true →
    brackets_end inside (b ∷ ys) ≡ option_map (λ n. n + 1) (brackets_end (suc inside) ys)
unfolding brackets_end
opens_next zero b [] kept closes opens = ap (λ t. cond t (Some 0) None) closes
opens_next (suc inside) b [] kept closes opens = refl
opens_next zero b (c ∷ ys) kept closes opens =
    (λ i. cond (kept i) (option_map (λ n. n + 2) (brackets_end 0 ys))
    (cond (closes i) (Some 0) (cond (opens i) (option_map (λ n. n + 1) (brackets_end 1 (c ∷ ys)))
    (option_map (λ n. n + 1) (brackets_end 0 (c ∷ ys))))))
opens_next (suc inside) b (c ∷ ys) kept closes opens =
    (λ i. cond (kept i) (option_map (λ n. n + 2) (brackets_end (suc inside) ys))
    (cond (closes i) (option_map (λ n. n + 1) (brackets_end inside (c ∷ ys)))
    (cond (opens i) (option_map (λ n. n + 1) (brackets_end (suc (suc inside)) (c ∷ ys)))
    (option_map (λ n. n + 1) (brackets_end (suc inside) (c ∷ ys))))))

plain_next : (inside b : ℕ) (ys : List ℕ) → eqb b 39 ≡ false → eqb b 93 ≡ false →
    eqb b 91 ≡ false →
    brackets_end inside (b ∷ ys) ≡ option_map (λ n. n + 1) (brackets_end inside ys)
unfolding brackets_end
plain_next zero b [] kept closes opens = ap (λ t. cond t (Some 0) None) closes
plain_next (suc inside) b [] kept closes opens = refl
plain_next zero b (c ∷ ys) kept closes opens =
    (λ i. cond (kept i) (option_map (λ n. n + 2) (brackets_end 0 ys))
    (cond (closes i) (Some 0) (cond (opens i) (option_map (λ n. n + 1) (brackets_end 1 (c ∷ ys)))
    (option_map (λ n. n + 1) (brackets_end 0 (c ∷ ys))))))
plain_next (suc inside) b (c ∷ ys) kept closes opens =
    (λ i. cond (kept i) (option_map (λ n. n + 2) (brackets_end (suc inside) ys))
    (cond (closes i) (option_map (λ n. n + 1) (brackets_end inside (c ∷ ys)))
    (cond (opens i) (option_map (λ n. n + 1) (brackets_end (suc (suc inside)) (c ∷ ys)))
    (option_map (λ n. n + 1) (brackets_end (suc inside) (c ∷ ys))))))

kept_next : (inside b c : ℕ) (ys : List ℕ) → eqb b 39 ≡ true →
    brackets_end inside (b ∷ c ∷ ys) ≡ option_map (λ n. n + 2) (brackets_end inside ys)
unfolding brackets_end
kept_next zero b c ys kept =
    ap (λ t. cond t (option_map (λ n. n + 2) (brackets_end 0 ys))
    (cond (b == 93) (Some 0) (cond (b == 91) (option_map (λ n. n + 1) (brackets_end 1 (c ∷ ys)))
    (option_map (λ n. n + 1) (brackets_end 0 (c ∷ ys)))))) kept
kept_next (suc inside) b c ys kept =
    ap (λ t. cond t (option_map (λ n. n + 2) (brackets_end (suc inside) ys))
    (cond (b == 93) (option_map (λ n. n + 1) (brackets_end inside (c ∷ ys)))
    (cond (b == 91) (option_map (λ n. n + 1) (brackets_end (suc (suc inside)) (c ∷ ys)))
    (option_map (λ n. n + 1) (brackets_end (suc inside) (c ∷ ys)))))) kept

-- the same is kept behind one byte more
abbrev IsKept : ℕ → List ℕ → List ℕ → Type 0
IsKept inside bs xs = is_closed (brackets_end inside bs) ≡ true →
    brackets_end inside (take (group_length inside bs) bs ++ xs) ≡ brackets_end inside bs

mapped_kept : (k : ℕ) (o p q : Option ℕ) → q ≡ option_map (λ n. n + k) o →
    is_closed q ≡ true → (is_closed o ≡ true → p ≡ o) → option_map (λ n. n + k) p ≡ q
mapped_kept k o p q is closed same =
    ap (option_map (λ n. n + k))
    (same (sym (closed_mapped k o) ∙ sym (ap is_closed is) ∙ closed)) ∙ sym is

pub brackets_kept : (inside : ℕ) (bs xs : List ℕ) → IsKept inside bs xs
unfolding brackets_end group_length
brackets_kept inside [] xs closed = absurd (cc)
brackets_kept zero (b ∷ []) xs closed = by_test (eqb b 93) refl closed where
  by_test : (t : Bool) → eqb b 93 ≡ t → is_closed (cond t (Some 0) None) ≡ true →
      brackets_end 0 (b ∷ xs) ≡ cond t (Some 0) None
  by_test true is closed = closes_here b xs is
  by_test false is closed = absurd (cc)
brackets_kept (suc inside) (b ∷ []) xs closed = absurd (cc)
brackets_kept zero (b ∷ c ∷ bs) xs closed =
    by_tests (eqb b 39) (eqb b 93) (eqb b 91) refl refl refl (brackets_kept 0 bs xs)
    (brackets_kept 1 (c ∷ bs) xs) (brackets_kept 0 (c ∷ bs) xs) where
      by_tests : (kept closes opens : Bool) → eqb b 39 ≡ kept → eqb b 93 ≡ closes →
          eqb b 91 ≡ opens → IsKept 0 bs xs → IsKept 1 (c ∷ bs) xs → IsKept 0 (c ∷ bs) xs →
          brackets_end 0 (take (cond kept (suc (suc (group_length 0 bs)))
          (cond opens (suc (group_length 1 (c ∷ bs)))
          (cond closes 1 (suc (group_length 0 (c ∷ bs)))))) (b ∷ c ∷ bs) ++ xs)
          ≡ brackets_end 0 (b ∷ c ∷ bs)
      by_tests true closes opens k l m two up same =
          kept_next 0 b c (take (group_length 0 bs) bs ++ xs) k
          ∙ mapped_kept 2 (brackets_end 0 bs) _ (brackets_end 0 (b ∷ c ∷ bs))
          (kept_next 0 b c bs k) closed two
      by_tests false true true k l m two up same =
          let never = never_two b m l in absurd (cc)
      by_tests false true false k l m two up same =
          closes_here b xs l ∙ sym (closes_here b (c ∷ bs) l)
      by_tests false false true k l m two up same =
          opens_next 0 b (take (group_length 1 (c ∷ bs)) (c ∷ bs) ++ xs) k l m
          ∙ mapped_kept 1 (brackets_end 1 (c ∷ bs)) _ (brackets_end 0 (b ∷ c ∷ bs))
          (opens_next 0 b (c ∷ bs) k l m) closed up
      by_tests false false false k l m two up same =
          plain_next 0 b (take (group_length 0 (c ∷ bs)) (c ∷ bs) ++ xs) k l m
          ∙ mapped_kept 1 (brackets_end 0 (c ∷ bs)) _ (brackets_end 0 (b ∷ c ∷ bs))
          (plain_next 0 b (c ∷ bs) k l m) closed same
brackets_kept (suc inside) (b ∷ c ∷ bs) xs closed =
    by_tests (eqb b 39) (eqb b 93) (eqb b 91) refl refl refl (brackets_kept (suc inside) bs xs)
    (brackets_kept (suc (suc inside)) (c ∷ bs) xs) (brackets_kept inside (c ∷ bs) xs)
    (brackets_kept (suc inside) (c ∷ bs) xs) where
      by_tests : (kept closes opens : Bool) → eqb b 39 ≡ kept → eqb b 93 ≡ closes →
          eqb b 91 ≡ opens → IsKept (suc inside) bs xs → IsKept (suc (suc inside)) (c ∷ bs) xs →
          IsKept inside (c ∷ bs) xs → IsKept (suc inside) (c ∷ bs) xs →
          brackets_end (suc inside) (take (cond kept (suc (suc (group_length (suc inside) bs)))
          (cond opens (suc (group_length (suc (suc inside)) (c ∷ bs)))
          (cond closes (suc (group_length inside (c ∷ bs)))
          (suc (group_length (suc inside) (c ∷ bs)))))) (b ∷ c ∷ bs) ++ xs)
          ≡ brackets_end (suc inside) (b ∷ c ∷ bs)
      by_tests true closes opens k l m two up less same =
          kept_next (suc inside) b c (take (group_length (suc inside) bs) bs ++ xs) k
          ∙ mapped_kept 2 (brackets_end (suc inside) bs) _ (brackets_end (suc inside) (b ∷ c ∷ bs))
          (kept_next (suc inside) b c bs k) closed two
      by_tests false true true k l m two up less same =
          let never = never_two b m l in absurd (cc)
      by_tests false true false k l m two up less same =
          closes_inside inside b (take (group_length inside (c ∷ bs)) (c ∷ bs) ++ xs) l
          ∙ mapped_kept 1 (brackets_end inside (c ∷ bs)) _
          (brackets_end (suc inside) (b ∷ c ∷ bs)) (closes_inside inside b (c ∷ bs) l) closed less
      by_tests false false true k l m two up less same =
          opens_next (suc inside) b (take (group_length (suc (suc inside)) (c ∷ bs)) (c ∷ bs) ++ xs)
          k l m
          ∙ mapped_kept 1 (brackets_end (suc (suc inside)) (c ∷ bs)) _
          (brackets_end (suc inside) (b ∷ c ∷ bs)) (opens_next (suc inside) b (c ∷ bs) k l m)
          closed up
      by_tests false false false k l m two up less same =
          plain_next (suc inside) b (take (group_length (suc inside) (c ∷ bs)) (c ∷ bs) ++ xs)
          k l m
          ∙ mapped_kept 1 (brackets_end (suc inside) (c ∷ bs)) _
          (brackets_end (suc inside) (b ∷ c ∷ bs)) (plain_next (suc inside) b (c ∷ bs) k l m)
          closed same

-- ---- errors

begun_same : (w text : List ℕ) → is_begun_by w text ≡ true →
    map to_ascii_lowercase (take (length w) text) ≡ map to_ascii_lowercase w
begun_same w text holds =
    (bytes_eq-Decides (map to_ascii_lowercase (take (length w) text))
    (map to_ascii_lowercase w)).0 holds

same_begun : (w text : List ℕ) →
    map to_ascii_lowercase (take (length w) text) ≡ map to_ascii_lowercase w →
    is_begun_by w text ≡ true
same_begun w text same =
    (bytes_eq-Decides (map to_ascii_lowercase (take (length w) text))
    (map to_ascii_lowercase w)).1 same

pub begun_length : (w text : List ℕ) → is_begun_by w text ≡ true →
    length (take (length w) text) ≡ length w
begun_length w text holds =
    omega (
      arith,
      length-map (take (length w) text) to_ascii_lowercase,
      length-map w to_ascii_lowercase,
      ap length (begun_same w text holds),
    )

-- what begins a text begins it before any other
pub begun_kept : (w text xs : List ℕ) → is_begun_by w text ≡ true →
    is_begun_by w (take (length w) text ++ xs) ≡ true
begun_kept w text xs holds =
    same_begun w (take (length w) text ++ xs)
    (ap (map to_ascii_lowercase)
    (take_at (take (length w) text) xs (length w) (begun_length w text holds))
    ∙ begun_same w text holds)

-- a word that another doesn't begin, and that begins no text, begins none that the other begins
not_begun : (w v text xs : List ℕ) → is_begun_by w text ≡ false → is_begun_by v text ≡ true →
    is_begun_by v w ≡ false → is_begun_by w (take (length v) text ++ xs) ≡ false
not_begun w v text xs none begun apart =
    by_test (is_begun_by w (take (length v) text ++ xs)) refl where
      e : List ℕ
      e = take (length v) text

      size : length e ≡ length v
      size = begun_length v text begun

      by_size : is_begun_by w (take (length v) text ++ xs) ≡ true →
          (length v < length w) ⊎ (length w ≤ length v) → true ≡ false
      by_size is (inr short) =
          let within : length w ≤ length e = omega (arith, size, short) in
          let same : take (length w) (take (length v) text ++ xs) ≡ take (length w) text =
          take-append-le (length w) e xs within ∙ take-take (length w) (length v) text short in
          sym (same_begun w text (ap (map to_ascii_lowercase) (sym same)
          ∙ begun_same w (take (length v) text ++ xs) is)) ∙ none
      by_size is (inl longer) =
          let n = length v in
          let front : take n (take (length w) (e ++ xs)) ≡ e =
          take-take n (length w) (e ++ xs) (omega (arith, longer)) ∙ take_at e xs n size in
          let same : map to_ascii_lowercase (take n w) ≡ map to_ascii_lowercase v =
          sym (take-map to_ascii_lowercase n w)
          ∙ ap (take n) (sym (begun_same w (e ++ xs) is))
          ∙ take-map to_ascii_lowercase n (take (length w) (e ++ xs))
          ∙ ap (map to_ascii_lowercase) front ∙ begun_same v text begun in
          sym (same_begun v w same) ∙ apart

      by_test : (t : Bool) → is_begun_by w (take (length v) text ++ xs) ≡ t → t ≡ false
      by_test false is = refl
      by_test true is = by_size is (cases_lt (length v) (length w))

-- no word of these begins a word
abbrev begins_none : List ℕ → List (List ℕ) → Bool
begins_none w vs = list_all (λ v. not (is_begun_by v w)) vs

-- no word begins one before it
abbrev are_apart : List (List ℕ) → Bool
are_apart [] = true
are_apart (w ∷ ws) = begins_none w ws && are_apart ws

-- the word that tells a size
sized_by : (w : List ℕ) (ws : List (List ℕ)) (text : List ℕ) (n : ℕ) →
    word_size ws text ≡ Some n → begins_none w ws ≡ true →
    (v : List ℕ) × (n ≡ length v) × (is_begun_by v text ≡ true) × (is_begun_by v w ≡ false)
sized_by w [] text n is apart = absurd (cc)
sized_by w (v ∷ ws) text n is apart =
    let both = both_true (not (is_begun_by v w)) (begins_none w ws) apart in
    by_test (is_begun_by v text) refl is both.0 (λ is. sized_by w ws text n is both.1) where
      by_test : (t : Bool) → is_begun_by v text ≡ t →
          cond t (Some (length v)) (word_size ws text) ≡ Some n → not (is_begun_by v w) ≡ true →
          (word_size ws text ≡ Some n → (u : List ℕ) × (n ≡ length u)
          × (is_begun_by u text ≡ true) × (is_begun_by u w ≡ false)) →
          (u : List ℕ) × (n ≡ length u) × (is_begun_by u text ≡ true)
          × (is_begun_by u w ≡ false)
      by_test true begun is apart rest =
          (v, cc, begun, not_true (is_begun_by v w) apart)
      by_test false none is apart rest = rest is

-- a word before those that tell a size begins no text that this many bytes begin
before_none : (w : List ℕ) (ws : List (List ℕ)) (text xs : List ℕ) (n : ℕ) →
    is_begun_by w text ≡ false → word_size ws text ≡ Some n → begins_none w ws ≡ true →
    is_begun_by w (take n text ++ xs) ≡ false
before_none w ws text xs n none is apart =
    let v = sized_by w ws text n is apart in
    ap (λ n. is_begun_by w (take n text ++ xs)) v.1
    ∙ not_begun w v.0 text xs none v.2 v.3

sizes_kept : (ws : List (List ℕ)) (text xs : List ℕ) (n : ℕ) → are_apart ws ≡ true →
    word_size ws text ≡ Some n → word_size ws (take n text ++ xs) ≡ Some n
sizes_kept [] text xs n apart is = absurd (cc)
sizes_kept (w ∷ ws) text xs n apart is =
    let both = both_true (begins_none w ws) (are_apart ws) apart in
    by_test (is_begun_by w text) refl is both.0 (λ is. sizes_kept ws text xs n both.1 is) where
      by_test : (t : Bool) → is_begun_by w text ≡ t →
          cond t (Some (length w)) (word_size ws text) ≡ Some n → begins_none w ws ≡ true →
          (word_size ws text ≡ Some n → word_size ws (take n text ++ xs) ≡ Some n) →
          cond (is_begun_by w (take n text ++ xs)) (Some (length w))
          (word_size ws (take n text ++ xs)) ≡ Some n
      by_test true begun is apart rest =
          let size : length w ≡ n = cc in
          ap (λ t. cond t (Some (length w)) (word_size ws (take n text ++ xs)))
          (ap (λ n. is_begun_by w (take n text ++ xs)) (sym size) ∙ begun_kept w text xs begun)
          ∙ is
      by_test false none is apart rest =
          ap (λ t. cond t (Some (length w)) (word_size ws (take n text ++ xs)))
          (before_none w ws text xs n none is apart)
          ∙ rest is

sizes_length : (ws : List (List ℕ)) (text : List ℕ) (n : ℕ) → word_size ws text ≡ Some n →
    length (take n text) ≡ n
sizes_length [] text n is = absurd (cc)
sizes_length (w ∷ ws) text n is =
    by_test (is_begun_by w text) refl is (λ is. sizes_length ws text n is) where
      by_test : (t : Bool) → is_begun_by w text ≡ t →
          cond t (Some (length w)) (word_size ws text) ≡ Some n →
          (word_size ws text ≡ Some n → length (take n text) ≡ n) → length (take n text) ≡ n
      by_test true begun is rest =
          let size : length w ≡ n = cc in
          subst (λ n. length (take n text) ≡ n) size (begun_length w text begun)
      by_test false none is rest = rest is

-- an error has as many bytes as it takes
pub failure_length : (text : List ℕ) (n : ℕ) → word_size failures text ≡ Some n →
    length (take n text) ≡ n
failure_length text n is = sizes_length failures text n is

-- an error that begins a text begins it before any other
pub failure_kept : (text xs : List ℕ) (n : ℕ) → is_begun_by (codes "REF!") text ≡ false →
    word_size failures text ≡ Some n →
    (is_begun_by (codes "REF!") (take n text ++ xs) ≡ false)
    × (word_size failures (take n text ++ xs) ≡ Some n)
failure_kept text xs n none is = (
  before_none (codes "REF!") failures text xs n none is refl,
  sizes_kept failures text xs n refl is,
)

-- ---- no errors

letter_first : (c d : ℕ) → to_ascii_lowercase d ≡ to_ascii_lowercase c →
    is_ascii_alphabetic c ≡ true → is_ascii_alphabetic d ≡ true
letter_first c d same letter = grind (arith, nat_tests)

no_letter_begun : (w text : List ℕ) → begins is_ascii_alphabetic w ≡ true →
    begins is_ascii_alphabetic text ≡ false → is_begun_by w text ≡ false
no_letter_begun [] text letter none = absurd (cc)
no_letter_begun (c ∷ cs) text letter none =
    by_test (is_begun_by (c ∷ cs) text) refl text refl where
      by_test : (t : Bool) → is_begun_by (c ∷ cs) text ≡ t → (us : List ℕ) → text ≡ us → t ≡ false
      by_test false is us same = refl
      by_test true is [] same =
          let never = begun_same (c ∷ cs) [] (ap (is_begun_by (c ∷ cs)) (sym same) ∙ is) in
          absurd (cc)
      by_test true is (d ∷ ds) same =
          let front = begun_same (c ∷ cs) (d ∷ ds)
          (ap (is_begun_by (c ∷ cs)) (sym same) ∙ is) in
          let first : to_ascii_lowercase d ≡ to_ascii_lowercase c = cc in
          let never : true ≡ false = sym (letter_first c d first letter)
          ∙ sym (ap (begins is_ascii_alphabetic) same) ∙ none in never

no_size : (ws : List (List ℕ)) (text : List ℕ) →
    list_all (begins is_ascii_alphabetic) ws ≡ true → begins is_ascii_alphabetic text ≡ false →
    word_size ws text ≡ None
no_size [] text letters none = refl
no_size (w ∷ ws) text letters none =
    let both = both_true (begins is_ascii_alphabetic w)
    (list_all (begins is_ascii_alphabetic) ws) letters in
    ap (λ t. cond t (Some (length w)) (word_size ws text)) (no_letter_begun w text both.0 none)
    ∙ no_size ws text both.1 none

-- what begins with no letter begins with no error
pub no_error : (text : List ℕ) → begins is_ascii_alphabetic text ≡ false →
    (is_begun_by (codes "REF!") text ≡ false) × (word_size failures text ≡ None)
no_error text none = (
  no_letter_begun (codes "REF!") text refl none,
  no_size failures text refl none,
)
