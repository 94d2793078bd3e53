-- Where texts in quotes, apostrophes and brackets end, by pieces and by tokens.
use Rattle.std.proofs.Common.{◌≡◌, ◌∙◌, ◌+◌, ℕ, zero, suc, Bool, true, false, cond, eqb, ltb, not}
use Rattle.std.proofs.Common.{List, [], ◌∷◌, length, take, Option, Some, None, refl, sym, ap, arith}
use Rattle.std.specs.Prelude.{◌==◌, position, option_map}
use Rattle.std.specs.List.{position_or_len}
use Rattle.std.proofs.lemmas.Bool.Decides.{nat_tests}
use Rattle.formula_shift.specs.Words.{last_byte}
use Rattle.formula_shift.specs.Pieces.{string_length, quoted_length, group_length}
use Rattle.formula_tokens.specs.Tokens.{quotes_end, brackets_end}

-- how many bytes belong to what is closed at a place, or to what nothing closes, of so many
abbrev pub closed_size : Option ℕ → ℕ → ℕ
closed_size None len = len
closed_size (Some n) len = n + 1

mapped_some : (k : ℕ) (o : Option ℕ) (n : ℕ) → option_map (λ m. m + k) o ≡ Some n →
    (m : ℕ) × (o ≡ Some m)
mapped_some k (Some m) n is = (m, refl)
mapped_some k None n is = absurd (cc)

-- ---- apostrophes

pub quoted_size : (bs : List ℕ) → closed_size (quotes_end bs) (length bs) ≡ quoted_length bs
unfolding quoted_length quotes_end
quoted_size [] = refl
quoted_size (b ∷ []) = by_test (eqb b 39) where
  by_test : (t : Bool) → closed_size (cond t (Some 0) None) 1 ≡ 1
  by_test true = refl
  by_test false = refl
quoted_size (b ∷ c ∷ bs) =
    by_tests (eqb b 39) (eqb c 39) (quotes_end bs) (quotes_end (c ∷ bs)) (quoted_length bs)
    (quoted_length (c ∷ bs)) (length bs) (length (c ∷ bs)) refl (quoted_size bs)
    (quoted_size (c ∷ bs)) where
      by_tests : (first second : Bool) (o p : Option ℕ) (m n k l : ℕ) → l ≡ suc k →
          closed_size o k ≡ m → closed_size p l ≡ n →
          closed_size (cond first (cond second (option_map (λ n. n + 2) o) (Some 0))
          (option_map (λ n. n + 1) p)) (suc l) ≡ cond first (cond second (suc (suc m)) 1) (suc n)
      by_tests true true None p m n k l is e f = omega arith
      by_tests true true (Some x) p m n k l is e f = omega arith
      by_tests true false o p m n k l is e f = refl
      by_tests false second o None m n k l is e f = omega arith
      by_tests false second o (Some x) m n k l is e f = omega arith

-- behind a text in apostrophes that is closed stands an apostrophe
pub quoted_last : (x : Option ℕ) (bs : List ℕ) (n : ℕ) → quotes_end bs ≡ Some n →
    last_byte x (take (quoted_length bs) bs) ≡ Some 39
unfolding quoted_length quotes_end
quoted_last x [] n is = absurd (cc)
quoted_last x (b ∷ []) n is = by_test (eqb b 39) refl is where
  by_test : (t : Bool) → eqb b 39 ≡ t → cond t (Some 0) None ≡ Some n → Some b ≡ Some 39
  by_test true is e = ap Some (grind (arith, nat_tests))
  by_test false is e = absurd (cc)
quoted_last x (b ∷ c ∷ bs) n is =
    by_tests (eqb b 39) (eqb c 39) refl is (λ m e. quoted_last (Some c) bs m e)
    (λ m e. quoted_last (Some b) (c ∷ bs) m e) where
      by_tests : (first second : Bool) → eqb b 39 ≡ first →
          cond first (cond second (option_map (λ n. n + 2) (quotes_end bs)) (Some 0))
          (option_map (λ n. n + 1) (quotes_end (c ∷ bs))) ≡ Some n →
          ((m : ℕ) → quotes_end bs ≡ Some m →
          last_byte (Some c) (take (quoted_length bs) bs) ≡ Some 39) →
          ((m : ℕ) → quotes_end (c ∷ bs) ≡ Some m →
          last_byte (Some b) (take (quoted_length (c ∷ bs)) (c ∷ bs)) ≡ Some 39) →
          last_byte x (take (cond first (cond second (suc (suc (quoted_length bs))) 1)
          (suc (quoted_length (c ∷ bs)))) (b ∷ c ∷ bs)) ≡ Some 39
      by_tests true true t e two one =
          let m = mapped_some 2 (quotes_end bs) n e in two m.0 m.1
      by_tests true false t e two one = ap Some (grind (arith, nat_tests))
      by_tests false second t e two one =
          let m = mapped_some 1 (quotes_end (c ∷ bs)) n e in one m.0 m.1

-- ---- brackets

-- a byte is not two
pub never_two : (b : ℕ) → eqb b 91 ≡ true → eqb b 93 ≡ true → true ≡ false
never_two b one other = absurd (grind (arith, nat_tests))

pub group_size : (inner : ℕ) (bs : List ℕ) →
    closed_size (brackets_end inner bs) (length bs) ≡ group_length inner bs
unfolding group_length brackets_end
group_size inner [] = refl
group_size zero (b ∷ []) = by_test (eqb b 93) where
  by_test : (t : Bool) → closed_size (cond t (Some 0) None) 1 ≡ 1
  by_test true = refl
  by_test false = refl
group_size (suc inner) (b ∷ []) = refl
group_size zero (b ∷ c ∷ bs) =
    by_tests (eqb b 39) (eqb b 93) (eqb b 91) (never_two b) (brackets_end 0 bs)
    (brackets_end 1 (c ∷ bs)) (brackets_end 0 (c ∷ bs)) (group_length 0 bs)
    (group_length 1 (c ∷ bs)) (group_length 0 (c ∷ bs)) (length bs) (group_size 0 bs)
    (group_size 1 (c ∷ bs)) (group_size 0 (c ∷ bs)) where
      by_tests : (kept closes opens : Bool) → (opens ≡ true → closes ≡ true → true ≡ false) →
          (o p q : Option ℕ) (m n r k : ℕ) →
          closed_size o k ≡ m → closed_size p (suc k) ≡ n → closed_size q (suc k) ≡ r →
          closed_size (cond kept (option_map (λ n. n + 2) o)
          (cond closes (Some 0) (cond opens (option_map (λ n. n + 1) p)
          (option_map (λ n. n + 1) q)))) (suc (suc k))
          ≡ cond kept (suc (suc m)) (cond opens (suc n) (cond closes 1 (suc r)))
      by_tests true closes opens two None p q m n r k e f g = omega arith
      by_tests true closes opens two (Some x) p q m n r k e f g = omega arith
      by_tests false true true two o p q m n r k e f g =
          let never = two refl refl in absurd (cc)
      by_tests false true false two o p q m n r k e f g = refl
      by_tests false false true two o None q m n r k e f g = omega arith
      by_tests false false true two o (Some x) q m n r k e f g = omega arith
      by_tests false false false two o p None m n r k e f g = omega arith
      by_tests false false false two o p (Some x) m n r k e f g = omega arith
group_size (suc inner) (b ∷ c ∷ bs) =
    by_tests (eqb b 39) (eqb b 93) (eqb b 91) (never_two b) (brackets_end (suc inner) bs)
    (brackets_end (suc (suc inner)) (c ∷ bs)) (brackets_end (suc inner) (c ∷ bs))
    (brackets_end inner (c ∷ bs)) (group_length (suc inner) bs)
    (group_length (suc (suc inner)) (c ∷ bs)) (group_length (suc inner) (c ∷ bs))
    (group_length inner (c ∷ bs)) (length bs) (group_size (suc inner) bs)
    (group_size (suc (suc inner)) (c ∷ bs)) (group_size (suc inner) (c ∷ bs))
    (group_size inner (c ∷ bs)) where
      by_tests : (kept closes opens : Bool) → (opens ≡ true → closes ≡ true → true ≡ false) →
          (o p q d : Option ℕ) (m n r s k : ℕ) →
          closed_size o k ≡ m → closed_size p (suc k) ≡ n → closed_size q (suc k) ≡ r →
          closed_size d (suc k) ≡ s →
          closed_size (cond kept (option_map (λ n. n + 2) o)
          (cond closes (option_map (λ n. n + 1) d) (cond opens (option_map (λ n. n + 1) p)
          (option_map (λ n. n + 1) q)))) (suc (suc k))
          ≡ cond kept (suc (suc m)) (cond opens (suc n) (cond closes (suc s) (suc r)))
      by_tests true closes opens two None p q d m n r s k e f g h = omega arith
      by_tests true closes opens two (Some x) p q d m n r s k e f g h = omega arith
      by_tests false true true two o p q d m n r s k e f g h =
          let never = two refl refl in absurd (cc)
      by_tests false true false two o p q None m n r s k e f g h = omega arith
      by_tests false true false two o p q (Some x) m n r s k e f g h = omega arith
      by_tests false false true two o None q d m n r s k e f g h = omega arith
      by_tests false false true two o (Some x) q d m n r s k e f g h = omega arith
      by_tests false false false two o p None d m n r s k e f g h = omega arith
      by_tests false false false two o p (Some x) d m n r s k e f g h = omega arith

-- behind brackets that are closed stands a bracket
pub group_last : (x : Option ℕ) (inner : ℕ) (bs : List ℕ) (n : ℕ) →
    brackets_end inner bs ≡ Some n → last_byte x (take (group_length inner bs) bs) ≡ Some 93
unfolding group_length brackets_end
group_last x inner [] n is = absurd (cc)
group_last x zero (b ∷ []) n is = by_test (eqb b 93) refl is where
  by_test : (t : Bool) → eqb b 93 ≡ t → cond t (Some 0) None ≡ Some n → Some b ≡ Some 93
  by_test true is e = ap Some (grind (arith, nat_tests))
  by_test false is e = absurd (cc)
group_last x (suc inner) (b ∷ []) n is = absurd (cc)
group_last x zero (b ∷ c ∷ bs) n is =
    by_tests (eqb b 39) (eqb b 93) (eqb b 91) refl (never_two b) is
    (λ m e. group_last (Some c) 0 bs m e) (λ m e. group_last (Some b) 1 (c ∷ bs) m e)
    (λ m e. group_last (Some b) 0 (c ∷ bs) m e) where
      by_tests : (kept closes opens : Bool) → eqb b 93 ≡ closes →
          (opens ≡ true → closes ≡ true → true ≡ false) →
          cond kept (option_map (λ n. n + 2) (brackets_end 0 bs))
          (cond closes (Some 0) (cond opens (option_map (λ n. n + 1) (brackets_end 1 (c ∷ bs)))
          (option_map (λ n. n + 1) (brackets_end 0 (c ∷ bs))))) ≡ Some n →
          ((m : ℕ) → brackets_end 0 bs ≡ Some m →
          last_byte (Some c) (take (group_length 0 bs) bs) ≡ Some 93) →
          ((m : ℕ) → brackets_end 1 (c ∷ bs) ≡ Some m →
          last_byte (Some b) (take (group_length 1 (c ∷ bs)) (c ∷ bs)) ≡ Some 93) →
          ((m : ℕ) → brackets_end 0 (c ∷ bs) ≡ Some m →
          last_byte (Some b) (take (group_length 0 (c ∷ bs)) (c ∷ bs)) ≡ Some 93) →
          last_byte x (take (cond kept (suc (suc (group_length 0 bs)))
          (cond opens (suc (group_length 1 (c ∷ bs)))
          (cond closes 1 (suc (group_length 0 (c ∷ bs)))))) (b ∷ c ∷ bs)) ≡ Some 93
      by_tests true closes opens t never e two more one =
          let m = mapped_some 2 (brackets_end 0 bs) n e in two m.0 m.1
      by_tests false true true t never e two more one =
          let absent = never refl refl in absurd (cc)
      by_tests false true false t never e two more one = ap Some (grind (arith, nat_tests))
      by_tests false false true t never e two more one =
          let m = mapped_some 1 (brackets_end 1 (c ∷ bs)) n e in more m.0 m.1
      by_tests false false false t never e two more one =
          let m = mapped_some 1 (brackets_end 0 (c ∷ bs)) n e in one m.0 m.1
group_last x (suc inner) (b ∷ c ∷ bs) n is =
    by_tests (eqb b 39) (eqb b 93) (eqb b 91) (never_two b) is
    (λ m e. group_last (Some c) (suc inner) bs m e)
    (λ m e. group_last (Some b) (suc (suc inner)) (c ∷ bs) m e)
    (λ m e. group_last (Some b) (suc inner) (c ∷ bs) m e)
    (λ m e. group_last (Some b) inner (c ∷ bs) m e) where
      by_tests : (kept closes opens : Bool) → (opens ≡ true → closes ≡ true → true ≡ false) →
          cond kept (option_map (λ n. n + 2) (brackets_end (suc inner) bs))
          (cond closes (option_map (λ n. n + 1) (brackets_end inner (c ∷ bs)))
          (cond opens (option_map (λ n. n + 1) (brackets_end (suc (suc inner)) (c ∷ bs)))
          (option_map (λ n. n + 1) (brackets_end (suc inner) (c ∷ bs))))) ≡ Some n →
          ((m : ℕ) → brackets_end (suc inner) bs ≡ Some m →
          last_byte (Some c) (take (group_length (suc inner) bs) bs) ≡ Some 93) →
          ((m : ℕ) → brackets_end (suc (suc inner)) (c ∷ bs) ≡ Some m →
          last_byte (Some b) (take (group_length (suc (suc inner)) (c ∷ bs)) (c ∷ bs))
          ≡ Some 93) →
          ((m : ℕ) → brackets_end (suc inner) (c ∷ bs) ≡ Some m →
          last_byte (Some b) (take (group_length (suc inner) (c ∷ bs)) (c ∷ bs)) ≡ Some 93) →
          ((m : ℕ) → brackets_end inner (c ∷ bs) ≡ Some m →
          last_byte (Some b) (take (group_length inner (c ∷ bs)) (c ∷ bs)) ≡ Some 93) →
          last_byte x (take (cond kept (suc (suc (group_length (suc inner) bs)))
          (cond opens (suc (group_length (suc (suc inner)) (c ∷ bs)))
          (cond closes (suc (group_length inner (c ∷ bs)))
          (suc (group_length (suc inner) (c ∷ bs)))))) (b ∷ c ∷ bs)) ≡ Some 93
      by_tests true closes opens never e two more same less =
          let m = mapped_some 2 (brackets_end (suc inner) bs) n e in two m.0 m.1
      by_tests false true true never e two more same less =
          let absent = never refl refl in absurd (cc)
      by_tests false true false never e two more same less =
          let m = mapped_some 1 (brackets_end inner (c ∷ bs)) n e in less m.0 m.1
      by_tests false false true never e two more same less =
          let m = mapped_some 1 (brackets_end (suc (suc inner)) (c ∷ bs)) n e in more m.0 m.1
      by_tests false false false never e two more same less =
          let m = mapped_some 1 (brackets_end (suc inner) (c ∷ bs)) n e in same m.0 m.1

-- ---- quotes

is_no_quote : ℕ → Bool
is_no_quote b = not (eqb b 34)

string_run : (bs : List ℕ) →
    string_length bs
    ≡ cond (ltb (position_or_len (λ c. c == 34) bs) (length bs))
    (position_or_len (λ c. c == 34) bs + 1) (length bs)
unfolding string_length
string_run [] = refl
string_run (b ∷ bs) = grind (arith, nat_tests, string_run bs)

pub string_size : (bs : List ℕ) →
    closed_size (position (λ c. c == 34) bs) (length bs) ≡ string_length bs
string_size bs = by_test (ltb n (length bs)) ∙ sym (string_run bs) where
  n : ℕ
  n = position_or_len (λ c. c == 34) bs

  by_test : (t : Bool) → closed_size (cond t (Some n) None) (length bs) ≡ cond t (n + 1) (length bs)
  by_test true = refl
  by_test false = refl

-- behind a text in quotes that is closed stands a quote
pub string_last : (x : Option ℕ) (bs : List ℕ) (n : ℕ) → position (λ c. c == 34) bs ≡ Some n →
    last_byte x (take (string_length bs) bs) ≡ Some 34
unfolding string_length
string_last x [] n is = absurd (cc)
string_last x (b ∷ bs) n is =
    by_test (eqb b 34) refl is (λ m e. string_last (Some b) bs m e) where
      by_test : (t : Bool) → eqb b 34 ≡ t →
          cond (ltb (cond (not t) (1 + position_or_len (λ c. c == 34) bs) 0) (suc (length bs)))
          (Some (cond (not t) (1 + position_or_len (λ c. c == 34) bs) 0)) None ≡ Some n →
          ((m : ℕ) → position (λ c. c == 34) bs ≡ Some m →
          last_byte (Some b) (take (string_length bs) bs) ≡ Some 34) →
          last_byte x (take (cond t 1 (suc (string_length bs))) (b ∷ bs)) ≡ Some 34
      by_test true t e rest = ap Some (grind (arith, nat_tests))
      by_test false t e rest = by_end (ltb m (length bs)) refl where
        m : ℕ
        m = position_or_len (λ c. c == 34) bs

        by_end : (t : Bool) → ltb m (length bs) ≡ t →
            last_byte (Some b) (take (string_length bs) bs) ≡ Some 34
        by_end true lt = rest m (ap (λ t. cond t (Some m) None) lt)
        by_end false lt =
            let more : ltb (1 + m) (suc (length bs)) ≡ false = grind (arith, nat_tests) in
            let none : cond false (Some (1 + m)) None ≡ Some n =
            sym (ap (λ t. cond t (Some (1 + m)) None) more) ∙ e in
            absurd (cc)
