-- What is found is put behind what was kept, part by part.
use Rattle.std.proofs.Common.{◌≡◌, ◌+◌, List, [], ◌∷◌, ◌++◌, refl, sym, ap, ◌∙◌, arith, inl, inr}
use Rattle.std.proofs.Common.{append_assoc, append-nil, length-append}
use Rattle.xlsx_graph.specs.Naming.{Found, nothing_found, both_found, areas_weight, weight}
use Rattle.xlsx_graph.specs.Kept.{Kept, Adds, IsBeyond, WhenTooLarge}
use Rattle.xlsx_graph.specs.declared.error.NamingError.{NamingError}
use Rattle.xlsx_graph.specs.declared.error.NamingError.TheVariants.{TooLarge, OutOfMemory}
use Rattle.xlsx_graph.specs.declared.named.BookArea.{BookArea}

-- areas weigh what their parts do
pub weight-append : (xs ys : List BookArea) →
    areas_weight (xs ++ ys) ≡ areas_weight xs + areas_weight ys
weight-append [] ys = omega arith
weight-append (x ∷ xs) ys = omega (arith, weight-append xs ys)

-- what is found in two parts weighs what these do
pub weight-both : (a b : Found) → weight (both_found a b) ≡ weight a + weight b
weight-both a b =
    omega (arith, weight-append a.areas b.areas, length-append a.words b.words)

-- nothing is put behind what is kept
pub adds_nothing : (k : Kept) → Adds k k nothing_found
adds_nothing k = record {
  areas = sym (append-nil k.areas);
  words = sym (append-nil k.words);
  named = omega arith;
  read = omega arith;
  opened = refl;
}

-- one part behind the other
pub adds_both : (k l m : Kept) (a b : Found) → Adds k l a → Adds l m b → Adds k m (both_found a b)
adds_both k l m a b first second = record {
  areas =
      second.areas ∙ ap (λ xs. xs ++ b.areas) first.areas ∙ append_assoc k.areas a.areas b.areas;
  words =
      second.words ∙ ap (λ xs. xs ++ b.words) first.words ∙ append_assoc k.words a.words b.words;
  named = omega (arith, weight-both a b, first.named, second.named);
  read = omega (arith, first.read, second.read);
  opened = second.opened ∙ first.opened;
}

-- a part is more than there is room for, and so are both
pub beyond_first : (k : Kept) (a b : Found) → IsBeyond k a → IsBeyond k (both_found a b)
beyond_first k a b (inl lt) = inl (omega (arith, weight-both a b, lt))
beyond_first k a b (inr lt) = inr (omega (arith, lt))

-- the second part is more than the first left room for
pub beyond_second : (k l : Kept) (a b : Found) → Adds k l a → IsBeyond l b →
    IsBeyond k (both_found a b)
beyond_second k l a b first (inl lt) =
    inl (omega (arith, weight-both a b, first.named, lt))
beyond_second k l a b first (inr lt) = inr (omega (arith, first.read, lt))

-- what follows from the refusal for a limit
pub when_also : (e : NamingError) (P Q : Type 0) → (P → Q) → WhenTooLarge e P → WhenTooLarge e Q
when_also TooLarge P Q then h = then h
when_also OutOfMemory P Q then h = tt
