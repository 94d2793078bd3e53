-- What was kept stands in front of what is kept.
use Rattle.std.proofs.Common.{◌≡◌, ◌∙◌, [], ◌++◌, sym, ap, append_assoc, append-nil}
use Rattle.std.specs.Prelude.{Result, Ok, Err, OnErr}
use Rattle.xlsx_graph.specs.Naming.{Found}
use Rattle.xlsx_graph.specs.Kept.{Kept, Adds, KeepsInFront}

-- the same areas and words are kept, and the same names are open
pub extends_same : (old new : Kept) → new.areas ≡ old.areas → new.words ≡ old.words →
    new.opened ≡ old.opened → KeepsInFront old new
extends_same old new areas words opened = record {
  more_areas = [];
  more_words = [];
  areas = areas ∙ sym (append-nil old.areas);
  words = words ∙ sym (append-nil old.words);
  opened = opened;
}

-- what was found is behind what was kept
pub extends_by : (old new : Kept) (f : Found) → Adds old new f → KeepsInFront old new
extends_by old new f adds = record {
  more_areas = f.areas;
  more_words = f.words;
  areas = adds.areas;
  words = adds.words;
  opened = adds.opened;
}

-- one step behind the other
pub extends_on : (a b c : Kept) → KeepsInFront a b → KeepsInFront b c → KeepsInFront a c
extends_on a b c first second = record {
  more_areas = first.more_areas ++ second.more_areas;
  more_words = first.more_words ++ second.more_words;
  areas =
      second.areas ∙ ap (λ xs. xs ++ second.more_areas) first.areas
      ∙ append_assoc a.areas first.more_areas second.more_areas;
  words =
      second.words ∙ ap (λ xs. xs ++ second.more_words) first.words
      ∙ append_assoc a.words first.more_words second.more_words;
  opened = second.opened ∙ first.opened;
}

-- what holds of a call that is refused
pub on_refusal : {T E : Type 0} (answer : Result T E) (P : Type 0) → P → OnErr answer P
on_refusal (Ok value) P holds = tt
on_refusal (Err error) P holds = holds
