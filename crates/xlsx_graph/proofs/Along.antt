-- What is found along items is that of the first and that of those behind it.
use Rattle.std.proofs.Common.{◌≡◌, ℕ, zero, suc, ◌-◌, ◌<◌, List, [], ◌∷◌, drop, refl, sym, ap, ◌∙◌}
use Rattle.std.proofs.Common.{arith, Bool, subst, length, false}
use Rattle.formula_tokens.specs.Items.{PlaceText, NamedText, ItemText, says, calls, opens, closes}
use Rattle.formula_tokens.specs.Items.{colon, apart, unread, formula_items}
use Rattle.book_names.specs.Book.{Book}
use Rattle.xlsx_graph.specs.Naming.{Found, found_along, found_within, item_found, items_belonging}
use Rattle.xlsx_graph.specs.Naming.{before_next, both_found, mention_found, function_found}
use Rattle.xlsx_graph.specs.Naming.{word_found, named_in}
use Rattle.xlsx_graph.specs.Kept.{none_open, Kept, Adds, IsBeyond, WhenTooLarge}
use Rattle.xlsx_graph.specs.declared.named.Standing.{Standing}
use Rattle.xlsx_graph.specs.declared.error.NamingError.{NamingError}
use Rattle.xlsx_graph.specs.declared.error.NamingError.TheVariants.{TooLarge, OutOfMemory}
use Rattle.xlsx_graph.specs.declared.named.Cause.TheVariants.{Endless}
use Rattle.xlsx_graph.specs.declared.before.Before.{Before}
use Rattle.xlsx_graph.specs.declared.before.Before.TheVariants.{AnyOther}
use Rattle.xlsx_graph.specs.declared.reader.Reader.{Reader}
use Rattle.xlsx_graph.proofs.Adding.{adds_both, adds_nothing, beyond_first, beyond_second}

-- items that are counted already are left out
pub along_behind : (find : PlaceText → NamedText → Found) (call : PlaceText → List ℕ → Found)
    (n : ℕ) (is : List ItemText) →
    found_along find call AnyOther n is ≡ found_along find call AnyOther 0 (drop n is)
unfolding found_along
along_behind find call zero is = refl
along_behind find call (suc n) [] = refl
along_behind find call (suc n) (i ∷ is) = along_behind find call n is

-- nothing is found along no items
pub along_none : (find : PlaceText → NamedText → Found) (call : PlaceText → List ℕ → Found)
    (before : Before) (k : Kept) → Adds k k (found_along find call before 0 [])
unfolding found_along
along_none find call before k = adds_nothing k

-- the first item, and what is found along those behind it
pub along_step : (find : PlaceText → NamedText → Found) (call : PlaceText → List ℕ → Found)
    (before : Before) (i : ItemText) (is : List ItemText) →
    found_along find call before 0 (i ∷ is)
    ≡ both_found (item_found find call before i is)
    (found_along find call (before_next before i) 0 (drop (items_belonging i is) is))
unfolding found_along
along_step find call before (says p n) is =
    ap (both_found (item_found find call before (says p n) is))
    (along_behind find call (items_belonging (says p n) is) is)
along_step find call before (calls p w) is = refl
along_step find call before opens is = refl
along_step find call before closes is = refl
along_step find call before colon is = refl
along_step find call before apart is = refl
along_step find call before (unread text) is = refl

-- what items add that stand in a text, where others were counted
pub record Counts (find : PlaceText → NamedText → Found) (call : PlaceText → List ℕ → Found)
    (before : Before) (is : List ItemText) (start now : Kept) (whole : Found) : Type 0 where
  pub added : (new : Kept) → Adds now new (found_along find call before 0 is) →
      Adds start new whole
  pub beyond : IsBeyond now (found_along find call before 0 is) → IsBeyond start whole

-- nothing was counted
pub counts_start : (find : PlaceText → NamedText → Found) (call : PlaceText → List ℕ → Found)
    (before : Before) (is : List ItemText) (k : Kept) (whole : Found) →
    whole ≡ found_along find call before 0 is → Counts find call before is k k whole
counts_start find call before is k whole e = record {
  added = λ new h. subst (Adds k new) (sym e) h;
  beyond = λ h. subst (IsBeyond k) (sym e) h;
}

-- one item more is counted
pub counts_step : (find : PlaceText → NamedText → Found) (call : PlaceText → List ℕ → Found)
    (before : Before) (i : ItemText) (all is rest : List ItemText) (start now new : Kept)
    (whole : Found) → Counts find call before all start now whole → all ≡ i ∷ is →
    Adds now new (item_found find call before i is) → rest ≡ drop (items_belonging i is) is →
    Counts find call (before_next before i) rest start new whole
counts_step find call before i all is rest start now new whole counts e adds behind =
    let sum : found_along find call before 0 all
    ≡ both_found (item_found find call before i is)
    (found_along find call (before_next before i) 0 rest) =
    ap (found_along find call before 0) e ∙ along_step find call before i is
    ∙ ap (λ r. both_found (item_found find call before i is)
    (found_along find call (before_next before i) 0 r)) (sym behind) in
    record {
      added = λ last h.
          counts.added last (subst (Adds now last) (sym sum) (adds_both now new last _ _ adds h));
      beyond = λ h.
          counts.beyond (subst (IsBeyond now) (sym sum) (beyond_second now new _ _ adds h));
    }

-- the first item alone is more than there is room for
pub counts_beyond : (find : PlaceText → NamedText → Found) (call : PlaceText → List ℕ → Found)
    (before : Before) (i : ItemText) (all is : List ItemText) (start now : Kept)
    (whole : Found) → Counts find call before all start now whole → all ≡ i ∷ is →
    IsBeyond now (item_found find call before i is) → IsBeyond start whole
counts_beyond find call before i all is start now whole counts e h =
    counts.beyond
    (subst (IsBeyond now)
    (sym (ap (found_along find call before 0) e ∙ along_step find call before i is))
    (beyond_first now _ _ h))

-- no items are left
pub counts_end : (find : PlaceText → NamedText → Found) (call : PlaceText → List ℕ → Found)
    (before : Before) (all : List ItemText) (start now : Kept) (whole : Found) →
    Counts find call before all start now whole → all ≡ [] → Adds start now whole
counts_end find call before all start now whole counts e =
    counts.added now
    (subst (λ is. Adds now now (found_along find call before 0 is)) (sym e)
    (along_none find call before now))

-- what a text names is what is found along its items, one turn less
pub text_along : (turns : ℕ) (book : Book) (r : Reader) (opened : List Bool) (text : List ℕ) →
    0 < turns → found_within turns book r opened text
    ≡ found_along (mention_found (turns - 1) book r opened)
    (function_found (turns - 1) book r opened) AnyOther 0 (formula_items text)
unfolding found_within
text_along zero book r opened text lt = absurd (omega (arith, lt))
text_along (suc turns) book r opened text lt =
    let e : suc turns - 1 ≡ turns = omega arith in rw e refl

-- one item more of a text is counted
pub text_step : (turns : ℕ) (book : Book) (r : Reader) (opened own : List Bool)
    (before next : Before)
    (i : ItemText) (all is rest : List ItemText) (start now new : Kept) (whole : Found) →
    own ≡ opened →
    Counts (mention_found turns book r opened) (function_found turns book r opened) before all
    start now whole → all ≡ i ∷ is →
    Adds now new (item_found (mention_found turns book r own) (function_found turns book r own)
    before i is) → rest ≡ drop (items_belonging i is) is → next ≡ before_next before i →
    Counts (mention_found turns book r opened) (function_found turns book r opened) next rest
    start new whole
text_step turns book r opened own before next i all is rest start now new whole same counts e
    adds behind follows =
    subst
    (λ b. Counts (mention_found turns book r opened) (function_found turns book r opened) b rest
    start new whole)
    (sym follows)
    (counts_step (mention_found turns book r opened) (function_found turns book r opened) before i
    all is rest start now new whole counts e
    (subst
    (λ o. Adds now new (item_found (mention_found turns book r o) (function_found turns book r o)
    before i is))
    same adds)
    behind)

-- there is no room for an item of a text
pub text_refused : (e : NamingError) (turns : ℕ) (book : Book) (r : Reader) (opened own : List Bool)
    (before : Before) (i : ItemText) (all is : List ItemText) (start now : Kept) (whole : Found) →
    own ≡ opened →
    Counts (mention_found turns book r opened) (function_found turns book r opened) before all
    start now whole → all ≡ i ∷ is →
    WhenTooLarge e (IsBeyond now (item_found (mention_found turns book r own)
    (function_found turns book r own) before i is)) →
    WhenTooLarge e (IsBeyond start whole)
text_refused OutOfMemory turns book r opened own before i all is start now whole same counts e h =
    tt
text_refused TooLarge turns book r opened own before i all is start now whole same counts e h =
    counts_beyond (mention_found turns book r opened) (function_found turns book r opened) before i
    all is start now whole counts e
    (subst
    (λ o. IsBeyond now (item_found (mention_found turns book r o) (function_found turns book r o)
    before i is))
    same h)

-- a text is left open where no turns are left
pub text_zero : (turns : ℕ) (book : Book) (r : Reader) (opened : List Bool) (text : List ℕ) →
    turns ≡ 0 → word_found Endless text ≡ found_within turns book r opened text
unfolding found_within
text_zero turns book r opened text e =
    ap (λ n. found_within n book r opened text) (sym e)

-- a formula is read for its cell, on its sheet, where no name is open
pub named_is : (book : Book) (cell : Standing) (turns : ℕ) (opened : List Bool) (text : List ℕ) →
    turns ≡ suc (length book.names) → opened ≡ none_open book →
    found_within turns book (record { cell = cell; sheet = cell.sheet; is_name = false }) opened
    text ≡ named_in book cell text
unfolding named_in
named_is book cell turns opened text count closed =
    ap
    (λ n. found_within n book (record { cell = cell; sheet = cell.sheet; is_name = false }) opened
    text)
    count
    ∙ ap
    (λ o. found_within (suc (length book.names)) book
    (record { cell = cell; sheet = cell.sheet; is_name = false }) o text)
    closed
