-- What is found around colons is made a range.
use Rattle.std.proofs.Common.{◌≡◌, ℕ, ◌+◌, ◌<◌, ◌≤◌, List, [], ◌∷◌, ◌++◌, length, ◌-◌, take, drop}
use Rattle.std.proofs.Common.{refl, sym, ap, ◌∙◌, arith, inl, inr, Bool, true, false, subst}
use Rattle.std.proofs.Common.{append_assoc, Option, Some, None, ◌==◌, ◌&&◌, length-append}
use Rattle.std.specs.Prelude.{codes, if◌then◌else◌, map, Result, Ok, Err, OnOk, IfErr}
use Rattle.std.proofs.lemmas.Bool.{eqb-true, eq-eqb}
use Rattle.formula_tokens.specs.Items.{PlaceText, NamedText, ItemText, says, calls, opens, closes}
use Rattle.formula_tokens.specs.Items.{colon, apart, unread}
use Rattle.xlsx_graph.specs.Naming.{Found, weight, areas_weight, sheets_under, ranged, ranged_on}
use Rattle.xlsx_graph.specs.Naming.{range_area, range_or_both, range_length, joined_areas}
use Rattle.xlsx_graph.specs.Naming.{both_found, word_found, are_areas, joined_pair, unvalued}
use Rattle.xlsx_graph.specs.Naming.{place_alone, range_found, is_place_asked, closes_next}
use Rattle.xlsx_graph.specs.Naming.{mention_found}
use Rattle.xlsx_graph.specs.Kept.{Kept, Adds, IsBeyond, Spends, GivesBack, TellsKept, IsRanging}
use Rattle.xlsx_graph.specs.Kept.{WhenTooLarge, Gives}
use Rattle.book_names.specs.Book.{Book}
use Rattle.xlsx_graph.specs.declared.before.Before.{Before}
use Rattle.xlsx_graph.specs.declared.error.NamingError.{NamingError}
use Rattle.xlsx_graph.specs.declared.error.NamingError.TheVariants.{TooLarge, OutOfMemory}
use Rattle.xlsx_graph.specs.declared.reader.Reader.{Reader}
use Rattle.xlsx_graph.specs.declared.findings.Mark.{Mark}
use Rattle.xlsx_graph.specs.declared.named.BookArea.{BookArea}
use Rattle.xlsx_graph.specs.declared.named.Cause.TheVariants.{NoRange}
use Rattle.xlsx_graph.proofs.Adding.{adds_both, beyond_first, beyond_second, weight-both}

-- two parts, the room of the first given back
pub ranging : (kept first given now : Kept) (start middle : Mark) (a b : Found) →
    TellsKept start kept → Adds kept first a → TellsKept middle first
    → GivesBack first given start →
    Adds given now b → IsRanging kept middle now a b
ranging kept first given now start middle a b begins one is_middle gives two = record {
  areas = two.areas ∙ ap (λ xs. xs ++ b.areas) (gives.areas ∙ one.areas);
  words = two.words ∙ ap (λ xs. xs ++ b.words) (gives.words ∙ one.words);
  named = two.named ∙ gives.named ∙ begins.named;
  read = omega (arith, two.read, gives.read, one.read);
  opened = two.opened ∙ gives.opened ∙ one.opened;
  first_areas =
      is_middle.areas ∙ ap length one.areas ∙ length-append kept.areas a.areas;
  first_words =
      is_middle.words ∙ ap length one.words ∙ length-append kept.words a.words;
  first_named = ap (λ n. n + weight a) is_middle.named ∙ one.named;
}

-- an area that two are joined to lies on the sheets of either
record Joins (xs ys : List BookArea) (area : BookArea) : Type 0 where
  first : areas_weight xs ≡ sheets_under area
  second : areas_weight ys ≡ sheets_under area

chosen : (t : Bool) (z area : BookArea) → (if t then Some z else None) ≡ Some area →
    (t ≡ true) × (z ≡ area)
chosen true z area e = (refl, cc)
chosen false z area e = absurd (cc)

both_true : (a b : Bool) → (a && b) ≡ true → (a ≡ true) × (b ≡ true)
both_true true true e = (refl, refl)
both_true true false e = absurd (cc)
both_true false b e = absurd (cc)

joins : (xs ys : List BookArea) (area : BookArea) → joined_areas xs ys ≡ Some area →
    Joins xs ys area
joins [] ys area e = absurd (cc)
joins (x ∷ []) [] area e = absurd (cc)
joins (x ∷ []) (y ∷ []) area e =
    let made = chosen ((x.first == y.first) && (x.last == y.last)) _ area e in
    let same = both_true (x.first == y.first) (x.last == y.last) made.0 in
    let first : x.first ≡ y.first = eqb-true x.first y.first same.0 in
    let last : x.last ≡ y.last = eqb-true x.last y.last same.1 in
    let area_first : x.first ≡ area.first = ap (λ (a : BookArea). a.first) made.1 in
    let area_last : x.last ≡ area.last = ap (λ (a : BookArea). a.last) made.1 in
    record { first = omega arith; second = omega arith }
joins (x ∷ []) (y ∷ z ∷ ys) area e = absurd (cc)
joins (x ∷ w ∷ xs) ys area e = absurd (cc)

-- the words of two parts that are areas alone
record AreAreas (a b : Found) : Type 0 where
  first : length a.words ≡ 0
  second : length b.words ≡ 0
  first_areas : length a.areas ≡ 1
  second_areas : length b.areas ≡ 1

areas_alone : (a b : Found) → are_areas a b ≡ true → AreAreas a b
areas_alone a b e =
    let three =
    both_true
    ((length a.areas == 1) && (length b.areas == 1) && (length a.words == 0))
    (length b.words == 0) e in
    let two =
    both_true ((length a.areas == 1) && (length b.areas == 1)) (length a.words == 0) three.0 in
    let one = both_true (length a.areas == 1) (length b.areas == 1) two.0 in
    record {
      first = eqb-true _ _ two.1;
      second = eqb-true _ _ three.1;
      first_areas = eqb-true _ _ one.0;
      second_areas = eqb-true _ _ one.1;
    }

-- an area that a range is
record MakesArea (a b : Found) (area : BookArea) : Type 0 where
  alone : AreAreas a b
  joined : joined_areas a.areas b.areas ≡ Some area

chosen_area : (t : Bool) (o : Option BookArea) (area : BookArea) →
    (if t then o else None) ≡ Some area → (t ≡ true) × (o ≡ Some area)
chosen_area true o area e = (refl, e)
chosen_area false o area e = absurd (cc)

makes : (a b : Found) (area : BookArea) → range_area a b ≡ Some area → MakesArea a b area
makes a b area e =
    let made = chosen_area (are_areas a b) (joined_areas a.areas b.areas) area e in
    record { alone = areas_alone a b made.0; joined = made.1 }

-- a range weighs no less than either part, and if it is an area, just as much
pub record Weighs (a b : Found) : Type 0 where
  pub first : weight a ≤ weight (ranged a b)
  pub second : weight b ≤ weight (ranged a b)
  pub read : (ranged a b).read ≡ a.read + b.read

weighs_by : (a b : Found) (o : Option BookArea) → range_area a b ≡ o → Weighs a b
weighs_by a b (Some area) e =
    let made = makes a b area e in
    let join = joins a.areas b.areas area made.joined in
    let is : ranged a b ≡ record { areas = area ∷ []; words = []; read = a.read + b.read } =
    ap (range_or_both a b) e in
    let whole = ap weight is in
    record {
      first = omega (arith, whole, join.first, made.alone.first);
      second = omega (arith, whole, join.second, made.alone.second);
      read = ap (λ (f : Found). f.read) is;
    }
weighs_by a b None e =
    let is : ranged a b ≡ both_found (both_found a b) (word_found NoRange (codes ":")) =
    ap (range_or_both a b) e in
    let whole = ap weight is in
    record {
      first = omega (
        arith,
        whole,
        weight-both (both_found a b) (word_found NoRange (codes ":")),
        weight-both a b,
      );
      second = omega (
        arith,
        whole,
        weight-both (both_found a b) (word_found NoRange (codes ":")),
        weight-both a b,
      );
      read = omega (arith, ap (λ (f : Found). f.read) is);
    }

pub weighs : (a b : Found) → Weighs a b
weighs a b = weighs_by a b (range_area a b) refl

-- there is no room for the second part, where the room of the first is given back
pub beyond_end : (kept first given : Kept) (start : Mark) (a b : Found) → TellsKept start kept →
    Adds kept first a → GivesBack first given start → IsBeyond given b → IsBeyond kept (ranged a b)
beyond_end kept first given start a b begins one gives (inl lt) =
    let w = weighs a b in
    inl (omega (arith, w.second, lt, gives.named, begins.named))
beyond_end kept first given start a b begins one gives (inr lt) =
    let w = weighs a b in
    inr (omega (arith, w.read, lt, gives.read, one.read))

-- a part that is too large makes too large a range
pub ranged_beyond : (kept : Kept) (a b : Found) → IsBeyond kept a → IsBeyond kept (ranged a b)
ranged_beyond kept a b (inl lt) = let w = weighs a b in inl (omega (arith, w.first, lt))
ranged_beyond kept a b (inr lt) = let w = weighs a b in inr (omega (arith, w.read, lt))

-- a range that is too large is it with more mentions, too
pub beyond_on : (find : PlaceText → NamedText → Found) (kept : Kept) (f : Found)
    (items : List ItemText) → IsBeyond kept f → IsBeyond kept (ranged_on find f items)
beyond_on find kept f [] h = h
beyond_on find kept f (colon ∷ []) h = h
beyond_on find kept f (colon ∷ says p n ∷ items) h =
    beyond_on find kept (ranged f (find p n)) items (ranged_beyond kept f (find p n) h)
beyond_on find kept f (colon ∷ calls p w ∷ items) h = h
beyond_on find kept f (colon ∷ opens ∷ items) h = h
beyond_on find kept f (colon ∷ closes ∷ items) h = h
beyond_on find kept f (colon ∷ colon ∷ items) h = h
beyond_on find kept f (colon ∷ apart ∷ items) h = h
beyond_on find kept f (colon ∷ unread text ∷ items) h = h
beyond_on find kept f (says p n ∷ items) h = h
beyond_on find kept f (calls p w ∷ items) h = h
beyond_on find kept f (opens ∷ items) h = h
beyond_on find kept f (closes ∷ items) h = h
beyond_on find kept f (apart ∷ items) h = h
beyond_on find kept f (unread text ∷ items) h = h

-- without a colon and a mention in front nothing is joined
pub ranged_none : (find : PlaceText → NamedText → Found) (f : Found) (items : List ItemText) →
    range_length items ≡ 0 → ranged_on find f items ≡ f
ranged_none find f [] e = refl
ranged_none find f (colon ∷ []) e = refl
ranged_none find f (colon ∷ says p n ∷ items) e = absurd (omega (arith, e))
ranged_none find f (colon ∷ calls p w ∷ items) e = refl
ranged_none find f (colon ∷ opens ∷ items) e = refl
ranged_none find f (colon ∷ closes ∷ items) e = refl
ranged_none find f (colon ∷ colon ∷ items) e = refl
ranged_none find f (colon ∷ apart ∷ items) e = refl
ranged_none find f (colon ∷ unread text ∷ items) e = refl
ranged_none find f (says p n ∷ items) e = refl
ranged_none find f (calls p w ∷ items) e = refl
ranged_none find f (opens ∷ items) e = refl
ranged_none find f (closes ∷ items) e = refl
ranged_none find f (apart ∷ items) e = refl
ranged_none find f (unread text ∷ items) e = refl

-- what was joined so far, with what is joined yet, is the whole range
pub record SoFar (find : PlaceText → NamedText → Found) (kept : Kept) (f : Found)
    (all rest : List ItemText) (now : Kept) : Type 0 where
  pub joined : Found
  pub adds : Adds kept now joined
  pub whole : ranged_on find joined rest ≡ ranged_on find f all

-- one mention more is joined
pub so_far_step : (find : PlaceText → NamedText → Found) (kept : Kept) (f : Found)
    (all rest behind : List ItemText) (now given pushed new : Kept) (start middle : Mark)
    (p : PlaceText) (n : NamedText) → TellsKept start kept → SoFar find kept f all rest now →
    rest ≡ colon ∷ says p n ∷ behind → TellsKept middle now → GivesBack now given start →
    Adds given pushed (find p n) →
    ((k : Kept) (a b : Found) → TellsKept start k → IsRanging k middle pushed a b →
    Adds k new (ranged a b)) →
    SoFar find kept f all behind new
so_far_step find kept f all rest behind now given pushed new start middle p n begins so_far e
    is_middle gives adds joins_well = record {
      joined = ranged so_far.joined (find p n);
      adds =
          joins_well kept so_far.joined (find p n) begins
          (ranging kept now given pushed start middle so_far.joined (find p n) begins so_far.adds
          is_middle gives adds);
      whole = sym (ap (ranged_on find so_far.joined) e) ∙ so_far.whole;
    }

-- there is no room for a mention
pub so_far_beyond : (find : PlaceText → NamedText → Found) (kept : Kept) (f : Found)
    (all rest behind : List ItemText) (now given : Kept) (start : Mark)
    (p : PlaceText) (n : NamedText) → TellsKept start kept → SoFar find kept f all rest now →
    rest ≡ colon ∷ says p n ∷ behind → GivesBack now given start →
    IsBeyond given (find p n) → IsBeyond kept (ranged_on find f all)
so_far_beyond find kept f all rest behind now given start p n begins so_far e gives beyond =
    subst (IsBeyond kept) (sym (ap (ranged_on find so_far.joined) e) ∙ so_far.whole)
    (beyond_on find kept (ranged so_far.joined (find p n)) behind
    (beyond_end kept now given start so_far.joined (find p n) begins so_far.adds gives beyond))

-- there is no room for the range of a mention
pub so_far_joins_beyond : (find : PlaceText → NamedText → Found) (kept : Kept) (f : Found)
    (all rest behind : List ItemText) (now given pushed : Kept) (start middle : Mark)
    (p : PlaceText) (n : NamedText) → TellsKept start kept → SoFar find kept f all rest now →
    rest ≡ colon ∷ says p n ∷ behind → TellsKept middle now → GivesBack now given start →
    Adds given pushed (find p n) →
    ((k : Kept) (a b : Found) → TellsKept start k → IsRanging k middle pushed a b →
    IsBeyond k (ranged a b)) → IsBeyond kept (ranged_on find f all)
so_far_joins_beyond find kept f all rest behind now given pushed start middle p n begins so_far e
    is_middle gives adds beyond =
    subst (IsBeyond kept) (sym (ap (ranged_on find so_far.joined) e) ∙ so_far.whole)
    (beyond_on find kept (ranged so_far.joined (find p n)) behind
    (beyond kept so_far.joined (find p n) begins
    (ranging kept now given pushed start middle so_far.joined (find p n) begins so_far.adds
    is_middle gives adds)))

-- nothing is left to join
pub so_far_end : (find : PlaceText → NamedText → Found) (kept : Kept) (f : Found)
    (all rest : List ItemText) (now : Kept) → SoFar find kept f all rest now →
    range_length rest ≡ 0 → Adds kept now (ranged_on find f all)
so_far_end find kept f all rest now so_far e =
    subst (Adds kept now) (sym (ranged_none find so_far.joined rest e) ∙ so_far.whole)
    so_far.adds

take_front : (xs ys : List BookArea) → take (length xs) (xs ++ ys) ≡ xs
take_front [] ys = refl
take_front (x ∷ xs) ys = ap (λ zs. x ∷ zs) (take_front xs ys)

no_items : {A : Type 0} (xs : List A) → length xs ≡ 0 → xs ≡ []
no_items [] e = refl
no_items (x ∷ xs) e = absurd (omega (arith, e))

-- an area in place of two parts
pub adds_area : (kept now new : Kept) (start middle : Mark) (a b : Found) (area : BookArea) →
    TellsKept start kept → IsRanging kept middle now a b → Some area ≡ range_area a b →
    new.areas ≡ take start.areas now.areas ++ area ∷ [] → new.words ≡ now.words →
    new.named_left ≡ now.named_left → new.read_left ≡ now.read_left →
    new.opened ≡ now.opened → Adds kept new (ranged a b)
adds_area kept now new start middle a b area begins ranging is areas words named read opened =
    let made = makes a b area (sym is) in
    let join = joins a.areas b.areas area made.joined in
    let front : take start.areas now.areas ≡ kept.areas =
    ap (λ n. take n now.areas) begins.areas
    ∙ ap (take (length kept.areas)) (ranging.areas ∙ append_assoc kept.areas a.areas b.areas)
    ∙ take_front kept.areas (a.areas ++ b.areas) in
    let none : a.words ++ b.words ≡ [] =
    no_items (a.words ++ b.words)
    (length-append a.words b.words ∙ omega (arith, made.alone.first, made.alone.second)) in
    let made_is : ranged a b
    ≡ record { areas = area ∷ []; words = []; read = a.read + b.read } =
    ap (range_or_both a b) (sym is) in
    subst (Adds kept new) (sym made_is)
    (record {
      areas = areas ∙ ap (λ xs. xs ++ area ∷ []) front;
      words =
          words ∙ ranging.words ∙ append_assoc kept.words a.words b.words
          ∙ ap (λ xs. kept.words ++ xs) none;
      named = omega (arith, named, ranging.named, join.second, made.alone.second);
      read = omega (arith, read, ranging.read);
      opened = opened ∙ ranging.opened;
    })

-- both parts, where room for the first is taken again
adds_parts : (kept now spent : Kept) (start middle : Mark) (a b : Found) → TellsKept start kept →
    IsRanging kept middle now a b → Spends now spent (start.named - middle.named) →
    Adds kept spent (both_found a b)
adds_parts kept now spent start middle a b begins ranging spends = record {
  areas = spends.areas ∙ ranging.areas ∙ append_assoc kept.areas a.areas b.areas;
  words = spends.words ∙ ranging.words ∙ append_assoc kept.words a.words b.words;
  named = omega (
    arith,
    spends.named,
    ranging.named,
    ranging.first_named,
    begins.named,
    weight-both a b,
  );
  read = omega (arith, spends.read, ranging.read);
  opened = spends.opened ∙ ranging.opened;
}

-- both parts, and a word
pub adds_word : (kept now spent new : Kept) (start middle : Mark) (a b : Found) →
    TellsKept start kept → IsRanging kept middle now a b → None ≡ range_area a b →
    Spends now spent (start.named - middle.named) →
    Adds spent new (word_found NoRange (codes ":")) → Adds kept new (ranged a b)
adds_word kept now spent new start middle a b begins ranging is spends word =
    let made_is : ranged a b ≡ both_found (both_found a b) (word_found NoRange (codes ":")) =
    ap (range_or_both a b) (sym is) in
    subst (Adds kept new) (sym made_is)
    (adds_both kept spent new (both_found a b) (word_found NoRange (codes ":"))
    (adds_parts kept now spent start middle a b begins ranging spends) word)

-- there is no room for the first part beside the second
pub beyond_parts : (kept now : Kept) (start middle : Mark) (a b : Found) → TellsKept start kept →
    IsRanging kept middle now a b → None ≡ range_area a b →
    now.named_left < start.named - middle.named → IsBeyond kept (ranged a b)
beyond_parts kept now start middle a b begins ranging is lt =
    let made_is : ranged a b ≡ both_found (both_found a b) (word_found NoRange (codes ":")) =
    ap (range_or_both a b) (sym is) in
    subst (IsBeyond kept) (sym made_is)
    (beyond_first kept (both_found a b) (word_found NoRange (codes ":"))
    (inl (omega (
      arith,
      lt,
      ranging.named,
      ranging.first_named,
      begins.named,
      weight-both a b,
    ))))

-- there is no room for the word
pub beyond_word : (kept now spent : Kept) (start middle : Mark) (a b : Found) →
    TellsKept start kept → IsRanging kept middle now a b → None ≡ range_area a b →
    Spends now spent (start.named - middle.named) →
    IsBeyond spent (word_found NoRange (codes ":")) → IsBeyond kept (ranged a b)
beyond_word kept now spent start middle a b begins ranging is spends beyond =
    let made_is : ranged a b ≡ both_found (both_found a b) (word_found NoRange (codes ":")) =
    ap (range_or_both a b) (sym is) in
    subst (IsBeyond kept) (sym made_is)
    (beyond_second kept spent (both_found a b) (word_found NoRange (codes ":"))
    (adds_parts kept now spent start middle a b begins ranging spends) beyond)

-- ---- the area of a range that is kept

none_by : (t : Bool) (o : Option BookArea) → (t ≡ true → ⊥) → None ≡ (if t then o else None)
none_by true o never = absurd (never refl)
none_by false o never = refl

all_true : (p q r s : Bool) → p ≡ true → r ≡ true → s ≡ true → (p && q && r && s) ≡ q
all_true true true true true e f g = refl
all_true true false true true e f g = refl
all_true false q r s e f g = absurd (cc)
all_true true q false s e f g = absurd (cc)
all_true true q true false e f g = absurd (cc)

-- no area where there are more words than before
pub no_area_words : (kept now : Kept) (start middle : Mark) (a b : Found) → TellsKept start kept →
    IsRanging kept middle now a b → (length now.words ≡ start.words → ⊥) → None ≡ range_area a b
no_area_words kept now start middle a b begins ranging never =
    none_by (are_areas a b) (joined_areas a.areas b.areas)
    (λ e. let alone = areas_alone a b e in
    never (omega (
      arith,
      ap length ranging.words,
      length-append (kept.words ++ a.words) b.words,
      length-append kept.words a.words,
      begins.words,
      alone.first,
      alone.second,
    )))

-- no area where the first part has not one
pub no_area_first : (kept now : Kept) (start middle : Mark) (a b : Found) → TellsKept start kept →
    IsRanging kept middle now a b → (middle.areas - start.areas ≡ 1 → ⊥) → None ≡ range_area a b
no_area_first kept now start middle a b begins ranging never =
    none_by (are_areas a b) (joined_areas a.areas b.areas)
    (λ e. let alone = areas_alone a b e in
    never (omega (arith, ranging.first_areas, begins.areas, alone.first_areas)))

drop_front : (xs ys : List BookArea) → drop (length xs) (xs ++ ys) ≡ ys
drop_front [] ys = refl
drop_front (x ∷ xs) ys = drop_front xs ys

pair_is : (xs ys : List BookArea) → length xs ≡ 1 →
    joined_pair (xs ++ ys) ≡ (if length ys == 1 then joined_areas xs ys else None)
pair_is [] ys e = absurd (omega (arith, e))
pair_is (x ∷ []) [] e = refl
pair_is (x ∷ []) (y ∷ []) e = refl
pair_is (x ∷ []) (y ∷ z ∷ ys) e =
    none_by (length (y ∷ z ∷ ys) == 1) (joined_areas (x ∷ []) (y ∷ z ∷ ys))
    (λ is. omega (arith, eqb-true (length (y ∷ z ∷ ys)) 1 is))
pair_is (x ∷ w ∷ xs) ys e = absurd (omega (arith, e))

-- the area of two that stand behind a mark alone
pub area_of_pair : (kept now : Kept) (start middle : Mark) (a b : Found) (part : List BookArea) →
    TellsKept start kept → IsRanging kept middle now a b → length now.words ≡ start.words →
    middle.areas - start.areas ≡ 1 → part ≡ drop start.areas now.areas →
    joined_pair part ≡ range_area a b
area_of_pair kept now start middle a b part begins ranging words one is =
    let behind : part ≡ a.areas ++ b.areas =
    is ∙ ap (λ n. drop n now.areas) begins.areas
    ∙ ap (drop (length kept.areas)) (ranging.areas ∙ append_assoc kept.areas a.areas b.areas)
    ∙ drop_front kept.areas (a.areas ++ b.areas) in
    let first : length a.areas ≡ 1 = omega (arith, one, ranging.first_areas, begins.areas) in
    let sum : length a.words + length b.words ≡ 0 =
    omega (
      arith,
      ap length ranging.words,
      length-append (kept.words ++ a.words) b.words,
      length-append kept.words a.words,
      begins.words,
      words,
    ) in
    let alone : are_areas a b ≡ (length b.areas == 1) =
    all_true (length a.areas == 1) (length b.areas == 1) (length a.words == 0)
    (length b.words == 0) (eq-eqb (length a.areas) 1 first)
    (eq-eqb (length a.words) 0 (omega (arith, sum)))
    (eq-eqb (length b.words) 0 (omega (arith, sum))) in
    ap joined_pair behind ∙ pair_is a.areas b.areas first
    ∙ sym (ap (λ t. if t then joined_areas a.areas b.areas else None) alone)

-- ---- ranges of mentions

weight-alone : (xs : List BookArea) → areas_weight (map unvalued xs) ≡ areas_weight xs
weight-alone [] = refl
weight-alone (x ∷ xs) = omega (arith, weight-alone xs)

-- a mention that is too large is it with its range
range_beyond : (find : PlaceText → NamedText → Found) (first : Found) (items : List ItemText)
    (kept : Kept) (t : Bool) → IsBeyond kept first →
    IsBeyond kept (if t then place_alone first else ranged_on find first items)
range_beyond find first items kept false h = beyond_on find kept first items h
range_beyond find first items kept true (inl lt) =
    inl (omega (arith, weight-alone first.areas, lt))
range_beyond find first items kept true (inr lt) = inr lt

pub range_refused : (e : NamingError) (find : PlaceText → NamedText → Found) (before : Before)
    (first : Found) (items : List ItemText) (kept : Kept) → WhenTooLarge e (IsBeyond kept first) →
    WhenTooLarge e (IsBeyond kept (range_found find before first items))
range_refused OutOfMemory find before first items kept h = tt
range_refused TooLarge find before first items kept h =
    range_beyond find first items kept (is_place_asked before && closes_next items) h

-- a range that is no place alone
pub range_joined : (find : PlaceText → NamedText → Found) (before : Before) (first : Found)
    (items : List ItemText) → (is_place_asked before && closes_next items) ≡ false →
    ranged_on find first items ≡ range_found find before first items
range_joined find before first items e =
    sym (ap (λ t. if t then place_alone first else ranged_on find first items) e)

-- a mention whose place alone is asked for
pub range_alone : (find : PlaceText → NamedText → Found) (before : Before) (first : Found)
    (items : List ItemText) → (is_place_asked before && closes_next items) ≡ true →
    place_alone first ≡ range_found find before first items
range_alone find before first items e =
    sym (ap (λ t. if t then place_alone first else ranged_on find first items) e)

-- what the joins behind a mention answer
range_gives_by : {T : Type 0} (answer : Result T NamingError)
    (find : PlaceText → NamedText → Found) (before : Before) (first : Found)
    (items : List ItemText) (start : Mark) (old mid new : Kept) → TellsKept start old →
    Adds old mid first → (is_place_asked before && closes_next items) ≡ false →
    OnOk answer ((kept : Kept) (f : Found) → TellsKept start kept → Adds kept mid f →
    Adds kept new (ranged_on find f items)) →
    IfErr answer (λ e. WhenTooLarge e ((kept : Kept) (f : Found) → TellsKept start kept →
    Adds kept mid f → IsBeyond kept (ranged_on find f items))) →
    Gives answer old new (range_found find before first items)
range_gives_by (Ok x) find before first items start old mid new begins adds e ok large =
    subst (Adds old new) (range_joined find before first items e) (ok old first begins adds)
range_gives_by (Err TooLarge) find before first items start old mid new begins adds e ok large =
    subst (IsBeyond old) (range_joined find before first items e) (large old first begins adds)
range_gives_by (Err OutOfMemory) find before first items start old mid new begins adds e ok large =
    tt

pub range_gives : {T : Type 0} (answer : Result T NamingError) (turns : ℕ) (book : Book)
    (r : Reader) (opened own : List Bool) (before : Before) (first : Found)
    (items : List ItemText) (start : Mark) (old mid new : Kept) → own ≡ opened →
    TellsKept start old → Adds old mid first → (is_place_asked before && closes_next items)
    ≡ false →
    OnOk answer ((kept : Kept) (f : Found) → TellsKept start kept → Adds kept mid f →
    Adds kept new (ranged_on (mention_found turns book r own) f items)) →
    IfErr answer (λ e. WhenTooLarge e ((kept : Kept) (f : Found) → TellsKept start kept →
    Adds kept mid f → IsBeyond kept (ranged_on (mention_found turns book r own) f items))) →
    Gives answer old new (range_found (mention_found turns book r opened) before first items)
range_gives answer turns book r opened own before first items start old mid new same begins adds e
    ok large =
    subst
    (λ o. Gives answer old new (range_found (mention_found turns book r o) before first items))
    same
    (range_gives_by answer (mention_found turns book r own) before first items start old mid new
    begins adds e ok large)

-- refusals among the ends of a range
pub end_refused : (e : NamingError) (turns : ℕ) (book : Book) (r : Reader) (opened own : List Bool)
    (all rest behind : List ItemText) (entry now given : Kept) (start : Mark) (p : PlaceText)
    (n : NamedText) → own ≡ opened →
    ((kept : Kept) (f : Found) → TellsKept start kept → Adds kept entry f →
    SoFar (mention_found turns book r opened) kept f all rest now) →
    rest ≡ colon ∷ says p n ∷ behind → GivesBack now given start →
    WhenTooLarge e (IsBeyond given (mention_found turns book r own p n)) →
    WhenTooLarge e ((kept : Kept) (f : Found) → TellsKept start kept → Adds kept entry f →
    IsBeyond kept (ranged_on (mention_found turns book r opened) f all))
end_refused OutOfMemory turns book r opened own all rest behind entry now given start p n same
    so_far e gives h = tt
end_refused TooLarge turns book r opened own all rest behind entry now given start p n same so_far
    e gives h = λ kept f begins adds.
    so_far_beyond (mention_found turns book r opened) kept f all rest behind now given start p n
    begins (so_far kept f begins adds) e gives
    (subst (λ o. IsBeyond given (mention_found turns book r o p n)) same h)

pub join_refused : (e : NamingError) (turns : ℕ) (book : Book) (r : Reader) (opened own : List Bool)
    (all rest behind : List ItemText) (entry now given pushed : Kept) (start middle : Mark)
    (p : PlaceText) (n : NamedText) → own ≡ opened →
    ((kept : Kept) (f : Found) → TellsKept start kept → Adds kept entry f →
    SoFar (mention_found turns book r opened) kept f all rest now) →
    rest ≡ colon ∷ says p n ∷ behind → TellsKept middle now → GivesBack now given start →
    Adds given pushed (mention_found turns book r own p n) →
    WhenTooLarge e ((k : Kept) (a b : Found) → TellsKept start k → IsRanging k middle pushed a b →
    IsBeyond k (ranged a b)) →
    WhenTooLarge e ((kept : Kept) (f : Found) → TellsKept start kept → Adds kept entry f →
    IsBeyond kept (ranged_on (mention_found turns book r opened) f all))
join_refused OutOfMemory turns book r opened own all rest behind entry now given pushed start middle
    p n same so_far e is_middle gives pushes h = tt
join_refused TooLarge turns book r opened own all rest behind entry now given pushed start middle p
    n same so_far e is_middle gives pushes h = λ kept f begins adds.
    so_far_joins_beyond (mention_found turns book r opened) kept f all rest behind now given pushed
    start middle p n begins (so_far kept f begins adds) e is_middle gives
    (subst (λ o. Adds given pushed (mention_found turns book r o p n)) same pushes) h

-- one end more is joined, whichever part was kept
pub end_step : (turns : ℕ) (book : Book) (r : Reader) (opened own : List Bool)
    (all rest behind : List ItemText) (entry now given pushed new : Kept) (start middle : Mark)
    (p : PlaceText) (n : NamedText) → own ≡ opened →
    ((kept : Kept) (f : Found) → TellsKept start kept → Adds kept entry f →
    SoFar (mention_found turns book r opened) kept f all rest now) →
    rest ≡ colon ∷ says p n ∷ behind → TellsKept middle now → GivesBack now given start →
    Adds given pushed (mention_found turns book r own p n) →
    ((k : Kept) (a b : Found) → TellsKept start k → IsRanging k middle pushed a b →
    Adds k new (ranged a b)) → (kept : Kept) (f : Found) → TellsKept start kept →
    Adds kept entry f → SoFar (mention_found turns book r opened) kept f all behind new
end_step turns book r opened own all rest behind entry now given pushed new start middle p n same
    so_far e is_middle gives pushes joins_well kept f begins adds =
    so_far_step (mention_found turns book r opened) kept f all rest behind now given pushed new
    start middle p n begins (so_far kept f begins adds) e is_middle gives
    (subst (λ o. Adds given pushed (mention_found turns book r o p n)) same pushes) joins_well

-- the items behind a range stay as one end more is taken
pub behind_step : (rest behind : List ItemText) (p : PlaceText) (n : NamedText) →
    rest ≡ colon ∷ says p n ∷ behind →
    drop (range_length behind) behind ≡ drop (range_length rest) rest
behind_step rest behind p n e = sym (ap (λ is. drop (range_length is) is) e)

-- ---- what a join answers

pub spend_refused : (e : NamingError) (now : Kept) (start middle : Mark) →
    ((kept : Kept) (a b : Found) → TellsKept start kept → IsRanging kept middle now a b →
    None ≡ range_area a b) → now.named_left < start.named - middle.named →
    WhenTooLarge e ((kept : Kept) (a b : Found) → TellsKept start kept →
    IsRanging kept middle now a b → IsBeyond kept (ranged a b))
spend_refused OutOfMemory now start middle none lt = tt
spend_refused TooLarge now start middle none lt = λ kept a b begins is.
    beyond_parts kept now start middle a b begins is (none kept a b begins is) lt

pub word_ok : {T : Type 0} (answer : Result T NamingError) (now spent new : Kept)
    (start middle : Mark) →
    ((kept : Kept) (a b : Found) → TellsKept start kept → IsRanging kept middle now a b →
    None ≡ range_area a b) → Spends now spent (start.named - middle.named) →
    Gives answer spent new (word_found NoRange (codes ":")) →
    OnOk answer ((kept : Kept) (a b : Found) → TellsKept start kept →
    IsRanging kept middle now a b → Adds kept new (ranged a b))
word_ok (Ok x) now spent new start middle none spends adds = λ kept a b begins is.
    adds_word kept now spent new start middle a b begins is (none kept a b begins is) spends adds
word_ok (Err e) now spent new start middle none spends adds = tt

pub word_large : {T : Type 0} (answer : Result T NamingError) (now spent new : Kept)
    (start middle : Mark) →
    ((kept : Kept) (a b : Found) → TellsKept start kept → IsRanging kept middle now a b →
    None ≡ range_area a b) → Spends now spent (start.named - middle.named) →
    Gives answer spent new (word_found NoRange (codes ":")) →
    IfErr answer (λ e. WhenTooLarge e ((kept : Kept) (a b : Found) → TellsKept start kept →
    IsRanging kept middle now a b → IsBeyond kept (ranged a b)))
word_large (Ok x) now spent new start middle none spends h = tt
word_large (Err OutOfMemory) now spent new start middle none spends h = tt
word_large (Err TooLarge) now spent new start middle none spends h = λ kept a b begins is.
    beyond_word kept now spent start middle a b begins is (none kept a b begins is) spends h

-- what was found behind a mark is asked for its place alone
pub adds_alone : (kept old new : Kept) (start : Mark) (f : Found) → TellsKept start kept →
    Adds kept old f → (start.areas ≤ length old.areas →
    new.areas ≡ take start.areas old.areas ++ map unvalued (drop start.areas old.areas)) →
    new.words ≡ old.words → new.named_left ≡ old.named_left → new.read_left ≡ old.read_left →
    new.opened ≡ old.opened → Adds kept new (place_alone f)
adds_alone kept old new start f begins adds areas words named read opened =
    let size : start.areas ≤ length old.areas =
    omega (arith, begins.areas, ap length adds.areas, length-append kept.areas f.areas) in
    let front : take start.areas old.areas ≡ kept.areas =
    ap (λ n. take n old.areas) begins.areas ∙ ap (take (length kept.areas)) adds.areas
    ∙ take_front kept.areas f.areas in
    let back : drop start.areas old.areas ≡ f.areas =
    ap (λ n. drop n old.areas) begins.areas ∙ ap (drop (length kept.areas)) adds.areas
    ∙ drop_front kept.areas f.areas in
    record {
      areas =
          areas size ∙ ap (λ xs. xs ++ map unvalued (drop start.areas old.areas)) front
          ∙ ap (λ xs. kept.areas ++ map unvalued xs) back;
      words = words ∙ adds.words;
      named = omega (arith, named, adds.named, weight-alone f.areas);
      read = omega (arith, read, adds.read);
      opened = opened ∙ adds.opened;
    }
