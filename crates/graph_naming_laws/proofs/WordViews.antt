-- What a word is as a Word.
use Rattle.std.proofs.Common.{◌≡◌, ◌∙◌, ◌+◌, ◌<◌, ◌⊎◌, ◌&&◌, ◌||◌, ℕ, Bool, true, false, cond, eqb}
use Rattle.std.proofs.Common.{not, List, [], ◌∷◌, ◌++◌, length, drop, Option, Some, None, refl, sym}
use Rattle.std.proofs.Common.{ap, subst, arith, inl, inr, append_assoc, length-append}
use Rattle.std.specs.Prelude.{◌==◌, ℤ}
use Rattle.std.specs.List.{prefix_len, list_all, list_any, flat_map}
use Rattle.std.proofs.lemmas.Bool.Decides.{nat_tests}
use Rattle.std.proofs.lemmas.List.Folds.{list_all-append}
use Rattle.cell_refs.specs.declared.dimensions.Dimensions.{Dimensions}
use Rattle.formula_shift.specs.declared.corner.Corner.{Corner}
use Rattle.formula_shift.specs.declared.reference.Reference.{Reference}
use Rattle.formula_shift.specs.Areas.{area_by}
use Rattle.formula_shift.specs.Words.{area_between, last_byte, is_elsewhere, corner_of}
use Rattle.formula_shift.specs.Words.{word_reference, same_kind, first_byte, moved, joined_pieces}
use Rattle.formula_shift.specs.Words.{shifted}
use Rattle.formula_shift.specs.Pieces.{is_word_byte}
use Rattle.formula_shift.specs.References.{alone, range_of}
use Rattle.formula_shift.specs.Relocation.{is_name_before, image}
use Rattle.graph_naming_laws.proofs.Errors.{Skips}
use Rattle.graph_naming_laws.proofs.Moves.{word_stays, reference_moved, same_front}
use Rattle.formula_shift.proofs.Recutting.{begins}
use Rattle.formula_shift.proofs.Joining.{both_true}
use Rattle.formula_tokens.specs.Tokens.{word, sign, is_name_byte, is_blank_byte, tokens}
use Rattle.graph_naming_laws.specs.OwnSheet.{StandingWord, is_some_reference, is_wide_byte}
use Rattle.graph_naming_laws.specs.OwnSheet.{is_one_word}
use Rattle.graph_naming_laws.proofs.Corners.{all_tell, is_no_colon, is_corner_byte, corner_bytes}
use Rattle.graph_naming_laws.proofs.Corners.{corner_some, reference_alone, reference_around}
use Rattle.graph_naming_laws.proofs.Corners.{colon_any}
use Rattle.graph_naming_laws.proofs.Passing.{reference_area, word_area, AreAlike, Passes}
use Rattle.graph_naming_laws.proofs.Passing.{passes_free, skips_pass, whole_word, no_word_first}
use Rattle.graph_naming_laws.proofs.Passing.{wide_word, wide_corner, first_alike}
use Rattle.graph_naming_laws.proofs.FirstTokens.{word_tokens, other_token}
use Rattle.graph_naming_laws.proofs.Standing.{words_in, word_step}
use Rattle.graph_naming_laws.proofs.Tests.{neither, is_it}

-- the area of a word alone, where these bytes are beside it
abbrev pub alone_area : Option ℕ → Option ℕ → List ℕ → List Dimensions
alone_area before behind w =
    cond (is_elsewhere before) []
    (reference_area (cond (is_name_before behind) None (alone (corner_of w))))

-- the reference that a word alone is before this byte
abbrev pub alone_reference : Option ℕ → List ℕ → Option Reference
alone_reference behind w = cond (is_name_before behind) None (alone (corner_of w))

-- a word alone stays where it is no reference, and becomes what this moves to where it is one
abbrev pub MovesAlone : ℤ × ℤ → List ℕ → List ℕ → Type 0
MovesAlone offset w rest =
    ((alone_reference (first_byte rest) w ≡ None)
    × (moved (w ++ rest) offset ≡ w ++ moved rest offset))
    ⊎ ((r : Reference) × (alone_reference (first_byte rest) w ≡ Some r)
    × (moved (w ++ rest) offset
    ≡ joined_pieces (image (shifted offset r)) ++ moved rest offset))

-- a word without a colon behind it
pub record Single (before : Option ℕ) (w rest : List ℕ) : Type 0 where
  pub no_colon : begins (λ b. b == 58) rest ≡ false
  pub passes : Passes before (w ++ rest) None rest (alone_area before (first_byte rest) w)
  pub moves : (offset : ℤ × ℤ) → MovesAlone offset w rest

-- a word with a colon and another word behind it
pub record Ranged (before : Option ℕ) (w rest : List ℕ) : Type 0 where
  pub second : List ℕ
  pub left : List ℕ
  pub a : Corner
  pub b : Corner
  pub rest_is : rest ≡ 58 ∷ (second ++ left)
  pub first_is : corner_of w ≡ Some a
  pub second_is : corner_of second ≡ Some b
  pub same : same_kind a b ≡ true
  pub tokens_are : tokens rest ≡ sign 58 ∷ word second ∷ tokens left
  pub no_name : is_name_before (first_byte left) ≡ false
  pub passes : Passes before (w ++ rest) None left
      (cond (is_elsewhere before) [] (area_between a b ∷ []))
  pub shorter : length left < length rest
  pub stops : begins is_name_byte left ≡ false
  pub moves : (offset : ℤ × ℤ) →
      moved (w ++ rest) offset
      ≡ joined_pieces (image (shifted offset (record { first = a; second = Some b })))
      ++ moved left offset

name_no_colon : (b : ℕ) → is_name_byte b ≡ true → is_no_colon b ≡ true
name_no_colon b is = grind (arith, nat_tests)

-- behind a Word stand the areas of the rest
word_passes : (before : Option ℕ) (u rest : List ℕ) → 0 < length u →
    list_all is_word_byte u ≡ true → begins is_word_byte rest ≡ false →
    Passes before (u ++ rest) None rest
    (word_area (record { before = before; bytes = u; behind = first_byte rest }))
word_passes before u rest some all stops =
    let words = word_step before u rest some all stops in
    let here : StandingWord = record { before = before; bytes = u; behind = first_byte rest } in
    passes_free before (u ++ rest) (last_byte before u) rest (word_area here) stops
    (record {
      sums = ap (λ ws. flat_map word_area ws) words;
      alike = λ h. (both_true (is_one_word here)
          (list_all is_one_word (words_in (last_byte before u) rest))
          (sym (ap (list_all is_one_word) words) ∙ h)).1;
    })

no_areas : (before behind : Option ℕ) (w : List ℕ) → corner_of w ≡ None →
    [] ≡ alone_area before behind w
no_areas before behind w none =
    by_tests (is_elsewhere before) (is_name_before behind)
    ∙ ap (λ o. cond (is_elsewhere before) []
    (reference_area (cond (is_name_before behind) None (alone o)))) (sym none) where
      by_tests : (s t : Bool) → [] ≡ cond s [] (reference_area (cond t None (alone None)))
      by_tests true t = refl
      by_tests false true = refl
      by_tests false false = refl

single_word : (before : Option ℕ) (w rest : List ℕ) → 0 < length w →
    list_all is_name_byte w ≡ true → list_all is_word_byte w ≡ true →
    begins is_word_byte rest ≡ false →
    Passes before (w ++ rest) None rest (alone_area before (first_byte rest) w)
single_word before w rest some names all stops =
    subst (λ r. Passes before (w ++ rest) None rest (cond (is_elsewhere before) []
    (reference_area (cond (is_name_before (first_byte rest)) None r))))
    (reference_alone w (all_tell is_name_byte is_no_colon name_no_colon w names))
    (word_passes before w rest some all stops)

-- where a Word without a colon goes
single_moves : (offset : ℤ × ℤ) (w rest : List ℕ) → 0 < length w →
    list_all is_name_byte w ≡ true → list_all is_word_byte w ≡ true →
    begins is_word_byte rest ≡ false → MovesAlone offset w rest
single_moves offset w rest some names all stops =
    by_reference (alone_reference (first_byte rest) w) refl where
      same : cond (is_name_before (first_byte rest)) None (word_reference w)
          ≡ alone_reference (first_byte rest) w
      same = ap (cond (is_name_before (first_byte rest)) None)
          (reference_alone w (all_tell is_name_byte is_no_colon name_no_colon w names))

      by_reference : (o : Option Reference) → alone_reference (first_byte rest) w ≡ o →
          MovesAlone offset w rest
      by_reference None is = inl (is, word_stays offset w rest some all stops (same ∙ is))
      by_reference (Some r) is =
          inr (r, is, reference_moved offset w rest r some all stops (same ∙ is))

-- a word with a wide byte stays
wide_moves : (before : Option ℕ) (offset : ℤ × ℤ) (w rest : List ℕ)
    (skips : Skips before (w ++ rest) rest) →
    corner_of w ≡ None → MovesAlone offset w rest
wide_moves before offset w rest skips none =
    inl (
      ap (λ c. cond (is_name_before (first_byte rest)) None (alone c)) none
          ∙ by_test (is_name_before (first_byte rest)),
      skips.stays offset
          ∙ ap (λ t. t ++ moved rest offset) (same_front skips.bytes w rest (sym skips.text_is)),
    ) where
      by_test : (t : Bool) → cond t None (alone None) ≡ None
      by_test true = refl
      by_test false = refl

-- a Word with a colon is a reference that touches no wide byte, and no name ends behind it
colon_reference : (t : Bool) (o : Option Reference) (colon touches : Bool) → colon ≡ true →
    cond (is_some_reference (cond t None o)) (not touches) (not colon) ≡ true →
    (r : Reference) × (o ≡ Some r) × (t ≡ false) × (touches ≡ false)
colon_reference true o true touches is one = absurd (cc)
colon_reference false None true touches is one = absurd (cc)
colon_reference false (Some r) true true is one = absurd (cc)
colon_reference false (Some r) true false is one = (r, refl, refl, refl)
colon_reference t o false touches is one = absurd (cc)

range_corners : (o p : Option Corner) (r : Reference) → range_of o p ≡ Some r →
    (a : Corner) × (b : Corner) × (o ≡ Some a) × (p ≡ Some b) × (same_kind a b ≡ true)
    × (r ≡ record { first = a; second = Some b })
range_corners (Some a) (Some b) r is = by_test (same_kind a b) refl is where
  by_test : (t : Bool) → same_kind a b ≡ t →
      cond t (Some (record { first = a; second = Some b })) None ≡ Some r →
      (c : Corner) × (d : Corner) × (Some a ≡ Some c) × (Some b ≡ Some d)
      × (same_kind c d ≡ true) × (r ≡ record { first = c; second = Some d })
  by_test true same is = (a, b, refl, refl, same, cc)
  by_test false same is = absurd (cc)
range_corners (Some a) None r is = absurd (cc)
range_corners None p r is = absurd (cc)

pub corner_name : (b : ℕ) → is_corner_byte b ≡ true → is_name_byte b ≡ true
corner_name b is = grind (arith, nat_tests)

corner_no_blank : (b : ℕ) → is_corner_byte b ≡ true → is_blank_byte b ≡ false
corner_no_blank b is = grind (arith, nat_tests)

-- what begins with no byte of a Word and with no wide one begins with none of a name
no_name_byte : (b : ℕ) → is_word_byte b ≡ false → is_wide_byte (Some b) ≡ false →
    is_name_byte b ≡ false
no_name_byte b none wide = grind (arith, nat_tests)

no_name_first : (text : List ℕ) → begins is_word_byte text ≡ false →
    is_wide_byte (first_byte text) ≡ false → begins is_name_byte text ≡ false
no_name_first [] none wide = refl
no_name_first (b ∷ bs) none wide = no_name_byte b none wide

no_blanks : (second left : List ℕ) → 0 < length second →
    list_all is_corner_byte second ≡ true → prefix_len is_blank_byte (second ++ left) ≡ 0
no_blanks [] left some all = absurd (omega arith)
no_blanks (c ∷ cs) left some all =
    ap (λ t. cond t (1 + prefix_len is_blank_byte (cs ++ left)) 0)
    (corner_no_blank c (both_true (is_corner_byte c) (list_all is_corner_byte cs) all).0)

pub colon_tokens : (second left : List ℕ) → 0 < length second →
    list_all is_corner_byte second ≡ true → begins is_name_byte left ≡ false →
    tokens (58 ∷ (second ++ left)) ≡ sign 58 ∷ word second ∷ tokens left
colon_tokens second left some all stops =
    other_token 58 (second ++ left) refl
    ∙ ap (λ n. sign 58 ∷ tokens (drop n (second ++ left))) (no_blanks second left some all)
    ∙ ap (λ ts. sign 58 ∷ ts)
    (word_tokens second left some (all_tell is_corner_byte is_name_byte corner_name second all)
    stops)

ranged_area : (far named : Bool) (o : Option Reference) (r : Reference) (a b : Corner) →
    named ≡ false → o ≡ Some r → r ≡ record { first = a; second = Some b } →
    cond far [] (reference_area (cond named None o)) ≡ cond far [] (area_between a b ∷ [])
ranged_area far named o r a b plain is own =
    (λ i. cond far [] (reference_area (cond (plain i) None (is i))))
    ∙ ap (λ (f : Reference). cond far [] (area_by f.first f.second ∷ [])) own

-- the same, of a text and of areas that are the same
passes_as : (before : Option ℕ) (text u left : List ℕ) (areas same : List Dimensions) →
    text ≡ u ++ left → areas ≡ same → Passes before (u ++ left) None left areas →
    Passes before text None left same
passes_as before text u left areas same text_is are passes =
    subst (λ t. Passes before t None left same) (sym text_is)
    (subst (Passes before (u ++ left) None left) are passes)

goes_as : (offset : ℤ × ℤ) (text u left : List ℕ) (r same : Reference) → text ≡ u ++ left →
    r ≡ same →
    moved (u ++ left) offset ≡ joined_pieces (image (shifted offset r)) ++ moved left offset →
    moved text offset ≡ joined_pieces (image (shifted offset same)) ++ moved left offset
goes_as offset text u left r same text_is are goes =
    ap (λ t. moved t offset) text_is ∙ goes
    ∙ ap (λ r. joined_pieces (image (shifted offset r)) ++ moved left offset) are

ranged_word : (before : Option ℕ) (w r : List ℕ) → 0 < length w →
    list_all is_name_byte w ≡ true → list_all is_word_byte w ≡ true →
    AreAlike before (w ++ 58 ∷ r) → Ranged before w (58 ∷ r)
ranged_word before w r some names all alike =
    let whole = whole_word (w ++ 58 ∷ []) r in
    let u = w ++ 58 ∷ whole.more in
    let text_is : w ++ 58 ∷ r ≡ u ++ whole.rest =
    ap (λ t. w ++ 58 ∷ t) whole.text_is
    ∙ sym (append_assoc w (58 ∷ whole.more) whole.rest) in
    let in_word : list_all is_word_byte u ≡ true =
    list_all-append is_word_byte w (58 ∷ whole.more) ∙ (λ i. all i && whole.in_word i) in
    let longer : 0 < length u = grind (arith, length-append w (58 ∷ whole.more)) in
    let words = ap (words_in before) text_is
    ∙ word_step before u whole.rest longer in_word whole.stops in
    let one = first_alike _ _ (words_in before (w ++ 58 ∷ r)) words alike in
    let found = colon_reference (is_name_before (first_byte whole.rest)) (word_reference u)
    (list_any (λ b. b == 58) u) (is_wide_byte before || is_wide_byte (first_byte whole.rest))
    (colon_any w whole.more) one in
    let no_colon = all_tell is_name_byte is_no_colon name_no_colon w names in
    let corners = range_corners (corner_of w) (corner_of whole.more) found.0
    (sym (reference_around w whole.more no_colon) ∙ found.1) in
    let nonempty = corner_some whole.more corners.1 corners.3 in
    let bytes = corner_bytes whole.more corners.1 corners.3 in
    let stops : begins is_name_byte whole.rest ≡ false =
    no_name_first whole.rest whole.stops
    (neither (is_wide_byte before) (is_wide_byte (first_byte whole.rest)) found.3).1 in
    let rest_is : 58 ∷ r ≡ 58 ∷ (whole.more ++ whole.rest) = ap (λ t. 58 ∷ t) whole.text_is in
    let area : word_area (record {
      before = before;
      bytes = u;
      behind = first_byte whole.rest;
    }) ≡ cond (is_elsewhere before) [] (area_between corners.0 corners.1 ∷ []) =
    ranged_area (is_elsewhere before) (is_name_before (first_byte whole.rest)) (word_reference u)
    found.0 corners.0 corners.1 found.2 found.1 corners.5 in
    record {
      second = whole.more;
      left = whole.rest;
      a = corners.0;
      b = corners.1;
      rest_is = rest_is;
      first_is = corners.2;
      second_is = corners.3;
      same = corners.4;
      tokens_are = ap tokens rest_is ∙ colon_tokens whole.more whole.rest nonempty bytes stops;
      no_name = found.2;
      passes = passes_as before (w ++ 58 ∷ r) u whole.rest
          (word_area (record { before = before; bytes = u; behind = first_byte whole.rest }))
          (cond (is_elsewhere before) [] (area_between corners.0 corners.1 ∷ [])) text_is area
          (word_passes before u whole.rest longer in_word whole.stops);
      shorter = omega (arith, ap length rest_is, length-append whole.more whole.rest);
      stops = stops;
      moves = λ offset. goes_as offset (w ++ 58 ∷ r) u whole.rest found.0
          (record { first = corners.0; second = Some corners.1 }) text_is corners.5
          (reference_moved offset u whole.rest found.0 longer in_word whole.stops
          (λ i. cond (found.2 i) None (found.1 i)));
    }

pub word_view : (before : Option ℕ) (w rest : List ℕ) → 0 < length w →
    list_all is_name_byte w ≡ true → begins is_name_byte rest ≡ false →
    AreAlike before (w ++ rest) → Single before w rest ⊎ Ranged before w rest
word_view before w rest some names stops alike =
    by_wide (list_all is_word_byte w) refl where
      by_rest : list_all is_word_byte w ≡ true → (r : List ℕ) → rest ≡ r →
          Single before w rest ⊎ Ranged before w rest
      by_rest all [] is =
          inl (record {
            no_colon = ap (begins (λ b. b == 58)) is;
            passes = single_word before w rest some names all (ap (begins is_word_byte) is);
            moves = λ offset. single_moves offset w rest some names all
                (ap (begins is_word_byte) is);
          })
      by_rest all (c ∷ cs) is = by_colon (eqb c 58) refl where
        by_colon : (t : Bool) → eqb c 58 ≡ t → Single before w rest ⊎ Ranged before w rest
        by_colon false none =
            let no_colon : begins (λ b. b == 58) rest ≡ false =
            ap (begins (λ b. b == 58)) is ∙ none in
            inl (record {
              no_colon = no_colon;
              passes = single_word before w rest some names all
                  (no_word_first rest stops no_colon);
              moves = λ offset. single_moves offset w rest some names all
                  (no_word_first rest stops no_colon);
            })
        by_colon true colon =
            let rest_is : 58 ∷ cs ≡ rest = ap (λ c. c ∷ cs) (sym (is_it c 58 colon)) ∙ sym is in
            inr (subst (Ranged before w) rest_is
            (ranged_word before w cs some names all
            (subst (λ t. AreAlike before (w ++ t)) (sym rest_is) alike)))

      by_wide : (t : Bool) → list_all is_word_byte w ≡ t →
          Single before w rest ⊎ Ranged before w rest
      by_wide true all = by_rest all rest refl
      by_wide false wide =
          let found = wide_word before w rest names stops wide alike in
          inl (record {
            no_colon = found.1;
            passes = subst (Passes before (w ++ rest) None rest)
                (no_areas before (first_byte rest) w (wide_corner w wide))
                (passes_free before (w ++ rest) found.0.after rest []
                (no_word_first rest stops found.1)
                (skips_pass before (w ++ rest) rest found.0));
            moves = λ offset. wide_moves before offset w rest found.0 (wide_corner w wide);
          })
