-- What a formula names on its own sheet in front of a place, and that the rest is read alike.
use Rattle.std.proofs.Common.{◌≡◌, ◌∙◌, ◌<◌, ◌≤◌, ◌⊎◌, ◌&&◌, ◌||◌, ℕ, zero, suc, Bool, true, false}
use Rattle.std.proofs.Common.{cond, eqb, not, List, [], ◌∷◌, ◌++◌, length, take, drop, Option, Some}
use Rattle.std.proofs.Common.{None, refl, sym, ap, subst, arith, inl, inr, append_assoc}
use Rattle.std.proofs.Common.{length-drop, append-nil, length-append}
use Rattle.std.specs.Prelude.{◌==◌}
use Rattle.std.specs.List.{prefix_len, list_all, list_any, flat_map}
use Rattle.std.proofs.lemmas.Bool.Decides.{nat_tests}
use Rattle.std.proofs.lemmas.Grind.{flat_map-append}
use Rattle.std.proofs.lemmas.List.{take-append-drop}
use Rattle.std.proofs.lemmas.List.Folds.{list_all-append}
use Rattle.cell_refs.specs.declared.dimensions.Dimensions.{Dimensions}
use Rattle.formula_shift.specs.declared.corner.Corner.{Corner}
use Rattle.formula_shift.specs.declared.reference.Reference.{Reference}
use Rattle.formula_shift.specs.Areas.{area_by}
use Rattle.formula_shift.specs.Words.{last_byte, is_elsewhere, corner_of, word_reference}
use Rattle.formula_shift.specs.Words.{first_byte, moved}
use Rattle.formula_shift.specs.Pieces.{piece_kind, is_word_byte, is_other_byte}
use Rattle.formula_shift.specs.Relocation.{is_word, is_name_before}
use Rattle.formula_shift.proofs.Recutting.{begins, word_is}
use Rattle.formula_shift.proofs.Joining.{both_true}
use Rattle.formula_tokens.specs.Tokens.{is_name_byte}
use Rattle.graph_naming_laws.specs.OwnSheet.{StandingWord, reference_at, is_some_reference}
use Rattle.graph_naming_laws.specs.OwnSheet.{is_wide_byte, is_one_word}
use Rattle.graph_naming_laws.proofs.Corners.{all_tell, run_passes, colon_any, is_corner_byte}
use Rattle.graph_naming_laws.proofs.Corners.{corner_bytes, colon_no_reference, corner_in_word}
use Rattle.graph_naming_laws.proofs.Standing.{words_in, closed_step, other_step, word_step}
use Rattle.graph_naming_laws.proofs.Standing.{words_none}
use Rattle.graph_naming_laws.proofs.Errors.{is_none, Skips, skips_none, skips_other, run_over}
use Rattle.graph_naming_laws.proofs.Errors.{reference_none}
use Rattle.graph_naming_laws.proofs.Moves.{word_stays}

-- the area of a reference, if there is one
abbrev pub reference_area : Option Reference → List Dimensions
reference_area None = []
reference_area (Some r) = area_by r.first r.second ∷ []

-- the area that a Word names on the sheet of the formula
abbrev pub word_area : StandingWord → List Dimensions
word_area w = cond (is_elsewhere w.before) [] (reference_area (reference_at w))

-- the areas that a text names there, where this byte is before it
abbrev pub areas_in : Option ℕ → List ℕ → List Dimensions
areas_in before text = flat_map word_area (words_in before text)

-- the Words of a text are cut as tokens are
abbrev pub AreAlike : Option ℕ → List ℕ → Type 0
AreAlike before text = list_all is_one_word (words_in before text) ≡ true

-- from one place of a text on to another stand these areas, and the rest is read alike
pub record Passes (before : Option ℕ) (text : List ℕ) (after : Option ℕ) (rest : List ℕ)
    (areas : List Dimensions) : Type 0 where
  pub sums : areas_in before text ≡ areas ++ areas_in after rest
  pub alike : AreAlike before text → AreAlike after rest

pub passes_on : (before : Option ℕ) (text : List ℕ) (after : Option ℕ) (rest : List ℕ)
    (areas : List Dimensions) (last : Option ℕ) (left : List ℕ) (more : List Dimensions) →
    Passes before text after rest areas → Passes after rest last left more →
    Passes before text last left (areas ++ more)
passes_on before text after rest areas last left more first second = record {
  sums = first.sums ∙ ap (λ s. areas ++ s) second.sums
      ∙ sym (append_assoc areas more (areas_in last left));
  alike = λ h. second.alike (first.alike h);
}

-- the Words are the same where another byte is before the place
pub passes_same : (before : Option ℕ) (text : List ℕ) (after : Option ℕ) (rest : List ℕ) →
    words_in before text ≡ words_in after rest → Passes before text after rest []
passes_same before text after rest same = record {
  sums = ap (flat_map word_area) same;
  alike = λ h. sym (ap (list_all is_one_word) same) ∙ h;
}

none_area : (before : Option ℕ) (o : Option Reference) → not (is_some_reference o) ≡ true →
    cond (is_elsewhere before) [] (reference_area o) ≡ []
none_area before None none = by_test (is_elsewhere before) where
  by_test : (t : Bool) → cond {A = List Dimensions} t [] [] ≡ []
  by_test true = refl
  by_test false = refl
none_area before (Some r) none = absurd (cc)

none_areas : (front : List StandingWord) → list_all is_none front ≡ true →
    flat_map word_area front ≡ []
none_areas [] none = refl
none_areas (w ∷ ws) none =
    let both = both_true (is_none w) (list_all is_none ws) none in
    ap (λ areas. areas ++ flat_map word_area ws) (none_area w.before (reference_at w) both.0)
    ∙ none_areas ws both.1

pub skips_pass : (before : Option ℕ) (text rest : List ℕ) (skips : Skips before text rest) →
    Passes before text skips.after rest []
skips_pass before text rest skips =
    let all = ap (list_all is_one_word) skips.words_are
    ∙ list_all-append is_one_word skips.front (words_in skips.after rest) in record {
      sums = ap (flat_map word_area) skips.words_are
          ∙ flat_map-append word_area skips.front (words_in skips.after rest)
          ∙ ap (λ areas. areas ++ areas_in skips.after rest)
          (none_areas skips.front skips.nothing);
      alike = λ h. (both_true (list_all is_one_word skips.front)
          (list_all is_one_word (words_in skips.after rest)) (sym all ∙ h)).1;
    }

-- what is before a text that begins with no Word doesn't matter
pub before_free : (x y : Option ℕ) (text : List ℕ) → begins is_word_byte text ≡ false →
    words_in x text ≡ words_in y text
before_free x y [] none = words_none x ∙ sym (words_none y)
before_free x y (b ∷ bs) none =
    let no_word : is_word (piece_kind b) ≡ false = word_is b ∙ none in
    closed_step x b bs (piece_kind b) refl no_word
    ∙ sym (closed_step y b bs (piece_kind b) refl no_word)

pub passes_free : (before : Option ℕ) (text : List ℕ) (after : Option ℕ) (rest : List ℕ)
    (areas : List Dimensions) → begins is_word_byte rest ≡ false →
    Passes before text after rest areas → Passes before text None rest areas
passes_free before text after rest areas none passes = record {
  sums = passes.sums
      ∙ ap (λ ws. areas ++ flat_map word_area ws) (before_free after None rest none);
  alike = λ h. sym (ap (list_all is_one_word) (before_free after None rest none))
      ∙ passes.alike h;
}

-- ---- Words with colons

-- the first Word of those that are alike
pub first_alike : (w : StandingWord) (ws all : List StandingWord) → all ≡ w ∷ ws →
    list_all is_one_word all ≡ true → is_one_word w ≡ true
first_alike w ws all are alike =
    (both_true (is_one_word w) (list_all is_one_word ws)
    (sym (ap (list_all is_one_word) are) ∙ alike)).0

-- the Word that a text begins with that begins with such a front
pub record Whole (front text : List ℕ) : Type 0 where
  pub more : List ℕ
  pub rest : List ℕ
  pub text_is : text ≡ more ++ rest
  pub in_word : list_all is_word_byte more ≡ true
  pub stops : begins is_word_byte rest ≡ false

pub whole_word : (front text : List ℕ) → Whole front text
whole_word front text =
    let n = prefix_len is_word_byte text in record {
      more = take n text;
      rest = drop n text;
      text_is = sym (take-append-drop n text);
      in_word = run_passes is_word_byte text;
      stops = run_over is_word_byte text;
    }

no_colon_by : (t : Bool) (o : Option Reference) (touches : Bool) → o ≡ None →
    cond (is_some_reference o) (not touches) (not t) ≡ true → t ≡ false
no_colon_by true None touches none one = absurd (cc)
no_colon_by false o touches none one = refl
no_colon_by true (Some r) touches none one = absurd (cc)

-- no Word begins with a colon
pub no_colon_first : (before : Option ℕ) (text : List ℕ) → AreAlike before text →
    begins (λ b. b == 58) text ≡ false
no_colon_first before [] alike = refl
no_colon_first before (b ∷ bs) alike = by_test (eqb b 58) refl where
  by_test : (t : Bool) → eqb b 58 ≡ t → t ≡ false
  by_test false is = refl
  by_test true is =
      let b_is : b ≡ 58 = grind (arith, nat_tests) in
      let whole = whole_word (58 ∷ []) bs in
      let text_is : b ∷ bs ≡ (58 ∷ whole.more) ++ whole.rest =
      λ i. b_is i ∷ whole.text_is i in
      let words = ap (words_in before) text_is
      ∙ word_step before (58 ∷ whole.more) whole.rest (omega arith) whole.in_word whole.stops in
      let one = first_alike _ _ (words_in before (b ∷ bs)) words alike in
      no_colon_by true (cond (is_name_before (first_byte whole.rest)) None
      (word_reference (58 ∷ whole.more)))
      (is_wide_byte before || is_wide_byte (first_byte whole.rest))
      (reference_none (first_byte whole.rest) (58 ∷ whole.more) (colon_no_reference whole.more))
      one

-- ---- words of other characters

-- a byte of a name that is none of a Word's is wide
pub wide_of : (b : ℕ) → is_name_byte b ≡ true → is_word_byte b ≡ false
    → is_wide_byte (Some b) ≡ true
wide_of b name none = grind (arith, nat_tests)

pub wide_other : (b : ℕ) → is_wide_byte (Some b) ≡ true → is_other_byte b ≡ true
wide_other b wide = grind (arith, nat_tests)

-- what begins with neither a name nor a colon begins with no Word
no_word_byte : (b : ℕ) → is_name_byte b ≡ false → eqb b 58 ≡ false → is_word_byte b ≡ false
no_word_byte b name colon = grind (arith, nat_tests)

pub no_word_first : (text : List ℕ) → begins is_name_byte text ≡ false →
    begins (λ b. b == 58) text ≡ false → begins is_word_byte text ≡ false
no_word_first [] name colon = refl
no_word_first (b ∷ bs) name colon = no_word_byte b name colon

-- a word that touches a wide byte is no reference, and has no colon
touching_none : (o : Option Reference) (colon touches : Bool) → touches ≡ true →
    cond (is_some_reference o) (not touches) (not colon) ≡ true →
    (not (is_some_reference o) ≡ true) × (colon ≡ false)
touching_none None true touches is one = absurd (cc)
touching_none None false touches is one = (refl, refl)
touching_none (Some r) colon true is one = absurd (cc)
touching_none (Some r) colon false is one = absurd (cc)

wide_before : (x y : Option ℕ) → is_wide_byte x ≡ true → (is_wide_byte x || is_wide_byte y) ≡ true
wide_before x y wide = ap (λ t. t || is_wide_byte y) wide

wide_behind : (x y : Option ℕ) → is_wide_byte y ≡ true → (is_wide_byte x || is_wide_byte y) ≡ true
wide_behind x y wide = ap (λ t. is_wide_byte x || t) wide ∙ by_test (is_wide_byte x) where
  by_test : (t : Bool) → (t || true) ≡ true
  by_test true = refl
  by_test false = refl

none_is : (o : Option Reference) → not (is_some_reference o) ≡ true → o ≡ None
none_is None none = refl
none_is (Some r) none = absurd (cc)

-- one Word more that is no reference where it stands
skips_none_word : (before : Option ℕ) (u text rest : List ℕ) → 0 < length u →
    list_all is_word_byte u ≡ true → begins is_word_byte text ≡ false →
    is_none (record { before = before; bytes = u; behind = first_byte text }) ≡ true →
    Skips (last_byte before u) text rest → Skips before (u ++ text) rest
skips_none_word before u text rest some all stops none skips = record {
  after = skips.after;
  front = record { before = before; bytes = u; behind = first_byte text } ∷ skips.front;
  bytes = u ++ skips.bytes;
  text_is = ap (λ t. u ++ t) skips.text_is ∙ sym (append_assoc u skips.bytes rest);
  stays = λ offset. word_stays offset u text some all stops
      (none_is (cond (is_name_before (first_byte text)) None (word_reference u)) none)
      ∙ ap (λ t. u ++ t) (skips.stays offset)
      ∙ sym (append_assoc u skips.bytes (moved rest offset));
  words_are = word_step before u text some all stops
      ∙ ap (λ ws. record { before = before; bytes = u; behind = first_byte text } ∷ ws)
      skips.words_are;
  nothing = λ i. none i && skips.nothing i;
}

-- the same of a text behind a part of it
skips_alike : (before : Option ℕ) (text rest : List ℕ) (skips : Skips before text rest) →
    AreAlike before text → AreAlike skips.after rest
skips_alike before text rest skips alike = (skips_pass before text rest skips).alike alike

-- a Word with a wide byte before it, before what begins no name
wide_last : (before : Option ℕ) (u rest : List ℕ) → 0 < length u →
    list_all is_word_byte u ≡ true → begins is_name_byte rest ≡ false → is_wide_byte before ≡ true →
    AreAlike before (u ++ rest) →
    Skips before (u ++ rest) rest × (begins (λ b. b == 58) rest ≡ false)
wide_last before u rest some all stops wide alike =
    let whole = whole_word u rest in
    let word = u ++ whole.more in
    let text_is : u ++ rest ≡ word ++ whole.rest =
    ap (λ t. u ++ t) whole.text_is ∙ sym (append_assoc u whole.more whole.rest) in
    let in_word : list_all is_word_byte word ≡ true =
    list_all-append is_word_byte u whole.more ∙ (λ i. all i && whole.in_word i) in
    let longer : 0 < length word = grind (arith, length-append u whole.more) in
    let words = ap (words_in before) text_is
    ∙ word_step before word whole.rest longer in_word whole.stops in
    let one = first_alike _ _ (words_in before (u ++ rest)) words alike in
    let none = touching_none
    (cond (is_name_before (first_byte whole.rest)) None (word_reference word))
    (list_any (λ b. b == 58) word)
    (is_wide_byte before || is_wide_byte (first_byte whole.rest))
    (wide_before before (first_byte whole.rest) wide) one in
    let colon : begins (λ b. b == 58) rest ≡ false =
    by_rest rest whole.more whole.rest whole.text_is none.1 whole.stops in
    let own_stops : begins is_word_byte rest ≡ false = no_word_first rest stops colon in
    let words' = word_step before u rest some all own_stops in
    let one' = first_alike _ _ (words_in before (u ++ rest)) words' alike in
    let none' = touching_none
    (cond (is_name_before (first_byte rest)) None (word_reference u))
    (list_any (λ b. b == 58) u) (is_wide_byte before || is_wide_byte (first_byte rest))
    (wide_before before (first_byte rest) wide) one' in (
      skips_none_word before u rest rest some all own_stops none'.0
          (skips_none (last_byte before u) rest),
      colon,
    ) where
      by_rest : (rest more after : List ℕ) → rest ≡ more ++ after →
          list_any (λ b. b == 58) (u ++ more) ≡ false → begins is_word_byte after ≡ false →
          begins (λ b. b == 58) rest ≡ false
      by_rest [] more after is none stops = refl
      by_rest (b ∷ bs) [] after is none stops =
          let begin : begins is_word_byte (b ∷ bs) ≡ false = ap (begins is_word_byte) is ∙ stops in
          by_test (eqb b 58) refl begin where
            by_test : (t : Bool) → eqb b 58 ≡ t → is_word_byte b ≡ false → t ≡ false
            by_test false e none = refl
            by_test true e none = grind (arith, nat_tests)
      by_rest (b ∷ bs) (m ∷ ms) after is none stops =
          by_test (eqb b 58) refl where
            same : b ≡ m
            same = cc

            by_test : (t : Bool) → eqb b 58 ≡ t → t ≡ false
            by_test false e = refl
            by_test true e =
                let m_is : m ≡ 58 = sym same ∙ grind (arith, nat_tests) in
                let any : list_any (λ b. b == 58) (u ++ m ∷ ms) ≡ true =
                ap (λ m. list_any (λ b. b == 58) (u ++ m ∷ ms)) m_is ∙ colon_any u ms in
                let never : true ≡ false = sym any ∙ none in never

-- what is a wide word: it touches a wide byte or has one
abbrev TouchesWide : Option ℕ → List ℕ → Type 0
TouchesWide before w = (is_wide_byte before ≡ true) ⊎ (list_all is_word_byte w ≡ false)

wide_run : (turns : ℕ) (before : Option ℕ) (w rest : List ℕ) → length w ≤ turns →
    list_all is_name_byte w ≡ true → begins is_name_byte rest ≡ false → TouchesWide before w →
    AreAlike before (w ++ rest) →
    Skips before (w ++ rest) rest × (begins (λ b. b == 58) rest ≡ false)
wide_run turns before [] rest short names stops wide alike =
    (skips_none before rest, no_colon_first before rest alike)
wide_run zero before (b ∷ bs) rest short names stops wide alike = absurd (omega arith)
wide_run (suc turns) before (b ∷ bs) rest short names stops wide alike =
    by_test (is_word_byte b) refl
    (λ x v less names wide alike. wide_run turns x v rest less names stops wide alike) where
      own : (is_name_byte b ≡ true) × (list_all is_name_byte bs ≡ true)
      own = both_true (is_name_byte b) (list_all is_name_byte bs) names

      k : ℕ
      k = prefix_len is_word_byte bs

      u : List ℕ
      u = b ∷ take k bs

      split : take k bs ++ drop k bs ≡ bs
      split = take-append-drop k bs

      halves : (list_all is_name_byte (take k bs) ≡ true)
          × (list_all is_name_byte (drop k bs) ≡ true)
      halves = both_true (list_all is_name_byte (take k bs)) (list_all is_name_byte (drop k bs))
          (sym (list_all-append is_name_byte (take k bs) (drop k bs))
          ∙ ap (list_all is_name_byte) split ∙ own.1)

      whole : u ++ (drop k bs ++ rest) ≡ b ∷ (bs ++ rest)
      whole = ap (λ t. b ∷ t) (sym (append_assoc (take k bs) (drop k bs) rest)
          ∙ ap (λ t. t ++ rest) split)

      by_rest : is_word_byte b ≡ true → (v : List ℕ) → drop k bs ≡ v →
          list_all is_name_byte v ≡ true → begins is_word_byte v ≡ false →
          ((x : Option ℕ) (v : List ℕ) → length v ≤ turns → list_all is_name_byte v ≡ true →
          TouchesWide x v → AreAlike x (v ++ rest) →
          Skips x (v ++ rest) rest × (begins (λ b. b == 58) rest ≡ false)) →
          Skips before (u ++ (v ++ rest)) rest × (begins (λ b. b == 58) rest ≡ false)
      by_rest in_word [] is name none behind =
          let all : list_all is_word_byte u ≡ true =
          λ i. in_word i && run_passes is_word_byte bs i in
          let whole_is : u ≡ b ∷ bs =
          ap (λ t. b ∷ t)
          (sym (append-nil (take k bs)) ∙ ap (λ v. take k bs ++ v) (sym is) ∙ split) in
          let before_wide : is_wide_byte before ≡ true = elim wide [
            | inl h ↦ h
            | inr h ↦ let never : true ≡ false =
                sym (ap (list_all is_word_byte) (sym whole_is) ∙ all) ∙ h in absurd (cc)
          ] in
          wide_last before u rest (omega arith) all stops before_wide
          (subst (λ t. AreAlike before (t ++ rest)) (sym whole_is) alike)
      by_rest in_word (d ∷ ds) is name none behind =
          let all : list_all is_word_byte u ≡ true =
          λ i. in_word i && run_passes is_word_byte bs i in
          let d_wide : is_wide_byte (Some d) ≡ true =
          wide_of d (both_true (is_name_byte d) (list_all is_name_byte ds) name).0 none in
          let text_alike : AreAlike before (u ++ ((d ∷ ds) ++ rest)) =
          subst (AreAlike before) (sym whole ∙ ap (λ v. u ++ (v ++ rest)) is) alike in
          let words = word_step before u ((d ∷ ds) ++ rest) (omega arith) all none in
          let one = first_alike _ _ (words_in before (u ++ ((d ∷ ds) ++ rest))) words text_alike in
          let none_there = touching_none
          (cond (is_name_before (Some d)) None (word_reference u)) (list_any (λ b. b == 58) u)
          (is_wide_byte before || is_wide_byte (Some d)) (wide_behind before (Some d) d_wide) one in
          let behind_alike : AreAlike (last_byte before u) ((d ∷ ds) ++ rest) =
          (both_true (is_one_word (record { before = before; bytes = u; behind = Some d }))
          (list_all is_one_word (words_in (last_byte before u) ((d ∷ ds) ++ rest)))
          (sym (ap (list_all is_one_word) words) ∙ text_alike)).1 in
          let not_all : list_all is_word_byte (d ∷ ds) ≡ false =
          ap (λ t. t && list_all is_word_byte ds) none in
          let less : length (d ∷ ds) ≤ turns =
          omega (arith, short, length-drop k bs, ap length is) in
          let rest_skips = behind (last_byte before u) (d ∷ ds) less name (inr not_all)
          behind_alike in (
            skips_none_word before u ((d ∷ ds) ++ rest) rest (omega arith) all none none_there.0
                rest_skips.0,
            rest_skips.1,
          )

      by_test : (t : Bool) → is_word_byte b ≡ t →
          ((x : Option ℕ) (v : List ℕ) → length v ≤ turns → list_all is_name_byte v ≡ true →
          TouchesWide x v → AreAlike x (v ++ rest) →
          Skips x (v ++ rest) rest × (begins (λ b. b == 58) rest ≡ false)) →
          Skips before (b ∷ (bs ++ rest)) rest × (begins (λ b. b == 58) rest ≡ false)
      by_test false none behind =
          let b_wide = wide_of b own.0 none in
          let other = wide_other b b_wide in
          let rest_skips = behind (Some b) bs (omega (arith, short)) own.1 (inl b_wide)
          (sym (ap (list_all is_one_word) (other_step before b (bs ++ rest) other)) ∙ alike) in
          (skips_other before b (bs ++ rest) rest other rest_skips.0, rest_skips.1)
      by_test true in_word behind =
          let result =
          by_rest in_word (drop k bs) refl halves.1 (run_over is_word_byte bs) behind in
          (subst (λ t. Skips before t rest) whole result.0, result.1)

-- a word with a wide byte has no reference, and no colon behind it
pub wide_word : (before : Option ℕ) (w rest : List ℕ) → list_all is_name_byte w ≡ true →
    begins is_name_byte rest ≡ false → list_all is_word_byte w ≡ false →
    AreAlike before (w ++ rest) →
    Skips before (w ++ rest) rest × (begins (λ b. b == 58) rest ≡ false)
wide_word before w rest names stops wide alike =
    wide_run (length w) before w rest (omega arith) names stops (inr wide) alike

-- and is no corner
pub wide_corner : (w : List ℕ) → list_all is_word_byte w ≡ false → corner_of w ≡ None
wide_corner w wide = by_corner (corner_of w) refl where
  by_corner : (o : Option Corner) → corner_of w ≡ o → o ≡ None
  by_corner None is = refl
  by_corner (Some c) is =
      let all = all_tell is_corner_byte is_word_byte corner_in_word w (corner_bytes w c is) in
      let never : true ≡ false = sym all ∙ wide in absurd (cc)
