-- Markup that is written is the text of a part.
use Rattle.std.proofs.Common.{◌≡◌, ℕ, zero, suc, ◌≤◌, List, [], ◌∷◌, ◌++◌, true, false, Option}
use Rattle.std.proofs.Common.{Some, None, length, refl, sym, ap, ◌∙◌, subst, arith}
use Rattle.std.specs.Prelude.{◌==◌, ◌||◌, codes, nat_lt}
use Rattle.std.specs.List.{list_any, list_all, All, flat_map}
use Rattle.std.specs.Str.{IsAscii}
use Rattle.std.specs.Option.{option_map_or}
use Rattle.std.proofs.lemmas.Bool.{or_from, or_parts, and_parts, not-true, false≢true, ne_eqb}
use Rattle.std.proofs.lemmas.Bool.{cond-false, and_left, both_ways, eq-eqb, ltb-true}
use Rattle.std.proofs.lemmas.List.Folds.{list_any-append, list_any_at}
use Rattle.std.proofs.lemmas.List.{append_assoc}
use Rattle.memchr.specs.Find.{IsFirstByte, is_byte}
use Rattle.markup.specs.Words.{begins_with, begins_no_name, Piece, one, empty, events_of_piece}
use Rattle.markup.specs.Words.{spelled, spelled_leaf, spelled_piece, are_spellable, is_tag_name}
use Rattle.std.proofs.lemmas.Str.{IsUtf8-append, IsUtf8-from_ascii, IsUtf8-nil}
use Rattle.part_events.specs.Words.{Tag, Leaf, start, end, leaf, text, char_data, entity_ref, flaw}
use Rattle.part_events.specs.Words.{other}
use Rattle.markup.proofs.CutBack.{cut_back}
use Rattle.markup.proofs.Fronts.{bounded}
use Rattle.text_package.specs.PartText.{text_in, events_in, part_markup, without_mark}
use Rattle.text_package.specs.PartText.{declares_other, names_other}
use Rattle.text_package.specs.PartSpelling.{IsPartText, HasTagTexts, HasLeafText, HasTexts}
use Rattle.text_package.specs.PartSpelling.{begin_with_tag}
use Rattle.text_package.proofs.Texts.{is_text, text_within, some_byte}

-- ---- no more events than bytes

bounded_as : (bytes : List ℕ) (found : Option (List ℕ)) → text_in bytes ≡ found
    → length (events_in found) ≤ length bytes
bounded_as bytes None is = let some = some_byte bytes is in omega arith
bounded_as bytes (Some own) is = omega (arith, bounded own, text_within bytes own is)

pub part_bounded : (bytes : List ℕ) → length (part_markup bytes) ≤ length bytes
part_bounded bytes = bounded_as bytes (text_in bytes) refl

-- ---- texts of a part

joined : (first second : List ℕ) → IsPartText first → IsPartText second
    → IsPartText (first ++ second)
joined first second a b = record {
  utf8 = IsUtf8-append first second a.utf8 b.utf8;
  no_zero = list_any-append (λ b. b == 0) first second ∙ or_from _ _ a.no_zero b.no_zero;
}

ascii_all : (bytes : List ℕ) → list_all (λ b. nat_lt b 128) bytes ≡ true → IsAscii bytes
ascii_all [] are i = omega arith
ascii_all (b ∷ bytes) are zero = ltb-true b 128 (and_parts _ _ are).0
ascii_all (b ∷ bytes) are (suc i) = ascii_all bytes (and_parts _ _ are).1 i

-- the bytes that markup has around its texts
around : (bytes : List ℕ) → list_all (λ b. nat_lt b 128) bytes ≡ true
    → list_any (λ b. b == 0) bytes ≡ false → IsPartText bytes
around bytes ascii no_zero = record {
  utf8 = IsUtf8-from_ascii bytes (ascii_all bytes ascii);
  no_zero = no_zero;
}

between : (before own behind : List ℕ) → IsPartText before → IsPartText own → IsPartText behind
    → IsPartText (before ++ (own ++ behind))
between before own behind a b c = joined before (own ++ behind) a (joined own behind b c)

tag_text : (tag : Tag) (behind : List ℕ) → HasTagTexts tag → IsPartText behind
    → IsPartText ((60 ∷ []) ++ (tag.name ++ (tag.attributes ++ behind)))
tag_text tag behind has more =
    joined (60 ∷ []) (tag.name ++ (tag.attributes ++ behind)) (around (60 ∷ []) refl refl)
    (between tag.name tag.attributes behind has.0 has.1 more)

leaf_text : (kind : Leaf) → HasLeafText kind → IsPartText (spelled_leaf kind)
leaf_text (text content) has = has
leaf_text (char_data content) has =
    between (codes "<![CDATA[") content (codes "]]>") (around _ refl refl) has
    (around _ refl refl)
leaf_text (entity_ref name) has =
    between (codes "&") name (codes ";") (around _ refl refl) has (around _ refl refl)
leaf_text (flaw why) has = around (codes "<") refl refl
leaf_text other has = around (codes "<!---->") refl refl

piece_text : (first : Piece) → HasTexts first → IsPartText (spelled_piece first)
piece_text (one (start tag)) has = tag_text tag (codes ">") has (around (codes ">") refl refl)
piece_text (one (end name)) has =
    between (codes "</") name (codes ">") (around _ refl refl) has (around _ refl refl)
piece_text (one (leaf kind)) has = leaf_text kind has
piece_text (empty tag) has = tag_text tag (codes "/>") has (around (codes "/>") refl refl)

pieces_text : (pieces : List Piece) → All HasTexts pieces → IsPartText (spelled pieces)
pieces_text [] has = record { utf8 = IsUtf8-nil; no_zero = refl }
pieces_text (first ∷ pieces) has =
    joined (spelled_piece first) (spelled pieces)
    (piece_text first (has 0 first (omega arith)))
    (pieces_text pieces (λ k d within. has (suc k) d (omega arith)))

-- ---- where a part begins

-- a bracket and no `?` stand first
record BeginsTag (bytes : List ℕ) : Type 0 where
  first : ℕ
  more : List ℕ
  is : bytes ≡ 60 ∷ first ∷ more
  plain : begins_no_name first ≡ false

name_begins : (name more : List ℕ) → is_tag_name name ≡ true → BeginsTag (60 ∷ (name ++ more))
name_begins [] more is = absurd (false≢true is)
name_begins (first ∷ name) more is = record {
  first = first;
  more = name ++ more;
  is = refl;
  plain = not-true _ (and_parts _ _ is).0;
}

tag_begins : (name attributes behind more : List ℕ) → is_tag_name name ≡ true
    → BeginsTag (((60 ∷ []) ++ (name ++ (attributes ++ behind))) ++ more)
tag_begins name attributes behind more is =
    subst (λ (rest : List ℕ). BeginsTag (60 ∷ rest))
    (sym (append_assoc name (attributes ++ behind) more))
    (name_begins name ((attributes ++ behind) ++ more) is)

part_begins : (pieces : List Piece) → are_spellable pieces ≡ true → begin_with_tag pieces ≡ true
    → BeginsTag (spelled pieces)
part_begins [] are tag = absurd (false≢true tag)
part_begins (one (start own) ∷ pieces) are tag =
    let fits = and_parts _ _ (and_parts _ _ (and_parts _ _ are).0).0 in
    tag_begins own.name own.attributes (codes ">") (spelled pieces) (and_parts _ _ fits.0).0
part_begins (one (end name) ∷ pieces) are tag = absurd (false≢true tag)
part_begins (one (leaf kind) ∷ pieces) are tag = absurd (false≢true tag)
part_begins (empty own ∷ pieces) are tag =
    let fits = and_parts _ _ (and_parts _ _ (and_parts _ _ are).0).0 in
    tag_begins own.name own.attributes (codes "/>") (spelled pieces) fits.0

declares_nothing : (first : ℕ) (more : List ℕ) → begins_no_name first ≡ false
    → declares_other (60 ∷ first ∷ more) ≡ false
declares_nothing first more plain =
    let tests = or_parts (first == 33 || first == 63) (first == 38) plain in
    let other : (63 == first) ≡ false =
    ne_eqb 63 first (λ same. both_ways _ (or_parts (first == 33) (first == 63) tests.0).1
    (eq-eqb first 63 (sym same))) in
    let no_front : begins_with (codes "<?xml ") (60 ∷ first ∷ more) ≡ false =
    and_left _ _ other in
    ap (λ (found : Option (List ℕ)). option_map_or names_other found false)
    (cond-false _ _ _ no_front)

no_zero_first : (bytes : List ℕ) → list_any (λ b. b == 0) bytes ≡ false
    → IsFirstByte (is_byte 0) bytes None
no_zero_first bytes none k high low =
    λ here. both_ways _ none (list_any_at (λ b. b == 0) bytes k 0 low here)

begun : (bytes : List ℕ) → IsPartText bytes → BeginsTag bytes → Some bytes ≡ text_in bytes
begun bytes own begins =
    let kept : 60 ∷ begins.first ∷ begins.more ≡ without_mark (60 ∷ begins.first ∷ begins.more) =
    refl in
    is_text bytes bytes bytes None (refl, own.utf8) (no_zero_first bytes own.no_zero) refl
    (subst (λ (t : List ℕ). t ≡ without_mark t) (sym begins.is) kept)
    (ap declares_other begins.is ∙ declares_nothing begins.first begins.more begins.plain)

pub part_cut_back : (pieces : List Piece) → are_spellable pieces ≡ true
    → begin_with_tag pieces ≡ true → All HasTexts pieces
    → part_markup (spelled pieces) ≡ flat_map events_of_piece pieces
part_cut_back pieces are tag texts =
    ap events_in (sym (begun (spelled pieces) (pieces_text pieces texts)
    (part_begins pieces are tag)))
    ∙ cut_back pieces are
