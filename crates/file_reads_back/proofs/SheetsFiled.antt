-- The parts of a sheet that is written can be those of a workbook file.
use Rattle.std.proofs.Common.{◌≡◌, ℕ, zero, suc, ◌+◌, ◌-◌, ◌<◌, ◌≤◌, ◌^◌, List, [], ◌∷◌, ◌++◌}
use Rattle.std.proofs.Common.{length, get_or, map, take, drop, Bool, true, false, refl, sym, ap}
use Rattle.std.proofs.Common.{◌∙◌, ◌/◌, ◌%◌, arith, subst, append_assoc, length-append, append-nil}
use Rattle.std.proofs.Common.{All}
use Rattle.std.specs.Prelude.{◌==◌, ◌&&◌, not, nat_lt, nat_le, codes}
use Rattle.std.specs.List.{list_all}
use Rattle.std.specs.Str.{bytes_eq, is_utf8, IsUtf8}
use Rattle.std.proofs.lemmas.Bool.{and_parts, and_left, and_right}
use Rattle.std.proofs.lemmas.Slice.Eq.{bytes_eq-Decides}
use Rattle.std.proofs.lemmas.Str.{is_utf8-from_IsUtf8}
use Rattle.std.proofs.Math.Seq.{drop-append_seam}
use Rattle.part_events.specs.Words.{Part, folded}
use Rattle.inflate.specs.Bits.{number_spelled}
use Rattle.zip_writer.specs.Written.{File, entries, directory, header, entry, ending, written, four}
use Rattle.zip_writer.specs.Written.{two, said}
use Rattle.std.proofs.lemmas.List.{take-append-le}
use lib.Utf8.{scalar, scalars, encode, encodes}
use Rattle.std.proofs.lemmas.Bool.{cond_both, ltb-true}
use Rattle.std.proofs.lemmas.Bool.Decides.{nat_tests}
use Rattle.std.specs.Prelude.{Option, Some, None}
use Rattle.part_events.specs.Words.{Event}
use Rattle.markup.specs.Words.{spelled}
use Rattle.text_package.specs.PartText.{part_markup, text_in, events_in}
use Rattle.text_package.specs.PartSpelling.{begin_with_tag, IsPartText}
use Rattle.text_package.proofs.Texts.{text_of}
use Rattle.xlsx_writer_as_markup.specs.WrittenPieces.{pieces_of, AreCutBack}
use Rattle.zip_reads_back.specs.ReadArchive.{AreBytes, ArePartNames}
use Rattle.file_reads_back.specs.FilePackages.{IsFilePackage}
use Rattle.file_reads_back.proofs.EntriesNamed.{spelled_as_pieces}
use Rattle.zip_archive.specs.Words.{field_number, is_foreign}
use Rattle.xlsx_commands.proofs.PlainSheets.{sheet_parts_plain}
use Rattle.package_file.specs.PackageFile.{part_file, part_files, package_file, longest_file}
use Rattle.xlsx_writer.specs.Words.{PlacedFormulas, PlacedValues}
use Rattle.xlsx_writer.specs.WrittenSheet.{written_parts}
use Rattle.xlsx_writer.specs.declared.form.WrittenForm.TheVariants.{WorkbookFile}
use Rattle.xlsx_writer_as_markup.proofs.Texts.{is_word, word_text}

-- ---- names

-- none of these names is this one
abbrev is_apart : List ℕ → List (List ℕ) → Bool
is_apart name names = list_all (λ other. not (bytes_eq (folded name) (folded other))) names

-- names of parts in ASCII, of which no two are one, and none is one that a Mac adds
abbrev are_names : List (List ℕ) → Bool
are_names [] = true
are_names (name ∷ names) =
    is_word name && (not (is_foreign (folded name)) && (is_apart name names && are_names names))

-- the names of files
abbrev names_of : List File → List (List ℕ)
names_of files = map (λ (file : File). file.name) files

-- what the test says of the first
record NamesFit (file : File) (files : List File) : Type 0 where
  text : is_utf8 file.name ≡ true
  own : is_foreign (folded file.name) ≡ false
  apart : is_apart file.name (names_of files) ≡ true
  rest : are_names (names_of files) ≡ true

names_fit : (file : File) (files : List File) → are_names (names_of (file ∷ files)) ≡ true
    → NamesFit file files
names_fit file files are =
    let first = and_parts (is_word file.name) _ are in
    let second = and_parts (not (is_foreign (folded file.name))) _ first.1 in
    let third = and_parts (is_apart file.name (names_of files)) _ second.1 in
    record {
      text = is_utf8-from_IsUtf8 file.name (word_text file.name first.0).utf8;
      own = by (is_foreign (folded file.name)) second.0;
      apart = third.0;
      rest = third.1;
    } where
      by : (test : Bool) → not test ≡ true → test ≡ false
      by true is = absurd cc
      by false is = refl

apart_at : (name : List ℕ) (files : List File) (j : ℕ) (d : File)
    → is_apart name (names_of files) ≡ true → j < length files
    → folded name ≡ folded (get_or files j d).name → ⊥
apart_at name [] j d are below same = omega arith
apart_at name (file ∷ files) zero d are below same =
    let first = and_parts (not (bytes_eq (folded name) (folded file.name))) _ are in
    let is = (bytes_eq-Decides (folded name) (folded file.name)).1 same in
    let none = ap not is in cc
apart_at name (file ∷ files) (suc j) d are below same =
    apart_at name files j d (and_parts _ _ are).1 (omega arith) same

texts_fit : (files : List File) → are_names (names_of files) ≡ true
    → All (λ (file : File). is_utf8 file.name ≡ true) files
texts_fit [] are k d below = absurd (omega arith)
texts_fit (file ∷ files) are zero d below = (names_fit file files are).text
texts_fit (file ∷ files) are (suc k) d below =
    texts_fit files (names_fit file files are).rest k d (omega arith)

own_fit : (files : List File) → are_names (names_of files) ≡ true
    → All (λ (file : File). is_foreign (folded file.name) ≡ false) files
own_fit [] are k d below = absurd (omega arith)
own_fit (file ∷ files) are zero d below = (names_fit file files are).own
own_fit (file ∷ files) are (suc k) d below =
    own_fit files (names_fit file files are).rest k d (omega arith)

pairs_fit : (files : List File) → are_names (names_of files) ≡ true → (i j : ℕ) (d : File)
    → i < j → j < length files
    → folded (get_or files i d).name ≡ folded (get_or files j d).name → ⊥
pairs_fit [] are i j d less below same = omega arith
pairs_fit (file ∷ files) are zero zero d less below same = omega arith
pairs_fit (file ∷ files) are zero (suc j) d less below same =
    apart_at file.name files j d (names_fit file files are).apart (omega arith) same
pairs_fit (file ∷ files) are (suc i) zero d less below same = omega arith
pairs_fit (file ∷ files) are (suc i) (suc j) d less below same =
    pairs_fit files (names_fit file files are).rest i j d (omega arith) (omega arith) same

pub part_names : (files : List File) → are_names (names_of files) ≡ true → ArePartNames files
part_names files are = record {
  texts = texts_fit files are;
  own = own_fit files are;
  apart = pairs_fit files are;
}

-- the names of the parts that are written
sheet_names : List (List ℕ)
sheet_names =
    codes "[Content_Types].xml" ∷ codes "_rels/.rels" ∷ codes "xl/_rels/workbook.xml.rels"
    ∷ codes "xl/workbook.xml" ∷ codes "xl/styles.xml" ∷ codes "xl/worksheets/sheet1.xml" ∷ []

pub sheet_parts_named : (name : List ℕ) (values : PlacedValues) (formulas : PlacedFormulas)
    → ArePartNames (part_files (written_parts WorkbookFile name values formulas))
unfolding written_parts
sheet_parts_named name values formulas =
    part_names (part_files (written_parts WorkbookFile name values formulas)) refl

-- ---- bytes

no_small : All (λ (b : ℕ). b < 256) []
no_small k d below = absurd (omega arith)

one_more : (b : ℕ) (bytes : List ℕ) → b < 256 → All (λ (b : ℕ). b < 256) bytes
    → All (λ (b : ℕ). b < 256) (b ∷ bytes)
one_more b bytes small more zero d below = small
one_more b bytes small more (suc k) d below = more k d (omega arith)

in_row : (first second : List ℕ) → All (λ (b : ℕ). b < 256) first
    → All (λ (b : ℕ). b < 256) second → All (λ (b : ℕ). b < 256) (first ++ second)
in_row [] second one two = two
in_row (b ∷ first) second one two =
    one_more b (first ++ second) (one 0 b (omega arith))
    (in_row first second (λ k d below. one (suc k) d (omega arith)) two)

scalar_small : (c : ℕ) → scalar c ≡ true → c < 1114112
scalar_small c is = grind (arith, nat_tests)

-- a character's bytes of UTF-8 are bytes
encoded_small : (c : ℕ) → c < 1114112 → All (λ (b : ℕ). b < 256) (encode c)
unfolding encode
encoded_small c small =
    cond_both (nat_lt c 128) _ _ (All (λ (b : ℕ). b < 256))
    (λ one. one_more c [] (omega (arith, ltb-true c 128 one)) no_small)
    (λ more. cond_both (nat_lt c 2048) _ _ (All (λ (b : ℕ). b < 256))
    (λ two. let below = ltb-true c 2048 two in
    one_more (192 + c / 64) ((128 + c % 64) ∷ []) (omega arith)
    (one_more (128 + c % 64) [] (omega arith) no_small))
    (λ further. cond_both (nat_lt c 65536) _ _ (All (λ (b : ℕ). b < 256))
    (λ three. let below = ltb-true c 65536 three in
    one_more (224 + c / 4096) ((128 + c / 64 % 64) ∷ (128 + c % 64) ∷ []) (omega arith)
    (one_more (128 + c / 64 % 64) ((128 + c % 64) ∷ []) (omega arith)
    (one_more (128 + c % 64) [] (omega arith) no_small)))
    (λ last. one_more (240 + c / 262144)
    ((128 + c / 4096 % 64) ∷ (128 + c / 64 % 64) ∷ (128 + c % 64) ∷ []) (omega arith)
    (one_more (128 + c / 4096 % 64) ((128 + c / 64 % 64) ∷ (128 + c % 64) ∷ []) (omega arith)
    (one_more (128 + c / 64 % 64) ((128 + c % 64) ∷ []) (omega arith)
    (one_more (128 + c % 64) [] (omega arith) no_small))))))

all_encoded_small : (cs : List ℕ) → scalars cs ≡ true → All (λ (b : ℕ). b < 256) (encodes cs)
all_encoded_small [] are = no_small
all_encoded_small (c ∷ cs) are =
    let both = and_parts (scalar c) (scalars cs) are in
    in_row (encode c) (encodes cs) (encoded_small c (scalar_small c both.0))
    (all_encoded_small cs both.1)

text_small : (bytes : List ℕ) → IsUtf8 bytes → All (λ (b : ℕ). b < 256) bytes
text_small bytes (cs, own) =
    subst (All (λ (b : ℕ). b < 256)) own.1 (all_encoded_small cs own.0)

-- a part with a tag in front is a text
abbrev BeginsWithTag : Part → Type 0
BeginsWithTag part = begin_with_tag (pieces_of part.events) ≡ true

text_by : (found : Option (List ℕ)) (bytes : List ℕ) (events : List Event)
    → text_in bytes ≡ found → events_in found ≡ events
    → begin_with_tag (pieces_of events) ≡ true → IsUtf8 bytes
text_by None bytes events is same tag =
    absurd (let none : begin_with_tag (pieces_of events) ≡ false =
    ap (λ (own : List Event). begin_with_tag (pieces_of own)) (sym same) in cc)
text_by (Some text) bytes events is same tag = (text_of bytes text is).utf8

bytes_small : (part : Part) → part_markup (spelled (pieces_of part.events)) ≡ part.events
    → BeginsWithTag part → All (λ (b : ℕ). b < 256) (part_file part).bytes
bytes_small part same tag =
    subst (All (λ (b : ℕ). b < 256)) (sym (spelled_as_pieces part.events))
    (text_small (spelled (pieces_of part.events))
    (text_by (text_in (spelled (pieces_of part.events))) (spelled (pieces_of part.events))
    part.events refl same tag))

parts_small : (parts : List Part) → AreCutBack parts → All BeginsWithTag parts
    → AreBytes (part_files parts)
parts_small [] cut tags k d below = absurd (omega arith)
parts_small (part ∷ parts) cut tags zero d below =
    bytes_small part (cut 0 part (omega arith)) (tags 0 part (omega arith))
parts_small (part ∷ parts) cut tags (suc k) d below =
    parts_small parts (λ i own within. cut (suc i) own (omega arith))
    (λ i own within. tags (suc i) own (omega arith)) k d (omega arith)

-- ---- the package

-- what a test tells of all tells it of each
each_passes : (test : Part → Bool) (parts : List Part) → list_all test parts ≡ true
    → All (λ (part : Part). test part ≡ true) parts
each_passes test [] all k d below = absurd (omega arith)
each_passes test (part ∷ parts) all zero d below = (and_parts _ _ all).0
each_passes test (part ∷ parts) all (suc k) d below =
    each_passes test parts (and_parts _ _ all).1 k d (omega arith)

-- a part begins with a tag, and its name is short
abbrev is_tagged : Part → Bool
is_tagged part = begin_with_tag (pieces_of part.events)

abbrev is_short : Part → Bool
is_short part = nat_lt (length part.name) 65536

sheet_tests : (name : List ℕ) (values : PlacedValues) (formulas : PlacedFormulas)
    → (list_all is_tagged (written_parts WorkbookFile name values formulas) ≡ true)
    × (list_all is_short (written_parts WorkbookFile name values formulas) ≡ true)
unfolding written_parts
sheet_tests name values formulas = (refl, refl)

sheet_parts_short : (name : List ℕ) (values : PlacedValues) (formulas : PlacedFormulas)
    → All (λ (part : Part). length part.name < 2 ^ 16)
    (written_parts WorkbookFile name values formulas)
sheet_parts_short name values formulas k d below =
    ltb-true _ 65536 (each_passes is_short (written_parts WorkbookFile name values formulas)
    (sheet_tests name values formulas).1 k d below)

sheet_parts_count : (name : List ℕ) (values : PlacedValues) (formulas : PlacedFormulas)
    → length (written_parts WorkbookFile name values formulas) ≡ 6
unfolding written_parts
sheet_parts_count name values formulas = refl

-- the parts of a sheet can be those of a workbook file
pub sheet_filed : (name : List ℕ) (values : PlacedValues) (formulas : PlacedFormulas)
    → AreCutBack (written_parts WorkbookFile name values formulas)
    → length (package_file (written_parts WorkbookFile name values formulas)) ≤ longest_file
    → IsFilePackage (written_parts WorkbookFile name values formulas)
sheet_filed name values formulas cut size =
    let parts = written_parts WorkbookFile name values formulas in
    let count = sheet_parts_count name values formulas in record {
      some = omega arith;
      few = omega arith;
      short = sheet_parts_short name values formulas;
      names = sheet_parts_named name values formulas;
      cut = cut;
      bytes = parts_small parts cut
          (each_passes is_tagged parts (sheet_tests name values formulas).0);
      plain = sheet_parts_plain name values formulas;
      size = size;
    }
