-- The entries of an archive that is written, by their names.
use Rattle.std.proofs.Common.{◌≡◌, ℕ, ◌+◌, ◌/◌, ◌%◌, ◌<◌, ◌==◌, List, [], ◌∷◌, ◌++◌, length, Bool}
use Rattle.std.proofs.Common.{true, false, if◌then◌else◌, Option, None, Some, refl, sym, ap, ap₂}
use Rattle.std.proofs.Common.{◌∙◌, arith, nat_lt, zero, suc, get_or, slice_get}
use Rattle.std.specs.List.{All, cons_option, list_all}
use Rattle.std.specs.Option.{option_and_then}
use Rattle.std.specs.Str.{bytes_eq, is_utf8}
use Rattle.std.proofs.lemmas.Bool.{and_parts, cond-true, cond-false, false_from_ne_true}
use Rattle.std.proofs.lemmas.Option.{slice_get-get_or}
use Rattle.std.proofs.lemmas.Slice.Eq.{bytes_eq-Decides}
use Rattle.part_events.specs.Words.{folded}
use Rattle.zip_writer.specs.Written.{File, entry, name_flags}
use Rattle.zip_archive.specs.Words.{Entry, no_entry, Member, characters, first_same_name}
use Rattle.zip_archive.specs.Words.{is_foreign, last_entry, part_entries, entry_named, entry_name}
use Rattle.zip_archive.specs.Names.{part_entry}
use Rattle.zip_reads_back.specs.ReadArchive.{ArePartNames, entries_of, entry_of, no_file}

-- ASCII is the same in both
ascii_as_it_is : (name : List ℕ) → list_all (λ b. nat_lt b 128) name ≡ true → characters name ≡ name
ascii_as_it_is [] ascii = refl
ascii_as_it_is (b ∷ name) ascii =
    let both = and_parts (nat_lt b 128) (list_all (λ b. nat_lt b 128) name) ascii in
    ap₂ (λ xs ys. xs ++ ys) (cond-true (nat_lt b 128) _ _ both.0) (ascii_as_it_is name both.1)

-- the text of a name, by its flags
abbrev text_by : ℕ → List ℕ → Option (List ℕ)
text_by flags name =
    if flags / 2048 % 2 == 1 then (if is_utf8 name then Some name else None)
    else Some (characters name)

text_told : (name : List ℕ) (ascii : Bool) → list_all (λ b. nat_lt b 128) name ≡ ascii →
    is_utf8 name ≡ true → text_by (name_flags name) name ≡ Some name
text_told name true is utf8 =
    ap (λ (b : Bool). text_by (if b then 0 else 2048) name) is ∙ ap Some (ascii_as_it_is name is)
text_told name false is utf8 =
    ap (λ (b : Bool). text_by (if b then 0 else 2048) name) is ∙ cond-true (is_utf8 name) _ _ utf8

text_there : (at : ℕ) (file : File) → is_utf8 file.name ≡ true →
    entry_name (entry_of at file) ≡ Some file.name
text_there at file utf8 =
    text_told file.name (list_all (λ b. nat_lt b 128) file.name) refl utf8

-- the entries of files with their names
abbrev pub members_of : ℕ → List File → List Member
members_of p [] = []
members_of p (file ∷ files) =
    record { text = file.name; entry = entry_of p file }
    ∷ members_of (p + length (entry file)) files

member_there : (p : ℕ) (file : File) → is_utf8 file.name ≡ true →
    is_foreign (folded file.name) ≡ false →
    entry_named (entry_of p file) (entry_name (entry_of p file))
    ≡ Some (record { text = file.name; entry = entry_of p file })
member_there p file utf8 own =
    ap (entry_named (entry_of p file)) (text_there p file utf8)
    ∙ cond-false (is_foreign (folded file.name)) _ _ own

pub members_there : (p : ℕ) (files : List File) → All (λ file. is_utf8 file.name ≡ true) files →
    All (λ file. is_foreign (folded file.name) ≡ false) files →
    part_entries (entries_of p files) ≡ members_of p files
members_there p [] utf8 own = refl
members_there p (file ∷ files) utf8 own =
    ap₂ cons_option
    (member_there p file (utf8 0 file (omega arith)) (own 0 file (omega arith)))
    (members_there (p + length (entry file)) files (λ k d h. utf8 (suc k) d (omega arith))
    (λ k d h. own (suc k) d (omega arith)))

apart_bytes : (a b : List ℕ) → (a ≡ b → ⊥) → bytes_eq a b ≡ false
apart_bytes a b apart = false_from_ne_true (bytes_eq a b) (λ t. apart ((bytes_eq-Decides a b).0 t))

same_bytes : (a : List ℕ) → bytes_eq a a ≡ true
same_bytes a = (bytes_eq-Decides a a).1 refl

-- the name at a place is no name before it
abbrev pub IsFirst : List File → ℕ → Type 0
IsFirst files i =
    (k : ℕ) → k < i → folded (get_or files k no_file).name
    ≡ folded (get_or files i no_file).name → ⊥

first_there : (p : ℕ) (files : List File) (i : ℕ) → i < length files → IsFirst files i →
    first_same_name (members_of p files) (get_or files i no_file).name
    ≡ Some (get_or files i no_file).name
first_there p [] i below first = absurd (omega arith)
first_there p (file ∷ files) zero below first =
    cond-true (bytes_eq (folded file.name) (folded file.name)) _ _ (same_bytes (folded file.name))
first_there p (file ∷ files) (suc i) below first =
    let name = (get_or files i no_file).name in
    cond-false (bytes_eq (folded file.name) (folded name)) _ _
    (apart_bytes (folded file.name) (folded name) (first 0 (omega arith)))
    ∙ first_there (p + length (entry file)) files i (omega arith)
    (λ k less same. first (suc k) (omega arith) same)

-- no file of these has the name
last_kept : (found : Option Entry) (p : ℕ) (files : List File) (name : List ℕ) →
    ((k : ℕ) → k < length files → folded (get_or files k no_file).name ≡ folded name → ⊥) →
    last_entry found (members_of p files) name ≡ found
last_kept found p [] name apart = refl
last_kept found p (file ∷ files) name apart =
    ap (λ f. last_entry f (members_of (p + length (entry file)) files) name)
    (cond-false (bytes_eq file.name name) _ _
    (apart_bytes file.name name (λ same. apart 0 (omega arith) (ap folded same))))
    ∙ last_kept found (p + length (entry file)) files name
    (λ k below same. apart (suc k) (omega arith) same)

-- the name at a place is no name behind it
abbrev pub IsLast : List File → ℕ → Type 0
IsLast files i =
    (k : ℕ) → i < k → k < length files →
    folded (get_or files k no_file).name ≡ folded (get_or files i no_file).name → ⊥

pub last_there : (found : Option Entry) (p : ℕ) (files : List File) (i : ℕ) → i < length files →
    IsFirst files i → IsLast files i →
    last_entry found (members_of p files) (get_or files i no_file).name
    ≡ Some (get_or (entries_of p files) i no_entry)
last_there found p [] i below first last = absurd (omega arith)
last_there found p (file ∷ files) zero below first last =
    ap (λ f. last_entry f (members_of (p + length (entry file)) files) file.name)
    (cond-true (bytes_eq file.name file.name) _ _ (same_bytes file.name))
    ∙ last_kept (Some (entry_of p file)) (p + length (entry file)) files file.name
    (λ k less same. last (suc k) (omega arith) (omega arith) same)
last_there found p (file ∷ files) (suc i) below first last =
    let name = (get_or files i no_file).name in
    ap (λ f. last_entry f (members_of (p + length (entry file)) files) name)
    (cond-false (bytes_eq file.name name) _ _
    (apart_bytes file.name name (λ same. first 0 (omega arith) (ap folded same))))
    ∙ last_there found (p + length (entry file)) files i (omega arith)
    (λ k less same. first (suc k) (omega arith) same)
    (λ k more within same. last (suc k) (omega arith) (omega arith) same)

pub length-entries_of : (p : ℕ) (files : List File) → length (entries_of p files) ≡ length files
length-entries_of p [] = refl
length-entries_of p (file ∷ files) =
    omega (arith, length-entries_of (p + length (entry file)) files)

-- the entry of a name is that of its file
pub parts_found : (files : List File) (i : ℕ) → ArePartNames files → i < length files →
    part_entry (entries_of 0 files) (get_or files i no_file).name ≡ slice_get (entries_of 0 files) i
unfolding part_entry
parts_found files i are below =
    let name = (get_or files i no_file).name in
    let first : IsFirst files i = λ k less same. are.apart k i no_file less below same in
    let last : IsLast files i = λ k more within same. are.apart i k no_file more within (sym same)
    in
    ap (λ ms. option_and_then (λ text. last_entry None ms text) (first_same_name ms name))
    (members_there 0 files are.texts are.own)
    ∙ ap (option_and_then (λ text. last_entry None (members_of 0 files) text))
    (first_there 0 files i below first)
    ∙ last_there None 0 files i below first last
    ∙ sym (slice_get-get_or (entries_of 0 files) i no_entry
    (omega (arith, length-entries_of 0 files)))
