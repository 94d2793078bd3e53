-- Markup that is written is cut back.
use Rattle.std.proofs.Common.{◌≡◌, ℕ, suc, ◌+◌, ◌-◌, Bool, true, false, List, [], ◌∷◌, ◌++◌, length}
use Rattle.std.proofs.Common.{None, refl, sym, ap, ◌∙◌, arith, take, drop}
use Rattle.std.specs.Prelude.{◌==◌, ◌||◌, ◌&&◌, not}
use Rattle.std.specs.List.{list_any, position_or_len, flat_map}
use Rattle.std.proofs.lemmas.Bool.{cond-true, cond-false, or_parts, and_parts, eq-eqb, ne_eqb}
use Rattle.std.proofs.lemmas.Bool.{false≢true, not-true, and_from, or_left}
use Rattle.std.proofs.lemmas.List.{append_assoc, length-append, get_or-append-add}
use Rattle.std.proofs.Math.Seq.{take-append_seam, drop-append_seam, get_or-append_seam}
use Rattle.part_events.specs.Words.{Tag, Event, start, end, leaf, text, char_data, entity_ref}
use Rattle.part_events.specs.Words.{other, flaw}
use Rattle.markup.specs.Marks.{ends_name, begins_no_name, is_space, is_bracket, is_mark, byte_at}
use Rattle.markup.specs.Marks.{is_reference_end, bracket_place, first_place_of}
use Rattle.markup.specs.Marks.{without_space_behind}
use Rattle.markup.specs.Front.{Piece, one, empty, piece, front_in_markup, markup_front, start_front}
use Rattle.markup.specs.Front.{reference_front, tagged, attributed, is_behind_name, span_front}
use Rattle.markup.specs.Front.{last_byte_or_zero}
use Rattle.markup.specs.Markup.{markup_events, events_from, events_of_piece}
use Rattle.markup.specs.Spelled.{spelled, spelled_piece, are_spellable, is_spellable, is_words}
use Rattle.markup.specs.Spelled.{begin_with_words, is_tag_name, is_attribute_text, is_end_name}
use Rattle.markup.proofs.InOrder.{events_in_order, no_events}
use Rattle.markup.proofs.Runs.{neither, search_over, stops_at, plain_byte, bracket_over}
use Rattle.markup.proofs.Runs.{bracket_behind, name_ends_before, kept_whole, data_over, none_from}

-- the events of a text that begins with a piece are its own and those of what follows
cut_first : (first : Piece) (b : ℕ) (own more : List ℕ)
    → front_in_markup b (own ++ more) ≡ piece first (suc (length own))
    → markup_events (b ∷ (own ++ more)) ≡ events_of_piece first ++ markup_events more
cut_first first b own more is =
    let size : suc (length own) - 1 ≡ length own = omega arith in
    events_in_order b (own ++ more)
    ∙ ap (events_from (λ n. markup_events (drop n (own ++ more)))) is
    ∙ ap (λ n. events_of_piece first ++ markup_events (drop n (own ++ more))) size
    ∙ ap (λ (rest : List ℕ). events_of_piece first ++ markup_events rest)
    (drop-append_seam own more)

-- ---- tags

-- what stands behind the `<` of a start
markup_start : (b : ℕ) (bytes : List ℕ) → ends_name b ≡ false → begins_no_name b ≡ false
    → markup_front (b ∷ bytes) ≡ start_front (b ∷ bytes)
markup_start b bytes plain begins =
    let tests = or_parts (b == 33 || b == 63) (b == 38) begins in
    let more = or_parts (b == 33) (b == 63) tests.0 in
    cond-false _ _ _ (plain_byte b plain).slash ∙ cond-false _ _ _ more.1
    ∙ cond-false _ _ _ more.0

-- a tag by its name and by what stands between that and its bracket
tag_front : (n : ℕ) (name inner more : List ℕ) → is_tag_name (n ∷ name) ≡ true
    → position_or_len ends_name (inner ++ 62 ∷ more) ≡ 0
    → bracket_place None (inner ++ 62 ∷ more) ≡ length inner → is_behind_name inner ≡ true
    → markup_front ((n ∷ name) ++ (inner ++ 62 ∷ more))
    ≡ piece (tagged (n ∷ name) inner) (length (n ∷ name) + length inner + 2)
tag_front n name inner more is ends place behind =
    let tests = and_parts _ _ is in
    let begins = not-true (begins_no_name n) tests.0 in
    let plain = not-true (list_any ends_name (n ∷ name)) tests.1 in
    let rest : List ℕ = inner ++ 62 ∷ more in
    let whole : List ℕ = (n ∷ name) ++ rest in
    let s : ℕ = position_or_len ends_name whole in
    let p : ℕ = bracket_place None whole in
    let size : s ≡ length (n ∷ name) = search_over ends_name (n ∷ name) rest plain ∙ omega arith in
    let at : p ≡ length (n ∷ name) + length inner =
    bracket_over (n ∷ name) rest plain ∙ omega arith in
    let last : byte_at whole (length (n ∷ name) + length inner) ≡ 62 =
    get_or-append-add (n ∷ name) rest (length inner) 0 ∙ get_or-append_seam inner 62 more 0 in
    let bracket : (byte_at whole p == 62) ≡ true = eq-eqb _ _ (ap (byte_at whole) at ∙ last) in
    let some : not (s == 0 || begins_no_name (byte_at whole 0)) ≡ true =
    neither _ _ (ne_eqb s 0 (λ none. omega arith)) begins in
    let own : take s whole ≡ n ∷ name =
    ap (λ k. take k whole) size ∙ take-append_seam (n ∷ name) rest in
    let inside : take (p - s) (drop s whole) ≡ inner =
    ap (λ k. take (p - s) (drop k whole)) size
    ∙ ap (take (p - s)) (drop-append_seam (n ∷ name) rest)
    ∙ ap (λ k. take k rest) (omega arith) ∙ take-append_seam inner (62 ∷ more) in
    markup_start n (name ++ rest) (or_parts (ends_name n) (list_any ends_name name) plain).0 begins
    ∙ cond-true _ _ _ (and_from _ _ bracket some)
    ∙ ap (λ (a : List ℕ). attributed a (take (p - s) (drop s whole)) (p + 2)) own
    ∙ ap (λ (a : List ℕ). attributed (n ∷ name) a (p + 2)) inside
    ∙ ap (λ k. attributed (n ∷ name) inner (k + 2)) at
    ∙ cond-true _ _ _ behind

behind_start : (attributes : List ℕ) → is_attribute_text attributes ≡ true
    → is_behind_name attributes ≡ true
behind_start [] is = refl
behind_start (b ∷ []) is = or_left (is_space b) (b == 47) (and_parts _ _ is).0
behind_start (b ∷ c ∷ bytes) is = (and_parts _ _ is).0

behind_empty : (attributes : List ℕ) → is_attribute_text attributes ≡ true
    → is_behind_name (attributes ++ 47 ∷ []) ≡ true
behind_empty [] is = refl
behind_empty (b ∷ []) is = (and_parts _ _ is).0
behind_empty (b ∷ c ∷ bytes) is = (and_parts _ _ is).0

start_cut : (name attributes more : List ℕ) → is_tag_name name ≡ true
    → is_attribute_text attributes ≡ true → (last_byte_or_zero attributes == 47) ≡ false
    → markup_events (60 ∷ ((name ++ (attributes ++ 62 ∷ [])) ++ more))
    ≡ start (record { name = name; attributes = attributes }) ∷ markup_events more
unfolding front_in_markup bracket_place
start_cut [] attributes more is fits slash = absurd (false≢true is)
start_cut (n ∷ name) attributes more is fits slash =
    let own : List ℕ = (n ∷ name) ++ (attributes ++ 62 ∷ []) in
    let tag : Tag = record { name = n ∷ name; attributes = attributes } in
    let apart : own ++ more ≡ (n ∷ name) ++ (attributes ++ 62 ∷ more) =
    append_assoc (n ∷ name) (attributes ++ 62 ∷ []) more
    ∙ ap (λ (t : List ℕ). (n ∷ name) ++ t) (append_assoc attributes (62 ∷ []) more) in
    let place : bracket_place None (attributes ++ 62 ∷ more) ≡ length attributes =
    bracket_behind attributes (62 ∷ more) fits ∙ omega arith in
    let size : length (n ∷ name) + length attributes + 2 ≡ suc (length own) =
    omega (
      arith,
      length-append (n ∷ name) (attributes ++ 62 ∷ []),
      length-append attributes (62 ∷ []),
    ) in
    cut_first (one (start tag)) 60 own more
    (ap markup_front apart
    ∙ tag_front n name attributes more is (name_ends_before attributes 62 more fits refl) place
    (behind_start attributes fits)
    ∙ ap (λ (first : Piece). piece first (length (n ∷ name) + length attributes + 2))
    (cond-false _ _ _ slash)
    ∙ ap (piece (one (start tag))) size)

empty_cut : (name attributes more : List ℕ) → is_tag_name name ≡ true
    → is_attribute_text attributes ≡ true
    → markup_events (60 ∷ ((name ++ (attributes ++ 47 ∷ 62 ∷ [])) ++ more))
    ≡ start (record { name = name; attributes = attributes }) ∷ end name ∷ markup_events more
unfolding front_in_markup bracket_place
empty_cut [] attributes more is fits = absurd (false≢true is)
empty_cut (n ∷ name) attributes more is fits =
    let own : List ℕ = (n ∷ name) ++ (attributes ++ 47 ∷ 62 ∷ []) in
    let inner : List ℕ = attributes ++ 47 ∷ [] in
    let tag : Tag = record { name = n ∷ name; attributes = attributes } in
    let slashed : inner ++ 62 ∷ more ≡ attributes ++ 47 ∷ 62 ∷ more =
    append_assoc attributes (47 ∷ []) (62 ∷ more) in
    let apart : own ++ more ≡ (n ∷ name) ++ (inner ++ 62 ∷ more) =
    append_assoc (n ∷ name) (attributes ++ 47 ∷ 62 ∷ []) more
    ∙ ap (λ (t : List ℕ). (n ∷ name) ++ t)
    (append_assoc attributes (47 ∷ 62 ∷ []) more ∙ sym slashed) in
    let long : length inner ≡ length attributes + 1 = length-append attributes (47 ∷ []) in
    let ends : position_or_len ends_name (inner ++ 62 ∷ more) ≡ 0 =
    ap (position_or_len ends_name) slashed
    ∙ name_ends_before attributes 47 (62 ∷ more) fits refl in
    let place : bracket_place None (inner ++ 62 ∷ more) ≡ length inner =
    ap (bracket_place None) slashed ∙ bracket_behind attributes (47 ∷ 62 ∷ more) fits
    ∙ omega arith in
    let before : length inner - 1 ≡ length attributes = omega arith in
    let slash : (last_byte_or_zero inner == 47) ≡ true =
    eq-eqb _ _ (ap (byte_at inner) before ∙ get_or-append_seam attributes 47 [] 0) in
    let kept : take (length inner - 1) inner ≡ attributes =
    ap (λ k. take k inner) before ∙ take-append_seam attributes (47 ∷ []) in
    let size : length (n ∷ name) + length inner + 2 ≡ suc (length own) =
    omega (
      arith,
      length-append (n ∷ name) (attributes ++ 47 ∷ 62 ∷ []),
      length-append attributes (47 ∷ 62 ∷ []),
    ) in
    cut_first (empty tag) 60 own more
    (ap markup_front apart
    ∙ tag_front n name inner more is ends place (behind_empty attributes fits)
    ∙ ap (λ (first : Piece). piece first (length (n ∷ name) + length inner + 2))
    (cond-true _ _ _ slash
    ∙ ap (λ (a : List ℕ). empty (record { name = n ∷ name; attributes = a })) kept)
    ∙ ap (piece (empty tag)) size)

end_cut : (name more : List ℕ) → is_end_name name ≡ true
    → markup_events (60 ∷ ((47 ∷ (name ++ 62 ∷ [])) ++ more)) ≡ end name ∷ markup_events more
unfolding front_in_markup
end_cut [] more is = absurd (false≢true is)
end_cut (n ∷ name) more is =
    let tests = and_parts _ _ is in
    let plain = not-true (list_any is_bracket (n ∷ name)) tests.0 in
    let own : List ℕ = 47 ∷ ((n ∷ name) ++ 62 ∷ []) in
    let whole : List ℕ = (n ∷ name) ++ 62 ∷ more in
    let s : ℕ = position_or_len is_bracket whole in
    let apart : own ++ more ≡ 47 ∷ whole =
    ap (λ (t : List ℕ). 47 ∷ t) (append_assoc (n ∷ name) (62 ∷ []) more) in
    let stop = stops_at is_bracket 62 more refl in
    let size : s ≡ length (n ∷ name) =
    search_over is_bracket (n ∷ name) (62 ∷ more) plain ∙ omega arith in
    let bracket : (byte_at whole s == 62) ≡ true =
    eq-eqb _ _ (ap (byte_at whole) size ∙ get_or-append_seam (n ∷ name) 62 more 0) in
    let some : not (s == 0) ≡ true = ap not (ne_eqb s 0 (λ none. omega arith)) in
    let kept : without_space_behind (take s whole) ≡ n ∷ name =
    ap (λ k. without_space_behind (take k whole)) size
    ∙ ap (λ (t : List ℕ). without_space_behind t) (take-append_seam (n ∷ name) (62 ∷ more))
    ∙ kept_whole (n ∷ name) (not-true _ tests.1) in
    let long : s + 3 ≡ suc (length own) = omega (arith, length-append (n ∷ name) (62 ∷ [])) in
    cut_first (one (end (n ∷ name))) 60 own more
    (ap markup_front apart
    ∙ cond-true _ _ _ (and_from _ _ bracket some)
    ∙ ap (λ (t : List ℕ). piece (one (end t)) (s + 3)) kept
    ∙ ap (piece (one (end (n ∷ name)))) long)

-- ---- what nests nothing

text_cut : (content more : List ℕ) → not (length content == 0) ≡ true
    → list_any is_mark content ≡ false → position_or_len is_mark more ≡ 0
    → markup_events (content ++ more) ≡ leaf (text content) ∷ markup_events more
unfolding front_in_markup
text_cut [] more some plain stop = absurd (false≢true some)
text_cut (b ∷ content) more some plain stop =
    let whole : List ℕ = (b ∷ content) ++ more in
    let first = or_parts (b == 60) (b == 38)
    (or_parts (is_mark b) (list_any is_mark content) plain).0 in
    let size : position_or_len is_mark whole ≡ length (b ∷ content) =
    search_over is_mark (b ∷ content) more plain ∙ omega arith in
    cut_first (one (leaf (text (b ∷ content)))) b content more
    (cond-false _ _ _ first.0 ∙ cond-false _ _ _ first.1
    ∙ ap (λ k. piece (one (leaf (text (take k whole)))) k) size
    ∙ ap (λ (t : List ℕ). piece (one (leaf (text t))) (length (b ∷ content)))
    (take-append_seam (b ∷ content) more))

data_cut : (content more : List ℕ) → first_place_of (93 ∷ 93 ∷ 62 ∷ []) content ≡ None
    → markup_events (60 ∷ ((33 ∷ 91 ∷ 67 ∷ 68 ∷ 65 ∷ 84 ∷ 65 ∷ 91 ∷ (content ++ 93 ∷ 93 ∷ 62 ∷ []))
    ++ more)) ≡ leaf (char_data content) ∷ markup_events more
unfolding front_in_markup
data_cut content more none =
    let behind : List ℕ = content ++ 93 ∷ 93 ∷ 62 ∷ [] in
    let own : List ℕ = 33 ∷ 91 ∷ 67 ∷ 68 ∷ 65 ∷ 84 ∷ 65 ∷ 91 ∷ behind in
    let whole : List ℕ = content ++ 93 ∷ 93 ∷ 62 ∷ more in
    let apart : behind ++ more ≡ whole = append_assoc content (93 ∷ 93 ∷ 62 ∷ []) more in
    let long : length content + 12 ≡ suc (length own) =
    omega (arith, length-append content (93 ∷ 93 ∷ 62 ∷ [])) in
    cut_first (one (leaf (char_data content))) 60 own more
    (ap (λ (t : List ℕ). span_front (λ c. char_data c) 12 t (first_place_of (93 ∷ 93 ∷ 62 ∷ [])
    t)) apart
    ∙ ap (span_front (λ c. char_data c) 12 whole) (data_over content more none)
    ∙ ap (λ (t : List ℕ). piece (one (leaf (char_data t))) (length content + 12))
    (take-append_seam content (93 ∷ 93 ∷ 62 ∷ more))
    ∙ ap (piece (one (leaf (char_data content)))) long)

reference_cut : (name more : List ℕ) → list_any is_reference_end name ≡ false
    → markup_events (38 ∷ ((name ++ 59 ∷ []) ++ more)) ≡ leaf (entity_ref name) ∷ markup_events more
unfolding front_in_markup
reference_cut name more plain =
    let own : List ℕ = name ++ 59 ∷ [] in
    let whole : List ℕ = name ++ 59 ∷ more in
    let s : ℕ = position_or_len is_reference_end whole in
    let apart : own ++ more ≡ whole = append_assoc name (59 ∷ []) more in
    let stop = stops_at is_reference_end 59 more refl in
    let size : s ≡ length name =
    search_over is_reference_end name (59 ∷ more) plain ∙ omega arith in
    let last : (byte_at whole s == 59) ≡ true =
    eq-eqb _ _ (ap (byte_at whole) size ∙ get_or-append_seam name 59 more 0) in
    let long : length name + 2 ≡ suc (length own) = omega (arith, length-append name (59 ∷ [])) in
    cut_first (one (leaf (entity_ref name))) 38 own more
    (ap reference_front apart
    ∙ cond-true _ _ _ last
    ∙ ap (λ k. piece (one (leaf (entity_ref (take k whole)))) (k + 2)) size
    ∙ ap (λ (t : List ℕ). piece (one (leaf (entity_ref t))) (length name + 2))
    (take-append_seam name (59 ∷ more))
    ∙ ap (piece (one (leaf (entity_ref name)))) long)

comment_cut : (more : List ℕ)
    → markup_events (60 ∷ ((33 ∷ 45 ∷ 45 ∷ 45 ∷ 45 ∷ 62 ∷ []) ++ more))
    ≡ leaf other ∷ markup_events more
unfolding front_in_markup first_place_of
comment_cut more = cut_first (one (leaf other)) 60 (33 ∷ 45 ∷ 45 ∷ 45 ∷ 45 ∷ 62 ∷ []) more refl

-- ---- pieces in a row

-- a piece is cut off in front of what it doesn't run into
piece_cut : (first : Piece) (more : List ℕ) → is_spellable first ≡ true
    → (is_words first ≡ true → position_or_len is_mark more ≡ 0)
    → markup_events (spelled_piece first ++ more) ≡ events_of_piece first ++ markup_events more
piece_cut (one (start tag)) more is stop =
    let tests = and_parts _ _ is in
    let own = and_parts _ _ tests.0 in
    start_cut tag.name tag.attributes more own.0 own.1 (not-true _ tests.1)
piece_cut (one (end name)) more is stop = end_cut name more is
piece_cut (one (leaf (text content))) more is stop =
    let tests = and_parts _ _ is in
    text_cut content more tests.0 (not-true _ tests.1) (stop refl)
piece_cut (one (leaf (char_data content))) more is stop =
    data_cut content more (none_from _ is)
piece_cut (one (leaf (entity_ref name))) more is stop = reference_cut name more (not-true _ is)
piece_cut (one (leaf other)) more is stop = comment_cut more
piece_cut (one (leaf (flaw why))) more is stop = absurd (false≢true is)
piece_cut (empty tag) more is stop =
    let tests = and_parts _ _ is in empty_cut tag.name tag.attributes more tests.0 tests.1

-- what is no text begins where a text ends
mark_first : (first : Piece) (more : List ℕ) → is_words first ≡ false
    → position_or_len is_mark (spelled_piece first ++ more) ≡ 0
mark_first (one (start tag)) more words = refl
mark_first (one (end name)) more words = refl
mark_first (one (leaf (text content))) more words = absurd (false≢true (sym words))
mark_first (one (leaf (char_data content))) more words = refl
mark_first (one (leaf (entity_ref name))) more words = refl
mark_first (one (leaf other)) more words = refl
mark_first (one (leaf (flaw why))) more words = refl
mark_first (empty tag) more words = refl

ends_words : (pieces : List Piece) → begin_with_words pieces ≡ false
    → position_or_len is_mark (spelled pieces) ≡ 0
ends_words [] words = refl
ends_words (first ∷ pieces) words = mark_first first (spelled pieces) words

alone : (x y : Bool) → not (x && y) ≡ true → x ≡ true → y ≡ false
alone true y is own = not-true y is
alone false y is own = absurd (false≢true own)

pub cut_back : (pieces : List Piece) → are_spellable pieces ≡ true
    → markup_events (spelled pieces) ≡ flat_map events_of_piece pieces
cut_back [] are = no_events
cut_back (first ∷ pieces) are =
    let tests = and_parts _ _ are in
    let own = and_parts _ _ tests.0 in
    piece_cut first (spelled pieces) own.0
    (λ words. ends_words pieces (alone _ _ own.1 words))
    ∙ ap (λ (events : List Event). events_of_piece first ++ events) (cut_back pieces tests.1)
