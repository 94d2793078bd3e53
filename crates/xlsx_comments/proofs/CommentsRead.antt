-- Which refusals of the layers below are refusals of comments, and how a refused author or comment
-- makes its part refused.
use Rattle.std.proofs.Common.{◌≡◌, ℕ, List, length, Bool, true, false, Some, Option, Result, Err}
use Rattle.std.proofs.Common.{codes, inl, inr, refl, sym, ◌∙◌, ap, subst}
use Rattle.std.specs.Prelude.{◌||◌, if◌then◌else◌, option_map}
use Rattle.std.specs.Str.{bytes_eq}
use Rattle.attr_text.specs.Words.{local_name_of}
use Rattle.part_events.specs.Words.{Tag, Event, start, Reading}
use Rattle.part_events.specs.declared.fault.XmlFault.TheVariants.{Break, Unclosed, Entity}
use Rattle.xlsx_error.specs.declared.error.XlsxError.{XlsxError}
use Rattle.xlsx_error.specs.declared.error.XlsxError.TheVariants.{OutOfMemory, Io, Xml, XmlEof}
use Rattle.xlsx_error.specs.declared.error.XlsxError.TheVariants.{XmlAttr}
use Rattle.xlsx_sections.specs.Words.{ElementReadFails, IsStepError, inside_of, section_left}
use Rattle.xlsx_sections.specs.Words.{ElementFails, plain, plain_told}
use Rattle.xlsx_sections.proofs.Refused.{told_weaker}
use Rattle.xlsx_sections.proofs.SectionsRead.{same_tag}
use Rattle.xlsx_strings.specs.Strings.{string_of, end_in_string, IsStringError}
use Rattle.xlsx_comments.specs.CommentParts.{is_author, entry_said, end_in_entry, comment_start}
use Rattle.xlsx_comments.specs.CommentParts.{told_in_comment, end_in_comment, comment_said}
use Rattle.xlsx_comments.specs.CommentParts.{author_said, with_start}
use Rattle.xlsx_comments.specs.Comments.{IsCommentStartError, IsCommentsError, IsToldInComment}

pub step_error : (error : XlsxError) → IsStepError (codes "comments") error
    → IsCommentsError error
step_error OutOfMemory is = tt
step_error Io is = tt
step_error (Xml (Break at why)) is = tt
step_error (XmlEof element) is = inl is
step_error _ is = absurd is

pub start_error : (error : XlsxError) → IsCommentStartError error → IsCommentsError error
start_error OutOfMemory is = absurd is
start_error Io is = absurd is
start_error (Xml fault) is = absurd is
start_error (XmlEof element) is = absurd is
start_error error is = is

-- the text of a comment is refused as a string, and so is the comment
pub text_fails : (old new : Reading) (error told : XlsxError) → IsToldInComment error told
    → ElementReadFails end_in_string string_of old new error
    → ElementReadFails end_in_comment string_of old new told
text_fails old new Io told is fails = rw is fails
text_fails old new OutOfMemory told is fails = rw is tt
text_fails old new (XmlEof element) (XmlEof other) is fails = λ whole.
    let ends = fails whole in
    (ends.0, ap (option_map told_in_comment) ends.1 ∙ ap Some (sym is))
text_fails old new (XmlEof element) _ is fails = absurd is
text_fails old new (Xml (Unclosed at)) told is fails = rw is (λ whole.
    let ends = fails whole in
    (ends.0, ap (option_map told_in_comment) ends.1, ends.2))
text_fails old new error told is fails = rw is fails

pub text_error : (error told : XlsxError) → IsToldInComment error told → IsStringError error
    → IsCommentsError told
text_error Io told is own = rw is tt
text_error OutOfMemory told is own = rw is tt
text_error (Xml (Break at why)) told is own = rw is tt
text_error (Xml (Entity at)) told is own = rw is tt
text_error (XmlAttr fault) told is own = rw is tt
text_error (XmlEof element) (XmlEof other) is (inl text) =
    inr (inr (inl (is ∙ ap told_in_comment text)))
text_error (XmlEof element) (XmlEof other) is (inr none) =
    inr (inr (inr (is ∙ ap told_in_comment none)))
text_error (XmlEof element) _ is own = absurd is
text_error _ told is own = absurd own

-- the start of a comment is refused, and so is the comment
begun_refused : (tag : Tag) (old new : Reading) (error : XlsxError) → IsCommentStartError error
    → ElementFails (comment_start tag) 0 0 error
    → ElementReadFails end_in_comment (comment_said tag) old new error
begun_refused tag old new Io is fails = absurd is
begun_refused tag old new OutOfMemory is fails = absurd is
begun_refused tag old new (Xml fault) is fails = absurd is
begun_refused tag old new (XmlEof element) is fails = absurd is
begun_refused tag old new error is fails = λ told.
    let inside = inside_of (section_left (length old.names) old) in
    told_weaker {before = λ own. comment_said tag inside ≡ Err (plain own)} {after =
    λ own. comment_start tag ≡ Err (plain own)} (plain_told error)
    (λ own refuses. ap (with_start inside) refuses) fails

pub start_refused : (own tag : Tag) (current : Event) (old new : Reading) (error : XlsxError)
    → start own ≡ current → start tag ≡ current → IsCommentStartError error
    → ElementFails (comment_start own) 0 0 error
    → ElementReadFails end_in_comment (comment_said tag) old new error
start_refused own tag current old new error one two is fails =
    begun_refused tag old new error is
    (subst (λ (t : Tag). ElementFails (comment_start t) 0 0 error) (same_tag (one ∙ sym two)) fails)

or_false : (b : Bool) → (b || false) ≡ b
or_false true = refl
or_false false = refl

-- whether an element is an author goes by the local name of its start
pub is_author_by : {event : Event} {own : Tag} {b : Bool} (tag : Tag) → start tag ≡ event
    → start own ≡ event → b ≡ bytes_eq (local_name_of own.name) (codes "author")
    → is_author tag ≡ b
is_author_by {own = own} tag first second is =
    ap is_author (same_tag (first ∙ sym second))
    ∙ or_false (bytes_eq (local_name_of own.name) (codes "author")) ∙ sym is

pub comment_fails : (tag : Tag) (old new : Reading) (error : XlsxError) → is_author tag ≡ false
    → ElementReadFails end_in_comment (comment_said tag) old new error
    → ElementReadFails (end_in_entry tag) (entry_said tag) old new error
comment_fails tag old new error is fails =
    subst (λ (b : Bool). ElementReadFails
    (λ (inside : List Event). if b then Some (codes "author") else end_in_comment inside)
    (λ (inside : List Event). if b then author_said inside else comment_said tag inside) old new
    error) (sym is) fails
