use Rattle.std.proofs.Common.{◌≡◌, ◌∙◌, ap}
use Rattle.std.specs.List.{prefix_len}
use Rattle.std.proofs.lemmas.Str.{IsUtf8-drop}
use Rattle.escaped_text.specs.Escaped.{is_unescaped}
use Rattle.escaped_text.proofs.EscapedLemmas.{escaped_front, starts_escaped, unescaped_boundary}
use Rattle.escaped_text.proofs.escaping.split_unescaped.Goals as goal

pub split_at-requires : goal.split_at-requires
split_at-requires c =
    let place : c.unescaped_len.result ≡ prefix_len is_unescaped c.args.text.now =
    c.unescaped_len.ensures ∙ ap (prefix_len is_unescaped) c.as_bytes.ensures.value in
    rw place (unescaped_boundary c.args.text.now)

pub returns-clause-front : goal.returns-clause-front
returns-clause-front c =
    let place : c.unescaped_len.result ≡ prefix_len is_unescaped c.args.text.now =
    c.unescaped_len.ensures ∙ ap (prefix_len is_unescaped) c.as_bytes.ensures.value in
    rw (c.split_at.ensures.front, place) (escaped_front c.args.text.now)

pub returns-clause-behind : goal.returns-clause-behind
returns-clause-behind c =
    let place : c.unescaped_len.result ≡ prefix_len is_unescaped c.args.text.now =
    c.unescaped_len.ensures ∙ ap (prefix_len is_unescaped) c.as_bytes.ensures.value in
    rw (c.split_at.ensures.back, place) (starts_escaped c.args.text.now)

pub returns-clause-text : goal.returns-clause-text
returns-clause-text c =
    let place : c.unescaped_len.result ≡ prefix_len is_unescaped c.args.text.now =
    c.unescaped_len.ensures ∙ ap (prefix_len is_unescaped) c.as_bytes.ensures.value in
    let text = c.args.text.now in
    rw (c.split_at.ensures.back, place)
    (IsUtf8-drop text (prefix_len is_unescaped text) c.utf8.text (unescaped_boundary text))
