use Rattle.std.proofs.Common.{◌≡◌, ◌+◌, ◌<◌, true, length, drop, get_or, ap, ◌∙◌, inl, inr, rules}
use Rattle.std.specs.Prelude.{◌==◌}
use Rattle.std.specs.List.{position_or_len, after_first}
use Rattle.std.proofs.lemmas.List.{drop_min}
use Rattle.attr_text.specs.Words.{is_quote, is_equals_sign, without_leading_space}
use Rattle.tests_parts.proofs.SlowLemmas.{front_of-attribute, quoted}
use Rattle.tests_parts.proofs.slow_attributes.first_parts.Goals as goal
use Rattle.tests_parts.proofs.slow_attributes.first_parts.Goals.{
  else-value-ne34-via-then-value-ne34+else-value-ne39,
}
use Rattle.tests_parts.proofs.slow_attributes.first_parts.Goals.{
  else-value-ne34-via-else-value-ne34,
}

pub returns : goal.returns
returns c =
    let size = c.args.size in
    let text = c.args.text.now in
    let body = c.back_part-body.result.now in
    let value = c.back_part-value.result.now in
    let inside = c.text_from-inside.result.now in
    let mark = get_or value 0 0 in
    let equals : c.place_of-equals.result ≡ position_or_len is_equals_sign body =
    c.place_of-equals.ensures.value in
    let end : c.place_of-end.result ≡ position_or_len (λ b. b == mark) inside =
    c.place_of-end.ensures.value in
    let some : position_or_len is_equals_sign body < length body = search rules in
    let nonempty : 0 < length value = search rules in
    let quote : is_quote mark ≡ true = elim c.else-value-ne34.branch [
      | else-value-ne34-via-then-value-ne34+else-value-ne39 w ↦ quoted mark
          (inr w.if-value-ne39.false)
      | else-value-ne34-via-else-value-ne34 w ↦ quoted mark (inl w.if-value-ne34.false)
    ] in
    let value_is : value ≡ without_leading_space (after_first is_equals_sign body) =
    c.back_part-value.ensures
    ∙ ap without_leading_space (c.text_from.ensures ∙ ap (λ n. drop (n + 1) body) equals) in
    let rest : c.text_from-rest.result.now ≡ after_first (λ b. b == mark) inside =
    c.text_from-rest.ensures ∙ ap (λ n. drop n inside) c.min.ensures
    ∙ drop_min (c.place_of-end.result + 1) inside ∙ ap (λ n. drop (n + 1) inside) end in
    rw (c.front_part.ensures, equals, end, rest)
    (front_of-attribute size text body value inside c.back_part-body.ensures some value_is
    nonempty quote c.text_from-inside.ensures)
