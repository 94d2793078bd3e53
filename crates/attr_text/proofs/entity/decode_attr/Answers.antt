use Rattle.std.proofs.Common.{◌≡◌, ◌++◌, length, Ok, sym, ap, ◌∙◌, arith, rules, append_assoc}
use Rattle.std.specs.Prelude.{string_bytes, encode_utf8}
use Rattle.attr_text.specs.Text.{decoded, decoded_within, onto_text}
use Rattle.attr_text.proofs.DecodedLemmas.{onto_text-append, onto_text-nil, decoded_within-plain}
use Rattle.attr_text.proofs.DecodedLemmas.{decoded_within-refused, decoded_within-character}
use Rattle.attr_text.proofs.DecodedLemmas.{character_behind-none, character_behind-name, after-le}
use Rattle.attr_text.proofs.entity.decode_attr.Goals as goal

pub loop-run-init : goal.loop-run-init
unfolding decoded
loop-run-init c = record {
  decoded = rw c.new-out.ensures.bytes
      (sym (onto_text-nil (decoded_within (length c.args.text.now) c.args.text.now 0)));
  within = omega arith;
  utf8 = c.utf8.text;
}

pub returns-in_default-split_first-clause-err : goal.returns-in_default-split_first-clause-err
returns-in_default-split_first-clause-err c =
    let found = c.in-Some.ensures in
    let none = character_behind-none c.in-Some.behind.now c.in_default-split_first.ensures in
    c.loop-run.invariant.decoded
    ∙ ap (onto_text (string_bytes c.loop-run.out))
    (decoded_within-refused
    (length c.args.text.now)
    c.loop-run.rest.now c.in-Some.run'.now c.in-Some.behind.now found.0
    c.loop-run.invariant.within found.1 found.2 none)

pub returns-in_default-entity_char-clause-err : goal.returns-in_default-entity_char-clause-err
returns-in_default-entity_char-clause-err c =
    let found = c.in-Some.ensures in
    let cut = c.in-Some-split_first.ensures in
    let none = character_behind-name c.in-Some.behind.now c.in-Some-split_first.name.now cut.0 cut.1
    ∙ sym c.in_default-entity_char.ensures in
    c.loop-run.invariant.decoded
    ∙ ap (onto_text (string_bytes c.loop-run.out))
    (decoded_within-refused
    (length c.args.text.now)
    c.loop-run.rest.now c.in-Some.run'.now c.in-Some.behind.now found.0
    c.loop-run.invariant.within found.1 found.2 none)

pub loop-run-preserved : goal.loop-run-preserved
loop-run-preserved c =
    let found = c.in-Some.ensures in
    let cut = c.in-Some-split_first.ensures in
    let char = character_behind-name c.in-Some.behind.now c.in-Some-split_first.name.now cut.0 cut.1
    ∙ sym c.in-Some-entity_char.ensures in
    let size = length c.args.text.now in
    let out = string_bytes c.loop-run.out in
    let run = c.in-Some.run'.now in
    let after = c.in-Some-split_first.after.now in
    let left = decoded_within size after 0 in
    let written : string_bytes c.push.new.self
    ≡ out ++ (run ++ encode_utf8 c.in-Some-entity_char.c) = c.in_ok-push.ensures.bytes
    ∙ ap (λ o. o ++ encode_utf8 c.in-Some-entity_char.c) c.in_ok-push_str.ensures.bytes
    ∙ append_assoc out run (encode_utf8 c.in-Some-entity_char.c) in
    record {
      decoded = c.loop-run.invariant.decoded
          ∙ ap (onto_text out)
          (decoded_within-character size c.loop-run.rest.now run c.in-Some.behind.now after
          c.in-Some-entity_char.c found.0 found.1 found.2 cut.2 char)
          ∙ onto_text-append out (run ++ encode_utf8 c.in-Some-entity_char.c) left
          ∙ ap (λ o. onto_text o left) (sym written);
      within = omega (
        arith,
        after-le c.loop-run.rest.now c.in-Some.behind.now after found.2 cut.2,
        c.loop-run.invariant.within,
      );
      utf8 = search rules;
    }

pub returns-clause-ok : goal.returns-clause-ok
returns-clause-ok c =
    c.loop-run.invariant.decoded
    ∙ ap (onto_text (string_bytes c.loop-run.out))
    (decoded_within-plain (length c.args.text.now) c.loop-run.rest.now c.in_default.ensures)
    ∙ ap Ok (sym c.in_ok-push_str-2.ensures.bytes)
