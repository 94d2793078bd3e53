use Rattle.std.proofs.Common.{◌≡◌, ◌≤◌, length, IsUtf8}
use Rattle.std.specs.Prelude.{string_bytes}
use Rattle.attr_text.specs.Text.{decoded, decoded_within, onto_text}
use Rattle.attr_text.proofs.entity.decode_attr.Given as goal

abbrev pub invariant-loop-run : goal.invariant-loop-run
invariant-loop-run l = record {
  decoded : decoded l.text
      ≡ onto_text (string_bytes l.out) (decoded_within (length l.text) l.rest 0);
  within : length l.rest ≤ length l.text;
  utf8 : IsUtf8 l.rest;
}

abbrev pub decreases-loop-run : goal.decreases-loop-run
decreases-loop-run l = length l.rest
