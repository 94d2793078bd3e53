use Rattle.std.proofs.Common.{◌≡◌, ◌++◌, length, IsUtf8}
use Rattle.std.specs.Prelude.{string_bytes}
use Rattle.formula_tokens.specs.Items.{kept_bytes}
use Rattle.xlsx_graph.proofs.word.push_kept.Given as goal

abbrev pub invariant-parts : goal.invariant-parts
invariant-parts l = record {
  kept : string_bytes l.out ++ kept_bytes l.rest ≡ string_bytes l.fn.out ++ kept_bytes l.text;
  utf8 : IsUtf8 l.rest;
}

abbrev pub decreases-parts : goal.decreases-parts
decreases-parts l = length l.rest
