use Rattle.std.proofs.Common.{◌++◌, is_ok, sym, ap, ◌∙◌, arith}
use Rattle.std.specs.Prelude.{string_bytes}
use Rattle.std.proofs.ResultArms.{chosen}
use Rattle.attr_text.proofs.LinesLemmas.{line_ends-plain, line_ends-first, length-line, length-mark}
use Rattle.attr_text.proofs.LinesLemmas.{line_written}
use Rattle.attr_text.proofs.line_ends.push_line_ends.Goals as goal

pub push_line-requires : goal.push_line-requires
push_line-requires c =
    let found = c.in-Some.ensures in
    omega (
      arith,
      c.loop-run.invariant.room,
      length-mark c.loop-run.rest.now c.in-Some.run'.now found.0 found.1,
    )

pub loop-run-preserved : goal.loop-run-preserved
loop-run-preserved c =
    let found = c.in-Some.ensures in
    let text = c.loop-run.rest.now in
    let run = c.in-Some.run'.now in
    let behind = c.in-Some.behind.now in
    let rest = c.skip_line_feed-rest.result.now in
    let after = c.skip_line_feed-rest.ensures in
    record {
      written = rw c.push_line.ensures.bytes
          (line_written (string_bytes c.loop-run.out) run rest _ text c.loop-run.invariant.written
          (line_ends-first text run behind rest found.0 found.1 found.2 after));
      room = omega (
        arith,
        c.loop-run.invariant.room,
        c.push_line.ensures.len,
        c.push_line.ensures.capacity,
        length-line text run behind rest found.0 found.1 found.2 after,
      );
      capacity = omega (arith, c.loop-run.invariant.capacity, c.push_line.ensures.capacity);
      utf8 = c.skip_line_feed-rest.utf8;
    }

pub returns-clause-ok : goal.returns-clause-ok
returns-clause-ok c =
    let last = chosen _ _ _ _ c.push_str.ensures.bytes (ap is_ok c.unwrap.ensures) in
    last ∙ ap (λ t. string_bytes c.loop-run.out ++ t)
    (sym (line_ends-plain c.loop-run.rest.now c.in_default.ensures))
    ∙ c.loop-run.invariant.written
