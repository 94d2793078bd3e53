use Rattle.std.proofs.Common.{◌≡◌, length, string_bytes, arith, ◌∙◌}
use Rattle.std.proofs.lemmas.List.{length-append}
use Rattle.std.proofs.lemmas.Str.{IsCharBoundary-end}
use Rattle.part_events.proofs.StoredTexts.{boundary_kept, extends_by}
use Rattle.part_events.proofs.stored.push_text.Goals as goal

pub returns-clause-lies : goal.returns-clause-lies
returns-clause-lies c =
    let old = string_bytes c.args.text.now in
    let new = string_bytes c.push_str.new.self in
    let joined = c.in_ok-push_str.ensures.bytes in
    let extends = extends_by old new c.args.piece.now c.utf8.piece joined in
    let ends : c.len.result ≡ length new = c.len.ensures ∙ c.push_str.new.self.bytes.ok.0 in
    let longer = length-append old c.args.piece.now in
    record {
      ordered = rw (ends, joined) (omega (arith, longer));
      start_fits = boundary_kept old new (length old) extends (IsCharBoundary-end old);
      end_fits = rw ends (IsCharBoundary-end new);
    }
