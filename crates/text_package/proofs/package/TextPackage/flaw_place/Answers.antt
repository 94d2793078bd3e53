use Rattle.std.proofs.Common.{◌∙◌, ℕ, Option, ap, arith, map}
use Rattle.std.specs.Prelude.{option_and_then}
use Rattle.part_events.specs.Words.{folded}
use Rattle.text_package.specs.TextParts.{part_seen, bytes_at, part_flaw}
use Rattle.text_package.proofs.Told.{found_within, bytes_read}
use Rattle.text_package.proofs.package.TextPackage.flaw_place.Goals as goal
use Rattle.text_package.proofs.package.TextPackage.flaw_place.Goals.{in-Some, in-None}

pub index-requires : goal.index-requires
index-requires c =
    let parts = c.self.inside.parts.items in
    let within = found_within parts (folded c.args.name.now) c.in-Some.part
    (c.in-Some.ensures.found (map part_seen parts) c.self.invariant.1) in
    omega (arith, within, c.self.inside.parts.ok.0)

pub returns-clause-value : goal.returns-clause-value
returns-clause-value c =
    let parts = c.self.inside.parts.items in
    let key = folded c.args.name.now in
    rw (← c.self.view_is) (elim c.match-place.branch [
      | in-Some w ↦
          let is = w.in-Some.ensures.found (map part_seen parts) c.self.invariant.1 in
          let within = found_within parts key w.in-Some.part is in
          w.result-is ∙ w.flaw.ensures
          ∙ ap part_flaw
          (bytes_read parts w.in-Some.part w.index.result.now within w.index.ensures)
          ∙ ap (λ (found : Option ℕ). option_and_then
          (λ place. part_flaw (bytes_at parts place)) found) is
      | in-None w ↦ w.result-is
          ∙ ap (λ (found : Option ℕ). option_and_then
          (λ place. part_flaw (bytes_at parts place)) found)
          (w.in-None.ensures.found (map part_seen parts) c.self.invariant.1)
    ])
