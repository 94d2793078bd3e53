use Rattle.std.proofs.Common.{◌∷◌, [], ◌++◌, map, ap, ◌∙◌, arith}
use Rattle.std.proofs.lemmas.List.{length-map}
use Rattle.text_package.specs.TextParts.{TextOfPart, part_seen}
use Rattle.text_package.proofs.Told.{finds_more}
use Rattle.text_package.proofs.package.TextPackage.add_part.Goals as goal

pub invariant_of-self-2 : goal.invariant_of-self-2
invariant_of-self-2 c =
    let parts = c.self.inside.parts.items in (
      tt,
      finds_more c.push-2.new.self parts c.push.new.self.items c.args.name.now c.args.bytes.items
          (c.in_default.ensures.ok (map part_seen parts) c.self.invariant.1
          (omega (
            arith,
            c.len-place.ensures,
            c.self.inside.parts.ok.0,
            length-map parts part_seen,
          )))
          (c.in_ok-push.ensures.items
          ∙ ap (λ (part : TextOfPart). parts ++ part ∷ []) c.in_ok-part.ensures),
    )
