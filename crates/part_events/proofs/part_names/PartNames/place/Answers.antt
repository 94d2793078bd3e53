use Rattle.std.proofs.Common.{refl, arith, ap, ◌∙◌, rules}
use Rattle.part_events.specs.Package.{folded}
use Rattle.part_events.specs.PartNames.{place_by}
use Rattle.part_events.proofs.NamesFound.{finds_still}
use Rattle.part_events.proofs.part_names.PartNames.place.Goals as goal

pub returns-clause-keeps : goal.returns-clause-keeps
returns-clause-keeps c = λ parts been.
    finds_still c.args.self.now _ parts been refl (omega (arith, c.fold_to_front.ensures.size))

pub returns-clause-found : goal.returns-clause-found
returns-clause-found c = λ parts been.
    c.find.ensures ∙ ap (place_by c.args.self.now.places) (search rules)
    ∙ been.kept (folded c.args.name.now)
