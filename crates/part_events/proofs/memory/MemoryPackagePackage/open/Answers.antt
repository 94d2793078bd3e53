use Rattle.std.proofs.Common.{◌≡◌, ◌<◌, ℕ, length, Option, Some, sym, subst, refl, arith}
use Rattle.std.specs.Prelude.{IfSome}
use Rattle.part_events.specs.Package.{folded}
use Rattle.part_events.specs.PartNames.{place_of}
use Rattle.part_events.proofs.NamesFound.{place_within, opens_found, opens_none}
use Rattle.part_events.proofs.memory.MemoryPackagePackage.open.Goals as goal

pub invariant_of-self : goal.invariant_of-self
invariant_of-self c =
    let parts = c.self.inside.parts.items in
    let key = folded c.args.name.now in
    let is : Some c.in-Some.part ≡ place_of parts key =
    c.in-Some.ensures.found parts c.self.invariant.1 in (
      (
        subst (λ (found : Option ℕ). IfSome found (λ place. place < length parts)) (sym is)
            (place_within parts key),
        omega arith,
        λ has. absurd (cc),
      ),
      c.place.ensures.keeps parts c.self.invariant.1,
    )

pub returns-in-Some-clause-opens : goal.returns-in-Some-clause-opens
returns-in-Some-clause-opens c = λ told.
    let parts = c.self.inside.parts.items in
    rw (← c.self.view_is) (record {
      part = opens_found parts c.args.name.now c.in-Some.part
          (c.in-Some.ensures.found parts c.self.invariant.1);
      past = refl;
    })

pub returns-in-None-clause-opens : goal.returns-in-None-clause-opens
returns-in-None-clause-opens c = λ told.
    let parts = c.self.inside.parts.items in
    rw (← c.self.view_is) (record {
      part = opens_none parts c.args.name.now
          (c.in-None.ensures.found parts c.self.invariant.1);
      past = refl;
    })
