use Rattle.std.proofs.Common.{◌≡◌, ℕ, ◌∙◌, List, Some, drop, take, reverse, length, map, sym, ap}
use Rattle.std.proofs.Common.{refl, subst, arith}
use Rattle.part_events.specs.Words.{folded, part_at}
use Rattle.part_events.proofs.NamesFound.{opens_none}
use Rattle.text_package.specs.PartText.{text_in}
use Rattle.text_package.specs.Reading.{IsReadingPart, taken_in}
use Rattle.text_package.specs.TextParts.{part_seen, bytes_at}
use Rattle.text_package.proofs.Told.{found_within, opens_told, bytes_read}
use Rattle.text_package.proofs.package.TextPackagePackage.open.Goals as goal

pub index-requires : goal.index-requires
index-requires c =
    let parts = c.self.inside.parts.items in
    let within = found_within parts (folded c.args.name.now) c.in-Some.part
    (c.in-Some.ensures.found (map part_seen parts) c.self.invariant.1) in
    omega (arith, within, c.self.inside.parts.ok.0)

pub invariant_of-self : goal.invariant_of-self
invariant_of-self c =
    let parts = c.self.inside.parts.items in
    let within = found_within parts (folded c.args.name.now) c.in-Some.part
    (c.in-Some.ensures.found (map part_seen parts) c.self.invariant.1) in
    let read = bytes_read parts c.in-Some.part c.index.result.now within c.index.ensures in (
      (
        within,
        subst (λ (bytes : List ℕ). IsReadingPart (text_in bytes) (length bytes)
            c.new-reading.result) read c.new-reading.ensures.stands,
      ),
      c.place.ensures.keeps (map part_seen parts) c.self.invariant.1,
    )

pub returns-in-Some-clause-opens : goal.returns-in-Some-clause-opens
returns-in-Some-clause-opens c = λ told.
    let parts = c.self.inside.parts.items in
    let place = c.in-Some.part in
    let is = c.in-Some.ensures.found (map part_seen parts) c.self.invariant.1 in
    let within = found_within parts (folded c.args.name.now) place is in
    let read = bytes_read parts place c.index.result.now within c.index.ensures in
    let events = (part_at (map part_seen parts) place).events in
    let none : 0 ≡ taken_in (length (bytes_at parts place)) c.new-reading.result =
    omega (arith, ap length read, c.new-reading.ensures.left) in
    rw (← c.self.view_is) (record {
      part = opens_told parts c.args.name.now place is ∙ ap (λ n. Some (drop n events)) none;
      past = ap (λ n. reverse (take n events)) (sym none);
    })

pub returns-in-None-clause-opens : goal.returns-in-None-clause-opens
returns-in-None-clause-opens c = λ told.
    let told_parts = map part_seen c.self.inside.parts.items in
    rw (← c.self.view_is) (record {
      part = opens_none told_parts c.args.name.now
          (c.in-None.ensures.found told_parts c.self.invariant.1);
      past = refl;
    })
