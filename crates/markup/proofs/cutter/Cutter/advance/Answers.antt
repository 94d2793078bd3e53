use Rattle.std.proofs.Common.{◌≡◌, ◌∷◌, drop, length, sym, ap, subst, ◌∙◌, arith, None}
use Rattle.std.proofs.lemmas.List.{take_rest, drop_all}
use Rattle.std.specs.Str.{IsCharBoundary}
use Rattle.markup.specs.Found.{seen, Stands}
use Rattle.markup.specs.Front.{front_in_markup}
use Rattle.markup.specs.Marks.{byte_at}
use Rattle.markup.specs.Markup.{markup_events}
use Rattle.markup.specs.Cutting.{to_come, place_behind, held_event, events_left, Lies, flaw_left}
use Rattle.markup.specs.Cutting.{held_at}
use Rattle.markup.proofs.FlawPlaces.{flaw_none, flaw_passed}
use Rattle.markup.specs.declared.cutter.Held.{Held}
use Rattle.markup.proofs.InOrder.{no_events}
use Rattle.markup.proofs.Steps.{ended, stepped, stays_at}
use Rattle.markup.proofs.cutter.Cutter.advance.Goals as goal

pub returns-then-self-text-clause-takes : goal.returns-then-self-text-clause-takes
returns-then-self-text-clause-takes c =
    let bytes = c.args.text.now in
    let old = c.args.self.now in
    let none : to_come old.held ≡ None = sym c.to_come.ensures ∙ c.in_default.is in (
      ended bytes old.at old.held none (omega arith),
      ap markup_events (drop_all old.at bytes (omega arith)) ∙ no_events,
    )

pub returns-clause-stays : goal.returns-clause-stays
returns-clause-stays c =
    let bytes = c.args.text.now in
    let at = c.args.self.now.at in
    let found = c.found_in-found.result in
    let rest = take_rest c.as_bytes.result.now at ∙ ap (drop at) c.as_bytes.ensures.value in
    let stands : Stands (drop at bytes) found =
    subst (λ own. Stands own found) rest c.found_in-found.ensures.stands in
    let cutting = stays_at bytes at found c.utf8.text c.requires.at stands in
    record {
      at = subst (IsCharBoundary bytes) (sym c.place_behind-self.ensures) cutting.at;
      held = subst (Lies bytes) (sym c.held_at-self.ensures) cutting.held;
    }

pub returns-clause-takes : goal.returns-clause-takes
returns-clause-takes c =
    let bytes = c.args.text.now in
    let old = c.args.self.now in
    let at = old.at in
    let found = c.found_in-found.result in
    let rest = take_rest c.as_bytes.result.now at ∙ ap (drop at) c.as_bytes.ensures.value in
    let stands : Stands (drop at bytes) found =
    subst (λ own. Stands own found) rest c.found_in-found.ensures.stands in
    let front : seen (drop at bytes) found
    ≡ front_in_markup (byte_at (drop at bytes) 0) (drop 1 (drop at bytes)) =
    subst (λ own. seen own found ≡ front_in_markup (byte_at own 0) (drop 1 own)) rest
    c.found_in-found.ensures.front in
    let none : to_come old.held ≡ None = sym c.to_come.ensures ∙ c.in_default.is in
    let step = stepped bytes at old.held found none (omega (arith, c.requires.at.0)) front stands in
    step
    ∙ ap (λ (own : Held). held_event bytes own ∷ events_left bytes
    (record { at = place_behind at (length bytes) found; held = own })) (sym c.held_at-self.ensures)
    ∙ ap (λ n. held_event bytes c.held_at-self.result ∷ events_left bytes
    (record { at = n; held = c.held_at-self.result })) (sym c.place_behind-self.ensures)

pub returns-then-self-text-clause-flaw : goal.returns-then-self-text-clause-flaw
returns-then-self-text-clause-flaw c =
    flaw_none c.args.text.now c.args.self.now.at (omega arith)

pub returns-clause-flaw : goal.returns-clause-flaw
returns-clause-flaw c =
    let bytes = c.args.text.now in
    let at = c.args.self.now.at in
    let found = c.found_in-found.result in
    let rest = take_rest c.as_bytes.result.now at ∙ ap (drop at) c.as_bytes.ensures.value in
    let stands : Stands (drop at bytes) found =
    subst (λ own. Stands own found) rest c.found_in-found.ensures.stands in
    let front : seen (drop at bytes) found
    ≡ front_in_markup (byte_at (drop at bytes) 0) (drop 1 (drop at bytes)) =
    subst (λ own. seen own found ≡ front_in_markup (byte_at own 0) (drop 1 own)) rest
    c.found_in-found.ensures.front in
    flaw_passed bytes at found (omega (arith, c.requires.at.0)) front stands
    ∙ ap (λ n. flaw_left bytes n (held_at at found)) (sym c.place_behind-self.ensures)
    ∙ ap (λ (own : Held). flaw_left bytes c.place_behind-self.result own)
    (sym c.held_at-self.ensures)
