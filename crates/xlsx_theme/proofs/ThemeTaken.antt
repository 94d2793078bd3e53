-- How many events are taken of a theme's part.
use Rattle.std.proofs.Common.{◌≡◌, ◌-◌, ℕ, Bool, List, [], ◌∷◌, length, Option, Some, true, suc}
use Rattle.std.proofs.Common.{reverse, ◌++◌, sym, ◌∙◌, ap, subst, codes, arith}
use Rattle.std.specs.Option.{option_map_or}
use Rattle.part_events.specs.Words.{Event, PackageState, OpenCounts, Opens, SameParts, CountsUp}
use Rattle.part_events.specs.Words.{part_of, event_count, Reading, ReadsOn, IsReading, MovesForward}
use Rattle.part_events.specs.Words.{ahead, events_of, behind_start, is_named, section_end}
use Rattle.xlsx_error.specs.declared.error.XlsxError.{XlsxError}
use Rattle.xlsx_sections.specs.Words.{PartSection, section_left, last_of, section_events}
use Rattle.xlsx_sections.proofs.SectionsRead.{nothing_past, first_section_left}
use Rattle.xlsx_theme.specs.ThemePart.{IsSoundTheme, TakesTheme, ThemeCause}

-- a scheme was read to its end
pub scheme_ended : {base at : ℕ} (old mid : Reading) → IsReading old → old.at ≡ 0
    → ReadsOn old mid
    → behind_start (is_named (codes "clrScheme" ∷ [])) (ahead old) ≡ Some (ahead mid)
    → base ≡ length mid.names → at ≡ suc (section_end base mid) → old.source.is_visible ≡ true
    → at ≡ section_events (codes "clrScheme") (events_of old)
scheme_ended old mid is first reads found whole ends told =
    let name = codes "clrScheme" in
    let same = reads.stays.part told in
    let there = first_section_left name old mid (nothing_past old is first told)
    (reads.stays.reading.tracked (reads.moves.parts.is_visible ∙ told)) same found in
    let count : section_events name (events_of old)
    ≡ suc (last_of (section_left (length mid.names) mid)) =
    ap (section_events name) (sym same)
    ∙ ap (λ (s : Option PartSection). option_map_or (λ (own : PartSection). suc (last_of own)) s
    (length (events_of mid))) there in
    let last = ap (λ (n : ℕ). section_end n mid) whole in
    omega (arith, ends, count, last)

-- the theme's part is faulty
pub theme_refused : {path : List ℕ} {found : Bool} {old : PackageState} {opened new : Reading}
    (error : XlsxError) → found ≡ true → SameParts old opened.source
    → OpenCounts found old opened.source
    → (old.is_visible ≡ true → Opens path found old opened.source) → MovesForward opened new
    → (old.is_visible ≡ true → ThemeCause (events_of opened) error) → old.is_visible ≡ true
    → (count : ℕ) × TakesTheme old.parts path count × CountsUp count old.taken new.source.taken
theme_refused {path = path} {old = old} {opened = opened} {new =
    new} error is same counted opens moves cause told =
    let counts : OpenCounts true old opened.source = rw is at counted in
    let opening : Opens path true old opened.source = rw is at (opens told) in
    let there : part_of old.parts path ≡ Some (events_of opened) =
    opening.part ∙ ap (λ (past : List Event). Some (reverse past ++ opened.source.rest))
    (sym opening.past) in
    let size : event_count old.parts path ≡ length opened.source.rest =
    ap (λ (part : Option (List Event)). option_map_or length part 0) opening.part in (
      new.source.taken - old.taken,
      record {
        most = omega (arith, moves.within (same.is_visible ∙ told), counts.taken, size);
        sound = λ sound. absurd (subst IsSoundTheme there sound error (cause told));
      },
      omega (arith, moves.taken, counts.taken),
    )
