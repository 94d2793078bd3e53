-- What a look at the sheet of a name says in packages that have the same parts where it goes.
use Rattle.std.proofs.Common.{ℕ, List, Option, sym, ◌∙◌}
use Rattle.part_events.specs.Words.{Part}
use Rattle.xlsx_error.specs.declared.error.XlsxError.{XlsxError}
use Rattle.looks.proofs.Alike.{said_alike, cause_alike, alike_back}
use Rattle.xlsx_commands.specs.Words.{HasNamedLook, LookPathCause, NamedLook, NamedLookCause}
use Rattle.xlsx_footprints.specs.Footprints.{HaveSameNamedLook}
use Rattle.xlsx_footprints.proofs.OpeningsAlike.{opening_back, opens_at_over}
use Rattle.xlsx_footprints.proofs.SheetsAlike.{named_over}

pub look_over : {A : Type 0} (look : NamedLook A) (one two : List Part) (name : List ℕ) (said : A)
    → HaveSameNamedLook look one two name → HasNamedLook look one name said
    → HasNamedLook look two name said
look_over look one two name said same (path, at, taken) = (
  path,
  opens_at_over one two name path same.opening at,
  sym (said_alike (look name path) one two (same.parts path at)) ∙ taken,
)

pub look_cause_over : {A : Type 0} (look : NamedLook A) (one two : List Part) (name : List ℕ)
    (error : XlsxError) → HaveSameNamedLook look one two name
    → NamedLookCause look one name error → NamedLookCause look two name error
look_cause_over look one two name error same cause =
    named_over (LookPathCause look name) one two name error same.opening
    (λ path at has. cause_alike (look name path) one two error (same.parts path at) has) cause

pub look_back : {A : Type 0} (look : NamedLook A) (one two : List Part) (name : List ℕ)
    → HaveSameNamedLook look one two name → HaveSameNamedLook look two one name
look_back look one two name same =
    let opening = opening_back one two same.opening in
    record {
      opening = opening;
      parts = λ (path : Option (List ℕ)) at. alike_back (look name path) one two
          (same.parts path (opens_at_over two one name path opening at));
    }
