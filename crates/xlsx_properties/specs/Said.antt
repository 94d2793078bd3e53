-- What the parts of a package say by keys, and when one of them is refused.
use Rattle.std.specs.Prelude.{◌≡◌, List, Option, Result, Err}
use Rattle.part_events.specs.Words.{Event}
use Rattle.xlsx_sections.specs.Words.{Refusal}

-- what events say of a key, of which the last text stands
abbrev pub Saying : Type 0 → Type 0 → Type 0
Saying K A = K → List Event → Result (Option A) Refusal

-- what events say is refused, whichever key is asked for
abbrev pub AreRefused : {K A : Type 0} → Saying K A → List Event → Refusal → Type 0
AreRefused {K} saying events refusal = (key : K) → saying key events ≡ Err refusal
