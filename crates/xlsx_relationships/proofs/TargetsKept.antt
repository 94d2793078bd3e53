-- Where hyperlinks lead is kept start by start, of an Id the last.
use Rattle.std.proofs.Common.{◌≡◌, ℕ, List, [], ◌∷◌, Bool, true, false, Option, Some, None, Result}
use Rattle.std.proofs.Common.{Ok, Err, refl, ap, sym, ◌∙◌, codes}
use Rattle.std.specs.BTreeMap.{BTreeMap}
use Rattle.std.specs.Option.{option_or}
use Rattle.std.specs.Prelude.{if◌then◌else◌, String}
use Rattle.std.specs.Str.{bytes_eq}
use Rattle.std.specs.declared.alloc.Global.{Global}
use Rattle.part_events.specs.Words.{Tag, Event, PlacedTag, is_named}
use Rattle.xlsx_error.specs.declared.error.XlsxError.{XlsxError}
use Rattle.xlsx_sections.specs.Words.{some_answers, and_others_if, all_changes, changed_by}
use Rattle.xlsx_sections.specs.Words.{changed_in, Refusal, ElementFails}
use Rattle.xlsx_sections.proofs.Refused.{refused_at_weaker}
use Rattle.xlsx_relationships.specs.LinkTargets.{LinkTarget, link_target_of, later_target}
use Rattle.xlsx_relationships.specs.LinkTargets.{target_in, target_held, HoldsTargets, later_of}
use Rattle.xlsx_relationships.specs.LinkTargets.{put_later, link_targets_in, without_escapes}
use Rattle.xlsx_relationships.specs.LinkTargets.{leading_to}
use Rattle.xlsx_relationships.specs.Relationships.{relationship_starts}

-- where an Id leads by some targets, and else as it did before
abbrev led_by : List ℕ → Option (List ℕ) → Result (List LinkTarget) Refusal
    → Result (Option (List ℕ)) Refusal
led_by id earlier (Ok targets) = Ok (option_or (target_in targets id) earlier)
led_by id earlier (Err refusal) = Err refusal

later_or : (own : LinkTarget) (id : List ℕ) (found earlier : Option (List ℕ))
    → option_or found (later_target id (Some own) earlier)
    ≡ option_or (option_or found (later_target id (Some own) None)) earlier
later_or own id (Some target) earlier = refl
later_or own id None earlier =
    elim (bytes_eq id own.id) as (λ b. (if b then Some own.target else earlier)
    ≡ option_or (if b then Some own.target else None) earlier) [
      | true ↦ refl
      | false ↦ refl
    ]

later_first : (id : List ℕ) (change : Option (List ℕ) → Result (Option (List ℕ)) Refusal)
    (earlier : Option (List ℕ)) (own : Result (Option LinkTarget) Refusal)
    (others : Result (List LinkTarget) Refusal)
    → ((before : Option (List ℕ)) → change before ≡ led_by id before others)
    → changed_by change (later_of id earlier own) ≡ led_by id earlier (and_others_if own others)
later_first id change earlier (Err refusal) others same = refl
later_first id change earlier (Ok None) others same = same earlier
later_first id change earlier (Ok (Some own)) (Err refusal) same =
    same (later_target id (Some own) earlier)
later_first id change earlier (Ok (Some own)) (Ok targets) same =
    same (later_target id (Some own) earlier)
    ∙ ap (λ (found : Option (List ℕ)). let led : Result (Option (List ℕ)) Refusal = Ok found in led)
    (later_or own id (target_in targets id) earlier)

later_all : (id : List ℕ) (starts : List PlacedTag) (earlier : Option (List ℕ))
    → all_changes (put_later id) starts earlier
    ≡ led_by id earlier (some_answers link_target_of starts)
later_all id [] earlier = refl
later_all id (start ∷ starts) earlier =
    later_first id (all_changes (put_later id) starts) earlier (link_target_of start)
    (some_answers link_target_of starts) (λ before. later_all id starts before)

abbrev pub is_relationship : Tag → Bool
is_relationship tag = is_named (codes "Relationship" ∷ []) tag

held_one : (led found : Option (List ℕ)) → (let own : Result (Option (List ℕ)) Refusal =
    Ok (option_or found None) in own) ≡ Ok led → led ≡ found
held_one led (Some target) is = cc
held_one led None is = cc

all_held : (led : List ℕ → Option (List ℕ)) (answer : Result (List LinkTarget) Refusal)
    → ((id : List ℕ) → led_by id None answer ≡ Ok (led id))
    → (targets : List LinkTarget) × (answer ≡ Ok targets)
    × ((id : List ℕ) → led id ≡ target_in targets id)
all_held led (Err refusal) is = absurd (let never = is [] in cc)
all_held led (Ok targets) is =
    (targets, refl, λ id. held_one (led id) (target_in targets id) (is id))

-- the targets by their Ids are those in the section
pub targets_held : (inside : List Event) (first kept : BTreeMap (String Global) (String Global))
    → ((id : List ℕ) → target_held first id ≡ None)
    → ((id : List ℕ) → changed_in is_relationship (put_later id) (target_held first id) inside
    ≡ Ok (target_held kept id)) → (targets : List LinkTarget)
    × (link_targets_in inside ≡ Ok targets) × HoldsTargets targets kept
targets_held inside first kept none is =
    all_held (target_held kept) (link_targets_in inside)
    (λ id. sym (later_all id (relationship_starts inside) None)
    ∙ ap (λ (earlier : Option (List ℕ)).
    changed_in is_relationship (put_later id) earlier inside) (sym (none id))
    ∙ is id)

by_answer : (id : List ℕ) (answer : Result (List LinkTarget) Refusal) (refusal : Refusal)
    → led_by id None answer ≡ Err refusal → answer ≡ Err refusal
by_answer id (Ok targets) refusal is = absurd (cc)
by_answer id (Err own) refusal is = cc

pub targets_refused : (id : List ℕ) (earlier : Option (List ℕ)) (inside : List Event)
    (refusal : Refusal) → earlier ≡ None
    → changed_in is_relationship (put_later id) earlier inside ≡ Err refusal
    → link_targets_in inside ≡ Err refusal
targets_refused id earlier inside refusal none is =
    by_answer id (link_targets_in inside) refusal
    (sym (later_all id (relationship_starts inside) None)
    ∙ ap (λ (before : Option (List ℕ)).
    changed_in is_relationship (put_later id) before inside) (sym none)
    ∙ is)

-- a text that doesn't decode is refused also where its escapes are replaced
pub link_text_fails : (at behind : ℕ) (decoded : Result (List ℕ) Refusal) (error : XlsxError)
    → ElementFails decoded at behind error → ElementFails (without_escapes decoded) at behind error
link_text_fails at behind decoded error fails =
    refused_at_weaker at behind (λ (refusal : Refusal). without_escapes decoded ≡ Err refusal)
    (λ (refusal : Refusal). decoded ≡ Err refusal) error (λ refusal is. ap without_escapes is) fails

-- and so is the relationship whose target it is
pub leading_fails : (at behind : ℕ) (id : List ℕ) (said : Result (List ℕ) Refusal)
    (error : XlsxError) → ElementFails said at behind error
    → ElementFails (leading_to id said) at behind error
leading_fails at behind id said error fails =
    refused_at_weaker at behind (λ (refusal : Refusal). leading_to id said ≡ Err refusal)
    (λ (refusal : Refusal). said ≡ Err refusal) error (λ refusal is. ap (leading_to id) is) fails
