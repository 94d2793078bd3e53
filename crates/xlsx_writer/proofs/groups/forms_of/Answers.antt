use Rattle.std.proofs.Common.{◌≡◌, ◌∙◌, ◌+◌, ◌++◌, ◌∷◌, [], ap, sym, subst, arith, length, get_or}
use Rattle.std.proofs.Common.{ℕ, length-append, inl, inr, List, refl, take, ◌<◌, ◌≤◌, rules}
use Rattle.std.specs.Prelude.{map, slice_index, ◌==◌, All, vec_len}
use Rattle.std.proofs.lemmas.Bool.{cases_lt}
use Rattle.std.proofs.lemmas.List.{length-map, map-append, get_or_default}
use Rattle.std.proofs.lemmas.List.Elements.{All-append, All-nil}
use Rattle.std.proofs.Math.ListN.{get_or-map, get_or-append}
use Rattle.std.proofs.Math.Seq.{get_or-append_seam}
use Rattle.xlsx_writer.specs.Groups.{group_index, WrittenFormula}
use Rattle.xlsx_writer.specs.Grouping.{formula_at_place, member_entry, member_head, form_by}
use Rattle.xlsx_writer.specs.Grouping.{master_count}
use Rattle.xlsx_writer.specs.Writing.{form_entry, written_as, IsFormInSheet, IsLastInSheet}
use Rattle.xlsx_writer.specs.declared.groups.GroupedFormula.{GroupedFormula}
use Rattle.xlsx_writer.proofs.Heads.{blank_member}
use Rattle.xlsx_writer.proofs.Masters.{index_at, masters_more, written_found, masters_found}
use Rattle.xlsx_writer.proofs.Masters.{one_at_most, All-one, sheet_found, written_more}
use Rattle.xlsx_writer.proofs.Masters.{masters_among, written_first}
use Rattle.xlsx_writer.proofs.groups.forms_of.Goals as goal

pub index-index-requires : goal.index-index-requires
index-index-requires c =
    let members = c.args.members.now in
    let i = c.loop-member.member-index in
    let head_is = get_or-map member_head members i blank_member in
    let up = c.requires.heads.up_to i
    (omega (arith, c.loop-member-test.true, length-map members member_head)) in
    let size : vec_len c.push.new.self ≡ length c.push.new.self.items = search rules in
    omega (
      arith,
      size,
      head_is,
      up,
      c.loop-member.invariant.known,
      ap length c.in_ok-push.ensures.items,
      length-append c.loop-member.indices.items (c.loop-member.masters ∷ []),
    )

pub loop-member-preserved : goal.loop-member-preserved
loop-member-preserved c =
    let members = c.args.members.now in
    let placed = map member_entry members in
    let heads = map member_head members in
    let i = c.loop-member.member-index in
    let known = c.loop-member.invariant in
    let member = get_or members i blank_member in
    let entry_is = get_or-map member_entry members i blank_member in
    let head_is = get_or-map member_head members i blank_member in
    let sizes = length-map members member_entry in
    let counts = length-map members member_head in
    let rows = c.args.last_rows.items in
    let inside : i < length placed = omega (arith, sizes, c.loop-member-test.true) in
    let before = c.loop-member.indices.items in
    let indices = c.push.new.self.items in
    let pushed : indices ≡ before ++ c.loop-member.masters ∷ [] = c.in_ok-push.ensures.items in
    let size = ap length pushed ∙ length-append before (c.loop-member.masters ∷ []) in
    let own_index =
    known.masters ∙ sym (index_at placed i c.requires.order.rising inside) in
    let all_indices : (k : ℕ) → k < i + 1 →
    slice_index indices k ≡ group_index placed (formula_at_place placed k).0 =
    λ k within. ap (λ (ns : List ℕ). slice_index ns k) pushed
    ∙ elim (cases_lt k i) [
      | inl earlier ↦
          get_or-append before (c.loop-member.masters ∷ []) 0 k (omega (arith, known.known))
          ∙ known.indices k earlier
      | inr last ↦
          let here : k ≡ i = omega arith in
          let at : k ≡ length before = omega (arith, known.known) in
          ap (λ (j : ℕ). slice_index (before ++ c.loop-member.masters ∷ []) j) at
          ∙ get_or-append_seam before c.loop-member.masters [] 0 ∙ own_index
          ∙ ap (λ (j : ℕ). group_index placed (formula_at_place placed j).0) (sym here)
    ] in
    let up = c.requires.heads.up_to i (omega (arith, counts, sizes)) in
    let idx = c.index-index.result.now in
    let is_index : idx ≡ group_index placed (formula_at_place placed (slice_index heads i)).0 =
    c.index-index.ensures
    ∙ get_or_default indices member.head idx 0 (omega (arith, size, known.known, up, head_is))
    ∙ ap (λ (j : ℕ). slice_index indices j) (sym head_is)
    ∙ all_indices (slice_index heads i) (omega arith) in
    let so_many : vec_len c.loop-member.formulas ≡ length c.loop-member.formulas.items =
    search rules in
    let place_is : c.len-place.result ≡ i = c.len-place.ensures ∙ so_many ∙ known.count in
    let last_is : c.index.result.now ≡ slice_index rows i =
    c.index.ensures
    ∙ get_or_default rows c.len-place.result c.index.result.now 0
    (omega (arith, place_is, c.requires.count, c.loop-member-test.true))
    ∙ ap (λ (j : ℕ). slice_index rows j) place_is in
    let form = c.form_of-form.result in
    let form_is : form
    ≡ form_by (slice_index heads i == i) (formula_at_place placed i).0.0 (slice_index rows i) idx =
    c.form_of-form.ensures
    ∙ (λ j. form_by (sym head_is j == place_is j) (sym entry_is j).0.0 (last_is j) idx) in
    let written =
    written_found placed heads rows c.requires.order.rising c.requires.heads (counts ∙ sym sizes)
    c.requires.last_rows i idx inside is_index in
    let masters =
    masters_found placed heads rows c.requires.order.rising c.requires.heads (counts ∙ sym sizes)
    c.requires.last_rows i idx inside is_index in
    let on_sheet =
    sheet_found placed heads rows c.requires.order.rising c.requires.heads (counts ∙ sym sizes)
    c.requires.last_rows i idx inside is_index c.requires.order.sheet in
    let at_most_one : c.masters_in-masters.result ≤ 1 =
    subst (λ (n : ℕ). n ≤ 1) (sym c.masters_in-masters.ensures) (one_at_most form) in
    let own : GroupedFormula =
    record { position = member.position; text = member.text; form = form } in
    record {
      count = omega (
        arith,
        known.count,
        ap length c.in_ok-push-2.ensures.items,
        length-append c.loop-member.formulas.items (own ∷ []),
      );
      forms = ap (map form_entry) c.in_ok-push-2.ensures.items
          ∙ map-append form_entry c.loop-member.formulas.items (own ∷ [])
          ∙ (λ j. known.forms j
          ++ (((sym entry_is j).0, written_as (form_is j) (sym entry_is j).1) ∷ []))
          ∙ ap (λ (f : WrittenFormula). written_first placed i
          ++ ((formula_at_place placed i).0, f) ∷ [])
          written
          ∙ sym (written_more placed i inside);
      sheet = subst (All IsFormInSheet) (sym c.in_ok-push-2.ensures.items)
          (All-append IsFormInSheet c.loop-member.formulas.items (own ∷ []) known.sheet
          (All-one IsFormInSheet own (subst IsLastInSheet (sym form_is) on_sheet)));
      known = omega (arith, known.known, size);
      indices = all_indices;
      masters = (λ j. known.masters j + c.masters_in-masters.ensures j)
          ∙ ap (λ (n : ℕ). masters_among placed (take i placed) + n)
          (ap master_count form_is ∙ masters)
          ∙ sym (masters_more placed i inside);
      few = omega (arith, known.few, at_most_one);
    }

pub loop-member-init : goal.loop-member-init
loop-member-init c = record {
  count = ap length c.new-formulas.ensures.items;
  forms = ap (map form_entry) c.new-formulas.ensures.items;
  sheet = subst (All IsFormInSheet) (sym c.new-formulas.ensures.items) (All-nil IsFormInSheet);
  known = ap length c.new-indices.ensures.items;
  indices = λ k before. absurd (omega arith);
  masters = refl;
  few = omega arith;
}
