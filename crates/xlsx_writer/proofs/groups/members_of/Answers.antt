use Rattle.std.proofs.Common.{◌≡◌, ◌≤◌, ◌++◌, ◌∷◌, [], ◌∙◌, ap, sym, subst, arith, length}
use Rattle.std.proofs.Common.{string_bytes, List, length-append}
use Rattle.std.specs.Prelude.{map}
use Rattle.std.proofs.lemmas.List.{length-map, map-append}
use Rattle.cell_data.proofs.Stepping.{meant}
use Rattle.sorted_cells.specs.Words.{placed_left}
use Rattle.xlsx_writer.specs.Grouping.{AreHeads, AreUpTo, ArePassed, StopsAt, head_place}
use Rattle.xlsx_writer.specs.Grouping.{member_entry, member_head}
use Rattle.xlsx_writer.specs.declared.groups.Member.{Member}
use Rattle.xlsx_writer.proofs.Heads.{PassedBy, meant_rises, next_member}
use Rattle.xlsx_writer.proofs.groups.members_of.Goals as goal

pub loop-position-preserved : goal.loop-position-preserved
loop-position-preserved c =
    let all = placed_left c.args.formulas in
    let placed = meant string_bytes all in
    let items = c.loop-position.members.items in
    let front = map member_entry items in
    let heads = map member_head items in
    let behind = meant string_bytes (placed_left c.next.new.self) in
    let p = c.in-Some.position in
    let t = string_bytes c.in-Some.formula.now in
    let h = c.in_ok-head.head in
    let place = c.pass-above.result in
    let left = ap (meant string_bytes) c.in-Some.ensures.steps in
    let member : Member = record { position = p; text = c.as_str-text.result; head = h } in
    let sizes = length-map items member_entry in
    let counts = length-map items member_head in
    let known = c.deref.ensures.value in
    let within : place ≤ length front =
    omega (arith, c.pass-above.ensures.within, ap length known, sizes) in
    let next =
    next_member placed front behind heads p t c.loop-position.above place h
    (meant_rises string_bytes all ∙ c.requires.rising)
    (ap (λ cells. front ++ cells) (sym left) ∙ c.loop-position.invariant.whole)
    c.loop-position.invariant.heads (counts ∙ sym sizes)
    (subst (PassedBy front c.loop-position.above) left c.loop-position.invariant.passed)
    (subst (λ (ms : List Member). ArePassed (map member_entry ms) c.loop-position.above place p)
    known c.pass-above.ensures.passed)
    (subst (λ (ms : List Member). StopsAt (map member_entry ms) place p) known
    c.pass-above.ensures.stops)
    within
    (c.in_ok-head.ensures
    ∙ (λ i. head_place (map member_entry (c.deref-in-loop-position.ensures.value i))
    (map member_head (c.deref-in-loop-position.ensures.value i)) place p
    (c.as_str-text.ensures.value i))) in
    let more : map member_entry c.push.new.self.items ≡ front ++ (p, t) ∷ [] =
    ap (map member_entry) c.in_ok-push.ensures.items ∙ map-append member_entry items (member ∷ [])
    ∙ ap (λ own. front ++ (p, own) ∷ []) c.as_str-text.ensures.value in
    let more_heads : map member_head c.push.new.self.items ≡ heads ++ h ∷ [] =
    ap (map member_head) c.in_ok-push.ensures.items
    ∙ map-append member_head items (member ∷ []) in
    record {
      whole = ap (λ own. own ++ behind) more ∙ next.0;
      heads = subst (AreHeads placed) (sym more_heads) next.1;
      within = omega (
        arith,
        c.pass-above.ensures.within,
        ap length known,
        ap length c.in_ok-push.ensures.items,
        length-append items (member ∷ []),
      );
      passed = subst (λ own. PassedBy own place behind) (sym more) next.2;
    }

pub pass-above-requires : goal.pass-above-requires
pass-above-requires c =
    omega (arith, c.loop-position.invariant.within, ap length c.deref.ensures.value)

pub head_of-requires : goal.head_of-requires
head_of-requires c =
    subst (λ (ms : List Member). AreUpTo (map member_head ms))
    (sym c.deref-in-loop-position.ensures.value) c.loop-position.invariant.heads.up_to
