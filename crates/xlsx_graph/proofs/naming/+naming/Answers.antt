use Rattle.std.proofs.Common.{rules, ◌≡◌, ◌-◌, ◌<◌, ◌∙◌, ap, arith, sym, subst, refl, set, true}
use Rattle.std.proofs.Common.{length}
use Rattle.std.specs.Prelude.{string_bytes}
use Rattle.std.proofs.lemmas.Result.{err_from_is_err_and}
use Rattle.book_names.specs.Told.{name_told}
use Rattle.formula_tokens.specs.Told.{place_told, named_told, item_text, formula_items_left}
use Rattle.xlsx_graph.specs.Naming.{found_within, mention_found, function_found, IsInBook}
use Rattle.xlsx_graph.specs.Naming.{found_along, read_more, nothing_found}
use Rattle.xlsx_graph.specs.Kept.{Adds, Gives}
use Rattle.xlsx_graph.specs.declared.before.Before.TheVariants.{AnyOther}
use Rattle.xlsx_graph.proofs.Along.{text_step, text_refused, text_zero, text_along, counts_start}
use Rattle.xlsx_graph.proofs.Along.{counts_end}
use Rattle.xlsx_graph.proofs.Extending.{extends_by, extends_on, extends_same, on_refusal}
use Rattle.xlsx_graph.proofs.InBook.{mention_in_book, function_in_book}
use Rattle.xlsx_graph.proofs.Opening.{front_name, gives_name, numbered_closed}
use Rattle.xlsx_graph.proofs.Ranging.{range_refused, range_gives, end_refused, join_refused}
use Rattle.xlsx_graph.proofs.Ranging.{end_step, behind_step}
use Rattle.xlsx_graph.proofs.naming.+naming.Goals as goal

pub push_ends-returns-in_err-push_mention-clause-too_large :
    goal.push_ends-returns-in_err-push_mention-clause-too_large
push_ends-returns-in_err-push_mention-clause-too_large t c =
    let p = err_from_is_err_and c.from_residual.result c.from_residual.ensures.1 in
    rw (p.1, p.2)
    (end_refused c.in_err-push_mention.field-0.0 c.args.turns c.args.book.now c.args.reader
    c.args.out.now.opened c.give_back.new.self.opened (formula_items_left c.args.items.now)
    (formula_items_left c.ends.items) (formula_items_left c.next_in_range.new.items) c.args.out.now
    c.ends.out
    c.give_back.new.self c.args.start (place_told c.in-Some.place) (named_told c.in-Some.named)
    (c.give_back.ensures.opened ∙ c.ends.invariant.opened) c.ends.invariant.so_far
    c.in-Some.ensures c.give_back.ensures c.in_err-push_mention.ensures.gives)

pub push_ends-ends-preserved : goal.push_ends-ends-preserved
push_ends-ends-preserved t c = record {
  so_far =
      end_step c.args.turns c.args.book.now c.args.reader c.args.out.now.opened
      c.give_back.new.self.opened (formula_items_left c.args.items.now) (formula_items_left
      c.ends.items)
      (formula_items_left c.next_in_range.new.items) c.args.out.now c.ends.out c.give_back.new.self
      c.push_mention.new.out c.join.new.self c.args.start c.mark-middle.result
      (place_told c.in-Some.place) (named_told c.in-Some.named)
      (c.give_back.ensures.opened ∙ c.ends.invariant.opened) c.ends.invariant.so_far
      c.in-Some.ensures c.mark-middle.ensures c.give_back.ensures
      c.in_ok-push_mention.ensures.gives c.in_ok-join.ensures.ok;
  behind =
      behind_step (formula_items_left c.ends.items) (formula_items_left c.next_in_range.new.items)
      (place_told c.in-Some.place) (named_told c.in-Some.named) c.in-Some.ensures
      ∙ c.ends.invariant.behind;
  opened =
      c.in_ok-join.ensures.opened ∙ c.in_ok-push_mention.ensures.gives.opened
      ∙ c.give_back.ensures.opened ∙ c.ends.invariant.opened;
}

pub push_ends-returns-in_err-join-clause-too_large :
    goal.push_ends-returns-in_err-join-clause-too_large
push_ends-returns-in_err-join-clause-too_large t c =
    let p =
    err_from_is_err_and c.from_residual-in_err-join.result
    c.from_residual-in_err-join.ensures.1 in
    rw (p.1, p.2)
    (join_refused c.in_err-join.field-0.0 c.args.turns c.args.book.now c.args.reader
    c.args.out.now.opened c.give_back.new.self.opened (formula_items_left c.args.items.now)
    (formula_items_left c.ends.items) (formula_items_left c.next_in_range.new.items) c.args.out.now
    c.ends.out
    c.give_back.new.self c.push_mention.new.out c.args.start c.mark-middle.result
    (place_told c.in-Some.place) (named_told c.in-Some.named)
    (c.give_back.ensures.opened ∙ c.ends.invariant.opened) c.ends.invariant.so_far
    c.in-Some.ensures c.mark-middle.ensures c.give_back.ensures
    c.in_ok-push_mention.ensures.gives c.in_err-join.ensures.too_large)

pub push_function-push_meaning-requires : goal.push_function-push_meaning-requires
push_function-push_meaning-requires t c =
    let within : c.args.reader.sheet < length c.args.book.now.sheets = search rules in (
      search rules,
      subst (IsInBook c.args.book.now) (sym c.in_ok-meaning.ensures.value)
          (function_in_book c.args.book.now c.args.reader (place_told c.args.place)
          c.args.function.now within),
    )

pub push_mention-push_meaning-requires : goal.push_mention-push_meaning-requires
push_mention-push_meaning-requires t c = (
  search rules,
  subst (IsInBook c.args.book.now) (sym c.in_ok-meaning.ensures.value)
      (mention_in_book c.args.book.now c.args.reader (place_told c.args.place)
      (named_told c.args.named) c.requires),
)

pub push_name-returns-clause-gives : goal.push_name-returns-clause-gives
push_name-returns-clause-gives t c =
    let n = c.args.number in
    let name = c.in-Some.name.now in
    let text = string_bytes name.text in
    let size : c.len.result ≡ length text = search rules in
    let same : c.deref.result.now ≡ text = search rules in
    let read : Adds c.args.out.now c.spend_read.new.self (read_more (length text) nothing_found) =
    subst (λ k. Adds c.args.out.now c.spend_read.new.self (read_more k nothing_found)) size
    c.in_ok-spend_read.ensures.ok in
    let opens : c.set_open.new.self.opened ≡ set c.args.out.now.opened n true =
    c.set_open.ensures.opened ∙ ap (λ xs. set xs n true) read.opened in
    let gives : Gives c.push_text-pushed.result c.set_open.new.self c.push_text-pushed.new.out
    (found_within c.args.turns c.args.book.now c.args.reader
    (set c.args.out.now.opened n true) text) =
    subst
    (λ o. Gives c.push_text-pushed.result c.set_open.new.self c.push_text-pushed.new.out
    (found_within c.args.turns c.args.book.now c.args.reader o text))
    opens
    (subst
    (λ own. Gives c.push_text-pushed.result c.set_open.new.self c.push_text-pushed.new.out
    (found_within c.args.turns c.args.book.now c.args.reader c.set_open.new.self.opened own))
    same c.push_text-pushed.ensures.gives) in
    let closed = sym c.is_open.ensures ∙ c.if-is_open.false in
    subst (Gives c.push_text-pushed.result c.args.out.now c.set_open-2.new.self)
    (numbered_closed c.args.turns c.args.book.now c.args.reader c.args.out.now.opened n
    c.args.word.now (name_told name) (sym c.in-Some.ensures) closed)
    (gives_name c.push_text-pushed.result c.args.out.now c.spend_read.new.self
    c.set_open.new.self c.push_text-pushed.new.out c.set_open-2.new.self n (length text) _ closed
    read c.set_open.ensures gives c.set_open-2.ensures)

pub push_name-returns-clause-front : goal.push_name-returns-clause-front
push_name-returns-clause-front t c =
    let closed = sym c.is_open.ensures ∙ c.if-is_open.false in
    front_name c.push_text-pushed.result c.args.out.now c.spend_read.new.self
    c.set_open.new.self c.push_text-pushed.new.out c.set_open-2.new.self c.args.number _ closed
    c.in_ok-spend_read.ensures.ok c.set_open.ensures c.push_text-pushed.ensures.front
    c.set_open-2.ensures

pub push_range-returns-in_err-push_mention-clause-gives :
    goal.push_range-returns-in_err-push_mention-clause-gives
push_range-returns-in_err-push_mention-clause-gives t c =
    let p = err_from_is_err_and c.from_residual.result c.from_residual.ensures.1 in
    rw (p.1, p.2)
    (range_refused c.in_err-push_mention.field-0.0
    (mention_found c.args.turns c.args.book.now c.args.reader c.args.out.now.opened)
    c.args.before
    (mention_found c.args.turns c.args.book.now c.args.reader c.args.out.now.opened
    (place_told c.args.mention.0) (named_told c.args.mention.1))
    (formula_items_left c.args.items.now) c.args.out.now c.in_err-push_mention.ensures.gives)

pub push_range-returns-clause-gives : goal.push_range-returns-clause-gives
push_range-returns-clause-gives t c =
    range_gives c.push_ends.result c.args.turns c.args.book.now c.args.reader
    c.args.out.now.opened c.push_mention.new.out.opened c.args.before
    (mention_found c.args.turns c.args.book.now c.args.reader c.args.out.now.opened
    (place_told c.args.mention.0) (named_told c.args.mention.1))
    (formula_items_left c.args.items.now) c.mark-start.result c.args.out.now c.push_mention.new.out
    c.push_ends.new.out c.in_ok-push_mention.ensures.gives.opened c.mark-start.ensures
    c.in_ok-push_mention.ensures.gives (sym c.asks_alone.ensures ∙ c.if-asks_alone.false)
    c.push_ends.ensures.ok c.push_ends.ensures.too_large

pub push_text-returns-then-turns-eq0-clause-gives :
    goal.push_text-returns-then-turns-eq0-clause-gives
push_text-returns-then-turns-eq0-clause-gives t c =
    subst (Gives c.push_word.result c.args.out.now c.push_word.new.self)
    (text_zero c.args.turns c.args.book.now c.args.reader c.args.out.now.opened c.args.text.now
    c.if-turns-eq0.true)
    c.push_word.ensures.gives

pub push_text-items-init : goal.push_text-items-init
push_text-items-init t c = record {
  counts =
      counts_start
      (mention_found (c.args.turns - 1) c.args.book.now c.args.reader c.args.out.now.opened)
      (function_found (c.args.turns - 1) c.args.book.now c.args.reader c.args.out.now.opened)
      AnyOther (formula_items_left c.new-items.result) c.args.out.now
      (found_within c.args.turns c.args.book.now c.args.reader c.args.out.now.opened
      c.args.text.now)
      (text_along c.args.turns c.args.book.now c.args.reader c.args.out.now.opened
      c.args.text.now (omega arith)
      ∙ ap
      (found_along
      (mention_found (c.args.turns - 1) c.args.book.now c.args.reader c.args.out.now.opened)
      (function_found (c.args.turns - 1) c.args.book.now c.args.reader c.args.out.now.opened)
      AnyOther 0)
      (sym c.new-items.ensures));
  front = extends_same c.args.out.now c.args.out.now refl refl refl;
  opened = refl;
}

pub push_text-returns-in_err-push_item-clause-gives :
    goal.push_text-returns-in_err-push_item-clause-gives
push_text-returns-in_err-push_item-clause-gives t c =
    let p = err_from_is_err_and c.from_residual.result c.from_residual.ensures.1 in
    rw (p.1, p.2)
    (text_refused c.in_err-push_item.field-0.0 (c.args.turns - 1) c.args.book.now c.args.reader
    c.args.out.now.opened c.items.out.opened c.items.before (item_text c.in-Some.item)
    (formula_items_left c.items.items) (formula_items_left c.next.new.self) c.args.out.now
    c.items.out
    (found_within c.args.turns c.args.book.now c.args.reader c.args.out.now.opened
    c.args.text.now)
    c.items.invariant.opened c.items.invariant.counts c.in-Some.ensures.steps
    c.in_err-push_item.ensures.gives)

pub push_text-items-preserved : goal.push_text-items-preserved
push_text-items-preserved t c = record {
  counts =
      text_step (c.args.turns - 1) c.args.book.now c.args.reader c.args.out.now.opened
      c.items.out.opened c.items.before c.before_next-before.result (item_text c.in-Some.item)
      (formula_items_left c.items.items) (formula_items_left c.next.new.self) (formula_items_left
      c.push_item.new.items)
      c.args.out.now c.items.out c.push_item.new.out
      (found_within c.args.turns c.args.book.now c.args.reader c.args.out.now.opened
      c.args.text.now)
      c.items.invariant.opened c.items.invariant.counts c.in-Some.ensures.steps
      c.in_ok-push_item.ensures.gives c.in_ok-push_item.ensures.items
      c.before_next-before.ensures;
  front =
      extends_on c.args.out.now c.items.out c.push_item.new.out c.items.invariant.front
      (extends_by c.items.out c.push_item.new.out _ c.in_ok-push_item.ensures.gives);
  opened = c.in_ok-push_item.ensures.gives.opened ∙ c.items.invariant.opened;
}

pub push_text-returns-clause-gives : goal.push_text-returns-clause-gives
push_text-returns-clause-gives t c =
    counts_end
    (mention_found (c.args.turns - 1) c.args.book.now c.args.reader c.args.out.now.opened)
    (function_found (c.args.turns - 1) c.args.book.now c.args.reader c.args.out.now.opened)
    c.items.before (formula_items_left c.items.items) c.args.out.now c.items.out
    (found_within c.args.turns c.args.book.now c.args.reader c.args.out.now.opened
    c.args.text.now)
    c.items.invariant.counts c.in_default.ensures.steps.0

pub push_function-returns-in_err-meaning-clause-front :
    goal.push_function-returns-in_err-meaning-clause-front
push_function-returns-in_err-meaning-clause-front t c =
    on_refusal c.from_residual.result _
    (extends_same c.args.out.now _ (search rules) (search rules) (search rules))

pub push_mention-returns-in_err-meaning-clause-front :
    goal.push_mention-returns-in_err-meaning-clause-front
push_mention-returns-in_err-meaning-clause-front t c =
    on_refusal c.from_residual.result _
    (extends_same c.args.out.now _ (search rules) (search rules) (search rules))

pub push_name-returns-in_err-spend_read-clause-front :
    goal.push_name-returns-in_err-spend_read-clause-front
push_name-returns-in_err-spend_read-clause-front t c =
    on_refusal c.from_residual.result _
    (extends_same c.args.out.now _ (search rules) (search rules) (search rules))

pub push_text-returns-in_err-push_item-clause-front :
    goal.push_text-returns-in_err-push_item-clause-front
push_text-returns-in_err-push_item-clause-front t c =
    on_refusal c.from_residual.result _
    (extends_on c.args.out.now c.items.out c.push_item.new.out c.items.invariant.front
    (search rules))
