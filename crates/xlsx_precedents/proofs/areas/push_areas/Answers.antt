use Rattle.std.proofs.Common.{◌++◌, ap, ◌∙◌}
use Rattle.formula_shift.specs.Words.{piece_text, pieces_left}
use Rattle.xlsx_precedents.proofs.OwnAreas.{own_areas_begin, own_areas_next}
use Rattle.xlsx_precedents.proofs.areas.push_areas.Goals as goal

pub loop-piece-init : goal.loop-piece-init
loop-piece-init c =
    record {
      areas = ap (λ all. c.args.out.now.items ++ all)
          (own_areas_begin c.args.formula.now (pieces_left c.new-pieces.result)
          c.new-pieces.ensures.pieces);
      on_sheet = λ all. all;
    }

pub loop-piece-preserved : goal.loop-piece-preserved
loop-piece-preserved c =
    record {
      areas = own_areas_next c.loop-piece.out.items c.push_own.new.out.items c.loop-piece.before
          c.last_byte-before.result c.first_byte.result c.loop-piece.pieces.rest.now
          c.next.new.self.rest.now c.as_str-text.result.now (piece_text c.in-Some.piece)
          c.in-Some.ensures.steps c.first_byte.ensures c.in_ok-push_own.ensures.ok
          c.last_byte-before.ensures c.as_str-text.ensures
          ∙ c.loop-piece.invariant.areas;
      on_sheet = λ all. c.in_ok-push_own.ensures.on_sheet (c.loop-piece.invariant.on_sheet all);
    }
