-- How an area lies to what formulas cover.
use Rattle.std.specs.Prelude.{◌&&◌, nat_le, min, max, Bool}
use Rattle.cell_refs.specs.declared.dimensions.Dimensions.{Dimensions}
use Rattle.xlsx_graph.specs.Graph.{do_meet}
use Rattle.xlsx_graph.specs.Naming.{hull}
use Rattle.xlsx_graph.specs.declared.hulls.Hull.{Hull}
use Rattle.xlsx_graph.specs.declared.named.BookArea.{BookArea}
use Rattle.xlsx_graph.specs.declared.workbook_graph.Placed.{Placed}

-- an area may have a cell of what formulas cover
abbrev pub may_meet : BookArea → Hull → Bool
may_meet a h = (nat_le a.first h.last && nat_le h.first a.last) && do_meet a.area h.all

-- an area has cells of what each of them covers
abbrev pub meets_all : BookArea → Hull → Bool
meets_all a h = (nat_le a.first h.first && nat_le h.last a.last) && do_meet a.area h.each

-- the hull of what a formula covers
abbrev pub corners_of : Placed → Hull
corners_of p = record {
  first = p.cell.sheet;
  last = p.cell.sheet;
  all = record {
    start = (min p.covers.start.0 p.covers.end.0, min p.covers.start.1 p.covers.end.1);
    end = (max p.covers.start.0 p.covers.end.0, max p.covers.start.1 p.covers.end.1);
  };
  each = p.covers;
}

-- the area from the later start of two areas up to their earlier end
abbrev pub shared : Dimensions → Dimensions → Dimensions
shared a b = record {
  start = (max a.start.0 b.start.0, max a.start.1 b.start.1);
  end = (min a.end.0 b.end.0, min a.end.1 b.end.1);
}

-- the hull of what two hulls have
abbrev pub joined_hull : Hull → Hull → Hull
joined_hull a b = record {
  first = min a.first b.first;
  last = max a.last b.last;
  all = hull a.all b.all;
  each = shared a.each b.each;
}
