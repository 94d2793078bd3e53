use Rattle.std.proofs.Common.{◌≡◌, ◌++◌, List, length, map, string_bytes}
use Rattle.xlsx_parts.specs.Words.{Leads}
use Rattle.looks.specs.Words.{for_each, look_ask}
use Rattle.xlsx_relationships.specs.RelatedLook.{each_related}
use Rattle.xlsx_relationships.proofs.related_lists.push_related.Given as goal

abbrev pub invariant-paths : goal.invariant-paths
invariant-paths g l =
    let r = g.R.ReadsRelated in
    let held = map (r.kept l.by) in
    record {
      leads :
          Leads (look_ask r.Kind (for_each (r.look l.by) (map string_bytes l.left)))
          (held l.items.items) l.xml.source
          (look_ask r.Kind (each_related (r.look l.by) l.typ l.path)) (held l.fn.items.items)
          l.fn.xml.source;
      kept : (more : List g.row.R-Item.Denot) × (l.items.items ≡ l.fn.items.items ++ more);
    }

abbrev pub decreases-paths : goal.decreases-paths
decreases-paths g l = length l.left
