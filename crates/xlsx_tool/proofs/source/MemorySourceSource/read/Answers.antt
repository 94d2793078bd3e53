use Rattle.std.proofs.Common.{arith, ◌≡◌, ◌≤◌, ◌-◌, length, take, drop}
use Rattle.std.proofs.lemmas.Grind.{common_steps}
use Rattle.xlsx_tool.proofs.SourceLemmas.{front_moved}
use Rattle.xlsx_tool.proofs.source.MemorySourceSource.read.Goals as goal

pub returns-clause-bytes : goal.returns-clause-bytes
returns-clause-bytes c =
    let bytes = c.self.inside.bytes.items in
    let at = c.self.inside.at in
    let count = c.min-count.result in
    let front = c.copy_from_slice.new.self in
    let copied : front ≡ take count (drop at bytes) =
    grind (arith, common_steps, c.copy_from_slice.ensures.after, c.deref-2.ensures.value) in
    let fits : count ≤ length bytes - at =
    omega (arith, c.min-count.ensures, c.self.inside.bytes.ok.0) in
    rw (← c.self.view_is) (front_moved bytes front _ at count copied fits)
