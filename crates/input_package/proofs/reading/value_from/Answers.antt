use Rattle.std.proofs.Common.{sym, true≢false}
use Rattle.package_text.proofs.PackageTextLemmas.{package_in-read, package_in-none}
use Rattle.input_package.proofs.reading.value_from.Goals as goal

pub returns-in-Ok-clause-ok : goal.returns-in-Ok-clause-ok
returns-in-Ok-clause-ok c = package_in-read _ _ c.in-Ok.ensures.ok.0 c.in-Ok.ensures.ok.1

pub returns-else-is_memory-clause-err : goal.returns-else-is_memory-clause-err
returns-else-is_memory-clause-err c =
    package_in-none _
    (c.in-Err.ensures.err (λ memory. absurd (true≢false (sym (c.if-is_memory.ensures.1 memory)))))
