use Rattle.std.proofs.Common.{drop, subst}
use Rattle.std.specs.Str.{IsUtf8}
use Rattle.text_package.proofs.Texts.{text_of}
use Rattle.text_package.proofs.part.PartBytes.new.Goals as goal

pub as_string-requires : goal.as_string-requires
as_string-requires c =
    let bytes = c.deref.result.now in
    subst IsUtf8 c.deref.ensures.value
    (text_of bytes (drop c.in-Some.mark bytes) c.in-Some.ensures.text).utf8
