use Rattle.std.proofs.Common.{◌∙◌, ◌++◌, ◌∷◌, [], ap, sym, arith, map, string_bytes}
use Rattle.std.proofs.lemmas.List.{map-append, take_all}
use Rattle.part_events.specs.Words.{Part}
use Rattle.zip_writer.specs.Files.{file_of}
use Rattle.package_file.specs.PackageFile.{part_bytes, part_file, part_files}
use Rattle.package_file.proofs.Taken.{mapped_more, same_at, same_length}
use Rattle.package_file.proofs.package_file.files_to_write.Goals as goal

pub loop-part-preserved : goal.loop-part-preserved
loop-part-preserved c =
    let parts = c.args.package.now.parts in
    let none : Part = record { name = []; events = [] } in
    let bytes_of = λ (part : Part). part_bytes part.events in
    let within = same_length string_bytes bytes_of c.args.texts.now parts c.requires in
    let bytes = c.as_bytes.ensures.value
    ∙ same_at string_bytes bytes_of c.args.texts.now parts c.loop-part.part
    c.index-texts-part.result none c.requires c.loop-part-test.true c.index-texts-part.is in
    ap (map file_of) c.in_ok-push.ensures.items
    ∙ map-append file_of c.loop-part.files.items _
    ∙ (λ i. c.loop-part.invariant i ++ record {
      name = c.part_name.ensures i;
      bytes = bytes i;
    } ∷ [])
    ∙ sym (mapped_more part_file parts c.loop-part.part none
    (omega (arith, c.loop-part-test.true, within)))

pub part_name-requires : goal.part_name-requires
part_name-requires c =
    let within = same_length string_bytes (λ (part : Part). part_bytes part.events)
    c.args.texts.now c.args.package.now.parts c.requires in
    omega (arith, c.loop-part-test.true, within)

pub returns : goal.returns
returns c =
    let within = same_length string_bytes (λ (part : Part). part_bytes part.events)
    c.args.texts.now c.args.package.now.parts c.requires in
    c.loop-part.invariant
    ∙ ap part_files (take_all c.loop-part.part c.args.package.now.parts
    (omega (arith, c.loop-part-test.false, within)))
