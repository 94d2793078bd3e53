use Rattle.csv_rows.proofs.RecordSteps.{field_taken}
use Rattle.csv_rows.proofs.record.write_bytes.Goals.{in-Ok, in-Err}
use Rattle.csv_rows.proofs.record.write_bytes.Goals as goal

pub returns : goal.returns
returns c = elim c.match-write_field.branch [
  | in-Ok w ↦
      rw w.result-is (λ options. field_taken c.args.writer.now c.write_field.new.self options
      c.args.field.now
      w.in-Ok.ensures.text w.in-Ok.ensures.same w.in-Ok.ensures.count w.in-Ok.ensures.wrote
      w.in-Ok.ensures.stays)
  | in-Err w ↦ rw w.result-is tt
]
