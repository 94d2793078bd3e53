use Rattle.xlsx_commands.proofs.width_lines.push_band.Goals as goal

pub returns : goal.returns
returns c =
    rw (
      c.area-2.ensures,
      c.optional.ensures,
      c.word.ensures,
      c.visibility_word.ensures,
      c.area.ensures.area,
      c.width.ensures,
      c.is_hidden.ensures,
    ) at c.push_line.ensures.ok
