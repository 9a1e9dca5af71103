use Rattle.std.proofs.Common.{length, ap, arith}
use Rattle.std.proofs.lemmas.List.{length-take}
use Rattle.questions.proofs.Columns.{length_widths, widths_few}
use Rattle.ask_questions.proofs.lines.tell.Goals as goal

pub slice_bounds-widths-end : goal.slice_bounds-widths-end
slice_bounds-widths-end g c =
    omega (arith, widths_few c.in-Ok.report.registers, ap length c.widths-widths.ensures, length_widths c.in-Ok.report.registers.directory)

pub slice_bounds-widths-end-in-Ok : goal.slice_bounds-widths-end-in-Ok
slice_bounds-widths-end-in-Ok g c =
    omega (arith, widths_few c.in-Ok.report.registers, ap length c.widths-widths.ensures, length_widths c.in-Ok.report.registers.directory, length-take c.in-Ok.report.registers.directory.count c.widths-widths.result)
