-- `hosts::tables::colliedash_write_table` meets its contract. Assumes nothing.
use mathlib.Core.Path.{◌∙◌, ap}
use mir.Syntax.{w64}
use mir.ValLaws.{to_z-of_z}
use Rattle.hosts.specs.Answers.{done_answer}
use Rattle.hosts.proofs.tables.colliedash_write_table.Goals as goal

pub returns : goal.returns
returns c =
    let e = rw (to_z-of_z w64 c.args.start c.ranges.start, to_z-of_z w64 c.args.length c.ranges.length) at c.write.ensures.answer in
    let b = rw (to_z-of_z w64 c.args.start c.ranges.start, to_z-of_z w64 c.args.length c.ranges.length) at c.write.ensures.buffer in
    record { answer = c.done_answer.ensures ∙ ap done_answer e; buffer = b }
