-- `hosts::answers::table_answer` meets its contract. Assumes nothing.
use mir.Syntax.{w64}
use mir.ValLaws.{to_z-of_z}
use borrow.Author.Rules.{rules}
use Rattle.hosts.proofs.answers.table_answer.Goals as goal

pub returns-in-Ok : goal.returns-in-Ok
returns-in-Ok c =
    rw (
      c.in-Ok.is,
      to_z-of_z w64 c.in-Ok.table.start.0 (record { sfits = search rules }),
      to_z-of_z w64 c.in-Ok.table.length (record { sfits = search rules }),
    )

pub returns-in-Err : goal.returns-in-Err
returns-in-Err c = rw c.in-Err.is
