-- `printing::writing::write_line` meets its contract. Assumes nothing.
use Rattle.std.proofs.Common.{◌≡◌, rules}
use mir.Syntax.{w64}
use mir.ValLaws.{to_z-of_z}
use Rattle.printing.specs.Texts.{answer_line}
use Rattle.printing.proofs.Lengths.{answer_longest, refused_longest}
use Rattle.printing.proofs.writing.write_line.Goals as goal

pub returns-in-Ok : goal.returns-in-Ok
returns-in-Ok c =
    let line : c.answer_line.result.bytes ≡ answer_line c.args.to c.in-Ok.converted.epoch.tick c.in-Ok.converted.steps =
    rw (to_z-of_z w64 c.args.to c.ranges.to, to_z-of_z w64 c.in-Ok.converted.epoch.tick (search rules)) at c.answer_line.ensures in
    rw c.in-Ok.is
    (record {
      text = rw (← line, ← c.deref.ensures.0) c.put_text.ensures;
      short = answer_longest _ _ _ (record { sfits = search rules }) (record { sfits = search rules }) (search rules);
    })

pub returns-in-Err : goal.returns-in-Err
returns-in-Err c =
    rw c.in-Err.is
    (record {
      text = c.put_refused.ensures;
      short = refused_longest _ (search rules);
    })
