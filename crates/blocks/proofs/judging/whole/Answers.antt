-- `blocks::judging::whole` meets its contract. Assumes nothing.
use Rattle.blocks.specs.Judging.{is_whole}
use borrow.Author.Tests.{eq-eqb, ne_eqb, le-leb, lt-leb}
use Rattle.blocks.proofs.judging.whole.Goals as goal

pub returns-then-length-ne0 : goal.returns-then-length-ne0
unfolding is_whole
returns-then-length-ne0 c = simp (ne_eqb _ _ c.if-length-ne0.true)

pub returns-then-length-ge1024 : goal.returns-then-length-ge1024
unfolding is_whole
returns-then-length-ge1024 c = simp (eq-eqb _ _ c.if-length-ne0.false, le-leb _ _ c.if-length-ge1024.true)

pub returns-else-length-ge1024 : goal.returns-else-length-ge1024
unfolding is_whole
returns-else-length-ge1024 c = simp (eq-eqb _ _ c.if-length-ne0.false, lt-leb _ _ c.if-length-ge1024.false)
