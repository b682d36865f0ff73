-- `scales::path::ends_of` meets its contract. Assumes nothing.
use Rattle.scales.proofs.path.ends_of.Goals as goal

pub returns-in_default : goal.returns-in_default
returns-in_default c = rw c.in_default.is

pub returns-in-GpsTai : goal.returns-in-GpsTai
returns-in-GpsTai c = rw (c.in-Linear.is, c.in-GpsTai.is)

pub returns-in-TaiTt : goal.returns-in-TaiTt
returns-in-TaiTt c = rw (c.in-Linear.is, c.in-TaiTt.is)

pub returns-in-TcgTt : goal.returns-in-TcgTt
returns-in-TcgTt c = rw (c.in-Linear.is, c.in-TcgTt.is)

pub returns-in-TcbTdb : goal.returns-in-TcbTdb
returns-in-TcbTdb c = rw (c.in-Linear.is, c.in-TcbTdb.is)
