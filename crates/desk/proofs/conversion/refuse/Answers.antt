-- `desk::conversion::refuse` meets its contract. Assumes nothing.
use Rattle.desk.proofs.Asking.{between_refusal}
use Rattle.desk.proofs.conversion.refuse.Goals as goal

pub returns-in-Plain : goal.returns-in-Plain
returns-in-Plain c = rw c.in-Plain.is (between_refusal _ _ _ _ _)

pub returns-in-Crossing : goal.returns-in-Crossing
returns-in-Crossing c = rw c.in-Crossing.is c.over_bytes.ensures
