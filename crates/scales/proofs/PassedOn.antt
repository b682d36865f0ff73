-- An error that `?` passes on is the error that came. Assumes nothing.
use Rattle.std.specs.Prelude.{Result, Err, IsErr, IsErrAnd}
use Rattle.std.proofs.lemmas.Result.{err_from_is_err_and}
use mathlib.Core.Path.{◌≡◌, ◌∙◌, ap}

pub passed_on : {T E : Type 0} (e : E) (r : Result T E) → IsErr r × IsErrAnd r (λ y. y ≡ e) → r ≡ Err e
passed_on e r h = let p = err_from_is_err_and r h.1 in p.1 ∙ ap Err p.2
