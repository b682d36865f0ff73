-- `batch::batch` meets its contract. Assumes nothing.
use Rattle.std.specs.Prelude.{Ok}
use Rattle.scales.proofs.PassedOn.{passed_on}
use mathlib.Core.Path.{◌≡◌, sym, ◌∙◌, ap}
use borrow.Author.Tests.{eqb-true}
use mathlib.Core.Bool.{true}
use lib.Dec.{eqb}
use lib.ListN.{length}
use Rattle.scales.specs.declared.scale.Purpose.TheVariants as P
use Rattle.desk.specs.declared.asked.Asked.TheVariants as A
use Rattle.desk.specs.Inner.{asked_of}
use Rattle.desk.proofs.Asking.{sound}
use Rattle.batch.proofs.Batches.{batch_fits, asked_alone, has_refused, has_converted}
use Rattle.batch.proofs.batch.Goals as goal
use Rattle.batch.proofs.batch.Goals.{In-Crossing, In-Plain}

-- a path that needs no table: as many answers as ticks, and each entry is asked the same
module _ (c : In-Plain) where
  plain : asked_of P.Batch P.Batch c.args.from c.args.to
      (eqb (length c.args.ticks.now) (length c.args.answers.now)) true
      ≡ Ok (A.Plain c.in-Plain.start c.in-Plain.end)
  plain = sym c.asked_of.ensures ∙ c.in_ok-start.was ∙ ap Ok c.in-Plain.is

  long : length c.args.answers.now ≡ length c.args.ticks.now
  long = sym (eqb-true _ _ (batch_fits _ _ _ _ plain (sound _)))

-- a path that crosses
module _ (c : In-Crossing) where
  crossing : asked_of P.Batch P.Batch c.args.from c.args.to
      (eqb (length c.args.ticks.now) (length c.args.answers.now)) true
      ≡ Ok (A.Crossing c.in-Crossing.start c.in-Crossing.end)
  crossing = sym c.asked_of.ensures ∙ c.in_ok-start.was ∙ ap Ok c.in-Crossing.is

  long2 : length c.args.answers.now ≡ length c.args.ticks.now
  long2 = sym (eqb-true _ _ (batch_fits _ _ _ _ crossing (sound _)))

pub batch_over-requires : goal.batch_over-requires
batch_over-requires c = long (goal.at.batch_over-requires c).In-Plain

pub batch_crossing-requires : goal.batch_crossing-requires
batch_crossing-requires c = long2 (goal.at.batch_crossing-requires c).In-Crossing

pub returns-in-Plain : goal.returns-in-Plain
returns-in-Plain c =
    has_converted _ _ _ _ _ _ (plain (goal.at.returns-in-Plain c).In-Plain)
    (asked_alone _ _ _ _ (plain (goal.at.returns-in-Plain c).In-Plain) (sound _))
    c.batch_over.ensures

pub returns-in-Crossing : goal.returns-in-Crossing
returns-in-Crossing c =
    has_converted _ _ _ _ _ _ (crossing (goal.at.returns-in-Crossing c).In-Crossing)
    (asked_alone _ _ _ _ (crossing (goal.at.returns-in-Crossing c).In-Crossing) (sound _)) c.batch_crossing.ensures

pub returns-in_err-start : goal.returns-in_err-start
returns-in_err-start c = rw (passed_on _ _ c.from_residual.ensures) (has_refused _ _ _ _ _ _ (sym c.asked_of.ensures ∙ c.in_err-start.was))
