-- `files::descriptors::write_some` meets its contract: from call to call the text keeps its
-- length, and no answer is above it. Assumes nothing.
use Rattle.std.proofs.Common.{rules, length}
use Rattle.files.proofs.descriptors.write_some.Goals as goal

pub returns : goal.returns
returns g c =
    c.repeated.ensures (λ call. length call.1.now) (record { within = λ f r h s. search rules; kept = λ f r h s. search rules })
