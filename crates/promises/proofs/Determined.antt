-- 'Each public function's contract determines the complete answer and the final content of all lent
-- buffers .. Any two results it admits are proved equal.' It is stated of `Learnt`, which is what a
-- caller learns from the contract itself. Every public function of every library has its line, in
-- the order of crates.txt and of the sources; but for `files` and `turns`, where the system says
-- which bytes come. Assumes nothing.
use mathlib.Core.Path.{◌≡◌, sym, ◌∙◌, ap, ap₂}
use mathlib.Core.List.{List, ◌++◌}
use Prim.Native.Nat.{ℕ}
use lib.IntN.{ℤ}
use lib.ListN.{take-append-drop}
use Rattle.granule.specs.declared.Units.{Units}
use Rattle.image.specs.Image.{how_many}
use Rattle.pieces.proofs as pieces
use Rattle.scales.proofs as scales
use Rattle.linear.proofs as linear
use Rattle.utc.proofs as utc
use Rattle.granule.proofs as granule
use Rattle.words.proofs as words
use Rattle.form.proofs as form
use Rattle.image.proofs as image
use Rattle.granules.proofs as granules
use Rattle.blocks.proofs as blocks
use Rattle.opened.proofs as opened
use Rattle.ephemeris.proofs as ephemeris
use Rattle.dates.proofs as dates
use Rattle.walk.proofs as walk
use Rattle.desk.proofs as desk
use Rattle.written.proofs as written
use Rattle.entries.proofs as entries
use Rattle.filling.proofs as filling
use Rattle.batch.proofs as batches
use Rattle.comparing.proofs as comparing
use Rattle.line.proofs as line
use Rattle.printing.proofs as printing
use Rattle.lines.proofs as lines
use Rattle.hosts.proofs as hosts

-- what a caller learns of a call: of its lifetimes, its arguments, its result, and its arguments as
-- they are left
abbrev pub Contract : {K : Type 0} → (K → Type 0) → (K → Type 0) → (K → Type 0) → Type 1
Contract {K} A R S = (κs : K) → A κs → R κs → S κs → Type 0

-- of any two calls with the same arguments the same is seen
pub record Determines {K : Type 0} {A R S B : K → Type 0} (L : Contract A R S)
    (seen : (κs : K) → R κs → S κs → B κs) : Type 0 where
  pub equal : (κs : K) (a : A κs) (r r' : R κs) (s s' : S κs) → L κs a r s → L κs a r' s' → seen κs r s ≡ seen κs r' s'

-- where no buffer is lent to be written, that is the result
abbrev pub One : {K : Type 0} {A R S : K → Type 0} → Contract A R S → Type 0
One L = Determines L (λ κs r s. r)

-- else the result, and the last content of the buffer
abbrev pub OneInto : {K B : Type 0} {A R S : K → Type 0} → Contract A R S → ((κs : K) → S κs → B) → Type 0
OneInto {K} {B} {A} {R} {S} L last = Determines {B = λ κs. R κs × B} L (λ κs r s. (r, last κs s))

-- the one law: what is seen is told by the arguments
told : {K : Type 0} {A R S B : K → Type 0} {L : Contract A R S} {seen : (κs : K) → R κs → S κs → B κs}
    {f : (κs : K) → A κs → B κs}
    → ((κs : K) (a : A κs) (r : R κs) (s : S κs) → L κs a r s → seen κs r s ≡ f κs a) → Determines L seen
told is = record { equal = λ κs a r r' s s' p q. is κs a r s p ∙ sym (is κs a r' s' q) }

-- a contract that is an equation tells it as it stands
equation : {K : Type 0} {A R S B : K → Type 0} {seen : (κs : K) → R κs → S κs → B κs} {f : (κs : K) → A κs → B κs}
    → Determines {A = A} (λ κs a r s. seen κs r s ≡ f κs a) seen
equation = told (λ κs a r s p. p)

-- one of a result and a buffer tells both
both : {K B : Type 0} {A R S : K → Type 0} {L : Contract A R S} {last : (κs : K) → S κs → B}
    {f : (κs : K) → A κs → R κs} {g : (κs : K) → A κs → B}
    → ((κs : K) (a : A κs) (r : R κs) (s : S κs) → L κs a r s → (r ≡ f κs a) × (last κs s ≡ g κs a)) → OneInto L last
both is = told (λ κs a r s p. ap₂ (λ result left. (result, left)) (is κs a r s p).0 (is κs a r s p).1)

-- one of units tells their number
units : {K : Type 0} {A S : K → Type 0} {f : (κs : K) → A κs → ℤ}
    → One {A = A} {R = λ κs. Units} {S = S} (λ κs a r s. r.0 ≡ f κs a)
units = told (λ κs a r s p. ap (λ number. record { 0 = number }) p)

-- ---- pieces
pub share : One pieces.share.share.Reads.Learnt
share = equation

pub rounded_product : One pieces.signed.rounded_product.Reads.Learnt
rounded_product = equation

-- ---- scales
pub next_step : One scales.path.next_step.Reads.Learnt
next_step = equation

pub is_one_scale_lem : One scales.path.is_one_scale.Reads.Learnt
is_one_scale_lem = equation

pub end_of : One scales.path.end_of.Reads.Learnt
end_of = equation

pub steps_between : One scales.path.steps_between.Reads.Learnt
steps_between = equation

pub crosses_table : One scales.path.crosses_table.Reads.Learnt
crosses_table = equation

pub scale_of : One scales.scale.scale_of.Reads.Learnt
scale_of = equation

pub valid : One scales.tick.valid.Reads.Learnt
valid = equation

pub keep : One scales.answer.keep.Reads.Learnt
keep = equation

-- ---- linear
pub along : One linear.steps.along.Reads.Learnt
along = equation

pub back : One linear.steps.back.Reads.Learnt
back = equation

-- ---- utc
pub is_right : One utc.leaps.is_right.Reads.Learnt
is_right = equation

pub utc_read : One utc.reading.read.Reads.Learnt
utc_read = equation

pub utc_write : One utc.writing.write.Reads.Learnt
utc_write = equation

-- ---- granule
pub value : One granule.value.Reads.Learnt
value = units

pub delay : One granule.delay.Reads.Learnt
delay = equation

pub small : One granule.small.Reads.Learnt
small = equation

pub weight : One granule.weight.Reads.Learnt
weight = equation

pub light : One granule.light.Reads.Learnt
light = equation

pub plain : One granule.plain.Reads.Learnt
plain = units

pub alternating : One granule.alternating.Reads.Learnt
alternating = units

pub joined : One granule.joined.Reads.Learnt
joined = equation

-- ---- words
pub quad_at : One words.quad_at.Reads.Learnt
quad_at = equation

pub word_at : One words.word_at.Reads.Learnt
word_at = equation

pub number_at : One words.number_at.Reads.Learnt
number_at = equation

pub byte_of : One words.byte_of.Reads.Learnt
byte_of = equation

pub check_of : One words.check.check_of.Reads.Learnt
check_of = told (λ κs a r s p. ap₂ (λ sum weighted. record { a = sum; b = weighted }) p.0 p.1)

pub lowest_unchecked : One words.check.lowest_unchecked.Reads.Learnt
lowest_unchecked = equation

-- ---- form
pub is_free : One form.Shape.is_free.Reads.Learnt
is_free = equation

pub fixed_byte_lem : One form.Shape.fixed_byte.Reads.Learnt
fixed_byte_lem = equation

pub lowest_unformed : One form.Shape.lowest_unformed.Reads.Learnt
lowest_unformed = equation

-- ---- image
pub bounded : One image.bounds.bounded.Reads.Learnt
bounded = equation

pub put_image : Determines image.put.put_image.Reads.Learnt (λ κs r s. s.0.now)
put_image = equation

pub table_of_lem : One image.table.table_of.Reads.Learnt
table_of_lem = equation

pub coefficient : One image.take.coefficient.Reads.Learnt
coefficient = equation

pub stored : One image.take.stored.Reads.Learnt
stored = equation

pub take_coefficients : Determines image.take.take_coefficients.Reads.Learnt (λ κs r s. s.1.1.1.0.now)
take_coefficients = equation

-- ---- granules
pub test_stored : One granules.test_stored.Reads.Learnt
test_stored = equation

pub test_listed : One granules.test_listed.Reads.Learnt
test_listed = equation

-- ---- blocks
pub judge : One blocks.judging.judge.Reads.Learnt
judge = equation

pub read : OneInto blocks.reading.read.Reads.Learnt (λ κs s. s.1.0.now)
read = both (λ κs a r s p. (p.answer, p.list))

pub write : OneInto blocks.writing.write.Reads.Learnt (λ κs s. s.1.1.1.1.1.0.now)
write = both (λ κs a r s p. (p.answer, p.buffer))

-- ---- opened
pub how_many_lem : One opened.how_many.Reads.Learnt
how_many_lem = equation

pub room : One opened.room.Reads.Learnt
room = equation

pub take : Determines opened.take.Reads.Learnt (λ κs r s. s.1.1.0.now)
take = told (λ κs a r s p. sym (take-append-drop (how_many a.1.0) s.1.1.0.now) ∙ ap₂ ◌++◌ p.front p.behind)

pub taken : One opened.taken.Reads.Learnt
taken = told (λ κs a r s p. sym (take-append-drop (how_many a.1.0) r) ∙ ap₂ ◌++◌ p.front p.behind)

-- ---- ephemeris
pub tt_to_tdb : One ephemeris.over.OverTt.to_tdb.Reads.Learnt
tt_to_tdb = equation

pub tdb_to_tt : One ephemeris.over.OverTdb.to_tt.Reads.Learnt
tdb_to_tt = equation

-- ---- dates
pub ranged : One dates.reading.ranged.Reads.Learnt
ranged = equation

pub purpose_of : One dates.reading.purpose_of.Reads.Learnt
purpose_of = equation

pub tick_of : One dates.reading.tick_of.Reads.Learnt
tick_of = equation

pub read_date : One dates.reading.read_date.Reads.Learnt
read_date = equation

pub write_date : One dates.writing.write_date.Reads.Learnt
write_date = equation

-- ---- walk
pub kept_to_tdb : One walk.kept.Kept.to_tdb.Reads.Learnt
kept_to_tdb = equation

pub kept_to_tt : One walk.kept.Kept.to_tt.Reads.Learnt
kept_to_tt = equation

pub walk_on : One walk.walk.walk.Reads.Learnt
walk_on = equation

-- ---- desk
pub asked_of : One desk.asked.asked_of.Reads.Learnt
asked_of = equation

pub between : One desk.conversion.between.Reads.Learnt
between = equation

pub convert_into_lem : One desk.conversion.convert_into.Reads.Learnt
convert_into_lem = equation

pub convert : One desk.conversion.convert.Reads.Learnt
convert = equation

pub convert_judged_lem : One desk.conversion.convert_judged.Reads.Learnt
convert_judged_lem = equation

-- ---- written
pub write_utc : One written.write_utc.Reads.Learnt
write_utc = equation

-- ---- entries
pub refused_at : One entries.batched.RefusedAtFromRefusal.from.Reads.Learnt
refused_at = equation

pub tried : One entries.trying.tried.Reads.Learnt
tried = equation

-- ---- filling
pub batch_over : OneInto filling.batch_over.Reads.Learnt (λ κs s. s.1.1.1.0.now)
batch_over = both (λ κs a r s p. (p.is, p.list))

-- ---- batch
pub batch : OneInto batches.batch.Reads.Learnt (λ κs s. s.1.1.1.0.now)
batch = both (λ κs a r s p. (p.answer, p.list))

-- ---- comparing
pub compare : OneInto comparing.compare.Reads.Learnt (λ κs s. s.1.1.0.now)
compare = both (λ κs a r s p. (p.answer, p.list))

-- ---- line
pub read_line : One line.reading.read_line.Reads.Learnt
read_line = equation

pub code_of : One line.reading.code_of.Reads.Learnt
code_of = equation

-- ---- printing
pub write_line : OneInto printing.writing.write_line.Reads.Learnt (λ κs s. s.0.now)
write_line = both (λ κs a r s p. (p.0.after, p.0.holds))

-- ---- lines
pub feed : OneInto {B = List ℕ × List ℕ} lines.feed.Reads.Learnt (λ κs s. (s.0.now, s.1.1.1.1.0.now))
feed = both (λ κs a r s p.
    let places = ap₂ (λ (text out : ℕ). (text, out)) p.kept.after p.put.after in (
      ap₂ (λ (places : ℕ × ℕ) (line : ℕ). record { text = places.0; out = places.1; line = line }) places p.next,
      ap₂ (λ text out. (text, out)) p.kept.holds p.put.holds,
    ))

pub answer_last : OneInto lines.answer_last.Reads.Learnt (λ κs s. s.1.1.1.0.now)
answer_last = both (λ κs a r s p. (p.after, p.holds))

-- ---- hosts
pub colliedash_convert_ticks : One hosts.conversions.colliedash_convert_ticks.Reads.Learnt
colliedash_convert_ticks = equation

pub colliedash_convert_date : One hosts.conversions.colliedash_convert_date.Reads.Learnt
colliedash_convert_date = equation

pub colliedash_convert_j2000 : One hosts.conversions.colliedash_convert_j2000.Reads.Learnt
colliedash_convert_j2000 = equation

pub colliedash_batch : OneInto hosts.conversions.colliedash_batch.Reads.Learnt (λ κs s. s.1.1.1.0.now)
colliedash_batch = both (λ κs a r s p. (p.answer, p.list))

pub colliedash_judge : One hosts.tables.colliedash_judge.Reads.Learnt
colliedash_judge = equation

pub colliedash_read_table : OneInto hosts.tables.colliedash_read_table.Reads.Learnt (λ κs s. s.1.0.now)
colliedash_read_table = both (λ κs a r s p. (p.answer, p.list))

pub colliedash_write_table : OneInto hosts.tables.colliedash_write_table.Reads.Learnt (λ κs s. s.1.1.1.1.1.0.now)
colliedash_write_table = both (λ κs a r s p. (p.answer, p.buffer))

pub colliedash_compare_tables : OneInto hosts.changes.colliedash_compare_tables.Reads.Learnt (λ κs s. s.1.1.0.now)
colliedash_compare_tables = both (λ κs a r s p. (p.answer, p.list))

pub colliedash_convert_utc : One hosts.leaps.colliedash_convert_utc.Reads.Learnt
colliedash_convert_utc = equation

pub colliedash_write_utc : One hosts.leaps.colliedash_write_utc.Reads.Learnt
colliedash_write_utc = equation

pub colliedash_write_date : One hosts.date.colliedash_write_date.Reads.Learnt
colliedash_write_date = equation
