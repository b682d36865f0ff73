-- 'Known values': P1 to P13, as the rows of one table.
use Rattle.std.specs.Prelude.{◌≡◌, false, List, [], ◌∷◌, ℕ, ℤ, pos, neg_ℤ, negsuc, Float}
use Rattle.std.specs.Float.{fin}
use Rattle.granule.specs.Rule.{delay_at}
use Rattle.image.specs.declared.table.Table.{Table}
use Rattle.image.specs.Image.{image_of}
use Rattle.dates.specs.declared.reading.Reading.TheVariants.{TwoPart, Ticks}
use Rattle.scales.specs.Answers.{Accepts}
use Rattle.dates.specs.Readings.{read_of}
use Rattle.desk.specs.Conversion.{convert_of}
use Rattle.scales.specs.Scales.{named}
use Rattle.promises.specs.Words.{Gives}

-- ---- the table of P10 and P11: 'n=1, S=0, H=10^9, G=1, c_0=0, c_1=65536'
unfoldable pub known_table : Table
known_table =
    record { start = record { 0 = pos 0 }; length = pos 1000000000; count = 1; degree = 1 }

unfoldable pub known_coefficients : List ℤ
known_coefficients = pos 0 ∷ pos 65536 ∷ []

-- its bytes, as writing gives them
unfoldable pub known_bytes : List ℕ
known_bytes = image_of known_table known_coefficients

-- ---- the doubles of P12 and P13: `fin negative m e` is ±m·2^e
abbrev none : Float
none = fin false 0 (pos 0)

abbrev d2443144_5 : Float
d2443144_5 = fin false 4886289 (negsuc 0)

abbrev d2451545 : Float
d2451545 = fin false 2451545 (pos 0)

-- ---- a row: what goes in, and what comes out
pub data Row : Type 0 where
  -- between two codes a tick over table bytes is answered, in one step, with a tick
  converts : (from to : ℕ) (tick : ℤ) (bytes : List ℕ) (answer : ℤ) → Row
  -- 'n=0': c_0 gives D, at every place of a granule of any length
  delays : (coefficient delay : ℤ) → Row
  -- a two-part date is read as a tick
  reads : (first second : Float) (tick : ℤ) → Row

abbrev pub Holds : Row → Type 0
Holds (converts from to tick bytes answer) =
    Gives (convert_of from to (Ticks tick) [] bytes) (named to) answer 1
Holds (delays coefficient delay) = (place H : ℕ) → delay_at (coefficient ∷ []) place H ≡ delay
Holds (reads first second tick) = Accepts (read_of [] (TwoPart first second)) tick

abbrev pub AllHold : List Row → Type 0
AllHold [] = Unit {0}
AllHold (row ∷ more) = Holds row × AllHold more

-- the codes are 3 TT, 4 TCG, 5 TDB, 6 TCB
abbrev pub rows : List Row
rows =
    -- P1 TCB 0 is TDB -65500
    converts 6 5 (pos 0) [] (neg_ℤ (pos 65500))
    -- P2 TCG 10^18 is TT 999999999303070987
    ∷ converts 4 3 (pos 1000000000000000000) [] (pos 999999999303070987)
    -- P3 TCB 10^17 is TDB 99999998449414732, and back
    ∷ converts 6 5 (pos 100000000000000000) [] (pos 99999998449414732)
    ∷ converts 5 6 (pos 99999998449414732) [] (pos 100000000000000000)
    -- P4 TCB 6250000000000000 (a half) is TDB 6249999903027015
    ∷ converts 6 5 (pos 6250000000000000) [] (pos 6249999903027015)
    -- P5 its negative is TDB -6249999903158014
    ∷ converts 6 5 (neg_ℤ (pos 6250000000000000)) [] (neg_ℤ (pos 6249999903158014))
    -- P6 TCB 32247250 and 32247251 are both TDB 32181750, which goes back to 32247250
    ∷ converts 6 5 (pos 32247250) [] (pos 32181750)
    ∷ converts 6 5 (pos 32247251) [] (pos 32181750)
    ∷ converts 5 6 (pos 32181750) [] (pos 32247250)
    -- n=0: P7 c_0 = 32767 gives D 0; P8 32768 gives 1; P9 -32768 gives 0
    ∷ delays (pos 32767) (pos 0)
    ∷ delays (pos 32768) (pos 1)
    ∷ delays (neg_ℤ (pos 32768)) (pos 0)
    -- n=1, S=0, H=10^9, G=1, c_0=0, c_1=65536: P10 TT 0 is TDB 1, and back
    ∷ converts 3 5 (pos 0) known_bytes (pos 1)
    ∷ converts 5 3 (pos 1) known_bytes (pos 0)
    -- P11 TT 10^9 is TDB 999999999, and back
    ∷ converts 3 5 (pos 1000000000) known_bytes (pos 999999999)
    ∷ converts 5 3 (pos 999999999) known_bytes (pos 1000000000)
    -- P12 (2443144.5, 0) is -32184000000
    ∷ reads d2443144_5 none (neg_ℤ (pos 32184000000))
    -- P13 (2451545, 0) is 725803167816000000
    ∷ reads d2451545 none (pos 725803167816000000)
    ∷ []
