-- The page's example of the line program, over any table bytes: no line of it asks for a path that
-- crosses. Assumes nothing.
use mathlib.Core.Path.{◌≡◌}
use mathlib.Core.List.{List}
use Prim.Native.Nat.{ℕ}
use lib.Dec.{lit<}
use Rattle.numbers.specs.Rounding.{floor_div, nearest}
use Rattle.scales.specs.Answers.{kept_in}
use Rattle.scales.specs.Linear.{exact, nearest_tick}
use Rattle.scales.specs.Rows.{line_step}
use Rattle.scales.specs.Tick.{is_valid}
use Rattle.dates.specs.Readings.{in_range}
use Rattle.desk.specs.Order.{settled}
use Rattle.desk.specs.Conversion.{between_of, convert_read}
use Rattle.walk.specs.Walk.{walk_of}
use Rattle.line.specs.Numbers.{is_digit, all_digits, value_from, value_of, fits_signed, fitting}
use Rattle.line.specs.Numbers.{digits_number, number_in}
use Rattle.line.specs.Lines.{fields, line_read}
use Rattle.printing.specs.Texts.{decimal_within, integer_text, answer_text, refused_text, printed}
use Rattle.printing.proofs.Decimals.{decimal_within_lem}
use Rattle.lines.specs.Output.{lines_of, read_from, printed_for, printed_lines, tickline_of}
use Rattle.promises.specs.Example.{page_input, page_output}

pub page_answered : (bytes : List ℕ) → tickline_of bytes page_input ≡ page_output
unfolding tickline_of lines_of read_from line_read fields number_in digits_number fitting fits_signed value_of value_from all_digits is_digit
    printed_lines printed_for convert_read settled between_of in_range is_valid walk_of line_step kept_in nearest_tick exact nearest floor_div
    printed answer_text refused_text integer_text decimal_within
page_answered bytes =
    rw (
      decimal_within_lem 19 5 (lit< tt),
      decimal_within_lem 19 99999998449414732 (lit< tt),
      decimal_within_lem 19 2 (lit< tt),
      decimal_within_lem 19 32184000000 (lit< tt),
      decimal_within_lem 19 1 (lit< tt),
    )
