-- WHAT THE PROGRAM HAS READ of the entire standard input, of which only the record and the values are kept.
use Rattle.std.specs.Prelude.{ℕ, ◌≤◌, ◌≡◌, List, drop, length, take}
use Rattle.buffer.specs.LittleEndian.{Bytes}
use Rattle.report.specs.Line.{program_buffer, record_of, said_length}

-- The two bytes of the length are there, and as many bytes as they say, which are not more than a buffer takes.
pub record WholeRecord (input : List ℕ) : Type 0 where
  pub two : 2 ≤ length input
  pub fits : said_length input ≤ 16384
  pub there : said_length input ≤ length input

-- The stepper's buffer a begins with the input's first two bytes, and with the whole record if there is one; the input has
-- `total` bytes.
pub record RecordRead (input a : List ℕ) (total : ℕ) : Type 0 where
  pub bytes : Bytes input
  pub counted : length input ≡ total
  pub size : length a ≡ program_buffer
  pub first : 2 ≤ length input → take 2 a ≡ take 2 input
  pub whole : WholeRecord input → take (said_length input) a ≡ record_of input

-- Beside it the reducer's buffer b, and the first 65 bytes behind the record: one more than the values can take. Of a length
-- under 2, which is refused, nothing is asked.
pub record Reads (input a b behind : List ℕ) (total : ℕ) : Type 0 where
  pub lead : RecordRead input a total
  pub room : length b ≡ program_buffer
  pub values : WholeRecord input → 2 ≤ said_length input → behind ≡ take 65 (drop (said_length input) input)
