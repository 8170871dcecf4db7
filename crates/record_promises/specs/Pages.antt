-- What is promised of pages: none is blank or long, whatever the bytes are; and what the page of a dark room and the example's are.
use Rattle.std.specs.Prelude.{◌≡◌, List, ◌++◌, ℕ, ◌-◌, ◌≤◌, length, drop, replicate, codes}
use Rattle.grid.specs.Check.{Fine, grid_check}
use Rattle.record.specs.Format.{record_of}
use Rattle.record.specs.Said.{wrote}
use Rattle.page.specs.Report.{report_of, newline}
use Rattle.page.specs.Answer.{report_answer}
use Rattle.page.specs.Said.{said_reported}
use Rattle.record_promises.specs.Records.{example_samples}

-- a page is not empty, and its last byte is a newline; it has at most 99 bytes, so a text of 99 bytes is room enough
pub record Page : Type 0 where
  pub some : (bytes : List ℕ) → 1 ≤ length (report_of bytes)
  pub ended : (bytes : List ℕ) → drop (length (report_of bytes) - 1) (report_of bytes) ≡ newline
  pub most : (bytes : List ℕ) → length (report_of bytes) ≤ 99
  pub written : (bytes : List ℕ) (room : ℕ) → 99 ≤ room → said_reported (report_answer bytes room) ≡ wrote (length (report_of bytes))

-- the page of a room with no light: five zeros, and a dash for x and for y
abbrev pub dark_text : List ℕ
dark_text =
    codes "photopic 0\n"
    ++ codes "scotopic 0\n"
    ++ codes "X 0\n"
    ++ codes "Y 0\n"
    ++ codes "Z 0\n"
    ++ codes "x -\n"
    ++ codes "y -\n"

-- whatever the accepted grid
pub record Dark : Type 0 where
  pub page : (a s n : ℕ) → grid_check a s n ≡ Fine → report_of (record_of a s (replicate n 0)) ≡ dark_text

-- the rules' example, line by line
abbrev pub example_text : List ℕ
example_text =
    codes "photopic 40980\n"
    ++ codes "scotopic 963972\n"
    ++ codes "X 198617\n"
    ++ codes "Y 40980\n"
    ++ codes "Z 1140066\n"
    ++ codes "x 0.14396\n"
    ++ codes "y 0.02970\n"

pub record ExamplePage : Type 0 where
  pub page : report_of (record_of 380 1 example_samples) ≡ example_text
