-- The report's text, line by line as the rules print it.
use Rattle.std.specs.Prelude.{Result, Ok, Err, List, [], ◌++◌, ℕ, ◌+◌, ◌/◌, ◌%◌, drop, codes, decimal}
use Rattle.grid.specs.declared.refusals.Kind.{Kind}
use Rattle.grid.specs.declared.refusals.Kind.TheVariants.{Sample}
use Rattle.grid.specs.declared.refusals.Refusal.{Refusal}
use Rattle.grid.specs.Refusals.{number_of}
use Rattle.answers.specs.declared.Xy.{Xy}
use Rattle.readings.specs.declared.figures.ReportFigures.{ReportFigures}
use Rattle.page.specs.Recorded.{recorded_figures}

abbrev pub newline : List ℕ
newline = codes "\n"

-- so many hundred-thousandths: the whole part, a point, and five digits, which are those behind the 1 of a number of six
abbrev pub coordinate : ℕ → List ℕ
coordinate n = decimal (n / 100000) ++ codes "." ++ drop 1 (decimal (100000 + n % 100000))

-- a line: a word, what it shows, and the newline
abbrev pub line : List ℕ → List ℕ → List ℕ
line word shown = word ++ shown ++ newline

-- x and y, or a dash for each where they are dark
abbrev pub colour_lines : Result Xy Refusal → List ℕ
colour_lines (Ok v) = line (codes "x ") (coordinate v.x) ++ line (codes "y ") (coordinate v.y)
colour_lines (Err dark) = line (codes "x ") (codes "-") ++ line (codes "y ") (codes "-")

-- the five lines of the readings
abbrev pub reading_lines : ReportFigures → List ℕ
reading_lines f =
    line (codes "photopic ") (decimal f.photopic)
    ++ line (codes "scotopic ") (decimal f.scotopic)
    ++ line (codes "X ") (decimal f.xyz.x)
    ++ line (codes "Y ") (decimal f.xyz.y)
    ++ line (codes "Z ") (decimal f.xyz.z)

-- the seven lines of an accepted record
abbrev pub figure_lines : ReportFigures → List ℕ
figure_lines f = reading_lines f ++ colour_lines f.xy

-- what stands behind a refusal's number: its place, for SAMPLE only
abbrev pub placed : Kind → ℕ → List ℕ
placed Sample place = codes " at " ++ decimal place
placed kind place = []

-- a refusal's number, with its place for SAMPLE only
abbrev pub numbered : Refusal → List ℕ
numbered r = decimal (number_of r.kind) ++ placed r.kind r.place

-- the seven lines, or the one line of a refusal
abbrev pub text_of : Result ReportFigures Refusal → List ℕ
text_of (Ok f) = figure_lines f
text_of (Err r) = line (codes "refused ") (numbered r)

-- the whole page: of a refused record too
abbrev pub report_of : List ℕ → List ℕ
report_of bytes = text_of (recorded_figures bytes)
