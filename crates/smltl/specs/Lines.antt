-- The lines on standard error.
use Rattle.std.specs.Prelude.{ℕ, List, ◌++◌, codes}
use Rattle.std.specs.Fmt.{decimal}
use Rattle.tl_text.specs.Codes.{number_of, text_of}
use Rattle.tl_text.specs.declared.fault.Refusal.{Refusal}

abbrev pub usage_line : List ℕ
usage_line = codes "usage: smltl LIST [--mode translate|check|demo] [--quiet] [--basis] [--seed N] [--size N]\n"

-- LIST:LINE: bad list line
abbrev pub bad_list_line : List ℕ → ℕ → List ℕ
bad_list_line list line = list ++ (codes ":" ++ (decimal line ++ codes ": bad list line\n"))

-- smltl: NAME: cannot be opened
abbrev pub missing_line : List ℕ → List ℕ
missing_line name = codes "smltl: " ++ name ++ codes ": cannot be opened\n"

-- NAME:LINE:COL: error NUMBER: TEXT
abbrev pub error_line : List ℕ → Refusal → List ℕ
error_line name r =
    name ++ (codes ":" ++ (decimal r.place.line ++ (codes ":" ++ (decimal r.place.col ++ (codes ": error "
    ++ (decimal (number_of r.code) ++ (codes ": " ++ (text_of r.code ++ codes "\n"))))))))

abbrev pub reading_failed : List ℕ
reading_failed = codes "smltl: reading failed\n"

abbrev pub out_of_memory : List ℕ
out_of_memory = codes "smltl: out of memory\n"
