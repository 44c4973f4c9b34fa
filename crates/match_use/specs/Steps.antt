-- What becomes of a matrix when its first column is dropped, opened or split.
use Rattle.std.specs.Prelude.{◌≡◌, ℕ, true, List, [], ◌∷◌, ◌++◌, Option, Some, None}
use Rattle.std.specs.List.{filter_map, cons_option}
use Rattle.sml_static.specs.Shapes.{Pattern, Wild, Parts, Cell, Literal, Made}
use Rattle.sml_static.specs.Exhaustive.{Head, is_same_head, head_of, without_first, parts_opened, cell_opened, kept_row}
use Rattle.match_use.specs.Lines.{Line}
use Rattle.match_use.specs.declared.reduce.Step.{Step}
use Rattle.match_use.specs.declared.reduce.Step.TheVariants as step

-- how the first column is taken apart, which its first row tells that does not begin with a wildcard
abbrev pub first_step : List (List Pattern) → Step
first_step [] = step.Drop
first_step ([] ∷ rows) = step.Ready
first_step ((Wild ∷ ps) ∷ rows) = first_step rows
first_step ((Parts p q ∷ ps) ∷ rows) = step.OpenParts
first_step ((Cell p ∷ ps) ∷ rows) = step.OpenCell
first_step ((Literal l ∷ ps) ∷ rows) = step.Ready
first_step ((Made k n p ∷ ps) ∷ rows) = step.Ready

abbrev pub dropped_line : Line → Line
dropped_line l = record { rule = l.rule; columns = without_first l.columns }

abbrev pub parts_line : Line → Line
parts_line l = record { rule = l.rule; columns = parts_opened l.columns }

abbrev pub cell_line : Line → Line
cell_line l = record { rule = l.rule; columns = cell_opened l.columns }

-- a line with these columns, where there are some
abbrev pub line_with : ℕ → Option (List Pattern) → Option Line
line_with n None = None
line_with n (Some columns) = Some (record { rule = n; columns = columns })

abbrev pub kept_line : Head → Line → Option Line
kept_line h l = line_with l.rule (kept_row h l.columns)

abbrev pub kept_lines : List Line → Head → List Line
kept_lines lines h = filter_map (kept_line h) lines

-- the matrices kept for heads, each with what is kept of one more row
abbrev pub with_lines : Line → List Head → List (List Line) → List (List Line)
with_lines l (h ∷ hs) (m ∷ ms) = (m ++ cons_option (kept_line h l) []) ∷ with_lines l hs ms
with_lines l _ ms = ms

-- what is left of a row for each head that is alike to its own
abbrev pub LeftForOwn : Line → Option Line → Type 0
LeftForOwn l left = (h own : Head) → head_of l.columns ≡ Some own → is_same_head own h ≡ true → kept_line h l ≡ left
