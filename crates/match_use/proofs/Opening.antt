-- A first column that is dropped or opened as its first row with something tells.
use Rattle.std.proofs.Common.{◌≡◌, ◌<◌, List, map, length, Bool, true, false, [], ◌∷◌, eqb, sym, subst, arith}
use Rattle.match_use.specs.declared.row.Row.{Row}
use Rattle.match_use.specs.Lines.{Line, lines_of, plain, all_agree}
use Rattle.match_use.specs.Steps.{first_step, dropped_line, parts_line, cell_line}
use Rattle.match_use.specs.Reduced.{Opened}
use Rattle.match_use.specs.declared.reduce.Step.TheVariants as step
use Rattle.match_use.proofs.Reducing.{reduced-dropped, reduced-parts, reduced-cell}
use Rattle.match_use.proofs.Weights.{dropped_lines, parts_lines, cell_lines, step-drop, step-parts, step-cell}

-- a matrix that is not empty has lines
pub some_lines : (rows : List Row) (b : Bool) → b ≡ eqb (length rows) 0 → b ≡ false → 0 < length (lines_of rows)
some_lines [] b e f = cc
some_lines (r ∷ rs) b e f = omega arith

pub opened-dropped : (lines new : List Line) → 0 < length lines → all_agree (plain lines) ≡ true → first_step (plain lines) ≡ step.Drop → new ≡ map dropped_line lines → Opened lines new
opened-dropped lines new h a e n =
    let w = step-drop (plain lines) e in
    subst (λ (x : List Line). Opened lines x) (sym n) (record { same = reduced-dropped lines w a; less = dropped_lines lines h w })

pub opened-parts : (lines new : List Line) → all_agree (plain lines) ≡ true → first_step (plain lines) ≡ step.OpenParts → new ≡ map parts_line lines → Opened lines new
opened-parts lines new a e n =
    let w = step-parts (plain lines) a e in
    subst (λ (x : List Line). Opened lines x) (sym n) (record { same = reduced-parts lines w.0 w.1 a; less = parts_lines lines w.0 w.1 })

pub opened-cell : (lines new : List Line) → all_agree (plain lines) ≡ true → first_step (plain lines) ≡ step.OpenCell → new ≡ map cell_line lines → Opened lines new
opened-cell lines new a e n =
    let w = step-cell (plain lines) a e in
    subst (λ (x : List Line). Opened lines x) (sym n) (record { same = reduced-cell lines w.0 w.1 a; less = cell_lines lines w.0 w.1 })
