-- A matrix weighs less after its first column is dropped or opened, and how that column is, its first row with something tells.
use Rattle.std.proofs.Common.{◌≡◌, ◌+◌, ◌<◌, ◌≤◌, List, [], ◌∷◌, map, length, Bool, true, false, not, refl, sym, ap, ◌∙◌, subst, arith}
use Rattle.std.specs.List.{list_all}
use Rattle.std.proofs.lemmas.Bool.{and_parts, cases_Bool, not_from_false}
use Rattle.std.proofs.Common.{inl, inr}
use Rattle.sml_static.specs.Shapes.{Pattern, Wild, Parts, Cell, Literal, Made}
use Rattle.sml_static.specs.Exhaustive.{begins_wild, opens_parts, opens_cell, without_first, parts_opened, cell_opened}
use Rattle.match_use.specs.Lines.{Line, plain, rows_agree, all_agree}
use Rattle.match_use.specs.Steps.{first_step, dropped_line, parts_line, cell_line}
use Rattle.match_use.specs.Weights.{row_nodes, all_nodes, width, weight}
use Rattle.match_use.specs.declared.reduce.Step.TheVariants as step
use Rattle.match_use.proofs.Tests.{all-imp}
use Rattle.match_use.proofs.Taking.{plain-moved}

dropped_nodes : (rows : List (List Pattern)) → list_all begins_wild rows ≡ true → all_nodes (map without_first rows) ≡ all_nodes rows
dropped_nodes [] e = refl
dropped_nodes ([] ∷ rows) e = cc
dropped_nodes ((Wild ∷ ps) ∷ rows) e = ap (λ n. row_nodes ps + n) (dropped_nodes rows e) ∙ omega arith
dropped_nodes ((Parts p q ∷ ps) ∷ rows) e = cc
dropped_nodes ((Cell p ∷ ps) ∷ rows) e = cc
dropped_nodes ((Literal l ∷ ps) ∷ rows) e = cc
dropped_nodes ((Made k n p ∷ ps) ∷ rows) e = cc

dropped_width : (r : List Pattern) (rows : List (List Pattern)) → list_all begins_wild (r ∷ rows) ≡ true → width (map without_first (r ∷ rows)) + 1 ≡ width (r ∷ rows)
dropped_width [] rows e = cc
dropped_width (p ∷ ps) rows e = omega arith

dropped_weight : (r : List Pattern) (rows : List (List Pattern)) → list_all begins_wild (r ∷ rows) ≡ true → weight (map without_first (r ∷ rows)) < weight (r ∷ rows)
dropped_weight r rows e =
    let a = dropped_nodes (r ∷ rows) e in
    let b = dropped_width r rows e in
    omega arith

parts_nodes : (rows : List (List Pattern)) → list_all opens_parts rows ≡ true → all_nodes (map parts_opened rows) ≤ all_nodes rows
parts_nodes [] e = omega arith
parts_nodes ([] ∷ rows) e = cc
parts_nodes ((Wild ∷ ps) ∷ rows) e = let h = parts_nodes rows e in omega arith
parts_nodes ((Parts p q ∷ ps) ∷ rows) e = let h = parts_nodes rows e in omega arith
parts_nodes ((Cell p ∷ ps) ∷ rows) e = cc
parts_nodes ((Literal l ∷ ps) ∷ rows) e = cc
parts_nodes ((Made k n p ∷ ps) ∷ rows) e = cc

parts_fewer : (rows : List (List Pattern)) → list_all opens_parts rows ≡ true → not (list_all begins_wild rows) ≡ true → all_nodes (map parts_opened rows) + 1 ≤ all_nodes rows
parts_fewer [] e v = cc
parts_fewer ([] ∷ rows) e v = cc
parts_fewer ((Wild ∷ ps) ∷ rows) e v = let h = parts_fewer rows e v in omega arith
parts_fewer ((Parts p q ∷ ps) ∷ rows) e v = let h = parts_nodes rows e in omega arith
parts_fewer ((Cell p ∷ ps) ∷ rows) e v = cc
parts_fewer ((Literal l ∷ ps) ∷ rows) e v = cc
parts_fewer ((Made k n p ∷ ps) ∷ rows) e v = cc

parts_width : (rows : List (List Pattern)) → list_all opens_parts rows ≡ true → width (map parts_opened rows) ≤ width rows + 1
parts_width [] e = omega arith
parts_width ([] ∷ rows) e = cc
parts_width ((Wild ∷ ps) ∷ rows) e = omega arith
parts_width ((Parts p q ∷ ps) ∷ rows) e = omega arith
parts_width ((Cell p ∷ ps) ∷ rows) e = cc
parts_width ((Literal l ∷ ps) ∷ rows) e = cc
parts_width ((Made k n p ∷ ps) ∷ rows) e = cc

parts_weight : (rows : List (List Pattern)) → list_all opens_parts rows ≡ true → not (list_all begins_wild rows) ≡ true → weight (map parts_opened rows) < weight rows
parts_weight rows e v =
    let a = parts_fewer rows e v in
    let b = parts_width rows e in
    omega arith

cell_nodes : (rows : List (List Pattern)) → list_all opens_cell rows ≡ true → all_nodes (map cell_opened rows) ≤ all_nodes rows
cell_nodes [] e = omega arith
cell_nodes ([] ∷ rows) e = cc
cell_nodes ((Wild ∷ ps) ∷ rows) e = let h = cell_nodes rows e in omega arith
cell_nodes ((Cell p ∷ ps) ∷ rows) e = let h = cell_nodes rows e in omega arith
cell_nodes ((Parts p q ∷ ps) ∷ rows) e = cc
cell_nodes ((Literal l ∷ ps) ∷ rows) e = cc
cell_nodes ((Made k n p ∷ ps) ∷ rows) e = cc

cell_fewer : (rows : List (List Pattern)) → list_all opens_cell rows ≡ true → not (list_all begins_wild rows) ≡ true → all_nodes (map cell_opened rows) + 1 ≤ all_nodes rows
cell_fewer [] e v = cc
cell_fewer ([] ∷ rows) e v = cc
cell_fewer ((Wild ∷ ps) ∷ rows) e v = let h = cell_fewer rows e v in omega arith
cell_fewer ((Cell p ∷ ps) ∷ rows) e v = let h = cell_nodes rows e in omega arith
cell_fewer ((Parts p q ∷ ps) ∷ rows) e v = cc
cell_fewer ((Literal l ∷ ps) ∷ rows) e v = cc
cell_fewer ((Made k n p ∷ ps) ∷ rows) e v = cc

cell_width : (rows : List (List Pattern)) → width (map cell_opened rows) ≡ width rows
cell_width [] = refl
cell_width ([] ∷ rows) = refl
cell_width ((Wild ∷ ps) ∷ rows) = refl
cell_width ((Cell p ∷ ps) ∷ rows) = refl
cell_width ((Parts p q ∷ ps) ∷ rows) = refl
cell_width ((Literal l ∷ ps) ∷ rows) = refl
cell_width ((Made k n p ∷ ps) ∷ rows) = refl

cell_weight : (rows : List (List Pattern)) → list_all opens_cell rows ≡ true → not (list_all begins_wild rows) ≡ true → weight (map cell_opened rows) < weight rows
cell_weight rows e v =
    let a = cell_fewer rows e v in
    let b = cell_width rows in
    omega arith

pub dropped_lines : (lines : List Line) → (0 < length lines) → list_all begins_wild (plain lines) ≡ true → weight (plain (map dropped_line lines)) < weight (plain lines)
dropped_lines [] h e = absurd (omega arith)
dropped_lines (l ∷ ls) h e = subst (λ (r : List (List Pattern)). weight r < weight (plain (l ∷ ls))) (sym (plain-moved without_first (l ∷ ls))) (dropped_weight l.columns (plain ls) e)

pub parts_lines : (lines : List Line) → list_all opens_parts (plain lines) ≡ true → not (list_all begins_wild (plain lines)) ≡ true → weight (plain (map parts_line lines)) < weight (plain lines)
parts_lines lines e v = subst (λ (r : List (List Pattern)). weight r < weight (plain lines)) (sym (plain-moved parts_opened lines)) (parts_weight (plain lines) e v)

pub cell_lines : (lines : List Line) → list_all opens_cell (plain lines) ≡ true → not (list_all begins_wild (plain lines)) ≡ true → weight (plain (map cell_line lines)) < weight (plain lines)
cell_lines lines e v = subst (λ (r : List (List Pattern)). weight r < weight (plain lines)) (sym (plain-moved cell_opened lines)) (cell_weight (plain lines) e v)

pub step-drop : (rows : List (List Pattern)) → first_step rows ≡ step.Drop → list_all begins_wild rows ≡ true
step-drop [] e = refl
step-drop ([] ∷ rows) e = cc
step-drop ((Wild ∷ ps) ∷ rows) e = step-drop rows e
step-drop ((Parts p q ∷ ps) ∷ rows) e = cc
step-drop ((Cell p ∷ ps) ∷ rows) e = cc
step-drop ((Literal l ∷ ps) ∷ rows) e = cc
step-drop ((Made k n p ∷ ps) ∷ rows) e = cc

-- a row that passes each test that all rows pass
pub record IsAmong (rows : List (List Pattern)) (r : List Pattern) : Type 0 where
  pub passes : (t : List Pattern → Bool) → list_all t rows ≡ true → t r ≡ true

pub among_here : (r : List Pattern) (rows : List (List Pattern)) → IsAmong (r ∷ rows) r
among_here r rows = record { passes = λ t e. (and_parts (t r) (list_all t rows) e).0 }

pub among_later : (s r : List Pattern) (rows : List (List Pattern)) → IsAmong rows r → IsAmong (s ∷ rows) r
among_later s r rows a = record { passes = λ t e. a.passes t (and_parts (t s) (list_all t rows) e).1 }

with_parts : (rows : List (List Pattern)) → first_step rows ≡ step.OpenParts → (p : Pattern) × (q : Pattern) × (ps : List Pattern) × IsAmong rows (Parts p q ∷ ps)
with_parts [] e = cc
with_parts ([] ∷ rows) e = cc
with_parts ((Wild ∷ ps) ∷ rows) e = let w = with_parts rows e in (w.0, w.1, w.2, among_later (Wild ∷ ps) (Parts w.0 w.1 ∷ w.2) rows w.3)
with_parts ((Parts p q ∷ ps) ∷ rows) e = (p, q, ps, among_here (Parts p q ∷ ps) rows)
with_parts ((Cell p ∷ ps) ∷ rows) e = cc
with_parts ((Literal l ∷ ps) ∷ rows) e = cc
with_parts ((Made k n p ∷ ps) ∷ rows) e = cc

with_cell : (rows : List (List Pattern)) → first_step rows ≡ step.OpenCell → (p : Pattern) × (ps : List Pattern) × IsAmong rows (Cell p ∷ ps)
with_cell [] e = cc
with_cell ([] ∷ rows) e = cc
with_cell ((Wild ∷ ps) ∷ rows) e = let w = with_cell rows e in (w.0, w.1, among_later (Wild ∷ ps) (Cell w.0 ∷ w.1) rows w.2)
with_cell ((Cell p ∷ ps) ∷ rows) e = (p, ps, among_here (Cell p ∷ ps) rows)
with_cell ((Parts p q ∷ ps) ∷ rows) e = cc
with_cell ((Literal l ∷ ps) ∷ rows) e = cc
with_cell ((Made k n p ∷ ps) ∷ rows) e = cc

like_parts : (p q : Pattern) (ps r : List Pattern) → rows_agree (Parts p q ∷ ps) r ≡ true → opens_parts r ≡ true
like_parts p q ps [] e = cc
like_parts p q ps (Wild ∷ rs) e = refl
like_parts p q ps (Parts u v ∷ rs) e = refl
like_parts p q ps (Cell u ∷ rs) e = cc
like_parts p q ps (Literal l ∷ rs) e = cc
like_parts p q ps (Made k n u ∷ rs) e = cc

like_cell : (p : Pattern) (ps r : List Pattern) → rows_agree (Cell p ∷ ps) r ≡ true → opens_cell r ≡ true
like_cell p ps [] e = cc
like_cell p ps (Wild ∷ rs) e = refl
like_cell p ps (Cell u ∷ rs) e = refl
like_cell p ps (Parts u v ∷ rs) e = cc
like_cell p ps (Literal l ∷ rs) e = cc
like_cell p ps (Made k n u ∷ rs) e = cc

not_wild : (rows : List (List Pattern)) (r : List Pattern) → IsAmong rows r → begins_wild r ≡ false → not (list_all begins_wild rows) ≡ true
not_wild rows r a f = elim (cases_Bool (list_all begins_wild rows)) [ inl e ↦ absurd_at (a.passes begins_wild e) f | inr e ↦ not_from_false (list_all begins_wild rows) e ]
  where
    absurd_at : {A : Type 0} {b : Bool} → b ≡ true → b ≡ false → A
    absurd_at x y = cc

pub step-parts : (rows : List (List Pattern)) → all_agree rows ≡ true → first_step rows ≡ step.OpenParts → (list_all opens_parts rows ≡ true) × (not (list_all begins_wild rows) ≡ true)
step-parts rows a e =
    let w = with_parts rows e in
    (all-imp (rows_agree (Parts w.0 w.1 ∷ w.2)) opens_parts (like_parts w.0 w.1 w.2) rows (w.3.passes (λ r. list_all (rows_agree r) rows) a), not_wild rows (Parts w.0 w.1 ∷ w.2) w.3 refl)

pub step-cell : (rows : List (List Pattern)) → all_agree rows ≡ true → first_step rows ≡ step.OpenCell → (list_all opens_cell rows ≡ true) × (not (list_all begins_wild rows) ≡ true)
step-cell rows a e =
    let w = with_cell rows e in
    (all-imp (rows_agree (Cell w.0 ∷ w.1)) opens_cell (like_cell w.0 w.1) rows (w.2.passes (λ r. list_all (rows_agree r) rows) a), not_wild rows (Cell w.0 ∷ w.1) w.2 refl)
