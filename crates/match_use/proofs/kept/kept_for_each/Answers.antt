use Rattle.std.proofs.Common.{◌≡◌, ◌+◌, ◌∷◌, [], ◌++◌, List, map, take, get_or, sym, ap, ◌∙◌}
use Rattle.std.proofs.lemmas.List.{map-append, take_more}
use Rattle.match_use.specs.declared.row.Row.{Row}
use Rattle.match_use.specs.Keys.{shared_head}
use Rattle.match_use.specs.Lines.{Line, line_of, lines_of}
use Rattle.match_use.specs.Steps.{kept_lines, with_lines}
use Rattle.match_use.proofs.Keeping.{kept_more}
use Rattle.match_use.proofs.kept.kept_for_each.Goals as goal

pub loop-row-preserved : goal.loop-row-preserved
loop-row-preserved c =
    let rows = c.args.rows.now in
    let i = c.loop-row.row-index in
    let row = c.row-item.result in
    let hs = map shared_head c.args.heads.now.keys in
    let before = lines_of (take i rows) in
    let next : lines_of (take (i + 1) rows) ≡ before ++ line_of row ∷ [] =
    ap lines_of (take_more rows i row c.loop-row-test.true) ∙ map-append line_of (take i rows) (get_or rows i row ∷ []) ∙ ap (λ (x : Row). before ++ line_of x ∷ []) (sym c.row-item.is) in
    c.in_ok-add_row.ensures ∙ ap (with_lines (line_of row) hs) c.loop-row.invariant ∙ kept_more before (line_of row) hs ∙ ap (λ (x : List Line). map (kept_lines x) hs) (sym next)
