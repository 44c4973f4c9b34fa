use Rattle.std.proofs.Common.{sym}
use Rattle.match_use.proofs.Opening.{some_lines, opened-dropped, opened-parts, opened-cell}
use Rattle.match_use.proofs.reduce.opened_once.Goals as goal

pub returns-in_ok-dropped-in-Drop : goal.returns-in_ok-dropped-in-Drop
returns-in_ok-dropped-in-Drop c = opened-dropped _ _ (some_lines c.args.rows.now c.is_empty.result c.is_empty.ensures c.if-is_empty.false) c.requires (sym c.in-Drop.ensures) c.in_ok-dropped-in-Drop.ensures

pub returns-in_ok-parts_opened-in-OpenParts : goal.returns-in_ok-parts_opened-in-OpenParts
returns-in_ok-parts_opened-in-OpenParts c = opened-parts _ _ c.requires (sym c.in-OpenParts.ensures) c.in_ok-parts_opened-in-OpenParts.ensures

pub returns-in_ok-cells_opened-in-OpenCell : goal.returns-in_ok-cells_opened-in-OpenCell
returns-in_ok-cells_opened-in-OpenCell c = opened-cell _ _ c.requires (sym c.in-OpenCell.ensures) c.in_ok-cells_opened-in-OpenCell.ensures
