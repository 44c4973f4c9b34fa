-- The columns of a row that is made.
use Rattle.std.proofs.Common.{◌≡◌, ◌∷◌}
use denote.Bor.{Bor}
use Rattle.match_use.specs.Columns.{column_of}
use Rattle.match_use.specs.Lines.{columns_of}
use Rattle.match_use.specs.declared.column.Column.{Column}
use Rattle.match_use.specs.declared.row.Columns.{Columns}
use Rattle.match_use.specs.declared.row.Columns.TheVariants.{More}
use Rattle.match_use.specs.declared.row.Columns.TheFolds.{the_lemmas}

pub columns_of-more : (c : Column) (others : Bor Columns) → columns_of (More c others) ≡ column_of c ∷ columns_of others.now
columns_of-more c others = simp the_lemmas
