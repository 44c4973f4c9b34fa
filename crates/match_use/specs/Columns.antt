-- The patterns that columns stand for.
use Rattle.std.specs.Prelude.{map}
use Rattle.tl_text.specs.Pairs.{seconds, map_second}
use Rattle.sml_static.specs.Shapes.{Pattern, Wild, Parts, Cell, Literal, Made, pattern_of, tuple_of}
use Rattle.match_use.specs.declared.column.Column.{Column}
use Rattle.match_use.specs.declared.column.Column.TheVariants as column
use Rattle.match_use.specs.declared.column.Begin.{Begin}
use Rattle.match_use.specs.declared.column.Begin.TheVariants as begin
use Rattle.match_use.specs.Keys.{shared_key}

abbrev pub column_of : Column → Pattern
column_of column.Any = Wild
column_of (column.One p) = pattern_of p.now
column_of (column.Parts ps) = tuple_of (map pattern_of ps.now)
column_of (column.Fields fields) = tuple_of (seconds (map_second pattern_of fields.now))

abbrev pub begin_of : Begin → Pattern
begin_of begin.Wild = Wild
begin_of (begin.Parts first others) = Parts (column_of first) (column_of others)
begin_of (begin.Cell inner) = Cell (column_of inner)
begin_of (begin.Literal l) = Literal l.now
begin_of (begin.Made k n argument) = Made (shared_key k) n (column_of argument)
