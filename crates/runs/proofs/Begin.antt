-- Where a text begins.
use Rattle.std.proofs.Common.{List, [], ◌∷◌}
use Rattle.runs.specs.Names.{Name}
use Rattle.runs.specs.Tree.{Val}
use Rattle.runs.specs.Ordered.{OrderedVal, OrderedEnv, OrderedScope}
use Rattle.runs.specs.Forms.{values_of, predefined_rows, predefined, text_scope}
use Rattle.runs.proofs.Keep.{put_ordered, empty_ordered}

abbrev AllRows : List (Name × Val) → Type 0
AllRows [] = Unit {0}
AllRows (row ∷ rest) = OrderedVal row.1 × AllRows rest

values_ordered : (l : List (Name × Val)) → AllRows l → OrderedEnv (values_of l)
values_ordered [] h = empty_ordered
values_ordered (row ∷ rest) h = put_ordered row.0 row.1 (values_of rest) h.0 (values_ordered rest h.1)

predefined_ordered : OrderedEnv predefined
predefined_ordered = values_ordered predefined_rows (tt, (tt, (tt, (tt, (tt, (tt, (tt, (tt, (tt, (tt, (tt, (tt, tt))))))))))))

pub text_ordered : OrderedScope text_scope
text_ordered = (predefined_ordered, empty_ordered)
