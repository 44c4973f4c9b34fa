-- Rows of types and of fields in two parts: trees without heights, and the height of the highest.
use Rattle.std.specs.Prelude.{ℕ, List}
use Rattle.readers.specs.Forms.{height_of}
use Rattle.sml_ast.specs.declared.ty.Ty.{Ty}
use Rattle.sml_scan.specs.Rows.{summed}
use Rattle.sml_grammar.specs.Types.{Tx, Label, Field, field_height}

abbrev pub ty_tree : Tx → Ty
ty_tree x = x.0

abbrev pub tys : List Tx → List Ty × ℕ
tys = summed ty_tree height_of

abbrev pub field_tree : Field → Label × Ty
field_tree f = (f.0, f.1.0)

abbrev pub fields : List Field → List (Label × Ty) × ℕ
fields = summed field_tree field_height
