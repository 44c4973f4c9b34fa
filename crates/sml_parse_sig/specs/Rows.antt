-- Rows in two parts: trees without heights, and the height of the highest.
use Rattle.std.specs.Prelude.{ℕ, suc, Bool, List, [], ◌∷◌, ◌++◌, Option, Some, None, max}
use Rattle.tl_text.specs.declared.place.Place.{Place}
use Rattle.readers.specs.Forms.{height_of}
use Rattle.sml_ast.specs.declared.ty.Ty.{Ty}
use Rattle.sml_ast.specs.declared.data.DatDesc.{DatDesc}
use Rattle.sml_ast.specs.declared.sig.SigExp.{SigExp}
use Rattle.sml_ast.specs.declared.sig.Spec.{Spec, roll-Spec}
use Rattle.sml_ast.specs.declared.sig.SigExp.TheOpen.{Spec-F}
use Rattle.sml_scan.specs.Rows.{summed}
use Rattle.sml_grammar.specs.Types.{Ident, trees}
use Rattle.sml_grammar_sig.specs.Descs.{Vars, Tb, Co, Cs, Dd, desc_of}
use Rattle.sml_grammar_sig.specs.ReadDescs.{Descs}
use Rattle.sml_grammar_sig.specs.ReadSigs as read
use Rattle.sml_grammar_sig.specs.Sigs.{Sp, Ss, Vs, without_height, part_height}
use Rattle.sml_parse_sig.specs.declared.kept.Turn.{Turn}
use Rattle.sml_parse_sig.specs.declared.kept.Turn.TheVariants as turns
use Rattle.sml_parse_sig.specs.declared.parts.Behind.{Behind}
use Rattle.sml_parse_sig.specs.declared.parts.Behind.TheVariants as behinds

abbrev pub Con : Type 0
Con = Ident × Option Ty

abbrev pub con_tree : Co → Con
con_tree x = x.0

abbrev pub cons : List Co → List Con × ℕ
cons = summed con_tree height_of

-- with the height of the description that they stand in
abbrev pub described : List Con × ℕ → Cs
described x = (x.0, suc x.1)

abbrev pub exceptions : Place → List Con × ℕ → Sp
exceptions p x = (roll-Spec (Spec-F.ExnSpec p x.0), suc x.1)

abbrev pub desc_tree : Dd → DatDesc
desc_tree x = x.0

abbrev pub descs : List Dd → List DatDesc × ℕ
descs = summed desc_tree height_of

abbrev pub tybind_tree : Tb → List Ident × Ident × Ty
tybind_tree x = x.0

abbrev pub tybinds : List Tb → List (List Ident × Ident × Ty) × ℕ
tybinds = summed tybind_tree height_of

abbrev pub vals : List Vs → List (Ident × Ty) × ℕ
vals = summed without_height part_height

abbrev pub values : Place → List (Ident × Ty) × ℕ → Sp
values p x = (roll-Spec (Spec-F.ValSpec p x.0), suc x.1)

abbrev pub parted : List Ss → List (Ident × SigExp) × ℕ
parted = summed without_height part_height

abbrev pub spec_tree : Sp → Spec
spec_tree x = x.0

abbrev pub specs : List Sp → List Spec × ℕ
specs = summed spec_tree height_of

abbrev pub sharing : Spec → Sp
sharing t = (t, 1)

-- ---- datatypes

abbrev pub pieces : Descs Cs → Cs × (List DatDesc × ℕ)
pieces x = (x.0, descs x.1)

-- the specification of these parts, whose first description has this name and these variables
abbrev pub datatypes : Place → Option Vars → Ident → Cs × (List DatDesc × ℕ) → Sp
datatypes p vs t x = (roll-Spec (Spec-F.DataSpec p ((desc_of (vs, (t, x.0))).0 ∷ x.1.0)), suc (max x.0.1 x.1.1))

-- ---- what follows an identifier with its signature, as the grammar has it

abbrev pub turn : Turn → read.Turn
turn (turns.More u) = read.Turn.More u
turn (turns.Next s) = read.Turn.Next s

-- those that are done, and the last one, which may still grow
abbrev pub with_turn : List Ss × Ss → read.Turn → List Ss × Ss
with_turn y (read.Turn.More u) = (y.0, (y.1.0, read.suffixed y.1.1 u))
with_turn y (read.Turn.Next t) = (y.0 ++ y.1 ∷ [], t)

-- ---- whether one identifier was included last, the specifications so far, and the height of the highest

abbrev pub added : List Spec × ℕ → Option Sp → List Spec × ℕ
added x None = x
added x (Some t) = (x.0 ++ t.0 ∷ [], max x.1 t.1)

abbrev pub with_item : Bool × (List Spec × ℕ) → Option Sp → Bool × (List Spec × ℕ)
with_item y u = (read.item_lone u, added y.1 u)

-- ---- what follows the first name behind `type`

abbrev pub behind_tree : read.Behind → Behind
behind_tree (read.Behind.Names xs) = behinds.Names xs
behind_tree (read.Behind.Equal x) = behinds.Equal x.0.0 (trees x.1)

abbrev pub behind : read.Behind → Behind × ℕ
behind x = (behind_tree x, read.behind_height x)

abbrev pub names_behind : List (List Ident × Ident) → Behind × ℕ
names_behind xs = (behinds.Names xs, 0)

-- there may be nothing
abbrev pub some_behind : Option read.Behind → Behind × ℕ
some_behind None = (behinds.Names [], 0)
some_behind (Some x) = behind x

abbrev pub types_tree : Place → List Ident × Ident → Behind → Spec
types_tree p x (behinds.Names xs) = roll-Spec (Spec-F.TySpec p (x ∷ xs))
types_tree p x (behinds.Equal t bs) = roll-Spec (Spec-F.SynSpec p ((x.0, x.1, t) ∷ bs))

abbrev pub types : Place → List Ident × Ident → Behind × ℕ → Sp
types p x y = (types_tree p x y.0, suc y.1)
