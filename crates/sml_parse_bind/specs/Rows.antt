-- Rows in two parts: trees without heights, and the height of the highest.
use Rattle.std.specs.Prelude.{ℕ, suc, Bool, List, ◌∷◌, Option, max}
use Rattle.tl_text.specs.declared.place.Place.{Place}
use Rattle.readers.specs.Forms.{height_of}
use Rattle.sml_scan.specs.Rows.{summed}
use Rattle.sml_ast.specs.declared.ty.Ty.{Ty}
use Rattle.sml_ast.specs.declared.pat.AtPat.{AtPat}
use Rattle.sml_ast.specs.declared.data.DatBind.{DatBind}
use Rattle.sml_ast.specs.declared.data.ExBind.{ExBind}
use Rattle.sml_ast.specs.declared.exp.Dec.TheVariants as dec
use Rattle.sml_grammar.specs.Types.{Ident}
use Rattle.sml_grammar.specs.Pats.{Ap}
use Rattle.sml_grammar_exp.specs.Binds.{Vars, Tb, Co, Cs, Db, Xb, datbind_of}
use Rattle.sml_grammar_exp.specs.Exps.{De}
use Rattle.sml_grammar_exp.specs.Decs.{Binds, opt_list, with_height}
use Rattle.sml_grammar.specs.Types.{trees}

abbrev pub TyBind : Type 0
TyBind = List Ident × Ident × Ty

abbrev pub Con : Type 0
Con = Bool × Ident × Option Ty

abbrev pub tybind_tree : Tb → TyBind
tybind_tree x = x.0

abbrev pub tybinds : List Tb → List TyBind × ℕ
tybinds = summed tybind_tree height_of

-- the declaration of these bindings
abbrev pub types : Place → List TyBind × ℕ → De
types p x = (dec.Types p x.0, suc x.1)

-- those of `withtype`, none where there is none
abbrev pub with_types : Option (List Tb) → List TyBind × ℕ
with_types o = (trees (opt_list o), with_height o)

abbrev pub con_tree : Co → Con
con_tree x = x.0

abbrev pub cons : List Co → List Con × ℕ
cons = summed con_tree height_of

abbrev pub datbind_tree : Db → DatBind
datbind_tree x = x.0

abbrev pub datbinds : List Db → List DatBind × ℕ
datbinds = summed datbind_tree height_of

abbrev pub exbind_tree : Xb → ExBind
exbind_tree x = x.0

abbrev pub exbinds : List Xb → List ExBind × ℕ
exbinds = summed exbind_tree height_of

abbrev pub at_pat_tree : Ap → AtPat
at_pat_tree x = x.0

abbrev pub at_pats : List Ap → List AtPat × ℕ
at_pats = summed at_pat_tree height_of

-- ---- datatypes

abbrev pub abstract_types : List Db × Option (List Tb) → (List DatBind × List TyBind) × ℕ
abstract_types x = (((datbinds x.0).0, (with_types x.1).0), max (datbinds x.0).1 (with_types x.1).1)

abbrev pub parts : Binds Cs → Cs × (List DatBind × ℕ) × (List TyBind × ℕ)
parts x = (x.0.0, datbinds x.0.1, with_types x.1)

abbrev pub with_first : DatBind → List DatBind → List DatBind
with_first b bs = b ∷ bs

-- the declaration of these parts, whose first binding has this name and these variables
abbrev pub datatypes : Place → Option Vars → Ident → Cs × (List DatBind × ℕ) × (List TyBind × ℕ) → De
datatypes p vs t x = (dec.Datas p (with_first (datbind_of (vs, (t, x.0))).0 x.1.0) x.2.0, suc (max (max x.0.1 x.1.1) x.2.1))
