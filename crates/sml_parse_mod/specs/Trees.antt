-- What the code makes of trees: what grows as the grammar has it, rows without heights, and `local` of the core or not.
use Rattle.std.specs.Prelude.{ℕ, suc, Bool, true, false, ◌&&◌, List, [], ◌∷◌, ◌++◌, Option, Some, None, max, map, if◌then◌else◌}
use Rattle.tl_text.specs.declared.place.Place.{Place}
use Rattle.readers.specs.Forms.{highest, height_of}
use Rattle.sml_ast.specs.declared.exp.AtExp.TheOpen.{Dec-F}
use Rattle.sml_ast.specs.declared.exp.Dec.{Dec, roll-Dec}
use Rattle.sml_ast.specs.declared.program.StrBind.TheOpen.{StrDec-F}
use Rattle.sml_ast.specs.declared.program.StrBind.{StrBind}
use Rattle.sml_ast.specs.declared.program.StrDec.{StrDec, roll-StrDec}
use Rattle.sml_ast.specs.declared.program.StrExp.{StrExp}
use Rattle.sml_ast.specs.declared.program.SigBind.{SigBind}
use Rattle.sml_ast.specs.declared.program.FunBind.{FunBind}
use Rattle.sml_ast.specs.declared.program.FunBind.TheVariants as fun_bind
use Rattle.sml_ast.specs.declared.program.Top.{Top}
use Rattle.sml_ast.specs.declared.sig.Ascribe.{Ascribe}
use Rattle.sml_scan.specs.Rows.{summed}
use Rattle.sml_grammar.specs.Types.{Ident, trees}
use Rattle.sml_grammar.specs.Pats.{opt_height, opt_tree}
use Rattle.sml_grammar_exp.specs.Decs.{Changes, all_of}
use Rattle.sml_grammar_sig.specs.Sigs.{Ss}
use Rattle.sml_grammar_mod.specs.Programs as programs
use Rattle.sml_grammar_mod.specs.Programs.{Tp, Item}
use Rattle.sml_grammar_mod.specs.Strs as grammar
use Rattle.sml_grammar_mod.specs.Strs.{St, Sd, Sb, Ax, Gb, Fb, strdec_changes, core_dec}
use Rattle.sml_grammar_mod.specs.ReadStrs as read
use Rattle.sml_parse_mod.specs.declared.growing.Grow.{Grow}
use Rattle.sml_parse_mod.specs.declared.growing.Grow.TheVariants as grows
use Rattle.sml_parse_mod.specs.declared.growing.Growing.{Growing}
use Rattle.sml_parse_mod.specs.declared.growing.Growing.TheVariants as made
use Rattle.sml_parse_mod.specs.declared.growing.Seal.{Seal}
use Rattle.sml_parse_mod.specs.declared.turn.Turn.{Turn}
use Rattle.sml_parse_mod.specs.declared.turn.Turn.TheVariants as turns
use Rattle.sml_parse_mod.specs.declared.functors.Param.{Param}
use Rattle.sml_parse_mod.specs.declared.functors.Param.TheVariants as params
use Rattle.sml_parse_mod.specs.declared.program.Before.{Before}
use Rattle.sml_parse_mod.specs.declared.program.Before.TheVariants as befores

-- ---- what grows

abbrev pub seal : Seal → read.Seal
seal a = ((a.opaque, a.place), a.sig)

abbrev pub growing : Growing → read.Growing
growing (made.Whole s) = read.Growing.Whole s
growing (made.Sealed s a) = read.Growing.Sealed (s, seal a)

abbrev pub grow : Grow → read.Grow
grow (grows.Seals a) = read.Grow.Seals (seal a)
grow (grows.Types u) = read.Grow.Types u

-- what follows a binding: what its structure expression goes on with, or, behind `and`, the next binding
pub data Turned : Type 0 where
  More : read.Grow → Turned
  Next : Turned

abbrev pub turn : Turn → Turned
turn (turns.More g) = Turned.More (grow g)
turn turns.Next = Turned.Next

-- ---- declarations

abbrev pub strdec_tree : Sd → StrDec
strdec_tree x = x.0

abbrev pub strdecs : List Sd → List StrDec × ℕ
strdecs = summed strdec_tree height_of

-- the directives that a row of declarations leaves
abbrev pub all_changes : List StrDec → Changes
all_changes ds = all_of (map strdec_changes ds)

abbrev pub is_core : Option Dec → Bool
is_core None = false
is_core (Some d) = true

abbrev pub are_core : List StrDec → Bool
are_core [] = true
are_core (d ∷ ds) = is_core (core_dec d) && are_core ds

abbrev pub with_core : Option Dec → List Dec → List Dec
with_core None ds = ds
with_core (Some d) ds = d ∷ ds

-- the declarations of the core among them
abbrev pub core_parts : List StrDec → List Dec
core_parts [] = []
core_parts (d ∷ ds) = with_core (core_dec d) (core_parts ds)

-- a `local` of these members, of the core where all of them are
abbrev pub local_tree : Place → List StrDec × ℕ → List StrDec × ℕ → Sd
local_tree p ds es =
    if are_core ds.0 && are_core es.0 then (roll-StrDec (StrDec-F.Core p (roll-Dec (Dec-F.Local p (core_parts ds.0) (core_parts es.0)))), max 2 (suc (max ds.1 es.1)))
    else (roll-StrDec (StrDec-F.LocalStr p ds.0 es.0), suc (max ds.1 es.1))

-- ---- bindings

abbrev pub strbind_tree : Sb → StrBind
strbind_tree x = x.0

abbrev pub strbinds : List Sb → List StrBind × ℕ
strbinds = summed strbind_tree height_of

-- a binding whose structure expression is as the grammar has it
abbrev pub bind : {F : Type 0} → F × Growing → read.Bind F
bind x = (x.0, growing x.1)

-- whether the last binding goes on, and that binding then
abbrev pub goes_on : {F : Type 0} → read.Bind F → Turned → Bool × read.Bind F
goes_on x (Turned.More u) = (true, (x.0, read.grown_by x.1 u))
goes_on x Turned.Next = (false, x)

abbrev pub judged : {F : Type 0} → Bool × (F × Growing) → Bool × read.Bind F
judged x = (x.0, bind x.1)

-- a row and its height with one more, and with one more where it is done
abbrev pub added : {S : Type 0} → List S × ℕ → S × ℕ → List S × ℕ
added x y = (x.0 ++ y.0 ∷ [], max x.1 y.1)

abbrev pub with_done : {S : Type 0} → List S × ℕ → Option (S × ℕ) → List S × ℕ
with_done x None = x
with_done x (Some d) = added x d

-- what a turn makes of the last binding: the binding where it is done, and the one that is last then
abbrev pub step : {F B : Type 0} → (F × St → B) → read.Bind F → read.Turn F → Option B × read.Bind F
step make x (read.Turn.More u) = (None, (x.0, read.grown_by x.1 u))
step make x (read.Turn.Next y) = (Some (make (x.0, read.grown_str x.1)), y)

abbrev pub stepped : {F B : Type 0} → Option B × (F × Growing) → Option B × read.Bind F
stepped x = (x.0, bind x.1)

abbrev pub sigbind_tree : Gb → SigBind
sigbind_tree x = x.0

abbrev pub sigbinds : List Gb → List SigBind × ℕ
sigbinds = summed sigbind_tree height_of

abbrev pub sigbinds_of : List Ss → List SigBind × ℕ
sigbinds_of xs = sigbinds (map grammar.sigbind_of xs)

-- ---- functors

abbrev pub param : grammar.Param → Param
param (grammar.Param.Named x) = params.Named x.0 x.1
param (grammar.Param.Opened ss) = params.Opened (trees ss, highest height_of ss)

abbrev pub front : Ident × (grammar.Param × Option Ax) → Ident × (Param × Option Ax)
front x = (x.0, (param x.1.0, x.1.1))

abbrev pub bind_front : (Ident × (grammar.Param × Option Ax)) × read.Growing → (Ident × (Param × Option Ax)) × read.Growing
bind_front x = (front x.0, x.1)

-- without its height, and the height of what stands in the parentheses
abbrev pub funbind_tree : Ident → Param → Option Ascribe → StrExp → FunBind × ℕ
funbind_tree f (params.Named x s) a e = (fun_bind.FunOf f.0 f x s.0 a e, s.1)
funbind_tree f (params.Opened ss) a e = (fun_bind.FunSpecs f.0 f ss.0 a e, ss.1)

abbrev pub funbind_over : Ident → Param → Option Ax → StrExp × ℕ → Fb
funbind_over f p a e = ((funbind_tree f p (opt_tree a) e.0).0, suc (max (max (funbind_tree f p (opt_tree a) e.0).1 (opt_height a)) e.1))

abbrev pub funbind_made : (Ident × (Param × Option Ax)) × St → Fb
funbind_made x = funbind_over x.0.0 x.0.1.0 x.0.1.1 x.1

abbrev pub fun_tree : Fb → FunBind
fun_tree x = x.0

abbrev pub funbinds : List Fb → List FunBind × ℕ
funbinds = summed fun_tree height_of

-- ---- programs

abbrev pub before : Before → programs.Before
before befores.Fresh = programs.Before.Fresh
before befores.Declared = programs.Before.Declared
before befores.Evaluated = programs.Before.Evaluated

-- a top-level declaration, and what stands before the next one
abbrev pub item : (Tp × Before) → Tp × programs.Before
item x = (x.0, before x.1)

abbrev pub item_seen : Item → Tp × programs.Before
item_seen u = (u.0, programs.behind u.0.0 u.1)

abbrev pub tops : List Item → List Top × ℕ
tops us = (programs.item_trees us, highest programs.item_height us)

abbrev pub first_place : List Place → Option Place
first_place [] = None
first_place (p ∷ ps) = Some p

abbrev pub program_place : Option Place → List Top → Place → Place
program_place (Some p) ts q = p
program_place None (t ∷ ts) q = programs.top_place t
program_place None [] q = q
