-- The plain tree of a declared one: without types and places. One step for each type, and one fold for each. What a type
-- says of a meaning is whether a constructor takes an argument and of which kind it is, and what = compares.
use Rattle.std.specs.Prelude.{ℕ, suc, List, [], ◌∷◌, Option, Some, None, Bool, true, false, nat_eq, map, if◌then◌else◌}
use Rattle.sml_static.specs.declared.mid.MidPat.{MidPat, fold-MidPat}
use Rattle.sml_static.specs.declared.mid.MidPat.TheOpen.{MidPat-F}
use Rattle.sml_static.specs.declared.ty.Label.{Label}
use Rattle.sml_static.specs.declared.ty.Ty.{Ty, fold-Ty}
use Rattle.sml_static.specs.declared.ty.Ty.TheOpen.{Ty-F}
use Rattle.sml_static.specs.declared.ty.VarKind.{VarKind}
use Rattle.sml_static.specs.declared.ty.VarKind.TheVariants as kind
use Rattle.sml_static.specs.Shapes.{datatype_of}
use Rattle.mid_ast.specs.declared.dict.Dict as declared_dict
use Rattle.mid_ast.specs.declared.dict.Dict.TheOpen.{Dict-F}
use Rattle.mid_ast.specs.declared.exp.MidBind.{MidBind-F}
use Rattle.mid_ast.specs.declared.exp.MidDec.{MidDec, fold-MidDec}
use Rattle.mid_ast.specs.declared.exp.MidDec.TheOpen.{MidDec-F, MidExp-F}
use Rattle.mid_ast.specs.declared.exp.MidExp.{MidExp, fold-MidExp}
use Rattle.mid_ast.specs.declared.exp.MidRule.{MidRule-F}
use Rattle.mid_ast.specs.declared.item.MidItem.{MidItem, fold-MidItem}
use Rattle.mid_ast.specs.declared.item.MidItem.TheOpen.{MidItem-F, MidMod-F}
use Rattle.runs.specs.Names.{Name, last_part}
use Rattle.mid_rules.specs.Core as core
use Rattle.mid_rules.specs.Core.{Maker, Makes, Raises, Lists, Refers, Dict, Dicts, NoDicts, MoreDicts, Pat, Pats, NoPats, MorePats, Exp, Exps, NoExps, MoreExps, Rules, NoRules, MoreRules, Dec, Decs, NoDecs, MoreDecs, Binds, NoBinds, MoreBinds, Item, Items, NoItems, MoreItems, Mod}

-- ---- types

abbrev pub takes_step : Ty-F Bool → Bool
takes_step (Ty-F.Free n) = false
takes_step (Ty-F.Bound i) = false
takes_step (Ty-F.Fields fields) = false
takes_step (Ty-F.Arrow a b) = true
takes_step (Ty-F.Con name args) = false

-- a constructor of this type takes an argument
abbrev pub takes : Ty → Bool
takes = fold-Ty Bool takes_step

-- a type by its type name, that of its first field, and that of the first field of its argument, where there are such
pub record Head : Type 0 where
  pub name : Option ℕ
  pub first : Option ℕ
  pub argument : Option ℕ

abbrev pub first_name : List (Label × Head) → Option ℕ
first_name [] = None
first_name (f ∷ fs) = f.1.name

abbrev pub no_head : Head
no_head = record { name = None; first = None; argument = None }

abbrev pub head_step : Ty-F Head → Head
head_step (Ty-F.Free n) = no_head
head_step (Ty-F.Bound i) = no_head
head_step (Ty-F.Fields fields) = record { name = None; first = first_name fields; argument = None }
head_step (Ty-F.Arrow a b) = record { name = None; first = None; argument = a.first }
head_step (Ty-F.Con name args) = record { name = Some name.id; first = None; argument = None }

abbrev pub head_of : Ty → Head
head_of = fold-Ty Head head_step

-- the type name of what = or <> of this type compares
abbrev pub compared : Ty → Option ℕ
compared t = (head_of t).argument

-- the constructor at this path that makes this datatype: the type names of exceptions, lists and references are 5, 6 and 7
abbrev pub maker : Name → ℕ → Maker
maker q d = if nat_eq d 5 then Raises q else (if nat_eq d 6 then Lists else (if nat_eq d 7 then Refers else Makes (last_part q)))

abbrev pub maker_of : Name → Ty → Maker
maker_of q t = maker q (datatype_of t)

-- ---- rows

abbrev pub row_of_dicts : List Dict → Dicts
row_of_dicts [] = NoDicts
row_of_dicts (d ∷ ds) = MoreDicts d (row_of_dicts ds)

abbrev pub row_of_pats : List Pat → Pats
row_of_pats [] = NoPats
row_of_pats (p ∷ ps) = MorePats p (row_of_pats ps)

abbrev pub row_of_exps : List Exp → Exps
row_of_exps [] = NoExps
row_of_exps (a ∷ more) = MoreExps a (row_of_exps more)

abbrev pub row_of_rules : List (Pat × Exp) → Rules
row_of_rules [] = NoRules
row_of_rules (r ∷ rs) = MoreRules r.0 r.1 (row_of_rules rs)

abbrev pub row_of_decs : List Dec → Decs
row_of_decs [] = NoDecs
row_of_decs (d ∷ ds) = MoreDecs d (row_of_decs ds)

-- a binding: its pattern, the number of its equality variables, and its right side
pub record Binding : Type 0 where
  pub pat : Pat
  pub equals : ℕ
  pub exp : Exp

abbrev pub row_of_binds : List Binding → Binds
row_of_binds [] = NoBinds
row_of_binds (b ∷ bs) = MoreBinds b.pat b.equals b.exp (row_of_binds bs)

abbrev pub row_of_items : List Item → Items
row_of_items [] = NoItems
row_of_items (i ∷ is) = MoreItems i (row_of_items is)

-- ---- dictionaries and patterns

abbrev pub dict_step : Dict-F Dict → Dict
dict_step (Dict-F.Base n) = core.Base n
dict_step (Dict-F.At path ds) = core.At path (row_of_dicts ds)
dict_step (Dict-F.Given i) = core.Given i
dict_step Dict-F.Cells = core.Cells
dict_step (Dict-F.Parts ds) = core.Parts (row_of_dicts ds)

abbrev pub untyped_dict : declared_dict.Dict → Dict
untyped_dict = declared_dict.fold-Dict Dict dict_step

abbrev pub untyped_dicts : List declared_dict.Dict → Dicts
untyped_dicts ds = row_of_dicts (map untyped_dict ds)

abbrev pub con_pat : Maker → Option Pat → Pat
con_pat m None = core.PCon m
con_pat m (Some p) = core.PConOf m p

abbrev pub pat_step : MidPat-F Pat → Pat
pat_step (MidPat-F.Any t) = core.Any
pat_step (MidPat-F.Lit l) = core.PLit l
pat_step (MidPat-F.Var b x t) = core.PVar b x
pat_step (MidPat-F.Con path t n p) = con_pat (maker_of path t) p
pat_step (MidPat-F.Tuple ps) = core.PTuple (row_of_pats ps)
pat_step (MidPat-F.Layer b x p) = core.PLayer b x p
pat_step (MidPat-F.Cell p) = core.PCell p
pat_step (MidPat-F.Flex fields t) = core.PFlex

abbrev pub untyped_pat : MidPat → Pat
untyped_pat = fold-MidPat Pat pat_step

-- ---- expressions and declarations

abbrev pub equal_count : List VarKind → ℕ
equal_count [] = 0
equal_count (kind.Plain ∷ vs) = equal_count vs
equal_count (kind.Equal ∷ vs) = suc (equal_count vs)

abbrev pub dec_step : MidDec-F Dec Exp Binding (Pat × Exp) → Dec
dec_step (MidDec-F.Vals bs) = core.Vals (row_of_binds bs)
dec_step (MidDec-F.Funs bs) = core.Funs (row_of_binds bs)
dec_step (MidDec-F.Datas ds) = core.NoValue
dec_step (MidDec-F.Alias path f) = core.NoValue
dec_step (MidDec-F.NewExn path t) = core.NewExn path
dec_step (MidDec-F.SameExn path of_path) = core.SameExn path of_path

abbrev pub exp_step : MidExp-F Dec Exp Binding (Pat × Exp) → Exp
exp_step (MidExp-F.Lit l) = core.Const l
exp_step (MidExp-F.Local x t ds) = core.Local x (untyped_dicts ds)
exp_step (MidExp-F.Home path t ds) = core.Home path (untyped_dicts ds)
exp_step (MidExp-F.Con path t) = core.Con (maker_of path t) (takes t)
exp_step (MidExp-F.Prim n t ds) = core.Prim n (compared t) (untyped_dicts ds)
exp_step (MidExp-F.Tuple es) = core.Tuple (row_of_exps es)
exp_step (MidExp-F.Apply f a) = core.Apply f a
exp_step (MidExp-F.Fun rs a b place) = core.Fun (row_of_rules rs)
exp_step (MidExp-F.Raise a t) = core.Raise a
exp_step (MidExp-F.Handle a rs) = core.Handle a (row_of_rules rs)
exp_step (MidExp-F.Let ds a) = core.Let (row_of_decs ds) a

abbrev pub bind_step : MidBind-F Dec Exp Binding (Pat × Exp) → Binding
bind_step b = record { pat = untyped_pat b.pat; equals = equal_count b.vars; exp = b.exp }

abbrev pub rule_step : MidRule-F Dec Exp Binding (Pat × Exp) → Pat × Exp
rule_step r = (untyped_pat r.pat, r.exp)

abbrev pub untyped : MidExp → Exp
untyped = fold-MidExp Dec Exp Binding (Pat × Exp) dec_step exp_step bind_step rule_step

abbrev pub untyped_dec : MidDec → Dec
untyped_dec = fold-MidDec Dec Exp Binding (Pat × Exp) dec_step exp_step bind_step rule_step

-- ---- items

abbrev pub item_step : MidItem-F Item Mod → Item
item_step (MidItem-F.Core d) = core.Core (untyped_dec d)
item_step (MidItem-F.Module x m) = core.Module x m
item_step (MidItem-F.Functor f x s m) = core.NoItem

abbrev pub mod_step : MidMod-F Item Mod → Mod
mod_step (MidMod-F.Body is) = core.Body (row_of_items is)
mod_step (MidMod-F.At path) = core.AtPath path
mod_step (MidMod-F.Sealed m s) = core.NoMod
mod_step (MidMod-F.Thinned m c) = core.NoMod
mod_step (MidMod-F.Applied f a e r) = core.NoMod

abbrev pub untyped_item : MidItem → Item
untyped_item = fold-MidItem Item Mod item_step mod_step

abbrev pub untyped_items : List MidItem → Items
untyped_items is = row_of_items (map untyped_item is)
