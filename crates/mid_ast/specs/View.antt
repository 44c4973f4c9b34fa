-- The plain tree of a declared one: without places. One step for each type, and one fold for each.
use Rattle.std.specs.Prelude.{ℕ, List, [], ◌∷◌, Option, Some, None, map}
use Rattle.sml_static.specs.declared.mid.MidPat.{MidPat, fold-MidPat}
use Rattle.sml_static.specs.declared.mid.MidPat.TheOpen.{MidPat-F}
use Rattle.sml_static.specs.declared.ty.Ty.{Ty}
use Rattle.sml_static.specs.declared.ty.VarKind.{VarKind}
use Rattle.mid_ast.specs.declared.dict.Dict as declared_dict
use Rattle.mid_ast.specs.declared.dict.Dict.TheOpen.{Dict-F}
use Rattle.mid_ast.specs.declared.exp.MidBind.{MidBind, MidBind-F, fold-MidBind}
use Rattle.mid_ast.specs.declared.exp.MidDec.{MidDec, fold-MidDec}
use Rattle.mid_ast.specs.declared.exp.MidDec.TheOpen.{MidDec-F, MidExp-F}
use Rattle.mid_ast.specs.declared.exp.MidExp.{MidExp, fold-MidExp}
use Rattle.mid_ast.specs.declared.exp.MidRule.{MidRule, MidRule-F, fold-MidRule}
use Rattle.mid_ast.specs.declared.item.MidItem.{MidItem, fold-MidItem}
use Rattle.mid_ast.specs.declared.item.MidItem.TheOpen.{MidItem-F, MidMod-F}
use Rattle.mid_ast.specs.declared.item.MidMod.{MidMod, fold-MidMod}
use Rattle.mid_ast.specs.Tree as tree
use Rattle.mid_ast.specs.Tree.{Name, Dict, Dicts, NoDicts, MoreDicts, Pat, Pats, NoPats, MorePats, Exp, Exps, NoExps, MoreExps, Rules, NoRules, MoreRules, Dec, Decs, NoDecs, MoreDecs, Binds, NoBinds, MoreBinds, Item, Items, NoItems, MoreItems, Mod}

-- ---- rows

abbrev pub row_of_dicts : List Dict → Dicts
row_of_dicts [] = NoDicts
row_of_dicts (d ∷ ds) = MoreDicts d (row_of_dicts ds)

abbrev pub row_of_pats : List Pat → Pats
row_of_pats [] = NoPats
row_of_pats (p ∷ ps) = MorePats p (row_of_pats ps)

abbrev pub row_of_exps : List Exp → Exps
row_of_exps [] = NoExps
row_of_exps (a ∷ more) = MoreExps a (row_of_exps more)

abbrev pub row_of_rules : List (Pat × Exp) → Rules
row_of_rules [] = NoRules
row_of_rules (r ∷ rs) = MoreRules r.0 r.1 (row_of_rules rs)

abbrev pub row_of_decs : List Dec → Decs
row_of_decs [] = NoDecs
row_of_decs (d ∷ ds) = MoreDecs d (row_of_decs ds)

-- a binding: its pattern, its type variables, and its right side
pub record Binding : Type 0 where
  pub pat : Pat
  pub vars : List VarKind
  pub exp : Exp

abbrev pub row_of_binds : List Binding → Binds
row_of_binds [] = NoBinds
row_of_binds (b ∷ bs) = MoreBinds b.pat b.vars b.exp (row_of_binds bs)

abbrev pub row_of_items : List Item → Items
row_of_items [] = NoItems
row_of_items (i ∷ is) = MoreItems i (row_of_items is)

-- ---- dictionaries and patterns

abbrev pub dict_step : Dict-F Dict → Dict
dict_step (Dict-F.Base n) = tree.Base n
dict_step (Dict-F.At path ds) = tree.At path (row_of_dicts ds)
dict_step (Dict-F.Given i) = tree.Given i
dict_step Dict-F.Cells = tree.Cells
dict_step (Dict-F.Parts ds) = tree.Parts (row_of_dicts ds)

abbrev pub plain_dict : declared_dict.Dict → Dict
plain_dict = declared_dict.fold-Dict Dict dict_step

abbrev pub plain_dicts : List declared_dict.Dict → Dicts
plain_dicts ds = row_of_dicts (map plain_dict ds)

abbrev pub con_pat : Name → Ty → ℕ → Option Pat → Pat
con_pat path t n None = tree.PCon path t n
con_pat path t n (Some p) = tree.PConOf path t n p

abbrev pub pat_step : MidPat-F Pat → Pat
pat_step (MidPat-F.Any t) = tree.Any t
pat_step (MidPat-F.Lit l) = tree.PLit l
pat_step (MidPat-F.Var b x t) = tree.PVar b x t
pat_step (MidPat-F.Con path t n p) = con_pat path t n p
pat_step (MidPat-F.Tuple ps) = tree.PTuple (row_of_pats ps)
pat_step (MidPat-F.Layer b x p) = tree.PLayer b x p
pat_step (MidPat-F.Cell p) = tree.PCell p
pat_step (MidPat-F.Flex fields t) = tree.PFlex

abbrev pub plain_pat : MidPat → Pat
plain_pat = fold-MidPat Pat pat_step

-- ---- expressions and declarations

abbrev pub dec_step : MidDec-F Dec Exp Binding (Pat × Exp) → Dec
dec_step (MidDec-F.Vals bs) = tree.Vals (row_of_binds bs)
dec_step (MidDec-F.Funs bs) = tree.Funs (row_of_binds bs)
dec_step (MidDec-F.Datas ds) = tree.Datas ds
dec_step (MidDec-F.Alias path f) = tree.Alias path f
dec_step (MidDec-F.NewExn path t) = tree.NewExn path t
dec_step (MidDec-F.SameExn path of_path) = tree.SameExn path of_path

abbrev pub exp_step : MidExp-F Dec Exp Binding (Pat × Exp) → Exp
exp_step (MidExp-F.Lit l) = tree.Const l
exp_step (MidExp-F.Local x t ds) = tree.Local x t (plain_dicts ds)
exp_step (MidExp-F.Home path t ds) = tree.Home path t (plain_dicts ds)
exp_step (MidExp-F.Con path t) = tree.Con path t
exp_step (MidExp-F.Prim n t ds) = tree.Prim n t (plain_dicts ds)
exp_step (MidExp-F.Tuple es) = tree.Tuple (row_of_exps es)
exp_step (MidExp-F.Apply f a) = tree.Apply f a
exp_step (MidExp-F.Fun rs a b place) = tree.Fun (row_of_rules rs) a b
exp_step (MidExp-F.Raise a t) = tree.Raise a t
exp_step (MidExp-F.Handle a rs) = tree.Handle a (row_of_rules rs)
exp_step (MidExp-F.Let ds a) = tree.Let (row_of_decs ds) a

abbrev pub bind_step : MidBind-F Dec Exp Binding (Pat × Exp) → Binding
bind_step b = record { pat = plain_pat b.pat; vars = b.vars; exp = b.exp }

abbrev pub rule_step : MidRule-F Dec Exp Binding (Pat × Exp) → Pat × Exp
rule_step r = (plain_pat r.pat, r.exp)

abbrev pub plain_exp : MidExp → Exp
plain_exp = fold-MidExp Dec Exp Binding (Pat × Exp) dec_step exp_step bind_step rule_step

abbrev pub plain_dec : MidDec → Dec
plain_dec = fold-MidDec Dec Exp Binding (Pat × Exp) dec_step exp_step bind_step rule_step

abbrev pub plain_bind : MidBind → Binding
plain_bind = fold-MidBind Dec Exp Binding (Pat × Exp) dec_step exp_step bind_step rule_step

abbrev pub plain_rule : MidRule → Pat × Exp
plain_rule = fold-MidRule Dec Exp Binding (Pat × Exp) dec_step exp_step bind_step rule_step

-- ---- items

abbrev pub item_step : MidItem-F Item Mod → Item
item_step (MidItem-F.Core d) = tree.Core (plain_dec d)
item_step (MidItem-F.Module x m) = tree.Module x m
item_step (MidItem-F.Functor f x s m) = tree.NoItem

abbrev pub mod_step : MidMod-F Item Mod → Mod
mod_step (MidMod-F.Body is) = tree.Body (row_of_items is)
mod_step (MidMod-F.At path) = tree.AtPath path
mod_step (MidMod-F.Sealed m s) = tree.NoMod
mod_step (MidMod-F.Thinned m c) = tree.NoMod
mod_step (MidMod-F.Applied f a e r) = tree.NoMod

abbrev pub plain_item : MidItem → Item
plain_item = fold-MidItem Item Mod item_step mod_step

abbrev pub plain_mod : MidMod → Mod
plain_mod = fold-MidMod Item Mod item_step mod_step

abbrev pub plain_items : List MidItem → Items
plain_items is = row_of_items (map plain_item is)
